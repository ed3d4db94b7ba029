-- Whole programs: what the rules say of them holds exactly where nothing is wrong.
use Rattle.std.proofs.Common.{◌≡◌, true, List, [], ◌∷◌, ◌++◌, length, ap, refl, arith}
use Rattle.std.specs.List.{All, list_all}
use Rattle.std.proofs.lemmas.List.Elements.{All-nil, All-cons, All-head, All-tail}
use Rattle.amoebot_state.specs.Limits.{most_value}
use Rattle.text_tokens.proofs.StartsLemmas.{right_empty}
use Rattle.action_tree.specs.Trees.{Var, Action, Program}
use Rattle.action_tree.specs.Writable.{action_names, is_action, is_writable}
use Rattle.action_tree.proofs.Conditions.{left_of, right_of}
use Rattle.action_tree.specs.Scopes.{Scope, HasRoom}
use Rattle.action_check.specs.Faults.{vars_faults, actions_faults, names_of_actions, AreRulesKept}
use Rattle.action_tree.specs.Scopes.{names_of_vars, at_start}
use Rattle.action_check.specs.Rules.{IsAtMost, ActionKept, ProgramKept}
use Rattle.action_check.proofs.Known.{left_empty, both_empty, is_fresh, fresh_is_fine, is_within, within_is_fine}
use Rattle.action_check.proofs.Distinct.{AreFresh, none_distinct, distinct_from, fresh_from}
use Rattle.action_check.proofs.RulesKept.{action_kept}
use Rattle.action_tree.proofs.Rooms.{few_names}
use Rattle.action_check.proofs.Faultless.{action_fine}

-- ---- variables

vars_fresh : (earlier : List _) (vs : List Var) → vars_faults earlier vs ≡ [] → AreFresh earlier (names_of_vars vs)
vars_fresh earlier [] e = tt
vars_fresh earlier (v ∷ vs) e = (is_fresh earlier v.name (left_empty _ _ e), vars_fresh (earlier ++ v.name.text ∷ []) vs (right_empty _ _ (right_empty _ _ e)))

-- where nothing is wrong with the variables, each greatest value is one that a variable can have
pub maxes_within : (earlier : List _) (vs : List Var) → vars_faults earlier vs ≡ [] → All (λ v. IsAtMost most_value v.max) vs
maxes_within earlier [] e = All-nil (λ v. IsAtMost most_value v.max)
maxes_within earlier (v ∷ vs) e =
    let rest = right_empty _ _ e in
    All-cons (λ w. IsAtMost most_value w.max) v vs (is_within most_value v.max (left_empty _ _ rest)) (maxes_within (earlier ++ v.name.text ∷ []) vs (right_empty _ _ rest))

vars_fine : (earlier : List _) (vs : List Var) → AreFresh earlier (names_of_vars vs) → All (λ v. IsAtMost most_value v.max) vs → vars_faults earlier vs ≡ []
vars_fine earlier [] fresh within = refl
vars_fine earlier (v ∷ vs) fresh within =
    both_empty _ _ (fresh_is_fine earlier v.name fresh.0)
    (both_empty _ _ (within_is_fine most_value v.max (All-head (λ w. IsAtMost most_value w.max) v vs within))
    (vars_fine (earlier ++ v.name.text ∷ []) vs fresh.1 (All-tail (λ w. IsAtMost most_value w.max) v vs within)))

-- ---- actions

actions_fresh : (sc : Scope) (earlier : List _) (more : List Action) → actions_faults sc earlier more ≡ [] → AreFresh earlier (names_of_actions more)
actions_fresh sc earlier [] e = tt
actions_fresh sc earlier (a ∷ more) e = (is_fresh earlier a.name (left_empty _ _ e), actions_fresh sc (earlier ++ a.name.text ∷ []) more (right_empty _ _ (right_empty _ _ e)))

actions_kept : (sc : Scope) (earlier : List _) (more : List Action) → sc.bound ≡ [] → list_all is_action more ≡ true → actions_faults sc earlier more ≡ [] → All (ActionKept sc) more
actions_kept sc earlier [] none f e = All-nil (ActionKept sc)
actions_kept sc earlier (a ∷ more) none f e =
    let room : HasRoom sc (action_names a) = omega (arith, ap length none, few_names a (left_of _ _ f)) in
    All-cons (ActionKept sc) a more (action_kept sc a room (left_empty _ _ (right_empty _ _ e)))
    (actions_kept sc (earlier ++ a.name.text ∷ []) more none (right_of _ _ f) (right_empty _ _ (right_empty _ _ e)))

actions_fine : (sc : Scope) (earlier : List _) (more : List Action) → AreFresh earlier (names_of_actions more) → All (ActionKept sc) more → actions_faults sc earlier more ≡ []
actions_fine sc earlier [] fresh kept = refl
actions_fine sc earlier (a ∷ more) fresh kept =
    both_empty _ _ (fresh_is_fine earlier a.name fresh.0)
    (both_empty _ _ (action_fine sc a (All-head (ActionKept sc) a more kept)) (actions_fine sc (earlier ++ a.name.text ∷ []) more fresh.1 (All-tail (ActionKept sc) a more kept)))

-- ---- the whole

pub program_kept : (p : Program) → is_writable p ≡ true → AreRulesKept p → ProgramKept p
program_kept p f e =
    let vs = left_empty _ _ e in
    let more = right_empty _ _ e in
    record {
      vars = distinct_from [] _ none_distinct (vars_fresh [] p.vars vs);
      maxes = maxes_within [] p.vars vs;
      actions = distinct_from [] _ none_distinct (actions_fresh (at_start p) [] p.actions more);
      each = actions_kept (at_start p) [] p.actions refl (right_of _ _ f) more;
    }

pub program_fine : (p : Program) → ProgramKept p → AreRulesKept p
program_fine p k =
    both_empty _ _ (vars_fine [] p.vars (fresh_from [] _ k.vars) k.maxes) (actions_fine (at_start p) [] p.actions (fresh_from [] _ k.actions) k.each)
