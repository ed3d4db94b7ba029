-- The actions of a program, one after the other.
use Rattle.std.proofs.Common.{◌≡◌, ◌≤◌, ◌<◌, ◌+◌, ◌∙◌, ℕ, suc, Bool, true, false, List, [], length, map, drop, get_or, Option, Some, None, refl, sym, ap, subst, arith}
use Rattle.std.specs.List.{All, list_all}
use Rattle.std.specs.declared.result.Result.{Result}
use Rattle.std.specs.declared.result.Result.TheVariants.{Ok, Err}
use Rattle.std.proofs.lemmas.List.{get_or-map, length-map}
use Rattle.std.proofs.Math.ListN.{drop_of_length-le}
use Rattle.amoebot_state.specs.declared.verdict.Failure.{Failure}
use Rattle.amoebot_state.specs.declared.verdict.Moved.{Moved}
use Rattle.amoebot_state.specs.declared.verdict.Verdict.{Verdict}
use Rattle.amoebot_state.specs.declared.verdict.Verdict.TheVariants as verdict
use Rattle.amoebot_state.specs.Patches.{diff}
use Rattle.model_ops.specs.WorkingCopies.{WorkingCopy, opened, own_id, changes}
use Rattle.amoebot_state.specs.Zones.{Shown, shown_alone}
use Rattle.action_tree.specs.declared.program.Var as code_var
use Rattle.action_tree.specs.declared.program.Action as code
use Rattle.action_tree.specs.Trees.{Action, Program}
use Rattle.action_tree.specs.Views.{var_of, guard_of, action_of}
use Rattle.action_tree.specs.Places.{actions_placed}
use Rattle.action_tree.specs.Writable.{is_action, is_writable}
use Rattle.action_tree.proofs.Conditions.{left_of, right_of}
use Rattle.action_tree.specs.Scopes.{names_of_vars, at_start}
use Rattle.action_check.specs.Rules.{ActionKept, ProgramKept}
use Rattle.action_tree.specs.Scopes.{Scope}
use Rattle.action_meaning.specs.Names.{Names}
use Rattle.action_meaning.specs.Values.{guard_value}
use Rattle.action_meaning.specs.Verdicts.{action_effect, verdict_of_result, decided_by_guard, actions_verdict, names_at_start, verdict_shown}
use Rattle.action_eval.specs.Known.{scope_of, sight_of}
use Rattle.action_eval.specs.Running.{moment_of, HasDecided}
use Rattle.action_check.proofs.FaultLoops.{here}

-- the verdict of actions that are numbered from a number on
abbrev pub verdict_from : Bool → Names → WorkingCopy → ℕ → List code.Action → Verdict
verdict_from guarded xs w number actions = actions_verdict guarded xs w.reached (own_id w) number (map action_of actions)

-- before the action at a place: what is left decides as the whole does
pub record ActionsLeft (guarded : Bool) (xs : Names) (w : WorkingCopy) (actions : List code.Action) (k : ℕ) : Type 0 where
  pub told : verdict_from guarded xs w 0 actions ≡ verdict_from guarded xs w k (drop k actions)
  pub formed : list_all is_action (map action_of (drop k actions)) ≡ true

pub actions_begin : (guarded : Bool) (xs : Names) (w : WorkingCopy) (actions : List code.Action) → list_all is_action (map action_of actions) ≡ true → ActionsLeft guarded xs w actions 0
actions_begin guarded xs w actions formed = record { told = refl; formed = formed }

pub action_kept : (sc : Scope) (actions : List code.Action) (k : ℕ) (a : code.Action) → All (ActionKept sc) (map action_of actions) → k < length actions → a ≡ get_or actions k a → ActionKept sc (action_of a)
action_kept sc actions k a kept l is =
    let at : get_or (map action_of actions) k (action_of a) ≡ action_of a = get_or-map action_of actions k a (action_of a) l ∙ ap action_of (sym is) in
    subst (ActionKept sc) at (kept k (action_of a) (omega (arith, length-map actions action_of)))

pub action_formed : (guarded : Bool) (xs : Names) (w : WorkingCopy) (actions : List code.Action) (k : ℕ) (a : code.Action) → ActionsLeft guarded xs w actions k → k < length actions → a ≡ get_or actions k a → is_action (action_of a) ≡ true
action_formed guarded xs w actions k a left l is =
    let formed = rw (here actions k a l is) at left.formed in
    left_of _ _ formed

at_action : (guarded : Bool) (xs : Names) (w : WorkingCopy) (actions : List code.Action) (k : ℕ) (a : code.Action) → ActionsLeft guarded xs w actions k → k < length actions → a ≡ get_or actions k a → verdict_from guarded xs w 0 actions ≡ decided_by_guard (guard_value (sight_of w) xs (guard_of a.guard)) (verdict_of_result w.reached k (action_effect guarded (own_id w) (action_of a) (moment_of w xs))) (verdict_from guarded xs w (suc k) (drop (k + 1) actions))
at_action guarded xs w actions k a left l is = rw (here actions k a l is) at left.told

pub actions_next : (guarded : Bool) (xs : Names) (w : WorkingCopy) (actions : List code.Action) (k : ℕ) (a : code.Action) → ActionsLeft guarded xs w actions k → k < length actions → a ≡ get_or actions k a → guard_value (sight_of w) xs (guard_of a.guard) ≡ Ok false → ActionsLeft guarded xs w actions (k + 1)
actions_next guarded xs w actions k a left l is e =
    let own = verdict_of_result w.reached k (action_effect guarded (own_id w) (action_of a) (moment_of w xs)) in
    let later = verdict_from guarded xs w (suc k) (drop (k + 1) actions) in
    let formed = rw (here actions k a l is) at left.formed in
    let next : suc k ≡ k + 1 = omega arith in
    record {
      told = at_action guarded xs w actions k a left l is ∙ ap (λ b. decided_by_guard b own later) e ∙ ap (λ n. verdict_from guarded xs w n (drop (k + 1) actions)) next;
      formed = right_of _ _ formed;
    }

pub action_decides : (guarded : Bool) (xs : Names) (w : WorkingCopy) (actions : List code.Action) (k : ℕ) (a : code.Action) → ActionsLeft guarded xs w actions k → k < length actions → a ≡ get_or actions k a → guard_value (sight_of w) xs (guard_of a.guard) ≡ Ok true → verdict_from guarded xs w 0 actions ≡ verdict_of_result w.reached k (action_effect guarded (own_id w) (action_of a) (moment_of w xs))
action_decides guarded xs w actions k a left l is e =
    let own = verdict_of_result w.reached k (action_effect guarded (own_id w) (action_of a) (moment_of w xs)) in
    let later = verdict_from guarded xs w (suc k) (drop (k + 1) actions) in
    at_action guarded xs w actions k a left l is ∙ ap (λ b. decided_by_guard b own later) e

pub action_fails : (guarded : Bool) (xs : Names) (w : WorkingCopy) (actions : List code.Action) (k : ℕ) (a : code.Action) (f : Failure) → ActionsLeft guarded xs w actions k → k < length actions → a ≡ get_or actions k a → guard_value (sight_of w) xs (guard_of a.guard) ≡ Err f → verdict_from guarded xs w 0 actions ≡ verdict.Failed f
action_fails guarded xs w actions k a f left l is e =
    let own = verdict_of_result w.reached k (action_effect guarded (own_id w) (action_of a) (moment_of w xs)) in
    let later = verdict_from guarded xs w (suc k) (drop (k + 1) actions) in
    at_action guarded xs w actions k a left l is ∙ ap (λ b. decided_by_guard b own later) e

pub actions_over : (guarded : Bool) (xs : Names) (w : WorkingCopy) (actions : List code.Action) (k : ℕ) → ActionsLeft guarded xs w actions k → length actions ≤ k → verdict_from guarded xs w 0 actions ≡ verdict.Idle
actions_over guarded xs w actions k left l =
    let told = rw (drop_of_length-le actions l) at left.told in
    told

-- ---- the same where the working copy is still as it was

pub action_has_decided : (guarded : Bool) (xs : Names) (w : WorkingCopy) (actions : List code.Action) (k : ℕ) (a : code.Action) (s : WorkingCopy) (r : Result (Option (ℕ × Moved)) Failure) (new : WorkingCopy) → ActionsLeft guarded xs w actions k × (s ≡ w) → k < length actions → a ≡ get_or actions k a → guard_value (sight_of s) xs (guard_of a.guard) ≡ Ok true
    → HasDecided (verdict_of_result s.reached k (action_effect guarded (own_id s) (action_of a) (moment_of s xs))) r s new → HasDecided (verdict_from guarded xs w 0 actions) r w new
action_has_decided guarded xs w actions k a s r new left l is e own =
    let told = action_decides guarded xs w actions k a left.0 l is (ap (λ (q : WorkingCopy). guard_value (sight_of q) xs (guard_of a.guard)) (sym left.1) ∙ e) in
    let own_w = subst (λ (q : WorkingCopy). HasDecided (verdict_of_result q.reached k (action_effect guarded (own_id q) (action_of a) (moment_of q xs))) r q new) left.1 own in
    subst (λ v. HasDecided v r w new) (sym told) own_w

pub action_has_failed : (guarded : Bool) (xs : Names) (w : WorkingCopy) (actions : List code.Action) (k : ℕ) (a : code.Action) (s : WorkingCopy) (f : Failure) → ActionsLeft guarded xs w actions k × (s ≡ w) → k < length actions → a ≡ get_or actions k a → guard_value (sight_of s) xs (guard_of a.guard) ≡ Err f → verdict_from guarded xs w 0 actions ≡ verdict.Failed f
action_has_failed guarded xs w actions k a s f left l is e = action_fails guarded xs w actions k a f left.0 l is (ap (λ (q : WorkingCopy). guard_value (sight_of q) xs (guard_of a.guard)) (sym left.1) ∙ e)

pub actions_go_on : (guarded : Bool) (xs : Names) (w : WorkingCopy) (actions : List code.Action) (k : ℕ) (a : code.Action) (s : WorkingCopy) → ActionsLeft guarded xs w actions k × (s ≡ w) → k < length actions → a ≡ get_or actions k a → guard_value (sight_of s) xs (guard_of a.guard) ≡ Ok false → ActionsLeft guarded xs w actions (k + 1) × (s ≡ w)
actions_go_on guarded xs w actions k a s left l is e = (actions_next guarded xs w actions k a left.0 l is (ap (λ (q : WorkingCopy). guard_value (sight_of q) xs (guard_of a.guard)) (sym left.1) ∙ e), left.1)

-- ---- what was decided on a copy that was just opened

pub made_is : (v : Verdict) (r : Result (Option (ℕ × Moved)) Failure) (made : ℕ × Moved) (s : Shown) (old new : WorkingCopy) → HasDecided v r old new → r ≡ Ok (Some made) → old ≡ opened s → verdict.Change (record { action = made.0; moved = made.1; patch = changes new }) ≡ v
made_is v r made s old new has e at =
    let is = subst (λ q. HasDecided v q old new) e has in
    let found = is.1 ∙ ap (λ (w : WorkingCopy). w.found) at in
    let same = ap shown_alone found ∙ sym (ap (λ (w : WorkingCopy). w.reached) at) in
    ap (λ c. verdict.Change (record { action = made.0; moved = made.1; patch = diff c new.reached })) same ∙ sym is.0

pub idle_is : (v : Verdict) (r : Result (Option (ℕ × Moved)) Failure) (old new : WorkingCopy) → HasDecided v r old new → r ≡ Ok None → verdict.Idle ≡ v
idle_is v r old new has e = sym (subst (λ q. HasDecided v q old new) e has)

pub failed_is : (v : Verdict) (r : Result (Option (ℕ × Moved)) Failure) (f : Failure) (old new : WorkingCopy) → HasDecided v r old new → r ≡ Err f → verdict.Failed f ≡ v
failed_is v r f old new has e = sym (subst (λ q. HasDecided v q old new) e has)

-- ---- the parts of a program that a text gives

scope_at_start : (p : Program) (vs : List code_var.Var) (xs : Names) → map var_of vs ≡ p.vars → xs ≡ record { vars = names_of_vars (map var_of vs); bound = [] } → scope_of xs ≡ at_start p
scope_at_start p vs xs vars_are is = ap scope_of is ∙ ap (λ ws. let sc : Scope = record { vars = ws; bound = [] } in sc) (ap names_of_vars vars_are)

pub all_kept : (p : Program) (vs : List code_var.Var) (actions : List code.Action) (xs : Names) → map var_of vs ≡ p.vars → map action_of actions ≡ p.actions → xs ≡ record { vars = names_of_vars (map var_of vs); bound = [] } → ProgramKept p → All (ActionKept (scope_of xs)) (map action_of actions)
all_kept p vs actions xs vars_are actions_are is kept =
    let P : Scope → Type 0 = λ sc. All (ActionKept sc) (map action_of actions) in
    let Q : List Action → Type 0 = λ ts. All (ActionKept (at_start p)) ts in
    subst P (sym (scope_at_start p vs xs vars_are is)) (subst Q (sym actions_are) kept.each)

pub all_placed : (p : Program) (vs : List code_var.Var) (actions : List code.Action) (xs : Names) → map var_of vs ≡ p.vars → xs ≡ record { vars = names_of_vars (map var_of vs); bound = [] } → actions_placed actions (at_start p) ≡ true → actions_placed actions (scope_of xs) ≡ true
all_placed p vs actions xs vars_are is placed = ap (actions_placed actions) (scope_at_start p vs xs vars_are is) ∙ placed

pub verdict_is : (p : Program) (s : Shown) (w : WorkingCopy) (guarded : Bool) (vs : List code_var.Var) (actions : List code.Action) (xs : Names) → guarded ≡ p.guard → w ≡ opened s → map var_of vs ≡ p.vars → map action_of actions ≡ p.actions → xs ≡ record { vars = names_of_vars (map var_of vs); bound = [] } → verdict_from guarded xs w 0 actions ≡ verdict_shown p s
verdict_is p s w guarded vs actions xs on at vars_are actions_are is =
    let names : xs ≡ names_at_start p = is ∙ ap (λ ws. let ys : Names = record { vars = ws; bound = [] } in ys) (ap names_of_vars vars_are) in
    ap (λ g. actions_verdict g xs w.reached (own_id w) 0 (map action_of actions)) on
    ∙ ap (λ ys. actions_verdict p.guard ys w.reached (own_id w) 0 (map action_of actions)) names
    ∙ ap (λ (v : WorkingCopy). actions_verdict p.guard (names_at_start p) v.reached (own_id v) 0 (map action_of actions)) at
    ∙ ap (λ ts. actions_verdict p.guard (names_at_start p) (shown_alone s) s.bot 0 ts) actions_are

pub actions_formed : (p : Program) → is_writable p ≡ true → list_all is_action p.actions ≡ true
actions_formed p f = right_of _ _ f
