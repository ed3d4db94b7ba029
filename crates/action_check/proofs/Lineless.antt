-- The faults of a program without its lines: the same, apart from lines.
use Rattle.std.proofs.Common.{◌≡◌, ◌∙◌, ℕ, Bool, true, false, ◌||◌, if◌then◌else◌, List, [], ◌∷◌, ◌++◌, map, refl, ap, sym, subst}
use Rattle.std.proofs.lemmas.List.{map-append}
use Rattle.text_tokens.specs.declared.refusal.Refusal.{Refusal}
use Rattle.text_tokens.specs.declared.refusal.RefusalKind.{RefusalKind}
use Rattle.text_tokens.specs.declared.refusal.RefusalKind.TheVariants.{UnknownName, TwiceNamed, WrongType, BadRange}
use Rattle.amoebot_state.specs.Limits.{most_value}
use Rattle.action_tree.specs.Trees.{Name, Literal, DirTerm, fixed, held, Guard, atom, negation, conjunction, disjunction, quantified, tested, comparison, Guards, no_guards, guard_then, Sum, no_terms, term_then, Term, number, own, of_port, count, direction, inner, mod6, PortExpr, bound, at_end, turned, first, Stmt, put, put_of, let_be, if_then, for_each, Stmts, no_stmts, stmt_then, Move, no_move, through, contract, Var, Action, Program}
use Rattle.action_tree.specs.Lines.{bare_name, bare_literal, bare_dirterm, bare_guard, bare_guards, bare_sum, bare_term, bare_port, bare_stmt, bare_stmts, bare_move, bare_var, bare_action, without_lines}
use Rattle.action_check.specs.Limits.{most_literal, most_direction}
use Rattle.action_tree.specs.Scopes.{Scope, is_among, scope_with, scope_after, scope_after_all}
use Rattle.action_check.specs.Faults.{blamed, var_faults, bound_faults, binding_faults, declared_faults, range_faults, dirterm_faults, guard_faults, guards_faults, sum_faults, term_faults, port_faults, stmt_faults, stmts_faults, move_faults, vars_faults, action_faults, actions_faults, faults}
use Rattle.action_tree.specs.Scopes.{at_start}
use Rattle.action_tree.proofs.BareLemmas.{vars_named}
use Rattle.action_check.specs.Laws.{FaultsIgnoreLines, RulesIgnoreLines}

abbrev kinds : List Refusal → List RefusalKind
kinds rs = map (λ (r : Refusal). r.kind) rs

-- the same faults, apart from lines
record Alike (bare whole : List Refusal) : Type 0 where
  kinds : kinds bare ≡ kinds whole

both : {rs ss xs ys : List Refusal} → Alike rs ss → Alike xs ys → Alike (rs ++ xs) (ss ++ ys)
both {rs} {ss} {xs} {ys} one two = record {
  kinds =
      map-append (λ (r : Refusal). r.kind) rs xs
      ∙ ap (λ ks. ks ++ kinds xs) one.kinds
      ∙ ap (λ ks. kinds ss ++ ks) two.kinds
      ∙ sym (map-append (λ (r : Refusal). r.kind) ss ys);
}

-- ---- one name, and one number

same : (rs : List Refusal) → Alike rs rs
same rs = record { kinds = refl }

use_alike : (is other : Bool) (line : ℕ) → Alike (if is then [] else if other then blamed WrongType 0 else blamed UnknownName 0) (if is then [] else if other then blamed WrongType line else blamed UnknownName line)
use_alike true other line = record { kinds = refl }
use_alike false true line = record { kinds = refl }
use_alike false false line = record { kinds = refl }

twice_alike : (twice : Bool) (line : ℕ) → Alike (if twice then blamed TwiceNamed 0 else []) (if twice then blamed TwiceNamed line else [])
twice_alike true line = record { kinds = refl }
twice_alike false line = record { kinds = refl }

range_alike : (is : Bool) (line : ℕ) → Alike (if is then [] else blamed BadRange 0) (if is then [] else blamed BadRange line)
range_alike true line = record { kinds = refl }
range_alike false line = record { kinds = refl }

var_bare : (sc : Scope) (v : Name) → Alike (var_faults sc (bare_name v)) (var_faults sc v)
var_bare sc v = use_alike (is_among sc.vars v) (is_among sc.bound v) v.line

bound_bare : (sc : Scope) (v : Name) → Alike (bound_faults sc (bare_name v)) (bound_faults sc v)
bound_bare sc v = use_alike (is_among sc.bound v) (is_among sc.vars v) v.line

binding_bare : (sc : Scope) (v : Name) → Alike (binding_faults sc (bare_name v)) (binding_faults sc v)
binding_bare sc v = twice_alike (is_among sc.vars v || is_among sc.bound v) v.line

declared_bare : (earlier : List (List ℕ)) (v : Name) → Alike (declared_faults earlier (bare_name v)) (declared_faults earlier v)
declared_bare earlier v = twice_alike (is_among earlier v) v.line

range_bare : (most : ℕ) (n : Literal) → Alike (range_faults most (bare_literal n)) (range_faults most n)
range_bare most n = range_alike _ n.line

-- ---- guards, sums and ports

dirterm_bare : (sc : Scope) (d : DirTerm) → Alike (dirterm_faults sc (bare_dirterm d)) (dirterm_faults sc d)
dirterm_bare sc (fixed n) = range_bare most_direction n
dirterm_bare sc (held v) = var_bare sc v

mutual
  guard_bare : (sc : Scope) (g : Guard) → Alike (guard_faults sc (bare_guard g)) (guard_faults sc g)
  guard_bare sc (atom a) = same []
  guard_bare sc (negation g) = guard_bare sc g
  guard_bare sc (conjunction gs) = guards_bare sc gs
  guard_bare sc (disjunction gs) = guards_bare sc gs
  guard_bare sc (quantified q v s g) = both (binding_bare sc v) (guard_bare (scope_with sc v) g)
  guard_bare sc (tested t p) = port_bare sc p
  guard_bare sc (comparison a c b) = both (sum_bare sc a) (sum_bare sc b)

  guards_bare : (sc : Scope) (gs : Guards) → Alike (guards_faults sc (bare_guards gs)) (guards_faults sc gs)
  guards_bare sc no_guards = same []
  guards_bare sc (guard_then g gs) = both (guard_bare sc g) (guards_bare sc gs)

  sum_bare : (sc : Scope) (s : Sum) → Alike (sum_faults sc (bare_sum s)) (sum_faults sc s)
  sum_bare sc no_terms = same []
  sum_bare sc (term_then minus t s) = both (term_bare sc t) (sum_bare sc s)

  term_bare : (sc : Scope) (t : Term) → Alike (term_faults sc (bare_term t)) (term_faults sc t)
  term_bare sc (number n) = range_bare most_literal n
  term_bare sc (own v) = var_bare sc v
  term_bare sc (of_port p v) = both (port_bare sc p) (var_bare sc v)
  term_bare sc (count v s g) = both (binding_bare sc v) (guard_bare (scope_with sc v) g)
  term_bare sc (direction side p) = port_bare sc p
  term_bare sc inner = same []
  term_bare sc (mod6 s) = sum_bare sc s

  port_bare : (sc : Scope) (p : PortExpr) → Alike (port_faults sc (bare_port p)) (port_faults sc p)
  port_bare sc (bound v) = bound_bare sc v
  port_bare sc (at_end e d) = dirterm_bare sc d
  port_bare sc (turned p n) = both (port_bare sc p) (range_bare most_direction n)
  port_bare sc (first v s g) = both (binding_bare sc v) (guard_bare (scope_with sc v) g)

-- ---- statements, and the movement

after_bare : (sc : Scope) (s : Stmt) → scope_after sc s ≡ scope_after sc (bare_stmt s)
after_bare sc (put v s) = refl
after_bare sc (put_of p v s) = refl
after_bare sc (let_be v p) = refl
after_bare sc (if_then g ss es) = refl
after_bare sc (for_each v s g ss) = refl

after_all_bare : (sc : Scope) (ss : Stmts) → scope_after_all sc ss ≡ scope_after_all sc (bare_stmts ss)
after_all_bare sc no_stmts = refl
after_all_bare sc (stmt_then s ss) = after_all_bare (scope_after sc s) ss ∙ ap (λ known. scope_after_all known (bare_stmts ss)) (after_bare sc s)

mutual
  stmt_bare : (sc : Scope) (s : Stmt) → Alike (stmt_faults sc (bare_stmt s)) (stmt_faults sc s)
  stmt_bare sc (put v s) = both (var_bare sc v) (sum_bare sc s)
  stmt_bare sc (put_of p v s) = both (port_bare sc p) (both (var_bare sc v) (sum_bare sc s))
  stmt_bare sc (let_be v p) = both (binding_bare sc v) (port_bare sc p)
  stmt_bare sc (if_then g ss es) = both (guard_bare sc g) (both (stmts_bare sc ss) (stmts_bare sc es))
  stmt_bare sc (for_each v s g ss) = both (both (binding_bare sc v) (guard_bare (scope_with sc v) g)) (stmts_bare (scope_with sc v) ss)

  stmts_bare : (sc : Scope) (ss : Stmts) → Alike (stmts_faults sc (bare_stmts ss)) (stmts_faults sc ss)
  stmts_bare sc no_stmts = same []
  stmts_bare sc (stmt_then s ss) =
      both (stmt_bare sc s) (subst (λ known. Alike (stmts_faults known (bare_stmts ss)) (stmts_faults (scope_after sc s) ss)) (after_bare sc s) (stmts_bare (scope_after sc s) ss))

move_bare : (sc : Scope) (m : Move) → Alike (move_faults sc (bare_move m)) (move_faults sc m)
move_bare sc no_move = same []
move_bare sc (through m p) = port_bare sc p
move_bare sc (contract e) = same []

-- ---- the whole

vars_bare : (earlier : List (List ℕ)) (vs : List Var) → Alike (vars_faults earlier (map bare_var vs)) (vars_faults earlier vs)
vars_bare earlier [] = same []
vars_bare earlier (v ∷ vs) = both (declared_bare earlier v.name) (both (range_bare most_value v.max) (vars_bare (earlier ++ v.name.text ∷ []) vs))

action_bare : (sc : Scope) (a : Action) → Alike (action_faults sc (bare_action a)) (action_faults sc a)
action_bare sc a =
    let moved = subst (λ known. Alike (move_faults known (bare_move a.moved)) (move_faults (scope_after_all sc a.body) a.moved)) (after_all_bare sc a.body) (move_bare (scope_after_all sc a.body) a.moved) in
    both (guard_bare sc a.guard) (both (stmts_bare sc a.body) moved)

actions_bare : (sc : Scope) (earlier : List (List ℕ)) (actions : List Action) → Alike (actions_faults sc earlier (map bare_action actions)) (actions_faults sc earlier actions)
actions_bare sc earlier [] = same []
actions_bare sc earlier (a ∷ more) = both (declared_bare earlier a.name) (both (action_bare sc a) (actions_bare sc (earlier ++ a.name.text ∷ []) more))

start_bare : (p : Program) → at_start p ≡ at_start (without_lines p)
start_bare p = ap (λ names. record { vars = names; bound = [] }) (vars_named p.vars)

program_bare : (p : Program) → Alike (faults (without_lines p)) (faults p)
program_bare p = both (vars_bare [] p.vars) (subst (λ known. Alike (actions_faults known [] (map bare_action p.actions)) (actions_faults (at_start p) [] p.actions)) (start_bare p) (actions_bare (at_start p) [] p.actions))

pub faults_ignore_lines : FaultsIgnoreLines
faults_ignore_lines p q e = sym (program_bare p).kinds ∙ ap (λ r. kinds (faults r)) e ∙ (program_bare q).kinds

none_alike : (rs : List Refusal) → kinds rs ≡ [] → rs ≡ []
none_alike [] e = refl
none_alike (r ∷ rs) e = absurd cc

pub rules_ignore_lines : RulesIgnoreLines
rules_ignore_lines p q e kept = none_alike (faults q) (sym (faults_ignore_lines p q e) ∙ ap kinds kept)
