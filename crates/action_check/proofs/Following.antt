-- The faults of a program stand in the order of its text.
use Rattle.std.proofs.Common.{ℕ, Bool, true, false, ◌||◌, if◌then◌else◌, List, [], ◌∷◌, ◌++◌, map, sym, subst}
use Rattle.std.proofs.lemmas.List.{map-append}
use Rattle.std.specs.List.{flat_map}
use Rattle.text_tokens.specs.declared.refusal.Refusal.{Refusal}
use Rattle.text_tokens.specs.declared.refusal.RefusalKind.TheVariants.{UnknownName, TwiceNamed, WrongType, BadRange}
use Rattle.amoebot_state.specs.Limits.{most_value}
use Rattle.action_tree.specs.Trees.{Name, Literal, DirTerm, fixed, held, Guard, atom, negation, conjunction, disjunction, quantified, tested, comparison, Guards, no_guards, guard_then, Sum, no_terms, term_then, Term, number, own, of_port, count, direction, inner, mod6, PortExpr, bound, at_end, turned, first, Stmt, put, put_of, let_be, if_then, for_each, Stmts, no_stmts, stmt_then, Move, no_move, through, contract, Var, Action}
use Rattle.action_tree.specs.Lines.{lines_in_dirterm, lines_in_guard, lines_in_guards, lines_in_sum, lines_in_term, lines_in_port, lines_in_stmt, lines_in_stmts, lines_in_move, lines_in_var, lines_in_action}
use Rattle.action_tree.proofs.TextLines.{lines_follow_text}
use Rattle.action_tree.proofs.Rising.{Picks, over, skip, keep, picks_both, picked_never_fall}
use Rattle.action_check.specs.Limits.{most_literal, most_direction}
use Rattle.action_tree.specs.Scopes.{Scope, is_among, scope_with, scope_after, scope_after_all}
use Rattle.action_check.specs.Faults.{blamed, var_faults, bound_faults, binding_faults, declared_faults, range_faults, dirterm_faults, guard_faults, guards_faults, sum_faults, term_faults, port_faults, stmt_faults, stmts_faults, move_faults, vars_faults, action_faults, actions_faults}
use Rattle.action_tree.specs.Scopes.{at_start}
use Rattle.action_check.specs.Laws.{FaultsFollowText, FaultsOfTextNeverFall}

abbrev lines : List Refusal → List ℕ
lines rs = map (λ (r : Refusal). r.line) rs

-- each of the faults is to blame on a place of its own among these lines, in their order
record Follow (rs : List Refusal) (places : List ℕ) : Type 0 where
  picked : Picks (lines rs) places

both : {rs ss : List Refusal} {xs ys : List ℕ} → Follow rs xs → Follow ss ys → Follow (rs ++ ss) (xs ++ ys)
both {rs} {ss} {xs} {ys} one two = record { picked = subst (λ places. Picks places (xs ++ ys)) (sym (map-append (λ (r : Refusal). r.line) rs ss)) (picks_both one.picked two.picked) }

-- ---- one name, and one number

none : Follow [] []
none = record { picked = over }

use_follows : (is other : Bool) (line : ℕ) → Follow (if is then [] else if other then blamed WrongType line else blamed UnknownName line) (line ∷ [])
use_follows true other line = record { picked = skip over }
use_follows false true line = record { picked = keep over }
use_follows false false line = record { picked = keep over }

twice_follows : (twice : Bool) (line : ℕ) → Follow (if twice then blamed TwiceNamed line else []) (line ∷ [])
twice_follows true line = record { picked = keep over }
twice_follows false line = record { picked = skip over }

range_follows : (is : Bool) (line : ℕ) → Follow (if is then [] else blamed BadRange line) (line ∷ [])
range_follows true line = record { picked = skip over }
range_follows false line = record { picked = keep over }

var_follows : (sc : Scope) (v : Name) → Follow (var_faults sc v) (v.line ∷ [])
var_follows sc v = use_follows (is_among sc.vars v) (is_among sc.bound v) v.line

bound_follows : (sc : Scope) (v : Name) → Follow (bound_faults sc v) (v.line ∷ [])
bound_follows sc v = use_follows (is_among sc.bound v) (is_among sc.vars v) v.line

binding_follows : (sc : Scope) (v : Name) → Follow (binding_faults sc v) (v.line ∷ [])
binding_follows sc v = twice_follows (is_among sc.vars v || is_among sc.bound v) v.line

declared_follows : (earlier : List (List ℕ)) (v : Name) → Follow (declared_faults earlier v) (v.line ∷ [])
declared_follows earlier v = twice_follows (is_among earlier v) v.line

number_follows : (most : ℕ) (n : Literal) → Follow (range_faults most n) (n.line ∷ [])
number_follows most n = range_follows _ n.line

-- ---- guards, sums and ports

dirterm_follows : (sc : Scope) (d : DirTerm) → Follow (dirterm_faults sc d) (lines_in_dirterm d)
dirterm_follows sc (fixed n) = number_follows most_direction n
dirterm_follows sc (held v) = var_follows sc v

mutual
  guard_follows : (sc : Scope) (g : Guard) → Follow (guard_faults sc g) (lines_in_guard g)
  guard_follows sc (atom a) = none
  guard_follows sc (negation g) = guard_follows sc g
  guard_follows sc (conjunction gs) = guards_follow sc gs
  guard_follows sc (disjunction gs) = guards_follow sc gs
  guard_follows sc (quantified q v s g) = both (binding_follows sc v) (guard_follows (scope_with sc v) g)
  guard_follows sc (tested t p) = port_follows sc p
  guard_follows sc (comparison a c b) = both (sum_follows sc a) (sum_follows sc b)

  guards_follow : (sc : Scope) (gs : Guards) → Follow (guards_faults sc gs) (lines_in_guards gs)
  guards_follow sc no_guards = none
  guards_follow sc (guard_then g gs) = both (guard_follows sc g) (guards_follow sc gs)

  sum_follows : (sc : Scope) (s : Sum) → Follow (sum_faults sc s) (lines_in_sum s)
  sum_follows sc no_terms = none
  sum_follows sc (term_then minus t s) = both (term_follows sc t) (sum_follows sc s)

  term_follows : (sc : Scope) (t : Term) → Follow (term_faults sc t) (lines_in_term t)
  term_follows sc (number n) = number_follows most_literal n
  term_follows sc (own v) = var_follows sc v
  term_follows sc (of_port p v) = both (port_follows sc p) (var_follows sc v)
  term_follows sc (count v s g) = both (binding_follows sc v) (guard_follows (scope_with sc v) g)
  term_follows sc (direction side p) = port_follows sc p
  term_follows sc inner = none
  term_follows sc (mod6 s) = sum_follows sc s

  port_follows : (sc : Scope) (p : PortExpr) → Follow (port_faults sc p) (lines_in_port p)
  port_follows sc (bound v) = bound_follows sc v
  port_follows sc (at_end e d) = dirterm_follows sc d
  port_follows sc (turned p n) = both (port_follows sc p) (number_follows most_direction n)
  port_follows sc (first v s g) = both (binding_follows sc v) (guard_follows (scope_with sc v) g)

-- ---- statements, and the movement

mutual
  stmt_follows : (sc : Scope) (s : Stmt) → Follow (stmt_faults sc s) (lines_in_stmt s)
  stmt_follows sc (put v s) = both (var_follows sc v) (sum_follows sc s)
  stmt_follows sc (put_of p v s) = both (port_follows sc p) (both (var_follows sc v) (sum_follows sc s))
  stmt_follows sc (let_be v p) = both (binding_follows sc v) (port_follows sc p)
  stmt_follows sc (if_then g ss es) = both (guard_follows sc g) (both (stmts_follow sc ss) (stmts_follow sc es))
  stmt_follows sc (for_each v s g ss) = both (both (binding_follows sc v) (guard_follows (scope_with sc v) g)) (stmts_follow (scope_with sc v) ss)

  stmts_follow : (sc : Scope) (ss : Stmts) → Follow (stmts_faults sc ss) (lines_in_stmts ss)
  stmts_follow sc no_stmts = none
  stmts_follow sc (stmt_then s ss) = both (stmt_follows sc s) (stmts_follow (scope_after sc s) ss)

move_follows : (sc : Scope) (m : Move) → Follow (move_faults sc m) (lines_in_move m)
move_follows sc no_move = none
move_follows sc (through m p) = port_follows sc p
move_follows sc (contract e) = none

-- ---- the whole

vars_follow : (earlier : List (List ℕ)) (vs : List Var) → Follow (vars_faults earlier vs) (flat_map lines_in_var vs)
vars_follow earlier [] = none
vars_follow earlier (v ∷ vs) = both (declared_follows earlier v.name) (both (number_follows most_value v.max) (vars_follow (earlier ++ v.name.text ∷ []) vs))

action_follows : (sc : Scope) (a : Action) → Follow (action_faults sc a) (lines_in_guard a.guard ++ (lines_in_stmts a.body ++ lines_in_move a.moved))
action_follows sc a = both (guard_follows sc a.guard) (both (stmts_follow sc a.body) (move_follows (scope_after_all sc a.body) a.moved))

actions_follow : (sc : Scope) (earlier : List (List ℕ)) (actions : List Action) → Follow (actions_faults sc earlier actions) (flat_map lines_in_action actions)
actions_follow sc earlier [] = none
actions_follow sc earlier (a ∷ more) = both (declared_follows earlier a.name) (both (action_follows sc a) (actions_follow sc (earlier ++ a.name.text ∷ []) more))

pub faults_follow_text : FaultsFollowText
faults_follow_text p up = picked_never_fall (both (vars_follow [] p.vars) (actions_follow (at_start p) [] p.actions)).picked up

pub faults_of_text_never_fall : FaultsOfTextNeverFall
faults_of_text_never_fall bytes at ts rest last p are text = faults_follow_text p (lines_follow_text bytes at ts rest last p are text)
