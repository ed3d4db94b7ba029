-- How the logic stores a tree: each constructor by its place among its own, and then its parts.
use Rattle.std.specs.Prelude.{◌≡◌, ℕ, Bool, false, ◌==◌, List, refl}
use Rattle.std.proofs.Common.{ap, arith}
use Rattle.std.specs.Coded.{Coded, code_by, coded×, coded_ℕ, coded_bool, coded_list}
use base.Stored.{Gv, gnil, gnum, gcons}
use Rattle.amoebot_state.specs.declared.bot.End.{End}
use Rattle.amoebot_state.specs.contracts.bot.End as ends
use Rattle.action_tree.specs.declared.expression.PortSet.{PortSet}
use Rattle.action_tree.specs.contracts.expression.PortSet as sets
use Rattle.action_tree.specs.declared.expression.Cmp.{Cmp}
use Rattle.action_tree.specs.contracts.expression.Cmp as comparisons
use Rattle.action_tree.specs.Trees.{Name, Literal, Atom, always, never, contracted, expanded, Quantifier, any, all, PortTest, linked, free, at_head, peer_expanded, peer_head, Side, own_side, peer_side, DirTerm, fixed, held, Guard, atom, negation, conjunction, disjunction, quantified, tested, comparison, Guards, no_guards, guard_then, Sum, no_terms, term_then, Term, number, own, of_port, count, direction, inner, mod6, PortExpr, bound, at_end, turned, first, Stmt, put, put_of, let_be, if_then, for_each, Stmts, no_stmts, stmt_then, PortMove, expand, push, pull, Move, no_move, through, contract, Var, Action, Program}

-- a constructor with parts
abbrev pub with_parts : ℕ → Gv → Gv
with_parts place parts = gcons (gnum place) parts

pub told_apart : (m n : ℕ) (a b : Gv) → (m == n) ≡ false → with_parts m a ≡ with_parts n b → ⊥
told_apart m n a b other same =
    let e : m ≡ n = cc in
    grind arith

abbrev name_code : Coded Name
name_code =
    code_by (List ℕ × ℕ) (coded× (coded_list coded_ℕ) coded_ℕ) (λ v. (v.text, v.line))
    (λ p. record { text = p.0; line = p.1 }) (λ _. refl)

abbrev literal_code : Coded Literal
literal_code = code_by (ℕ × ℕ) (coded× coded_ℕ coded_ℕ) (λ n. (n.value, n.line))
    (λ p. record { value = p.0; line = p.1 }) (λ _. refl)

abbrev set_code : Coded PortSet
set_code = sets.the_row.coded

abbrev cmp_code : Coded Cmp
cmp_code = comparisons.the_row.coded

abbrev end_code : Coded End
end_code = ends.the_row.coded

-- ---- words that tell forms apart

abbrev pub atom_stored : Atom → Gv
atom_stored always = gnum 0
atom_stored never = gnum 1
atom_stored contracted = gnum 2
atom_stored expanded = gnum 3

pub atom_told : (x y : Atom) → atom_stored x ≡ atom_stored y → x ≡ y
atom_told always always same = refl
atom_told never never same = refl
atom_told contracted contracted same = refl
atom_told expanded expanded same = refl
atom_told _ _ same = absurd cc

abbrev pub quantifier_stored : Quantifier → Gv
quantifier_stored any = gnum 0
quantifier_stored all = gnum 1

pub quantifier_told : (x y : Quantifier) → quantifier_stored x ≡ quantifier_stored y → x ≡ y
quantifier_told any any same = refl
quantifier_told all all same = refl
quantifier_told _ _ same = absurd cc

abbrev pub test_stored : PortTest → Gv
test_stored linked = gnum 0
test_stored free = gnum 1
test_stored at_head = gnum 2
test_stored peer_expanded = gnum 3
test_stored peer_head = gnum 4

pub test_told : (x y : PortTest) → test_stored x ≡ test_stored y → x ≡ y
test_told linked linked same = refl
test_told free free same = refl
test_told at_head at_head same = refl
test_told peer_expanded peer_expanded same = refl
test_told peer_head peer_head same = refl
test_told _ _ same = absurd cc

abbrev pub side_stored : Side → Gv
side_stored own_side = gnum 0
side_stored peer_side = gnum 1

pub side_told : (x y : Side) → side_stored x ≡ side_stored y → x ≡ y
side_told own_side own_side same = refl
side_told peer_side peer_side same = refl
side_told _ _ same = absurd cc

abbrev pub port_move_stored : PortMove → Gv
port_move_stored expand = gnum 0
port_move_stored push = gnum 1
port_move_stored pull = gnum 2

pub port_move_told : (x y : PortMove) → port_move_stored x ≡ port_move_stored y → x ≡ y
port_move_told expand expand same = refl
port_move_told push push same = refl
port_move_told pull pull same = refl
port_move_told _ _ same = absurd cc

-- ---- directions

abbrev pub dirterm_stored : DirTerm → Gv
dirterm_stored (fixed x) = with_parts 0 (literal_code.code x)
dirterm_stored (held x) = with_parts 1 (name_code.code x)

pub dirterm_told : (a b : DirTerm) → dirterm_stored a ≡ dirterm_stored b → a ≡ b
dirterm_told (fixed x) (fixed y) same = ap fixed (literal_code.inj x y cc)
dirterm_told (held x) (held y) same = ap held (name_code.inj x y cc)
dirterm_told _ _ same = absurd (told_apart _ _ _ _ refl same)

-- ---- guards, ports and sums

abbrev mutual
  pub guard_stored : Guard → Gv
  guard_stored (atom x) = with_parts 0 (atom_stored x)
  guard_stored (negation x) = with_parts 1 (guard_stored x)
  guard_stored (conjunction x) = with_parts 2 (guards_stored x)
  guard_stored (disjunction x) = with_parts 3 (guards_stored x)
  guard_stored (quantified x0 x1 x2 x3) =
      with_parts 4
      (gcons (quantifier_stored x0) (gcons (name_code.code x1) (gcons (set_code.code x2) (guard_stored x3))))
  guard_stored (tested x0 x1) = with_parts 5 (gcons (test_stored x0) (port_stored x1))
  guard_stored (comparison x0 x1 x2) =
      with_parts 6 (gcons (sum_stored x0) (gcons (cmp_code.code x1) (sum_stored x2)))

  pub guards_stored : Guards → Gv
  guards_stored no_guards = with_parts 0 gnil
  guards_stored (guard_then x0 x1) = with_parts 1 (gcons (guard_stored x0) (guards_stored x1))

  pub sum_stored : Sum → Gv
  sum_stored no_terms = with_parts 0 gnil
  sum_stored (term_then x0 x1 x2) =
      with_parts 1 (gcons (coded_bool.code x0) (gcons (term_stored x1) (sum_stored x2)))

  pub term_stored : Term → Gv
  term_stored (number x) = with_parts 0 (literal_code.code x)
  term_stored (own x) = with_parts 1 (name_code.code x)
  term_stored (of_port x0 x1) = with_parts 2 (gcons (port_stored x0) (name_code.code x1))
  term_stored (count x0 x1 x2) =
      with_parts 3 (gcons (name_code.code x0) (gcons (set_code.code x1) (guard_stored x2)))
  term_stored (direction x0 x1) = with_parts 4 (gcons (side_stored x0) (port_stored x1))
  term_stored inner = with_parts 5 gnil
  term_stored (mod6 x) = with_parts 6 (sum_stored x)

  pub port_stored : PortExpr → Gv
  port_stored (bound x) = with_parts 0 (name_code.code x)
  port_stored (at_end x0 x1) = with_parts 1 (gcons (end_code.code x0) (dirterm_stored x1))
  port_stored (turned x0 x1) = with_parts 2 (gcons (port_stored x0) (literal_code.code x1))
  port_stored (first x0 x1 x2) =
      with_parts 3 (gcons (name_code.code x0) (gcons (set_code.code x1) (guard_stored x2)))

mutual
  pub guard_told : (a b : Guard) → guard_stored a ≡ guard_stored b → a ≡ b
  guard_told (atom x) (atom y) same = ap atom (atom_told x y cc)
  guard_told (negation x) (negation y) same = ap negation (guard_told x y cc)
  guard_told (conjunction x) (conjunction y) same = ap conjunction (guards_told x y cc)
  guard_told (disjunction x) (disjunction y) same = ap disjunction (guards_told x y cc)
  guard_told (quantified x0 x1 x2 x3) (quantified y0 y1 y2 y3) same =
      let e0 : x0 ≡ y0 = quantifier_told x0 y0 cc in
      let e1 : x1 ≡ y1 = name_code.inj x1 y1 cc in
      let e2 : x2 ≡ y2 = set_code.inj x2 y2 cc in
      let e3 : x3 ≡ y3 = guard_told x3 y3 cc in
      cc
  guard_told (tested x0 x1) (tested y0 y1) same =
      let e0 : x0 ≡ y0 = test_told x0 y0 cc in
      let e1 : x1 ≡ y1 = port_told x1 y1 cc in
      cc
  guard_told (comparison x0 x1 x2) (comparison y0 y1 y2) same =
      let e0 : x0 ≡ y0 = sum_told x0 y0 cc in
      let e1 : x1 ≡ y1 = cmp_code.inj x1 y1 cc in
      let e2 : x2 ≡ y2 = sum_told x2 y2 cc in
      cc
  guard_told _ _ same = absurd (told_apart _ _ _ _ refl same)

  pub guards_told : (a b : Guards) → guards_stored a ≡ guards_stored b → a ≡ b
  guards_told no_guards no_guards same = refl
  guards_told (guard_then x0 x1) (guard_then y0 y1) same =
      let e0 : x0 ≡ y0 = guard_told x0 y0 cc in
      let e1 : x1 ≡ y1 = guards_told x1 y1 cc in
      cc
  guards_told _ _ same = absurd (told_apart _ _ _ _ refl same)

  pub sum_told : (a b : Sum) → sum_stored a ≡ sum_stored b → a ≡ b
  sum_told no_terms no_terms same = refl
  sum_told (term_then x0 x1 x2) (term_then y0 y1 y2) same =
      let e0 : x0 ≡ y0 = coded_bool.inj x0 y0 cc in
      let e1 : x1 ≡ y1 = term_told x1 y1 cc in
      let e2 : x2 ≡ y2 = sum_told x2 y2 cc in
      cc
  sum_told _ _ same = absurd (told_apart _ _ _ _ refl same)

  pub term_told : (a b : Term) → term_stored a ≡ term_stored b → a ≡ b
  term_told (number x) (number y) same = ap number (literal_code.inj x y cc)
  term_told (own x) (own y) same = ap own (name_code.inj x y cc)
  term_told (of_port x0 x1) (of_port y0 y1) same =
      let e0 : x0 ≡ y0 = port_told x0 y0 cc in
      let e1 : x1 ≡ y1 = name_code.inj x1 y1 cc in
      cc
  term_told (count x0 x1 x2) (count y0 y1 y2) same =
      let e0 : x0 ≡ y0 = name_code.inj x0 y0 cc in
      let e1 : x1 ≡ y1 = set_code.inj x1 y1 cc in
      let e2 : x2 ≡ y2 = guard_told x2 y2 cc in
      cc
  term_told (direction x0 x1) (direction y0 y1) same =
      let e0 : x0 ≡ y0 = side_told x0 y0 cc in
      let e1 : x1 ≡ y1 = port_told x1 y1 cc in
      cc
  term_told inner inner same = refl
  term_told (mod6 x) (mod6 y) same = ap mod6 (sum_told x y cc)
  term_told _ _ same = absurd (told_apart _ _ _ _ refl same)

  pub port_told : (a b : PortExpr) → port_stored a ≡ port_stored b → a ≡ b
  port_told (bound x) (bound y) same = ap bound (name_code.inj x y cc)
  port_told (at_end x0 x1) (at_end y0 y1) same =
      let e0 : x0 ≡ y0 = end_code.inj x0 y0 cc in
      let e1 : x1 ≡ y1 = dirterm_told x1 y1 cc in
      cc
  port_told (turned x0 x1) (turned y0 y1) same =
      let e0 : x0 ≡ y0 = port_told x0 y0 cc in
      let e1 : x1 ≡ y1 = literal_code.inj x1 y1 cc in
      cc
  port_told (first x0 x1 x2) (first y0 y1 y2) same =
      let e0 : x0 ≡ y0 = name_code.inj x0 y0 cc in
      let e1 : x1 ≡ y1 = set_code.inj x1 y1 cc in
      let e2 : x2 ≡ y2 = guard_told x2 y2 cc in
      cc
  port_told _ _ same = absurd (told_apart _ _ _ _ refl same)

-- ---- statements

abbrev mutual
  pub stmt_stored : Stmt → Gv
  stmt_stored (put x0 x1) = with_parts 0 (gcons (name_code.code x0) (sum_stored x1))
  stmt_stored (put_of x0 x1 x2) =
      with_parts 1 (gcons (port_stored x0) (gcons (name_code.code x1) (sum_stored x2)))
  stmt_stored (let_be x0 x1) = with_parts 2 (gcons (name_code.code x0) (port_stored x1))
  stmt_stored (if_then x0 x1 x2) =
      with_parts 3 (gcons (guard_stored x0) (gcons (stmts_stored x1) (stmts_stored x2)))
  stmt_stored (for_each x0 x1 x2 x3) =
      with_parts 4
      (gcons (name_code.code x0) (gcons (set_code.code x1) (gcons (guard_stored x2) (stmts_stored x3))))

  pub stmts_stored : Stmts → Gv
  stmts_stored no_stmts = with_parts 0 gnil
  stmts_stored (stmt_then x0 x1) = with_parts 1 (gcons (stmt_stored x0) (stmts_stored x1))

mutual
  pub stmt_told : (a b : Stmt) → stmt_stored a ≡ stmt_stored b → a ≡ b
  stmt_told (put x0 x1) (put y0 y1) same =
      let e0 : x0 ≡ y0 = name_code.inj x0 y0 cc in
      let e1 : x1 ≡ y1 = sum_told x1 y1 cc in
      cc
  stmt_told (put_of x0 x1 x2) (put_of y0 y1 y2) same =
      let e0 : x0 ≡ y0 = port_told x0 y0 cc in
      let e1 : x1 ≡ y1 = name_code.inj x1 y1 cc in
      let e2 : x2 ≡ y2 = sum_told x2 y2 cc in
      cc
  stmt_told (let_be x0 x1) (let_be y0 y1) same =
      let e0 : x0 ≡ y0 = name_code.inj x0 y0 cc in
      let e1 : x1 ≡ y1 = port_told x1 y1 cc in
      cc
  stmt_told (if_then x0 x1 x2) (if_then y0 y1 y2) same =
      let e0 : x0 ≡ y0 = guard_told x0 y0 cc in
      let e1 : x1 ≡ y1 = stmts_told x1 y1 cc in
      let e2 : x2 ≡ y2 = stmts_told x2 y2 cc in
      cc
  stmt_told (for_each x0 x1 x2 x3) (for_each y0 y1 y2 y3) same =
      let e0 : x0 ≡ y0 = name_code.inj x0 y0 cc in
      let e1 : x1 ≡ y1 = set_code.inj x1 y1 cc in
      let e2 : x2 ≡ y2 = guard_told x2 y2 cc in
      let e3 : x3 ≡ y3 = stmts_told x3 y3 cc in
      cc
  stmt_told _ _ same = absurd (told_apart _ _ _ _ refl same)

  pub stmts_told : (a b : Stmts) → stmts_stored a ≡ stmts_stored b → a ≡ b
  stmts_told no_stmts no_stmts same = refl
  stmts_told (stmt_then x0 x1) (stmt_then y0 y1) same =
      let e0 : x0 ≡ y0 = stmt_told x0 y0 cc in
      let e1 : x1 ≡ y1 = stmts_told x1 y1 cc in
      cc
  stmts_told _ _ same = absurd (told_apart _ _ _ _ refl same)

-- ---- movements

abbrev pub move_stored : Move → Gv
move_stored no_move = with_parts 0 gnil
move_stored (through x0 x1) = with_parts 1 (gcons (port_move_stored x0) (port_stored x1))
move_stored (contract x) = with_parts 2 (end_code.code x)

pub move_told : (a b : Move) → move_stored a ≡ move_stored b → a ≡ b
move_told no_move no_move same = refl
move_told (through x0 x1) (through y0 y1) same =
    let e0 : x0 ≡ y0 = port_move_told x0 y0 cc in
    let e1 : x1 ≡ y1 = port_told x1 y1 cc in
    cc
move_told (contract x) (contract y) same = ap contract (end_code.inj x y cc)
move_told _ _ same = absurd (told_apart _ _ _ _ refl same)

-- ---- programs

abbrev guard_code : Coded Guard
guard_code = record { code = guard_stored; inj = guard_told }

abbrev stmts_code : Coded Stmts
stmts_code = record { code = stmts_stored; inj = stmts_told }

abbrev move_code : Coded Move
move_code = record { code = move_stored; inj = move_told }

abbrev var_code : Coded Var
var_code =
    code_by (Name × Literal) (coded× name_code literal_code) (λ v. (v.name, v.max))
    (λ p. record { name = p.0; max = p.1 }) (λ _. refl)

abbrev action_code : Coded Action
action_code =
    code_by (Name × (Guard × (Stmts × Move)))
    (coded× name_code (coded× guard_code (coded× stmts_code move_code)))
    (λ a. (a.name, (a.guard, (a.body, a.moved))))
    (λ p. record { name = p.0; guard = p.1.0; body = p.1.1.0; moved = p.1.1.1 }) (λ _. refl)

abbrev pub program_code : Coded Program
program_code =
    code_by (Bool × (List Var × List Action))
    (coded× coded_bool (coded× (coded_list var_code) (coded_list action_code)))
    (λ p. (p.guard, (p.vars, p.actions)))
    (λ q. record { guard = q.0; vars = q.1.0; actions = q.1.1 }) (λ _. refl)
