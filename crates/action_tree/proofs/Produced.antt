-- What passes the test is given by the productions: each form by its rule, with a parenthesis exactly where its place demands one.
use Rattle.std.proofs.Common.{◌≡◌, ℕ, suc, zero, true, ◌≤◌, arith}
use Rattle.action_tree.specs.Trees.{DirTerm, fixed, held, Guard, atom, negation, conjunction, disjunction, quantified, tested, comparison, Guards, no_guards, guard_then, Sum, no_terms, term_then, Term, number, own, of_port, count, direction, inner, mod6, PortExpr, bound, at_end, turned, first}
use Rattle.action_tree.specs.Limits.{most_elements}
use Rattle.action_tree.specs.Writable.{is_conj, is_unit, levels_unless, guard_levels, unit_levels, conj_levels, sum_levels, term_levels, port_levels, guard_names, guards_names, sum_names, term_names, port_names, guard_count, term_count, is_guard, are_guards, are_terms, is_term, is_port, is_writable_dirterm}
use Rattle.action_tree.specs.Productions.{OfDirTerm, dir_number, dir_name, OfExpr, joined_by_or, OfConjs, no_conj, or_conj, OfConj, joined_by_and, OfUnits, no_unit, and_unit, OfUnit, one_word, not_unit, in_parens, some_or_each, asked, compared, OfSum, added, OfTerms, no_term, and_term, OfTerm, a_number, own_name, port_name, counted, directed, own_direction, modulo, OfPort, bound_name, end_and_dir, turned_by, first_in}
use Rattle.action_tree.proofs.Conditions.{left_of, right_of, from, upto}

-- the narrowest production that a guard is of without parentheses
abbrev Bare : ℕ → ℕ → Guard → Type 0
Bare n left (conjunction gs) = OfConj n left (conjunction gs)
Bare n left (disjunction gs) = OfExpr n left (disjunction gs)
Bare n left g = OfUnit n left g

-- where levels are left for it
abbrev BareFrom : ℕ → Guard → Type 0
BareFrom left g = (n : ℕ) → guard_levels g ≤ n → Bare n left g

unit_conj : {n left : ℕ} {g : Guard} → OfUnit n left g → OfConj n left g
unit_conj u = joined_by_and u no_unit

conj_expr : {n left : ℕ} {g : Guard} → OfConj n left g → OfExpr n left g
conj_expr c = joined_by_or c no_conj

pub as_expr : (n left : ℕ) (g : Guard) → Bare n left g → OfExpr n left g
as_expr n left (conjunction gs) b = conj_expr b
as_expr n left (disjunction gs) b = b
as_expr n left (atom a) b = conj_expr (unit_conj b)
as_expr n left (negation g) b = conj_expr (unit_conj b)
as_expr n left (quantified q v s g) b = conj_expr (unit_conj b)
as_expr n left (tested t p) b = conj_expr (unit_conj b)
as_expr n left (comparison a c b) d = conj_expr (unit_conj d)

-- an `or` in parentheses, and an `and`
or_in_parens : (n left : ℕ) (gs : Guards) → BareFrom left (disjunction gs) → suc (guard_levels (disjunction gs)) ≤ n → OfUnit n left (disjunction gs)
or_in_parens zero left gs b l = absurd (omega (arith, l))
or_in_parens (suc n) left gs b l = in_parens (b n (omega (arith, l)))

and_in_parens : (n left : ℕ) (gs : Guards) → BareFrom left (conjunction gs) → suc (guard_levels (conjunction gs)) ≤ n → OfUnit n left (conjunction gs)
and_in_parens zero left gs b l = absurd (omega (arith, l))
and_in_parens (suc n) left gs b l = in_parens (conj_expr (b n (omega (arith, l))))

pub as_unit : (n left : ℕ) (g : Guard) → BareFrom left g → levels_unless (is_unit g) (guard_levels g) ≤ n → OfUnit n left g
as_unit n left (conjunction gs) b l = and_in_parens n left gs b l
as_unit n left (disjunction gs) b l = or_in_parens n left gs b l
as_unit n left (atom a) b l = b n l
as_unit n left (negation g) b l = b n l
as_unit n left (quantified q v s g) b l = b n l
as_unit n left (tested t p) b l = b n l
as_unit n left (comparison x c y) b l = b n l

pub as_conj : (n left : ℕ) (g : Guard) → BareFrom left g → levels_unless (is_conj g) (guard_levels g) ≤ n → OfConj n left g
as_conj n left (conjunction gs) b l = b n l
as_conj n left (disjunction gs) b l = unit_conj (or_in_parens n left gs b l)
as_conj n left (atom a) b l = unit_conj (b n l)
as_conj n left (negation g) b l = unit_conj (b n l)
as_conj n left (quantified q v s g) b l = unit_conj (b n l)
as_conj n left (tested t p) b l = unit_conj (b n l)
as_conj n left (comparison x c y) b l = unit_conj (b n l)

-- two elements or more are no element alone
and_from : {n left : ℕ} (gs : Guards) → OfUnits n left 64 gs → 2 ≤ guard_count gs → OfConj n left (conjunction gs)
and_from (guard_then g (guard_then h gs)) (and_unit u us) two = joined_by_and u us
and_from (guard_then g no_guards) us two = absurd (omega (arith, two))
and_from no_guards us two = absurd (omega (arith, two))

or_from : {n left : ℕ} (gs : Guards) → OfConjs n left 64 gs → 2 ≤ guard_count gs → OfExpr n left (disjunction gs)
or_from (guard_then g (guard_then h gs)) (or_conj c cs) two = joined_by_or c cs
or_from (guard_then g no_guards) cs two = absurd (omega (arith, two))
or_from no_guards cs two = absurd (omega (arith, two))

pub sum_from : {n left : ℕ} (s : Sum) → OfTerms n left 64 s → 1 ≤ term_count s → OfSum n left s
sum_from (term_then minus t s) (and_term m u us) one = added minus u us
sum_from no_terms us one = absurd (omega (arith, one))

dirterm_from : (d : DirTerm) → is_writable_dirterm d ≡ true → OfDirTerm d
dirterm_from (fixed n) is = dir_number is
dirterm_from (held v) is = dir_name is

mutual
  pub guard_from : (g : Guard) (left : ℕ) → guard_names g ≤ left → is_guard g ≡ true → BareFrom left g
  guard_from (atom a) left m f n l = one_word a
  guard_from (negation g) left m f zero l = absurd (omega (arith, l))
  guard_from (negation g) left m f (suc n) l = not_unit (as_unit n left g (guard_from g left m f) (omega (arith, l)))
  guard_from (conjunction gs) left m f n l = and_from gs (units_from gs n left 64 l m (upto 2 _ most_elements (left_of _ _ f)) (right_of _ _ f)) (from 2 _ most_elements (left_of _ _ f))
  guard_from (disjunction gs) left m f n l = or_from gs (conjs_from gs n left 64 l m (upto 2 _ most_elements (left_of _ _ f)) (right_of _ _ f)) (from 2 _ most_elements (left_of _ _ f))
  guard_from (quantified q v s g) zero m f n l = absurd (omega (arith, m))
  guard_from (quantified q v s g) (suc left) m f zero l = absurd (omega (arith, l))
  guard_from (quantified q v s g) (suc left) m f (suc n) l = some_or_each q s (left_of _ _ f) (as_expr n left g (guard_from g left (omega (arith, m)) (right_of _ _ f) n (omega (arith, l))))
  guard_from (tested t p) left m f n l = asked t (port_from p n left l m f)
  guard_from (comparison a c b) left m f n l =
      compared c
      (sum_from a (terms_from a n left 64 (omega (arith, l)) (omega (arith, m)) (upto 1 _ most_elements (left_of _ _ (left_of _ _ f))) (right_of _ _ (left_of _ _ f))) (from 1 _ most_elements (left_of _ _ (left_of _ _ f))))
      (sum_from b (terms_from b n left 64 (omega (arith, l)) (omega (arith, m)) (upto 1 _ most_elements (left_of _ _ (right_of _ _ f))) (right_of _ _ (right_of _ _ f))) (from 1 _ most_elements (left_of _ _ (right_of _ _ f))))

  pub units_from : (gs : Guards) (n left room : ℕ) → unit_levels gs ≤ n → guards_names gs ≤ left → guard_count gs ≤ room → are_guards gs ≡ true → OfUnits n left room gs
  units_from no_guards n left room l m k f = no_unit
  units_from (guard_then g gs) n left zero l m k f = absurd (omega (arith, k))
  units_from (guard_then g gs) n left (suc room) l m k f =
      and_unit (as_unit n left g (guard_from g left (omega (arith, m)) (left_of _ _ f)) (omega (arith, l))) (units_from gs n left room (omega (arith, l)) (omega (arith, m)) (omega (arith, k)) (right_of _ _ f))

  pub conjs_from : (gs : Guards) (n left room : ℕ) → conj_levels gs ≤ n → guards_names gs ≤ left → guard_count gs ≤ room → are_guards gs ≡ true → OfConjs n left room gs
  conjs_from no_guards n left room l m k f = no_conj
  conjs_from (guard_then g gs) n left zero l m k f = absurd (omega (arith, k))
  conjs_from (guard_then g gs) n left (suc room) l m k f =
      or_conj (as_conj n left g (guard_from g left (omega (arith, m)) (left_of _ _ f)) (omega (arith, l))) (conjs_from gs n left room (omega (arith, l)) (omega (arith, m)) (omega (arith, k)) (right_of _ _ f))

  pub terms_from : (s : Sum) (n left room : ℕ) → sum_levels s ≤ n → sum_names s ≤ left → term_count s ≤ room → are_terms s ≡ true → OfTerms n left room s
  terms_from no_terms n left room l m k f = no_term
  terms_from (term_then minus t s) n left zero l m k f = absurd (omega (arith, k))
  terms_from (term_then minus t s) n left (suc room) l m k f =
      and_term minus (term_from t n left (omega (arith, l)) (omega (arith, m)) (left_of _ _ f)) (terms_from s n left room (omega (arith, l)) (omega (arith, m)) (omega (arith, k)) (right_of _ _ f))

  pub term_from : (t : Term) (n left : ℕ) → term_levels t ≤ n → term_names t ≤ left → is_term t ≡ true → OfTerm n left t
  term_from (number x) n left l m f = a_number f
  term_from (own v) n left l m f = own_name f
  term_from (of_port p v) n left l m f = port_name (port_from p n left l m (left_of _ _ f)) (right_of _ _ f)
  term_from (count v s g) zero left l m f = absurd (omega (arith, l))
  term_from (count v s g) (suc n) zero l m f = absurd (omega (arith, m))
  term_from (count v s g) (suc n) (suc left) l m f = counted s (left_of _ _ f) (as_expr n left g (guard_from g left (omega (arith, m)) (right_of _ _ f) n (omega (arith, l))))
  term_from (direction side p) n left l m f = directed side (port_from p n left l m f)
  term_from inner n left l m f = own_direction
  term_from (mod6 s) zero left l m f = absurd (omega (arith, l))
  term_from (mod6 s) (suc n) left l m f = modulo (sum_from s (terms_from s n left 64 (omega (arith, l)) m (upto 1 _ most_elements (left_of _ _ f)) (right_of _ _ f)) (from 1 _ most_elements (left_of _ _ f)))

  pub port_from : (p : PortExpr) (n left : ℕ) → port_levels p ≤ n → port_names p ≤ left → is_port p ≡ true → OfPort n left p
  port_from (bound v) n left l m f = bound_name f
  port_from (at_end e d) n left l m f = end_and_dir e (dirterm_from d f)
  port_from (turned p x) zero left l m f = absurd (omega (arith, l))
  port_from (turned p x) (suc n) left l m f = turned_by (port_from p n left (omega (arith, l)) m (left_of _ _ f)) (right_of _ _ f)
  port_from (first v s g) zero left l m f = absurd (omega (arith, l))
  port_from (first v s g) (suc n) zero l m f = absurd (omega (arith, m))
  port_from (first v s g) (suc n) (suc left) l m f = first_in s (left_of _ _ f) (as_expr n left g (guard_from g left (omega (arith, m)) (right_of _ _ f) n (omega (arith, l))))
