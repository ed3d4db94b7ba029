-- A tree that the productions give opens no more levels, binds no more names, and is formed as the test asks.
use Rattle.std.proofs.Common.{◌≡◌, ℕ, suc, Bool, true, false, ◌≤◌, refl, arith}
use Rattle.std.proofs.lemmas.Bool.{and_from}
use Rattle.action_tree.specs.Trees.{Guard, atom, negation, conjunction, disjunction, quantified, tested, comparison, Guards, no_guards, guard_then, Sum, term_then, Term, PortExpr}
use Rattle.action_tree.specs.Limits.{most_elements}
use Rattle.action_tree.specs.Writable.{is_conj, is_unit, levels_unless, guard_levels, unit_levels, conj_levels, sum_levels, term_levels, port_levels, guard_names, guards_names, sum_names, term_names, port_names, guard_count, term_count, is_guard, are_guards, are_terms, is_term, is_port, is_sum, is_writable_dirterm}
use Rattle.action_tree.specs.Productions.{all_of, any_of, OfDirTerm, dir_number, dir_name, OfExpr, joined_by_or, OfConjs, no_conj, or_conj, OfConj, joined_by_and, OfUnits, no_unit, and_unit, OfUnit, one_word, not_unit, in_parens, some_or_each, asked, compared, OfSum, added, OfTerms, no_term, and_term, OfTerm, a_number, own_name, port_name, counted, directed, own_direction, modulo, OfPort, bound_name, end_and_dir, turned_by, first_in}
use Rattle.action_tree.proofs.Conditions.{within}

-- what the test asks where so many levels and names are left
pub record Meets (n left l k : ℕ) (f : Bool) : Type 0 where
  pub levels : l ≤ n
  pub names : k ≤ left
  pub formed : f ≡ true

-- the same of a list that may go on so far
pub record AllMeet (n left room l k c : ℕ) (f : Bool) : Type 0 where
  pub levels : l ≤ n
  pub names : k ≤ left
  pub count : c ≤ room
  pub formed : f ≡ true

abbrev pub GuardMeets : ℕ → ℕ → Guard → Type 0
GuardMeets n left g = Meets n left (guard_levels g) (guard_names g) (is_guard g)

abbrev pub ConjMeets : ℕ → ℕ → Guard → Type 0
ConjMeets n left g = Meets n left (levels_unless (is_conj g) (guard_levels g)) (guard_names g) (is_guard g)

abbrev pub UnitMeets : ℕ → ℕ → Guard → Type 0
UnitMeets n left g = Meets n left (levels_unless (is_unit g) (guard_levels g)) (guard_names g) (is_guard g)

abbrev pub ConjsMeet : ℕ → ℕ → ℕ → Guards → Type 0
ConjsMeet n left room gs = AllMeet n left room (conj_levels gs) (guards_names gs) (guard_count gs) (are_guards gs)

abbrev pub UnitsMeet : ℕ → ℕ → ℕ → Guards → Type 0
UnitsMeet n left room gs = AllMeet n left room (unit_levels gs) (guards_names gs) (guard_count gs) (are_guards gs)

abbrev pub SumMeets : ℕ → ℕ → Sum → Type 0
SumMeets n left s = Meets n left (sum_levels s) (sum_names s) (is_sum s)

abbrev pub TermsMeet : ℕ → ℕ → ℕ → Sum → Type 0
TermsMeet n left room s = AllMeet n left room (sum_levels s) (sum_names s) (term_count s) (are_terms s)

abbrev pub TermMeets : ℕ → ℕ → Term → Type 0
TermMeets n left t = Meets n left (term_levels t) (term_names t) (is_term t)

abbrev pub PortMeets : ℕ → ℕ → PortExpr → Type 0
PortMeets n left p = Meets n left (port_levels p) (port_names p) (is_port p)

-- ---- parentheses

pub without_parens : (stands : Bool) (levels : ℕ) → levels ≤ levels_unless stands levels
without_parens true levels = omega arith
without_parens false levels = omega arith

pub with_parens : (stands : Bool) (levels : ℕ) → levels_unless stands levels ≤ suc levels
with_parens true levels = omega arith
with_parens false levels = omega arith

-- what stands as it is behind a `not` stands as it is in an `or`
pub conj_below_unit : (g : Guard) → levels_unless (is_conj g) (guard_levels g) ≤ levels_unless (is_unit g) (guard_levels g)
conj_below_unit (conjunction gs) = omega arith
conj_below_unit (disjunction gs) = omega arith
conj_below_unit (atom a) = omega arith
conj_below_unit (negation g) = omega arith
conj_below_unit (quantified q v s g) = omega arith
conj_below_unit (tested t p) = omega arith
conj_below_unit (comparison a c b) = omega arith

pub alone : (n left : ℕ) (g : Guard) → ConjMeets n left g → GuardMeets n left g
alone n left g m = record { levels = omega (arith, without_parens (is_conj g) (guard_levels g), m.levels); names = m.names; formed = m.formed }

pub unit_alone : (n left : ℕ) (g : Guard) → UnitMeets n left g → ConjMeets n left g
unit_alone n left g m = record { levels = omega (arith, conj_below_unit g, m.levels); names = m.names; formed = m.formed }

pub parenthesized : (n left : ℕ) (g : Guard) → GuardMeets n left g → UnitMeets (suc n) left g
parenthesized n left g m = record { levels = omega (arith, with_parens (is_unit g) (guard_levels g), m.levels); names = m.names; formed = m.formed }

-- ---- lists

pub or_list : (n left room : ℕ) (g : Guard) (gs : Guards) → ConjMeets n left g → ConjsMeet n left room gs → ConjsMeet n left (suc room) (guard_then g gs)
or_list n left room g gs m ms = record { levels = omega (arith, m.levels, ms.levels); names = omega (arith, m.names, ms.names); count = omega (arith, ms.count); formed = and_from _ _ m.formed ms.formed }

pub and_list : (n left room : ℕ) (g : Guard) (gs : Guards) → UnitMeets n left g → UnitsMeet n left room gs → UnitsMeet n left (suc room) (guard_then g gs)
and_list n left room g gs m ms = record { levels = omega (arith, m.levels, ms.levels); names = omega (arith, m.names, ms.names); count = omega (arith, ms.count); formed = and_from _ _ m.formed ms.formed }

pub or_all : (n left : ℕ) (g : Guard) (gs : Guards) → ConjMeets n left g → ConjsMeet n left 63 gs → GuardMeets n left (any_of g gs)
or_all n left g no_guards m ms = alone n left g m
or_all n left g (guard_then h gs) m ms =
    let all = or_list n left 63 g (guard_then h gs) m ms in
    record { levels = all.levels; names = all.names; formed = and_from _ _ (within 2 _ most_elements (omega arith) all.count) all.formed }

pub and_all : (n left : ℕ) (g : Guard) (gs : Guards) → UnitMeets n left g → UnitsMeet n left 63 gs → ConjMeets n left (all_of g gs)
and_all n left g no_guards m ms = unit_alone n left g m
and_all n left g (guard_then h gs) m ms =
    let all = and_list n left 63 g (guard_then h gs) m ms in
    record { levels = all.levels; names = all.names; formed = and_from _ _ (within 2 _ most_elements (omega arith) all.count) all.formed }

pub term_list : (n left room : ℕ) (minus : Bool) (t : Term) (s : Sum) → TermMeets n left t → TermsMeet n left room s → TermsMeet n left (suc room) (term_then minus t s)
term_list n left room minus t s m ms = record { levels = omega (arith, m.levels, ms.levels); names = omega (arith, m.names, ms.names); count = omega (arith, ms.count); formed = and_from _ _ m.formed ms.formed }

pub all_terms : (n left : ℕ) (minus : Bool) (t : Term) (s : Sum) → TermMeets n left t → TermsMeet n left 63 s → SumMeets n left (term_then minus t s)
all_terms n left minus t s m ms =
    let all = term_list n left 63 minus t s m ms in
    record { levels = all.levels; names = all.names; formed = and_from _ _ (within 1 _ most_elements (omega arith) all.count) all.formed }

-- ---- each production

dirterm_meets : {d : _} → OfDirTerm d → is_writable_dirterm d ≡ true
dirterm_meets (dir_number is) = is
dirterm_meets (dir_name is) = is

mutual
  pub expr_meets : {n left : ℕ} {g : Guard} → OfExpr n left g → GuardMeets n left g
  expr_meets (joined_by_or c cs) = or_all _ _ _ _ (conj_meets c) (conjs_meet cs)

  pub conjs_meet : {n left room : ℕ} {gs : Guards} → OfConjs n left room gs → ConjsMeet n left room gs
  conjs_meet no_conj = record { levels = omega arith; names = omega arith; count = omega arith; formed = refl }
  conjs_meet (or_conj c cs) = or_list _ _ _ _ _ (conj_meets c) (conjs_meet cs)

  pub conj_meets : {n left : ℕ} {g : Guard} → OfConj n left g → ConjMeets n left g
  conj_meets (joined_by_and u us) = and_all _ _ _ _ (unit_meets u) (units_meet us)

  pub units_meet : {n left room : ℕ} {gs : Guards} → OfUnits n left room gs → UnitsMeet n left room gs
  units_meet no_unit = record { levels = omega arith; names = omega arith; count = omega arith; formed = refl }
  units_meet (and_unit u us) = and_list _ _ _ _ _ (unit_meets u) (units_meet us)

  pub unit_meets : {n left : ℕ} {g : Guard} → OfUnit n left g → UnitMeets n left g
  unit_meets (one_word a) = record { levels = omega arith; names = omega arith; formed = refl }
  unit_meets (not_unit u) = let m = unit_meets u in record { levels = omega (arith, m.levels); names = m.names; formed = m.formed }
  unit_meets (in_parens e) = parenthesized _ _ _ (expr_meets e)
  unit_meets (some_or_each q s is e) = let m = expr_meets e in record { levels = omega (arith, m.levels); names = omega (arith, m.names); formed = and_from _ _ is m.formed }
  unit_meets (asked t p) = let m = port_meets p in record { levels = m.levels; names = m.names; formed = m.formed }
  unit_meets (compared c a b) =
      let m = sum_meets a in
      let k = sum_meets b in
      record { levels = omega (arith, m.levels, k.levels); names = omega (arith, m.names, k.names); formed = and_from _ _ m.formed k.formed }

  pub sum_meets : {n left : ℕ} {s : Sum} → OfSum n left s → SumMeets n left s
  sum_meets (added minus t ts) = all_terms _ _ minus _ _ (term_meets t) (terms_meet ts)

  pub terms_meet : {n left room : ℕ} {s : Sum} → OfTerms n left room s → TermsMeet n left room s
  terms_meet no_term = record { levels = omega arith; names = omega arith; count = omega arith; formed = refl }
  terms_meet (and_term minus t ts) = term_list _ _ _ minus _ _ (term_meets t) (terms_meet ts)

  pub term_meets : {n left : ℕ} {t : Term} → OfTerm n left t → TermMeets n left t
  term_meets (a_number is) = record { levels = omega arith; names = omega arith; formed = is }
  term_meets (own_name is) = record { levels = omega arith; names = omega arith; formed = is }
  term_meets (port_name p is) = let m = port_meets p in record { levels = m.levels; names = m.names; formed = and_from _ _ m.formed is }
  term_meets (counted s is e) = let m = expr_meets e in record { levels = omega (arith, m.levels); names = omega (arith, m.names); formed = and_from _ _ is m.formed }
  term_meets (directed side p) = let m = port_meets p in record { levels = m.levels; names = m.names; formed = m.formed }
  term_meets own_direction = record { levels = omega arith; names = omega arith; formed = refl }
  term_meets (modulo s) = let m = sum_meets s in record { levels = omega (arith, m.levels); names = m.names; formed = m.formed }

  pub port_meets : {n left : ℕ} {p : PortExpr} → OfPort n left p → PortMeets n left p
  port_meets (bound_name is) = record { levels = omega arith; names = omega arith; formed = is }
  port_meets (end_and_dir e d) = record { levels = omega arith; names = omega arith; formed = dirterm_meets d }
  port_meets (turned_by p is) = let m = port_meets p in record { levels = omega (arith, m.levels); names = m.names; formed = and_from _ _ m.formed is }
  port_meets (first_in s is e) = let m = expr_meets e in record { levels = omega (arith, m.levels); names = omega (arith, m.names); formed = and_from _ _ is m.formed }
