-- The canonical tokens of ports, sums and guards are texts of the grammar, which stand for the same trees, lines aside.
use Rattle.std.proofs.Common.{◌≡◌, ℕ, zero, suc, ◌≤◌, Bool, true, List, ◌∷◌, ◌++◌, codes, flat_map, refl, sym, ap, subst, arith}
use Rattle.text_tokens.specs.Lines.{Words}
use Rattle.text_tokens.specs.Grammar.{Symbol}
use Rattle.action_tree.specs.declared.expression.PortSet.{PortSet}
use Rattle.action_tree.specs.Trees.{Name, Guard, atom, negation, conjunction, disjunction, quantified, tested, comparison, Guards, no_guards, guard_then, Sum, no_terms, term_then, Term, number, own, of_port, count, direction, inner, mod6, PortExpr, bound, at_end, turned, first}
use Rattle.action_tree.specs.Lines.{bare_name, bare_guard, bare_guards, bare_sum, bare_term, bare_port}
use Rattle.action_tree.specs.Productions.{all_of, any_of}
use Rattle.action_tree.specs.Limits.{most_elements, most_further}
use Rattle.action_tree.specs.Words.{is_name}
use Rattle.action_tree.specs.Writable.{is_conj, is_unit, levels_unless, guard_levels, unit_levels, conj_levels, sum_levels, term_levels, port_levels, guard_names, guards_names, sum_names, term_names, port_names, guard_count, term_count, is_count_from, is_guard, are_guards, are_terms, is_term, is_port}
use Rattle.action_tree.specs.Writable as writable
use Rattle.action_tree.proofs.Conditions.{left_of, right_of, from, upto}
use Rattle.action_tree.specs.declared.role.Role.TheVariants.{OpenSign, CloseSign, DotSign, MinusSign, NotWord, AndWord, OrWord, InWord, CountWord, InnerWord, Mod6Word, TurnWord, FirstWord}
use Rattle.action_tree.specs.Roles.{is_a, as_name, as_literal, as_dirterm, as_end, as_atom, as_quantifier, as_test, as_side, as_cmp}
use Rattle.action_tree.specs.Expressions as grammar
use Rattle.action_tree.specs.Expressions.{Selection, selection, IsPort, is_bound, is_end, is_turn, is_first, IsSelection, is_selection, IsTerm, is_number, is_own, is_of_port, is_count, is_direction, is_inner, is_mod6, IsSum, is_sum, IsTerms, no_more_terms, more_terms, IsUnit, is_atom, is_not, is_parens, is_quantified, is_tested, is_compared, IsConj, IsUnits, no_more_units, more_units, IsExpr, is_expr, IsConjs, no_more_conjs, more_conjs}
use Rattle.action_print.specs.Canon as canon
use Rattle.action_print.specs.Canon.{in_parens, selection_words, guard_words, units, conjs, sum_words, further_terms, term_words, port_words}
use Rattle.text_tokens.proofs.LinesLemmas.{Rereads, rereads_by, rereads_two, rereads_alone, rereads_none}
use Rattle.text_tokens.proofs.InSequence.{rereads_both, rereads_three, rereads_four, rereads_six}
use Rattle.action_print.proofs.Leaves.{a_word, a_sign, free_of, opens_fine, binds_fine, a_name, a_number, an_atom, a_quantifier, a_side, an_end, a_comparison, a_test, a_set, a_dirterm, a_minus, a_joint}

-- ---- what is read is the same tree, lines aside

abbrev pub IsGuardOf : Guard → Guard → Type 0
IsGuardOf g h = bare_guard h ≡ bare_guard g

abbrev pub AreGuardsOf : Guards → Guards → Type 0
AreGuardsOf gs hs = bare_guards hs ≡ bare_guards gs

abbrev pub IsSumOf : Sum → Sum → Type 0
IsSumOf s t = bare_sum t ≡ bare_sum s

abbrev pub IsTermOf : Term → Term → Type 0
IsTermOf t u = bare_term u ≡ bare_term t

abbrev pub IsPortOf : PortExpr → PortExpr → Type 0
IsPortOf p q = bare_port q ≡ bare_port p

pub record IsSelectionOf (v : Name) (s : PortSet) (g : Guard) (c : Selection) : Type 0 where
  pub name : bare_name c.name ≡ bare_name v
  pub set : c.set ≡ s
  pub guard : bare_guard c.guard ≡ bare_guard g

-- ---- single forms

pub selection_read : {n left : ℕ} (v : Name) (s : PortSet) (g : Guard) → is_name v.text ≡ true → Rereads (IsExpr n left) (IsGuardOf g) (guard_words g) → Rereads (IsSelection (suc n) (suc left)) (IsSelectionOf v s g) (selection_words v.text s (guard_words g))
selection_read {n = n} {left = left} v s g e expr =
    rereads_six (λ t i u o h c. selection t u h) (λ xs ys zs ls ms ns a b c d f k p q r u w x. is_selection p q r u w x) (λ a b c d f k p q r u w x. record { name = p; set = r; guard = w })
    (a_name (binds_fine left) v e) (a_word free_of InWord (codes "in") refl refl) (a_set s) (a_sign (opens_fine n) OpenSign (codes "(") refl refl refl) expr (a_sign free_of CloseSign (codes ")") refl refl refl)

in_parens_read : {n left : ℕ} (g : Guard) (ws : Words) → Rereads (IsExpr n left) (IsGuardOf g) ws → Rereads (IsUnit (suc n) left) (IsGuardOf g) (in_parens ws)
in_parens_read {n = n} g ws expr = rereads_three (λ o h c. h) (λ xs ys zs a h c p q r. is_parens p q r) (λ a h c p q r. q) (a_sign (opens_fine n) OpenSign (codes "(") refl refl refl) expr (a_sign free_of CloseSign (codes ")") refl refl refl)

unit_conj : {n left : ℕ} {R : Guard → Type 0} (ws : Words) → Rereads (IsUnit n left) R ws → Rereads (IsConj n left) R ws
unit_conj {R = R} ws u =
    rereads_alone ws (rereads_two {S = λ gs. gs ≡ no_guards} (λ g gs. all_of g gs) (λ xs ys g gs p q. grammar.is_conj p q) (λ g gs p e. subst (λ (hs : Guards). R (all_of g hs)) (sym e) p) u (rereads_none no_guards no_more_units refl))

conj_expr : {n left : ℕ} {R : Guard → Type 0} (ws : Words) → Rereads (IsConj n left) R ws → Rereads (IsExpr n left) R ws
conj_expr {R = R} ws c =
    rereads_alone ws (rereads_two {S = λ gs. gs ≡ no_guards} (λ g gs. any_of g gs) (λ xs ys g gs p q. is_expr p q) (λ g gs p e. subst (λ (hs : Guards). R (any_of g hs)) (sym e) p) c (rereads_none no_guards no_more_conjs refl))

-- ---- guards by the narrowest production that they are of

abbrev BareReads : ℕ → ℕ → Guard → Type 0
BareReads n left (conjunction gs) = Rereads (IsConj n left) (IsGuardOf (conjunction gs)) (guard_words (conjunction gs))
BareReads n left (disjunction gs) = Rereads (IsExpr n left) (IsGuardOf (disjunction gs)) (guard_words (disjunction gs))
BareReads n left g = Rereads (IsUnit n left) (IsGuardOf g) (guard_words g)

-- where levels are left for it
abbrev BareReadsFrom : ℕ → Guard → Type 0
BareReadsFrom left g = (n : ℕ) → guard_levels g ≤ n → BareReads n left g

pub as_expr : (n left : ℕ) (g : Guard) → BareReads n left g → Rereads (IsExpr n left) (IsGuardOf g) (guard_words g)
as_expr n left (conjunction gs) b = conj_expr (guard_words (conjunction gs)) b
as_expr n left (disjunction gs) b = b
as_expr n left (atom a) b = conj_expr (guard_words (atom a)) (unit_conj (guard_words (atom a)) b)
as_expr n left (negation g) b = conj_expr (guard_words (negation g)) (unit_conj (guard_words (negation g)) b)
as_expr n left (quantified q v s g) b = conj_expr (guard_words (quantified q v s g)) (unit_conj (guard_words (quantified q v s g)) b)
as_expr n left (tested t p) b = conj_expr (guard_words (tested t p)) (unit_conj (guard_words (tested t p)) b)
as_expr n left (comparison x c y) b = conj_expr (guard_words (comparison x c y)) (unit_conj (guard_words (comparison x c y)) b)

or_in_parens : (n left : ℕ) (gs : Guards) → BareReadsFrom left (disjunction gs) → suc (guard_levels (disjunction gs)) ≤ n → Rereads (IsUnit n left) (IsGuardOf (disjunction gs)) (in_parens (guard_words (disjunction gs)))
or_in_parens zero left gs b l = absurd (omega (arith, l))
or_in_parens (suc n) left gs b l = in_parens_read (disjunction gs) (guard_words (disjunction gs)) (b n (omega (arith, l)))

and_in_parens : (n left : ℕ) (gs : Guards) → BareReadsFrom left (conjunction gs) → suc (guard_levels (conjunction gs)) ≤ n → Rereads (IsUnit n left) (IsGuardOf (conjunction gs)) (in_parens (guard_words (conjunction gs)))
and_in_parens zero left gs b l = absurd (omega (arith, l))
and_in_parens (suc n) left gs b l = in_parens_read (conjunction gs) (guard_words (conjunction gs)) (conj_expr (guard_words (conjunction gs)) (b n (omega (arith, l))))

as_unit : (n left : ℕ) (g : Guard) → BareReadsFrom left g → levels_unless (is_unit g) (guard_levels g) ≤ n → Rereads (IsUnit n left) (IsGuardOf g) (canon.parens_unless (is_unit g) (guard_words g))
as_unit n left (conjunction gs) b l = and_in_parens n left gs b l
as_unit n left (disjunction gs) b l = or_in_parens n left gs b l
as_unit n left (atom a) b l = b n l
as_unit n left (negation g) b l = b n l
as_unit n left (quantified q v s g) b l = b n l
as_unit n left (tested t p) b l = b n l
as_unit n left (comparison x c y) b l = b n l

as_conj : (n left : ℕ) (g : Guard) → BareReadsFrom left g → levels_unless (is_conj g) (guard_levels g) ≤ n → Rereads (IsConj n left) (IsGuardOf g) (canon.parens_unless (is_conj g) (guard_words g))
as_conj n left (conjunction gs) b l = b n l
as_conj n left (disjunction gs) b l = unit_conj (in_parens (guard_words (disjunction gs))) (or_in_parens n left gs b l)
as_conj n left (atom a) b l = unit_conj (guard_words (atom a)) (b n l)
as_conj n left (negation g) b l = unit_conj (guard_words (negation g)) (b n l)
as_conj n left (quantified q v s g) b l = unit_conj (guard_words (quantified q v s g)) (b n l)
as_conj n left (tested t p) b l = unit_conj (guard_words (tested t p)) (b n l)
as_conj n left (comparison x c y) b l = unit_conj (guard_words (comparison x c y)) (b n l)

-- ---- lists

-- two elements or more are no element alone
all_of_same : (g k h : Guard) (gs hs : Guards) → IsGuardOf g k → AreGuardsOf (guard_then h hs) gs → IsGuardOf (conjunction (guard_then g (guard_then h hs))) (all_of k gs)
all_of_same g k h no_guards hs e f = absurd cc
all_of_same g k h (guard_then l ls) hs e f = cc

any_of_same : (g k h : Guard) (gs hs : Guards) → IsGuardOf g k → AreGuardsOf (guard_then h hs) gs → IsGuardOf (disjunction (guard_then g (guard_then h hs))) (any_of k gs)
any_of_same g k h no_guards hs e f = absurd cc
any_of_same g k h (guard_then l ls) hs e f = cc

-- elements behind the first, each behind its word
abbrev UnitsRead : ℕ → ℕ → ℕ → Guards → Type 0
UnitsRead n left room gs = Rereads (IsUnits n left room) (AreGuardsOf gs) (flat_map (λ vs. codes "and" ∷ vs) (units gs))

abbrev ConjsRead : ℕ → ℕ → ℕ → Guards → Type 0
ConjsRead n left room gs = Rereads (IsConjs n left room) (AreGuardsOf gs) (flat_map (λ vs. codes "or" ∷ vs) (conjs gs))

more_units_read : (n left room : ℕ) (g : Guard) (gs : Guards) → Rereads (IsUnit n left) (IsGuardOf g) (canon.parens_unless (is_unit g) (guard_words g)) → UnitsRead n left room gs → UnitsRead n left (suc room) (guard_then g gs)
more_units_read n left room g gs u us =
    rereads_two (λ c hs. guard_then c.1 hs) (λ xs ys c hs b m. subst (λ (zs : List Symbol). IsUnits n left (suc room) (zs ++ ys) (guard_then c.1 hs)) (sym b.whole) (more_units b.first b.second m)) (λ c hs p q. (let e = p.1 in cc))
    (rereads_both (a_word free_of AndWord (codes "and") refl refl) u) us

more_conjs_read : (n left room : ℕ) (g : Guard) (gs : Guards) → Rereads (IsConj n left) (IsGuardOf g) (canon.parens_unless (is_conj g) (guard_words g)) → ConjsRead n left room gs → ConjsRead n left (suc room) (guard_then g gs)
more_conjs_read n left room g gs u us =
    rereads_two (λ c hs. guard_then c.1 hs) (λ xs ys c hs b m. subst (λ (zs : List Symbol). IsConjs n left (suc room) (zs ++ ys) (guard_then c.1 hs)) (sym b.whole) (more_conjs b.first b.second m)) (λ c hs p q. (let e = p.1 in cc))
    (rereads_both (a_word free_of OrWord (codes "or") refl refl) u) us

and_read : (n left : ℕ) (g h : Guard) (hs : Guards) → Rereads (IsUnit n left) (IsGuardOf g) (canon.parens_unless (is_unit g) (guard_words g)) → UnitsRead n left most_further (guard_then h hs)
    → Rereads (IsConj n left) (IsGuardOf (conjunction (guard_then g (guard_then h hs)))) (guard_words (conjunction (guard_then g (guard_then h hs))))
and_read n left g h hs u us = rereads_two (λ k gs. all_of k gs) (λ xs ys k gs p q. grammar.is_conj p q) (λ k gs p q. all_of_same g k h gs hs p q) u us

or_read : (n left : ℕ) (g h : Guard) (hs : Guards) → Rereads (IsConj n left) (IsGuardOf g) (canon.parens_unless (is_conj g) (guard_words g)) → ConjsRead n left most_further (guard_then h hs)
    → Rereads (IsExpr n left) (IsGuardOf (disjunction (guard_then g (guard_then h hs)))) (guard_words (disjunction (guard_then g (guard_then h hs))))
or_read n left g h hs u us = rereads_two (λ k gs. any_of k gs) (λ xs ys k gs p q. is_expr p q) (λ k gs p q. any_of_same g k h gs hs p q) u us

more_terms_read : (n left room : ℕ) (minus : Bool) (t : Term) (s : Sum) → Rereads (IsTerm n left) (IsTermOf t) (term_words t) → Rereads (IsTerms n left room) (IsSumOf s) (further_terms s)
    → Rereads (IsTerms n left (suc room)) (IsSumOf (term_then minus t s)) (further_terms (term_then minus t s))
more_terms_read n left room minus t s u us =
    rereads_two (λ c rest. term_then (is_a MinusSign c.0) c.1 rest) (λ xs ys c rest b m. subst (λ (zs : List Symbol). IsTerms n left (suc room) (zs ++ ys) (term_then (is_a MinusSign c.0) c.1 rest)) (sym b.whole) (more_terms b.first b.second m))
    (λ c rest p q. (let sign = p.0 in let term = p.1 in cc)) (rereads_both (a_joint minus) u) us

sum_read : (n left : ℕ) (minus : Bool) (t : Term) (s : Sum) → Rereads (IsTerm n left) (IsTermOf t) (term_words t) → Rereads (IsTerms n left most_further) (IsSumOf s) (further_terms s)
    → Rereads (IsSum n left) (IsSumOf (term_then minus t s)) (sum_words (term_then minus t s))
sum_read n left minus t s u us = rereads_three (λ m v rest. term_then m v rest) (λ xs ys zs m v rest p q r. is_sum p q r) (λ m v rest p q r. (cc)) (a_minus minus) u us

mod6_read : (n left : ℕ) (s : Sum) → Rereads (IsSum n left) (IsSumOf s) (sum_words s) → Rereads (IsTerm (suc n) left) (IsTermOf (mod6 s)) (term_words (mod6 s))
mod6_read n left s sum =
    rereads_four (λ t o x c. mod6 x) (λ xs ys zs os t o x c a b p q. is_mod6 a b p q) (λ t o x c a b p q. ap mod6 p) (a_word free_of Mod6Word (codes "mod6") refl refl) (a_sign (opens_fine n) OpenSign (codes "(") refl refl refl) sum (a_sign free_of CloseSign (codes ")") refl refl refl)

-- ---- each form

mutual
  pub guard_read : (g : Guard) (left : ℕ) → guard_names g ≤ left → is_guard g ≡ true → BareReadsFrom left g
  guard_read (atom a) left m f n l = rereads_by (λ t. atom (as_atom t)) (λ xs t p. is_atom p) (λ t e. ap atom e) (an_atom a)
  guard_read (negation g) left m f zero l = absurd (omega (arith, l))
  guard_read (negation g) left m f (suc n) l =
      rereads_two (λ t h. negation h) (λ xs ys t h p q. is_not p q) (λ t h p q. ap negation q) (a_word (opens_fine n) NotWord (codes "not") refl refl) (as_unit n left g (guard_read g left m f) (omega (arith, l)))
  guard_read (conjunction (guard_then g (guard_then h hs))) left m f n l =
      let gs = guard_then g (guard_then h hs) in
      let e : are_guards gs ≡ true = right_of (is_count_from 2 (guard_count gs)) (are_guards gs) f in
      let k = upto 2 (guard_count gs) most_elements (left_of (is_count_from 2 (guard_count gs)) (are_guards gs) f) in
      and_read n left g h hs (as_unit n left g (guard_read g left (omega (arith, m)) (left_of (is_guard g) (are_guards (guard_then h hs)) e)) (omega (arith, l))) (units_read (guard_then h hs) n left 63 (omega (arith, l)) (omega (arith, m)) (omega (arith, k)) (right_of (is_guard g) (are_guards (guard_then h hs)) e))
  guard_read (conjunction (guard_then g no_guards)) left m f n l = absurd (omega (arith, from 2 (guard_count (guard_then g no_guards)) most_elements (left_of (is_count_from 2 (guard_count (guard_then g no_guards))) (are_guards (guard_then g no_guards)) f)))
  guard_read (conjunction no_guards) left m f n l = absurd (omega (arith, from 2 (guard_count no_guards) most_elements (left_of (is_count_from 2 (guard_count no_guards)) (are_guards no_guards) f)))
  guard_read (disjunction (guard_then g (guard_then h hs))) left m f n l =
      let gs = guard_then g (guard_then h hs) in
      let e : are_guards gs ≡ true = right_of (is_count_from 2 (guard_count gs)) (are_guards gs) f in
      let k = upto 2 (guard_count gs) most_elements (left_of (is_count_from 2 (guard_count gs)) (are_guards gs) f) in
      or_read n left g h hs (as_conj n left g (guard_read g left (omega (arith, m)) (left_of (is_guard g) (are_guards (guard_then h hs)) e)) (omega (arith, l))) (conjs_read (guard_then h hs) n left 63 (omega (arith, l)) (omega (arith, m)) (omega (arith, k)) (right_of (is_guard g) (are_guards (guard_then h hs)) e))
  guard_read (disjunction (guard_then g no_guards)) left m f n l = absurd (omega (arith, from 2 (guard_count (guard_then g no_guards)) most_elements (left_of (is_count_from 2 (guard_count (guard_then g no_guards))) (are_guards (guard_then g no_guards)) f)))
  guard_read (disjunction no_guards) left m f n l = absurd (omega (arith, from 2 (guard_count no_guards) most_elements (left_of (is_count_from 2 (guard_count no_guards)) (are_guards no_guards) f)))
  guard_read (quantified q v s g) zero m f n l = absurd (omega (arith, m))
  guard_read (quantified q v s g) (suc left) m f zero l = absurd (omega (arith, l))
  guard_read (quantified q v s g) (suc left) m f (suc n) l =
      rereads_two (λ t c. quantified (as_quantifier t) c.name c.set c.guard) (λ xs ys t c p r. is_quantified p r) (λ t c p r. (cc)) (a_quantifier q)
      (selection_read v s g (left_of _ _ f) (as_expr n left g (guard_read g left (omega (arith, m)) (right_of _ _ f) n (omega (arith, l)))))
  guard_read (tested t p) left m f n l = rereads_two (λ u q. tested (as_test u) q) (λ xs ys u q r s. is_tested r s) (λ u q r s. (cc)) (a_test t) (port_read p n left l m f)
  guard_read (comparison a c b) left m f n l =
      rereads_three (λ x u y. comparison x (as_cmp u) y) (λ xs ys zs x u y p q r. is_compared p q r) (λ x u y p q r. (cc))
      (whole_sum_read a n left (omega (arith, l)) (omega (arith, m)) (left_of _ _ f)) (a_comparison c) (whole_sum_read b n left (omega (arith, l)) (omega (arith, m)) (right_of _ _ f))

  pub units_read : (gs : Guards) (n left room : ℕ) → unit_levels gs ≤ n → guards_names gs ≤ left → guard_count gs ≤ room → are_guards gs ≡ true → UnitsRead n left room gs
  units_read no_guards n left room l m k f = rereads_none no_guards no_more_units refl
  units_read (guard_then g gs) n left zero l m k f = absurd (omega (arith, k))
  units_read (guard_then g gs) n left (suc room) l m k f =
      more_units_read n left room g gs (as_unit n left g (guard_read g left (omega (arith, m)) (left_of _ _ f)) (omega (arith, l))) (units_read gs n left room (omega (arith, l)) (omega (arith, m)) (omega (arith, k)) (right_of _ _ f))

  pub conjs_read : (gs : Guards) (n left room : ℕ) → conj_levels gs ≤ n → guards_names gs ≤ left → guard_count gs ≤ room → are_guards gs ≡ true → ConjsRead n left room gs
  conjs_read no_guards n left room l m k f = rereads_none no_guards no_more_conjs refl
  conjs_read (guard_then g gs) n left zero l m k f = absurd (omega (arith, k))
  conjs_read (guard_then g gs) n left (suc room) l m k f =
      more_conjs_read n left room g gs (as_conj n left g (guard_read g left (omega (arith, m)) (left_of _ _ f)) (omega (arith, l))) (conjs_read gs n left room (omega (arith, l)) (omega (arith, m)) (omega (arith, k)) (right_of _ _ f))

  pub whole_sum_read : (s : Sum) (n left : ℕ) → sum_levels s ≤ n → sum_names s ≤ left → writable.is_sum s ≡ true → Rereads (IsSum n left) (IsSumOf s) (sum_words s)
  whole_sum_read no_terms n left l m f = absurd (omega (arith, from 1 (term_count no_terms) most_elements (left_of (is_count_from 1 (term_count no_terms)) (are_terms no_terms) f)))
  whole_sum_read (term_then minus t s) n left l m f =
      let all = term_then minus t s in
      let e : are_terms all ≡ true = right_of (is_count_from 1 (term_count all)) (are_terms all) f in
      let k = upto 1 (term_count all) most_elements (left_of (is_count_from 1 (term_count all)) (are_terms all) f) in
      sum_read n left minus t s (term_read t n left (omega (arith, l)) (omega (arith, m)) (left_of (is_term t) (are_terms s) e)) (terms_read s n left 63 (omega (arith, l)) (omega (arith, m)) (omega (arith, k)) (right_of (is_term t) (are_terms s) e))

  pub terms_read : (s : Sum) (n left room : ℕ) → sum_levels s ≤ n → sum_names s ≤ left → term_count s ≤ room → are_terms s ≡ true → Rereads (IsTerms n left room) (IsSumOf s) (further_terms s)
  terms_read no_terms n left room l m k f = rereads_none no_terms no_more_terms refl
  terms_read (term_then minus t s) n left zero l m k f = absurd (omega (arith, k))
  terms_read (term_then minus t s) n left (suc room) l m k f =
      more_terms_read n left room minus t s (term_read t n left (omega (arith, l)) (omega (arith, m)) (left_of _ _ f)) (terms_read s n left room (omega (arith, l)) (omega (arith, m)) (omega (arith, k)) (right_of _ _ f))

  pub term_read : (t : Term) (n left : ℕ) → term_levels t ≤ n → term_names t ≤ left → is_term t ≡ true → Rereads (IsTerm n left) (IsTermOf t) (term_words t)
  term_read (number x) n left l m f = rereads_by (λ t. number (as_literal t)) (λ xs t p. is_number p) (λ t e. ap number e) (a_number x f)
  term_read (own v) n left l m f = rereads_by (λ t. own (as_name t)) (λ xs t p. is_own p) (λ t e. ap own e) (a_name free_of v f)
  term_read (of_port p v) n left l m f =
      rereads_three (λ q d t. of_port q (as_name t)) (λ xs ys zs q d t a b c. is_of_port a b c) (λ q d t a b c. (cc)) (port_read p n left l m (left_of _ _ f)) (a_sign free_of DotSign (codes ".") refl refl refl) (a_name free_of v (right_of _ _ f))
  term_read (count v s g) zero left l m f = absurd (omega (arith, l))
  term_read (count v s g) (suc n) zero l m f = absurd (omega (arith, m))
  term_read (count v s g) (suc n) (suc left) l m f =
      rereads_two (λ t c. count c.name c.set c.guard) (λ xs ys t c p r. is_count p r) (λ t c p r. (cc)) (a_word free_of CountWord (codes "count") refl refl)
      (selection_read v s g (left_of _ _ f) (as_expr n left g (guard_read g left (omega (arith, m)) (right_of _ _ f) n (omega (arith, l)))))
  term_read (direction side p) n left l m f = rereads_two (λ t q. direction (as_side t) q) (λ xs ys t q a b. is_direction a b) (λ t q a b. (cc)) (a_side side) (port_read p n left l m f)
  term_read inner n left l m f = rereads_by (λ t. inner) (λ xs t p. is_inner p) (λ t e. refl) (a_word free_of InnerWord (codes "inner") refl refl)
  term_read (mod6 s) zero left l m f = absurd (omega (arith, l))
  term_read (mod6 s) (suc n) left l m f = mod6_read n left s (whole_sum_read s n left (omega (arith, l)) m f)

  pub port_read : (p : PortExpr) (n left : ℕ) → port_levels p ≤ n → port_names p ≤ left → is_port p ≡ true → Rereads (IsPort n left) (IsPortOf p) (port_words p)
  port_read (bound v) n left l m f = rereads_by (λ t. bound (as_name t)) (λ xs t p. is_bound p) (λ t s. ap bound s) (a_name free_of v f)
  port_read (at_end e d) n left l m f = rereads_two (λ t u. at_end (as_end t) (as_dirterm u)) (λ xs ys t u p q. is_end p q) (λ t u p q. (cc)) (an_end e) (a_dirterm d f)
  port_read (turned p x) zero left l m f = absurd (omega (arith, l))
  port_read (turned p x) (suc n) left l m f =
      rereads_three (λ t q u. turned q (as_literal u)) (λ xs ys zs t q u a b c. is_turn a b c) (λ t q u a b c. (cc)) (a_word (opens_fine n) TurnWord (codes "turn") refl refl) (port_read p n left (omega (arith, l)) m (left_of _ _ f)) (a_number x (right_of _ _ f))
  port_read (first v s g) zero left l m f = absurd (omega (arith, l))
  port_read (first v s g) (suc n) zero l m f = absurd (omega (arith, m))
  port_read (first v s g) (suc n) (suc left) l m f =
      rereads_two (λ t c. first c.name c.set c.guard) (λ xs ys t c p r. is_first p r) (λ t c p r. (cc)) (a_word free_of FirstWord (codes "first") refl refl)
      (selection_read v s g (left_of _ _ f) (as_expr n left g (guard_read g left (omega (arith, m)) (right_of _ _ f) n (omega (arith, l)))))
