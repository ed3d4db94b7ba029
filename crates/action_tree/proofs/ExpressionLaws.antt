-- Expressions are parts of the grammar, by the levels that are left.
use Rattle.std.proofs.Common.{◌≡◌, ℕ, zero, suc, Bool, true, false, cond, [], None, refl}
use Rattle.text_tokens.specs.Text.{Lexeme}
use Rattle.text_tokens.specs.Reading.{Reader, ◌>>=◌, pure, refuse, one, no_limit, opening_token, deep_at, optional, less, chained}
use Rattle.text_tokens.specs.Grammar.{Lang, IsOne, is_one, Then, Made, made, is_nothing, of_second, no_more}
use Rattle.text_tokens.specs.Lawful.{Exact, IsPart, always, SomeText, Starts, AreChained, IsHandled, handled, no_role}
use Rattle.text_tokens.proofs.Exactness.{exact}
use Rattle.text_tokens.proofs.CarriedTexts.{part_same, part_made}
use Rattle.text_tokens.proofs.Parts.{part_one, part_after, part_before}
use Rattle.text_tokens.proofs.StartsLemmas.{starts_one, starts_made, starts_then}
use Rattle.text_tokens.proofs.ChoiceLemmas.{part_optional, part_limited, part_roles}
use Rattle.text_tokens.proofs.RepeatedLemmas.{part_chained}
use Rattle.action_tree.specs.Trees.{Guard, atom, negation, quantified, tested, comparison, guards, Sum, term_then, Term, number, own, of_port, count, direction, inner, mod6, PortExpr, bound, at_end, turned, first, terms}
use Rattle.action_tree.specs.Productions.{all_of, any_of}
use Rattle.action_tree.specs.Limits.{most_further}
use Rattle.action_tree.specs.declared.role.Role.{Role}
use Rattle.action_tree.specs.declared.role.Role.TheVariants.{AName, ANumber, OpenSign, CloseSign, DotSign, PlusSign, MinusSign, CompareSign, AtomWord, NotWord, AndWord, OrWord, QuantifierWord, TestWord, FreeWord, PortsWord, InWord, CountWord, SideWord, InnerWord, Mod6Word, EndWord, TurnWord, FirstWord}
use Rattle.action_tree.specs.Roles.{role, is_a, is_test, is_set, is_dirterm, is_plus_or_minus, as_name, as_literal, as_dirterm, as_end, as_atom, as_quantifier, as_test, as_side, as_cmp}
use Rattle.action_tree.specs.Expressions.{IsA, Opens, bound_at, IsMinus, Selection, selection, IsPort, IsSelection, IsTerm, IsSum, IsUnit, IsConj, IsExpr}
use Rattle.action_tree.specs.ExpressionReaders.{level_limit, begins_term, begins_sum, begins_unit, Readers, a_selection, port_by, a_port, member, term_by, a_term, a_minus, part, part_in, a_sum, a_comparison, a_test, unit_by, a_unit, unit_in, a_conj, conj_in, an_expr, readers, inside, expr_at}
use Rattle.action_tree.proofs.RolesLemmas.{example, passes, passes_set, passes_dirterm, passes_sign, passes_test, ends, ends_at, stops_term, stops_sum, stops_conj, stops_expr, sum_term, conj_sum, expr_conj, sign_term, no_sign, no_dot, term_minus, no_and, no_or, some_made, some_then, some_a, some_token, some_behind, part_a, part_token, part_next, part_led, meets, part_joined, part_ended, some_ended, part_any}
use Rattle.action_tree.proofs.ExpressionRoles.{some_port, some_sum, some_unit, some_expr, some_selection, PortBy, roles_port, SelectionBy, selection_from, selection_to, Member, Named, TermBy, roles_term, starts_term, signed, PartIn, Added, SumBy, sum_from, sum_to, Compared, Tested, OrNone, UnitBy, roles_unit, starts_unit, UnitIn, ConjBy, conj_from, conj_to, starts_conj, ConjIn, ExprBy, expr_from, expr_to}

-- the parts of one number of levels
pub record Parts (n left : ℕ) (r : Readers) : Type 0 where
  pub port : IsPart (IsPort n left) r.port always
  pub sum : IsPart (IsSum n left) r.sum (ends stops_sum)
  pub unit : IsPart (IsUnit n left) r.unit (ends stops_sum)
  pub expr : IsPart (IsExpr n left) r.expr (ends stops_expr)

-- from those of one level less, behind what opens a level
module _ (n left : ℕ) (below : ℕ → Readers) (under : (t : Lexeme) → deep_at n t ≡ None → (left : ℕ) → Parts (less n) left (below left)) where
  -- ---- a name for the ports of a set, with a guard

  module _ (v s : Lexeme) where
    abbrev InParens : Lang Selection
    InParens = Then (IsExpr (less n) (less left)) (λ g. Made (IsA CloseSign) (λ c. selection v s g))

    abbrev in_parens : Reader Selection
    in_parens = (below (less left)).expr >>= λ g. one (is_a CloseSign) >>= λ c. pure (selection v s g)

    some_parens : SomeText InParens
    some_parens = some_ended (IsExpr (less n) (less left)) CloseSign (λ g c. selection v s g) (some_expr (less n) (less left))

    part_parens : IsPart (Then (Opens OpenSign n) (λ o. InParens)) (opening_token n (is_a OpenSign) >>= λ o. in_parens) always
    part_parens = part_next OpenSign (deep_at n) (λ o. InParens) (λ o. in_parens) always (λ o. some_parens)
        (λ o e. part_ended (IsExpr (less n) (less left)) (below (less left)).expr (ends stops_expr) CloseSign (λ g c. selection v s g) (under o e (less left)).expr (ends_at stops_expr CloseSign refl))

  module _ (v : Lexeme) where
    abbrev InSet : Lang Selection
    InSet = Then (IsOne is_set no_limit) (λ s. Then (Opens OpenSign n) (λ o. InParens v s))

    abbrev in_set : Reader Selection
    in_set = one is_set >>= λ s. opening_token n (is_a OpenSign) >>= λ o. in_parens v s

    some_set : SomeText InSet
    some_set = some_then (IsOne is_set no_limit) (λ s. Then (Opens OpenSign n) (λ o. InParens v s)) (record { text = _; whole = example PortsWord; is = is_one (example PortsWord) passes_set }) (λ s. some_behind OpenSign (deep_at n) (λ o. InParens v s) (λ o. some_parens v s))

    part_set : IsPart InSet in_set always
    part_set = part_after is_set no_limit (example PortsWord) passes_set (λ s. Then (Opens OpenSign n) (λ o. InParens v s)) (λ s. opening_token n (is_a OpenSign) >>= λ o. in_parens v s) always
        (λ s. some_behind OpenSign (deep_at n) (λ o. InParens v s) (λ o. some_parens v s)) (λ s e fine. part_parens v s)

  part_selection : IsPart (IsSelection n left) (a_selection n left below) always
  unfolding a_selection
  part_selection = part_same (SelectionBy n left) (IsSelection n left) (selection_from n left) (selection_to n left) _ always
      (part_next AName (bound_at left) (λ v. Then (IsA InWord) (λ i. InSet v)) (λ v. one (is_a InWord) >>= λ i. in_set v) always (λ v. some_behind InWord no_limit (λ i. InSet v) (λ i. some_set v))
      (λ v e. part_next InWord no_limit (λ i. InSet v) (λ i. in_set v) always (λ i. some_set v) (λ i e. part_set v)))

  -- ---- ports

  port_roles : (r : Role) → IsHandled (PortBy n left r) (port_by n left below r) always
  port_roles AName = handled (part_token AName (λ v. bound (as_name v)))
  port_roles EndWord = handled (part_next EndWord no_limit (λ e. Made (IsOne is_dirterm no_limit) (λ d. at_end (as_end e) (as_dirterm d))) (λ e. one is_dirterm >>= λ d. pure (at_end (as_end e) (as_dirterm d))) always
      (λ e. record { text = _; whole = _; is = made (example ANumber) (is_one (example ANumber) passes_dirterm) })
      (λ e f. part_made (IsOne is_dirterm no_limit) (λ d. at_end (as_end e) (as_dirterm d)) (one is_dirterm) always (part_one is_dirterm no_limit (example ANumber) passes_dirterm)))
  port_roles TurnWord = handled (part_next TurnWord (deep_at n) (λ t. Then (IsPort (less n) left) (λ p. Made (IsA ANumber) (λ m. turned p (as_literal m)))) (λ t. (below left).port >>= λ p. one (is_a ANumber) >>= λ m. pure (turned p (as_literal m))) always
      (λ t. some_ended (IsPort (less n) left) ANumber (λ p m. turned p (as_literal m)) (some_port (less n) left))
      (λ t e. part_ended (IsPort (less n) left) (below left).port always ANumber (λ p m. turned p (as_literal m)) (under t e left).port (λ u e. refl)))
  port_roles FirstWord = handled (part_led FirstWord no_limit (IsSelection n left) (a_selection n left below) (λ t c. first c.name c.set c.guard) always (some_selection n left) (λ t e. part_selection))
  port_roles _ = no_role (λ xs p is. is) refl

  part_port : IsPart (IsPort n left) (a_port n left below) always
  unfolding a_port
  part_port = part_roles role (level_limit n) (PortBy n left) (IsPort n left) (roles_port n left) (port_by n left below) always port_roles

  -- ---- terms

  part_member : (p : PortExpr) → IsPart (Member p) (member p) always
  part_member p = part_led DotSign no_limit (IsA AName) (one (is_a AName)) (λ d v. of_port p (as_name v)) always (some_a AName) (λ d e. part_a AName)

  starts_member : (p : PortExpr) → Starts (Member p) (is_a DotSign) no_limit
  starts_member p = starts_then (IsA DotSign) (λ d. Made (IsA AName) (λ v. of_port p (as_name v))) (is_a DotSign) no_limit (starts_one (is_a DotSign) no_limit) (λ d. some_token AName (λ v. of_port p (as_name v)))

  part_named : (v : Lexeme) → IsPart (Named v) (optional (is_a DotSign) (own (as_name v)) (member (bound (as_name v)))) (ends stops_term)
  part_named v = let p = bound (as_name v) in
      part_optional (own (as_name v)) (Member p) (member p) (is_a DotSign) no_limit (ends stops_term) (starts_member p) (part_any (Member p) (member p) (ends stops_term) (part_member p)) (λ t e. no_dot (role t) e)

  part_of : IsPart (Then (IsPort n left) Member) (a_port n left below >>= member) (ends stops_term)
  part_of = part_before (IsPort n left) (a_port n left below) Member member always (ends stops_term) part_port
      (λ p. part_any (Member p) (member p) (ends stops_term) (part_member p)) (λ p. meets (Member p) (is_a DotSign) always (ends stops_term) no_limit (starts_member p) (λ t e. refl))

  any_term : (P : Lang Term) (p : Reader Term) → IsPart P p always → IsHandled P p (ends stops_term)
  any_term P p part = handled (part_any P p (ends stops_term) part)

  abbrev Summed : Lang Term
  Summed = Then (IsSum (less n) left) (λ s. Made (IsA CloseSign) (λ c. mod6 s))

  abbrev summed : Reader Term
  summed = (below left).sum >>= λ s. one (is_a CloseSign) >>= λ c. pure (mod6 s)

  some_summed : SomeText Summed
  some_summed = some_ended (IsSum (less n) left) CloseSign (λ s c. mod6 s) (some_sum (less n) left)

  term_roles : (r : Role) → IsHandled (TermBy n left r) (term_by n left below r) (ends stops_term)
  term_roles ANumber = any_term (TermBy n left ANumber) (term_by n left below ANumber) (part_token ANumber (λ m. number (as_literal m)))
  term_roles AName = handled (part_next AName no_limit Named (λ v. optional (is_a DotSign) (own (as_name v)) (member (bound (as_name v)))) (ends stops_term) (λ v. record { text = []; whole = own (as_name v); is = of_second is_nothing }) (λ v e. part_named v))
  term_roles EndWord = handled part_of
  term_roles TurnWord = handled part_of
  term_roles FirstWord = handled part_of
  term_roles CountWord = any_term (TermBy n left CountWord) (term_by n left below CountWord) (part_led CountWord no_limit (IsSelection n left) (a_selection n left below) (λ t c. count c.name c.set c.guard) always (some_selection n left) (λ t e. part_selection))
  term_roles SideWord = any_term (TermBy n left SideWord) (term_by n left below SideWord) (part_led SideWord no_limit (IsPort n left) (a_port n left below) (λ t p. direction (as_side t) p) always (some_port n left) (λ t e. part_port))
  term_roles InnerWord = any_term (TermBy n left InnerWord) (term_by n left below InnerWord) (part_token InnerWord (λ t. inner))
  term_roles Mod6Word = any_term (TermBy n left Mod6Word) (term_by n left below Mod6Word) (part_next Mod6Word no_limit (λ t. Then (Opens OpenSign n) (λ o. Summed)) (λ t. opening_token n (is_a OpenSign) >>= λ o. summed) always
      (λ t. some_behind OpenSign (deep_at n) (λ o. Summed) (λ o. some_summed))
      (λ t e. part_next OpenSign (deep_at n) (λ o. Summed) (λ o. summed) always (λ o. some_summed) (λ o e. part_ended (IsSum (less n) left) (below left).sum (ends stops_sum) CloseSign (λ s c. mod6 s) (under o e left).sum (ends_at stops_sum CloseSign refl))))
  term_roles _ = no_role (λ xs s is. is) refl

  part_term : IsPart (IsTerm n left) (a_term n left below) (ends stops_term)
  unfolding a_term
  part_term = part_roles role (level_limit n) (TermBy n left) (IsTerm n left) (roles_term n left) (term_by n left below) (ends stops_term) term_roles

  -- ---- sums

  signed_part : (sign : Lexeme) (room : ℕ) → IsPart (PartIn n left sign room) (part_in n left below sign room) (ends stops_term)
  signed_part sign room = part_limited (Made (IsTerm n left) (signed sign)) (a_term n left below >>= λ t. pure (signed sign t)) (λ t. begins_term (role t)) (level_limit n)
      (starts_made (IsTerm n left) (signed sign) (λ t. begins_term (role t)) (level_limit n) (starts_term n left)) (ends stops_term) (part_made (IsTerm n left) (signed sign) (a_term n left below) (ends stops_term) part_term) room

  abbrev added : Bool → Reader Sum
  added minus = chained (a_term n left below) is_plus_or_minus (part_in n left below) (λ room p. less room) (λ t. most_further) (λ t ps. term_then minus t (terms ps))

  pub terms_chained : AreChained (IsTerm n left) (a_term n left below) is_plus_or_minus (PartIn n left) (part_in n left below) (ends stops_term) (ends stops_sum)
  terms_chained = record {
    passing = example PlusSign;
    passes = passes_sign;
    before = part_term;
    part = signed_part;
    again = λ t e. sign_term (role t) e;
    ends = λ t e. sum_term (role t) e;
    differ = λ t e. no_sign (role t) e;
  }

  part_added : (minus : Bool) → IsPart (Added n left minus) (added minus) (ends stops_sum)
  part_added minus = part_chained (IsTerm n left) (a_term n left below) is_plus_or_minus (PartIn n left) (part_in n left below) (ends stops_term) (ends stops_sum) terms_chained (λ room p. less room) (λ t. most_further) (λ t ps. term_then minus t (terms ps))

  starts_added : (minus : Bool) → Starts (Added n left minus) (λ t. begins_term (role t)) (level_limit n)
  starts_added minus = starts_then (IsTerm n left) _ (λ t. begins_term (role t)) (level_limit n) (starts_term n left) (λ t. record { text = []; whole = term_then minus t (terms []); is = made [] no_more })

  abbrev no_minus : Lexeme → Bool
  no_minus t = begins_term (role t)

  part_minus : IsPart IsMinus a_minus no_minus
  unfolding a_minus
  part_minus = part_optional false (Made (IsA MinusSign) (λ u. true)) (one (is_a MinusSign) >>= λ u. pure true) (is_a MinusSign) no_limit no_minus
      (starts_made (IsA MinusSign) (λ u. true) (is_a MinusSign) no_limit (starts_one (is_a MinusSign) no_limit))
      (part_any (Made (IsA MinusSign) (λ u. true)) (one (is_a MinusSign) >>= λ u. pure true) no_minus (part_token MinusSign (λ u. true))) (λ t e. term_minus (role t) e)

  part_sum : IsPart (IsSum n left) (a_sum n left below) (ends stops_sum)
  unfolding a_sum
  part_sum = part_same (SumBy n left) (IsSum n left) (sum_from n left) (sum_to n left) _ (ends stops_sum)
      (part_before IsMinus a_minus (Added n left) added no_minus (ends stops_sum) part_minus part_added (λ minus. meets (Added n left minus) (λ t. begins_term (role t)) no_minus (ends stops_sum) (level_limit n) (starts_added minus) (λ t e. e)))

  -- ---- units

  part_compared : IsPart (Compared n left) (a_comparison n left below) (ends stops_sum)
  part_compared = part_joined (IsSum n left) (a_sum n left below) (ends stops_sum) CompareSign (λ a c. Made (IsSum n left) (λ b. comparison a (as_cmp c) b)) (λ a c. a_sum n left below >>= λ b. pure (comparison a (as_cmp c) b)) (ends stops_sum) part_sum (ends_at stops_sum CompareSign refl)
      (λ a c. some_made (IsSum n left) (λ b. comparison a (as_cmp c) b) (some_sum n left)) (λ a c. part_made (IsSum n left) (λ b. comparison a (as_cmp c) b) (a_sum n left below) (ends stops_sum) part_sum)

  any_unit : (P : Lang Guard) (p : Reader Guard) → IsPart P p always → IsHandled P p (ends stops_sum)
  any_unit P p part = handled (part_any P p (ends stops_sum) part)

  tested_handled : IsHandled (Tested n left) (a_test n left below) (ends stops_sum)
  tested_handled = any_unit (Tested n left) (a_test n left below) (part_after is_test no_limit (example TestWord) passes_test (λ t. Made (IsPort n left) (λ p. tested (as_test t) p)) (λ t. a_port n left below >>= λ p. pure (tested (as_test t) p)) always
      (λ t. some_made (IsPort n left) (λ p. tested (as_test t) p) (some_port n left)) (λ t e fine. part_made (IsPort n left) (λ p. tested (as_test t) p) (a_port n left below) always part_port))

  compared_handled : (b : Bool) → IsHandled (OrNone b (Compared n left)) (cond b (a_comparison n left below) refuse) (ends stops_sum)
  compared_handled true = handled part_compared
  compared_handled false = no_role (λ xs g is. is) refl

  unit_roles : (r : Role) → IsHandled (UnitBy n left r) (unit_by n left below r) (ends stops_sum)
  unit_roles AtomWord = any_unit (UnitBy n left AtomWord) (unit_by n left below AtomWord) (part_token AtomWord (λ t. atom (as_atom t)))
  unit_roles NotWord = handled (part_led NotWord (deep_at n) (IsUnit (less n) left) (below left).unit (λ t g. negation g) (ends stops_sum) (some_unit (less n) left) (λ t e. (under t e left).unit))
  unit_roles OpenSign = any_unit (UnitBy n left OpenSign) (unit_by n left below OpenSign) (part_next OpenSign (deep_at n) (λ o. Then (IsExpr (less n) left) (λ g. Made (IsA CloseSign) (λ c. g))) (λ o. (below left).expr >>= λ g. one (is_a CloseSign) >>= λ c. pure g) always
      (λ o. some_ended (IsExpr (less n) left) CloseSign (λ g c. g) (some_expr (less n) left))
      (λ o e. part_ended (IsExpr (less n) left) (below left).expr (ends stops_expr) CloseSign (λ g c. g) (under o e left).expr (ends_at stops_expr CloseSign refl)))
  unit_roles QuantifierWord = any_unit (UnitBy n left QuantifierWord) (unit_by n left below QuantifierWord) (part_led QuantifierWord no_limit (IsSelection n left) (a_selection n left below) (λ t c. quantified (as_quantifier t) c.name c.set c.guard) always (some_selection n left) (λ t e. part_selection))
  unit_roles TestWord = tested_handled
  unit_roles FreeWord = tested_handled
  unit_roles r = compared_handled (begins_sum r)

  part_unit : IsPart (IsUnit n left) (a_unit n left below) (ends stops_sum)
  unfolding a_unit
  part_unit = part_roles role (level_limit n) (UnitBy n left) (IsUnit n left) (roles_unit n left) (unit_by n left below) (ends stops_sum) unit_roles

  -- ---- elements of an `and` and of an `or`

  pub units_chained : AreChained (IsUnit n left) (a_unit n left below) (is_a AndWord) (UnitIn n left) (unit_in n left below) (ends stops_sum) (ends stops_conj)
  units_chained = record {
    passing = example AndWord;
    passes = passes AndWord;
    before = part_unit;
    part = λ sign room. part_limited (IsUnit n left) (a_unit n left below) (λ t. begins_unit (role t)) (level_limit n) (starts_unit n left) (ends stops_sum) part_unit room;
    again = ends_at stops_sum AndWord refl;
    ends = λ t e. conj_sum (role t) e;
    differ = λ t e. no_and (role t) e;
  }

  part_conj : IsPart (IsConj n left) (a_conj n left below) (ends stops_conj)
  unfolding a_conj
  part_conj = part_same (ConjBy n left) (IsConj n left) (conj_from n left) (conj_to n left) _ (ends stops_conj) (part_chained (IsUnit n left) (a_unit n left below) (is_a AndWord) (UnitIn n left) (unit_in n left below) (ends stops_sum) (ends stops_conj) units_chained (λ room g. less room) (λ g. most_further) (λ g gs. all_of g (guards gs)))

  pub conjs_chained : AreChained (IsConj n left) (a_conj n left below) (is_a OrWord) (ConjIn n left) (conj_in n left below) (ends stops_conj) (ends stops_expr)
  conjs_chained = record {
    passing = example OrWord;
    passes = passes OrWord;
    before = part_conj;
    part = λ sign room. part_limited (IsConj n left) (a_conj n left below) (λ t. begins_unit (role t)) (level_limit n) (starts_conj n left) (ends stops_conj) part_conj room;
    again = ends_at stops_conj OrWord refl;
    ends = λ t e. expr_conj (role t) e;
    differ = λ t e. no_or (role t) e;
  }

  part_expr : IsPart (IsExpr n left) (an_expr n left below) (ends stops_expr)
  unfolding an_expr
  part_expr = part_same (ExprBy n left) (IsExpr n left) (expr_from n left) (expr_to n left) _ (ends stops_expr) (part_chained (IsConj n left) (a_conj n left below) (is_a OrWord) (ConjIn n left) (conj_in n left below) (ends stops_conj) (ends stops_expr) conjs_chained (λ room g. less room) (λ g. most_further) (λ g gs. any_of g (guards gs)))

  pub parts_with : Parts n left (readers n left below)
  parts_with = record { port = part_port; sum = part_sum; unit = part_unit; expr = part_expr }

-- ---- by the levels that are left

pub parts_inside : (n : ℕ) (t : Lexeme) → deep_at n t ≡ None → (left : ℕ) → Parts (less n) left (inside n left)
unfolding inside
parts_inside zero t e left = absurd cc
parts_inside (suc n) t e left = parts_with n left (inside n) (parts_inside n)

pub parts_at : (n left : ℕ) → Parts n left (readers n left (inside n))
parts_at n left = parts_with n left (inside n) (parts_inside n)

pub part_selection_at : (n left : ℕ) → IsPart (IsSelection n left) (a_selection n left (inside n)) always
part_selection_at n left = part_selection n left (inside n) (parts_inside n)

pub exact_expr : (n left : ℕ) → Exact (IsExpr n left) (expr_at n left)
exact_expr n left = exact (IsExpr n left) (expr_at n left) (parts_at n left).expr.law
