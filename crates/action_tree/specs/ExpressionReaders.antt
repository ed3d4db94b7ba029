-- Readers of expressions, by the role of the next token.
-- What stands one level deeper is read by the readers of one level less.
use Rattle.std.specs.Prelude.{ℕ, zero, suc, Bool, true, false, if◌then◌else◌, Option, None}
use Rattle.text_tokens.specs.declared.refusal.RefusalKind.{RefusalKind}
use Rattle.text_tokens.specs.Text.{Lexeme}
use Rattle.text_tokens.specs.Reading.{Reader, ◌>>=◌, pure, refuse, one_within, one, deep_at, opening_token, optional, by_role, limited, less, chained}
use Rattle.action_tree.specs.Trees.{Guard, atom, negation, quantified, tested, comparison, guards, Sum, Term, number, own, of_port, count, direction, inner, mod6, PortExpr, bound, at_end, turned, first, Part, terms, term_then}
use Rattle.action_tree.specs.Productions.{all_of, any_of}
use Rattle.action_tree.specs.Limits.{most_further}
use Rattle.action_tree.specs.declared.role.Role.{Role}
use Rattle.action_tree.specs.declared.role.Role.TheVariants.{AName, ANumber, OpenSign, CloseSign, DotSign, MinusSign, CompareSign, AtomWord, NotWord, AndWord, OrWord, QuantifierWord, TestWord, FreeWord, InWord, CountWord, SideWord, InnerWord, Mod6Word, EndWord, TurnWord, FirstWord, IfWord, ForWord}
use Rattle.action_tree.specs.Roles.{role, is_a, is_test, is_set, is_dirterm, is_plus_or_minus, as_name, as_literal, as_dirterm, as_end, as_atom, as_quantifier, as_test, as_side, as_cmp}
use Rattle.action_tree.specs.Expressions.{bound_at, Selection, selection}

-- ---- with what parts begin, and which limit their first token may pass

abbrev pub opens_level : Role → Bool
opens_level OpenSign = true
opens_level NotWord = true
opens_level TurnWord = true
opens_level IfWord = true
opens_level ForWord = true
opens_level _ = false

abbrev pub level_limit : ℕ → Lexeme → Option RefusalKind
level_limit n t = if opens_level (role t) then deep_at n t else None

abbrev pub begins_term : Role → Bool
begins_term ANumber = true
begins_term AName = true
begins_term EndWord = true
begins_term TurnWord = true
begins_term FirstWord = true
begins_term CountWord = true
begins_term SideWord = true
begins_term InnerWord = true
begins_term Mod6Word = true
begins_term _ = false

abbrev pub begins_sum : Role → Bool
begins_sum MinusSign = true
begins_sum r = begins_term r

abbrev pub begins_unit : Role → Bool
begins_unit AtomWord = true
begins_unit NotWord = true
begins_unit OpenSign = true
begins_unit QuantifierWord = true
begins_unit TestWord = true
begins_unit FreeWord = true
begins_unit r = begins_sum r

-- ---- the readers of one number of levels

pub record Readers : Type 0 where
  pub port : Reader PortExpr
  pub sum : Reader Sum
  pub unit : Reader Guard
  pub expr : Reader Guard

-- Where n more levels may be opened and so many more names bound.
-- `below` are the readers of one level less, by the names.
unfoldable pub a_selection : ℕ → ℕ → (ℕ → Readers) → Reader Selection
a_selection n left below = do
  v ← one_within (is_a AName) (bound_at left)
  i ← one (is_a InWord)
  s ← one is_set
  o ← opening_token n (is_a OpenSign)
  g ← (below (less left)).expr
  c ← one (is_a CloseSign)
  pure (selection v s g)

abbrev pub port_by : ℕ → ℕ → (ℕ → Readers) → Role → Reader PortExpr
port_by n left below AName = one (is_a AName) >>= λ v. pure (bound (as_name v))
port_by n left below EndWord =
    one (is_a EndWord) >>= λ e. one is_dirterm >>= λ d. pure (at_end (as_end e) (as_dirterm d))
port_by n left below TurnWord =
    opening_token n (is_a TurnWord) >>= λ t.
    (below left).port >>= λ p. one (is_a ANumber) >>= λ m. pure (turned p (as_literal m))
port_by n left below FirstWord =
    one (is_a FirstWord) >>= λ t. a_selection n left below >>= λ c. pure (first c.name c.set c.guard)
port_by n left below _ = refuse

unfoldable pub a_port : ℕ → ℕ → (ℕ → Readers) → Reader PortExpr
a_port n left below = by_role role (port_by n left below)

-- the variable of a neighbour, behind its port
abbrev pub member : PortExpr → Reader Term
member p = one (is_a DotSign) >>= λ d. one (is_a AName) >>= λ v. pure (of_port p (as_name v))

-- a name is a variable, or a port where a dot comes behind it
abbrev pub term_by : ℕ → ℕ → (ℕ → Readers) → Role → Reader Term
term_by n left below ANumber = one (is_a ANumber) >>= λ m. pure (number (as_literal m))
term_by n left below AName =
    one (is_a AName) >>= λ v. optional (is_a DotSign) (own (as_name v)) (member (bound (as_name v)))
term_by n left below EndWord = a_port n left below >>= member
term_by n left below TurnWord = a_port n left below >>= member
term_by n left below FirstWord = a_port n left below >>= member
term_by n left below CountWord =
    one (is_a CountWord) >>= λ t. a_selection n left below >>= λ c. pure (count c.name c.set c.guard)
term_by n left below SideWord =
    one (is_a SideWord) >>= λ t. a_port n left below >>= λ p. pure (direction (as_side t) p)
term_by n left below InnerWord = one (is_a InnerWord) >>= λ t. pure inner
term_by n left below Mod6Word =
    one (is_a Mod6Word) >>= λ t.
    opening_token n (is_a OpenSign) >>= λ o. (below left).sum >>= λ s.
    one (is_a CloseSign) >>= λ c. pure (mod6 s)
term_by n left below _ = refuse

unfoldable pub a_term : ℕ → ℕ → (ℕ → Readers) → Reader Term
a_term n left below = by_role role (term_by n left below)

unfoldable pub a_minus : Reader Bool
a_minus = optional (is_a MinusSign) false (one (is_a MinusSign) >>= λ u. pure true)

abbrev pub part : Bool → Term → Part
part minus t = record { minus = minus; term = t }

-- a term behind a sign, where so many more may come
abbrev pub part_in : ℕ → ℕ → (ℕ → Readers) → Lexeme → ℕ → Reader Part
part_in n left below sign room =
    limited (λ t. begins_term (role t)) (level_limit n) room
    (a_term n left below >>= λ t. pure (part (is_a MinusSign sign) t))

unfoldable pub a_sum : ℕ → ℕ → (ℕ → Readers) → Reader Sum
a_sum n left below =
    a_minus >>= λ minus.
    chained (a_term n left below) is_plus_or_minus
    (part_in n left below) (λ room p. less room) (λ t. most_further)
    (λ t ps. term_then minus t (terms ps))

abbrev pub a_comparison : ℕ → ℕ → (ℕ → Readers) → Reader Guard
a_comparison n left below =
    a_sum n left below >>= λ a.
    one (is_a CompareSign) >>= λ c. a_sum n left below >>= λ b. pure (comparison a (as_cmp c) b)

abbrev pub a_test : ℕ → ℕ → (ℕ → Readers) → Reader Guard
a_test n left below = one is_test >>= λ t. a_port n left below >>= λ p. pure (tested (as_test t) p)

abbrev pub unit_by : ℕ → ℕ → (ℕ → Readers) → Role → Reader Guard
unit_by n left below AtomWord = one (is_a AtomWord) >>= λ t. pure (atom (as_atom t))
unit_by n left below NotWord =
    opening_token n (is_a NotWord) >>= λ t. (below left).unit >>= λ g. pure (negation g)
unit_by n left below OpenSign =
    opening_token n (is_a OpenSign) >>= λ o. (below left).expr >>= λ g. one (is_a CloseSign) >>= λ c. pure g
unit_by n left below QuantifierWord =
    one (is_a QuantifierWord) >>= λ t.
    a_selection n left below >>= λ c. pure (quantified (as_quantifier t) c.name c.set c.guard)
unit_by n left below TestWord = a_test n left below
unit_by n left below FreeWord = a_test n left below
unit_by n left below r = if begins_sum r then a_comparison n left below else refuse

unfoldable pub a_unit : ℕ → ℕ → (ℕ → Readers) → Reader Guard
a_unit n left below = by_role role (unit_by n left below)

-- an element behind `and`, where so many more may come
abbrev pub unit_in : ℕ → ℕ → (ℕ → Readers) → Lexeme → ℕ → Reader Guard
unit_in n left below sign room =
    limited (λ t. begins_unit (role t)) (level_limit n) room (a_unit n left below)

unfoldable pub a_conj : ℕ → ℕ → (ℕ → Readers) → Reader Guard
a_conj n left below =
    chained (a_unit n left below) (is_a AndWord)
    (unit_in n left below) (λ room g. less room) (λ g. most_further)
    (λ g gs. all_of g (guards gs))

-- and behind `or`
abbrev pub conj_in : ℕ → ℕ → (ℕ → Readers) → Lexeme → ℕ → Reader Guard
conj_in n left below sign room =
    limited (λ t. begins_unit (role t)) (level_limit n) room (a_conj n left below)

unfoldable pub an_expr : ℕ → ℕ → (ℕ → Readers) → Reader Guard
an_expr n left below =
    chained (a_conj n left below) (is_a OrWord)
    (conj_in n left below) (λ room g. less room) (λ g. most_further)
    (λ g gs. any_of g (guards gs))

-- ---- all levels

abbrev pub refusing : Readers
refusing = record { port = refuse; sum = refuse; unit = refuse; expr = refuse }

abbrev pub readers : ℕ → ℕ → (ℕ → Readers) → Readers
readers n left below = record {
  port = a_port n left below;
  sum = a_sum n left below;
  unit = a_unit n left below;
  expr = an_expr n left below;
}

-- what is read behind a token that opens one of so many levels
unfoldable pub inside : ℕ → ℕ → Readers
inside zero left = refusing
inside (suc n) left = readers n left (inside n)

abbrev pub port_at : ℕ → ℕ → Reader PortExpr
port_at n left = a_port n left (inside n)

abbrev pub selection_at : ℕ → ℕ → Reader Selection
selection_at n left = a_selection n left (inside n)

abbrev pub sum_at : ℕ → ℕ → Reader Sum
sum_at n left = a_sum n left (inside n)

abbrev pub expr_at : ℕ → ℕ → Reader Guard
expr_at n left = an_expr n left (inside n)
