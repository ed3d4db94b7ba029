-- The laws of the small format whose forms begin alike.
use Rattle.std.proofs.Common.{◌≡◌, ℕ, Bool, true, false, List, [], ◌∷◌, Option, Some, None, refl, sym, subst, ◌∙◌}
use Rattle.std.specs.Prelude.{codes, not}
use Rattle.std.proofs.lemmas.Bool.{not-true}
use Rattle.text_tokens.specs.declared.token.TokenKind.TheVariants.{Word, Sign}
use Rattle.text_tokens.specs.Text.{Lexeme}
use Rattle.text_tokens.specs.Cursor.{same_kind}
use Rattle.text_tokens.specs.Reading.{Reader, ◌>>=◌, pure, one, no_limit, the_line, is_number, numeral, limited, less, chained, by_role}
use Rattle.text_tokens.specs.Grammar.{Symbol, Lang, IsOne, Then, then, Made, made, IsThe, IsNumeral, Either, of_first, of_second, Limited, Chained, no_more}
use Rattle.text_tokens.specs.Lawful.{Exact, IsPart, always, Meets, Starts, InRole, IsHandled, handled, no_role}
use Rattle.text_tokens.specs.Puts.{Summand, Put, a_summand, a_put, is_put_name, is_assign, is_dot, is_put_minus, is_put_sign, IsPutName, IsPutMinus, IsSummandOf, IsPutSum, IsAssigned, IsPut, a_put_name, a_put_minus, summand_of, a_put_sum, Role, assigns, selects, neither, put_role, assigned, behind_name, put}
use Rattle.text_tokens.proofs.Exactness.{exact}
use Rattle.text_tokens.proofs.CarriedTexts.{part_same, part_made}
use Rattle.text_tokens.proofs.Parts.{some_text, part_less, part_one, part_before, part_behind}
use Rattle.text_tokens.proofs.StartsLemmas.{starts_in, starts_some, starts_made, starts_then}
use Rattle.text_tokens.proofs.ChoiceLemmas.{part_optional, part_limited, part_roles}
use Rattle.text_tokens.proofs.RepeatedLemmas.{part_chained}
use Rattle.text_tokens.proofs.LexemeLemmas.{passing, other_text, sign_no_number, a_token, a_numeral, starts_the, starts_numeral}

-- ---- parts of sums

passes_name : is_put_name (passing Word (codes "a")) ≡ true
unfolding same_kind
passes_name = refl

part_name : IsPart IsPutName a_put_name always
unfolding a_put_name
part_name = part_made (IsOne is_put_name no_limit) (λ t. t.text) (one is_put_name) always (part_one is_put_name no_limit (passing Word (codes "a")) passes_name)

part_number : (minus : Bool) → IsPart (IsSummandOf minus) (summand_of minus) always
unfolding summand_of
part_number minus = part_made (IsNumeral no_limit) (a_summand minus) (numeral no_limit) always (a_numeral no_limit)

starts_number : (minus : Bool) → Starts (IsSummandOf minus) is_number no_limit
starts_number minus = starts_made (IsNumeral no_limit) (a_summand minus) is_number no_limit (starts_numeral no_limit)

-- what does not go on a sum
abbrev no_sign : Lexeme → Bool
no_sign t = not (is_put_sign t)

part_minus : IsPart IsPutMinus a_put_minus is_number
unfolding a_put_minus
part_minus = part_optional false (Made (IsThe is_put_minus) (λ line. true)) (the_line is_put_minus >>= λ line. pure true) is_put_minus no_limit is_number
    (starts_made (IsThe is_put_minus) (λ line. true) is_put_minus no_limit (starts_the is_put_minus))
    (part_less (Made (IsThe is_put_minus) (λ line. true)) (the_line is_put_minus >>= λ line. pure true) always is_number (λ t e. refl) (part_made (IsThe is_put_minus) (λ line. true) (the_line is_put_minus) always (a_token Sign (codes "-") refl)))
    number_no_minus
  where
    number_no_minus : (t : Lexeme) → is_number t ≡ true → is_put_minus t ≡ false
    number_no_minus t e = not_so (is_put_minus t) refl
      where
        not_so : (b : Bool) → is_put_minus t ≡ b → b ≡ false
        not_so true f = let g : true ≡ false = sym e ∙ sign_no_number (codes "-") t f in absurd cc
        not_so false f = refl

abbrev Rest : Bool → Lang (List Summand)
Rest minus = Chained (IsSummandOf minus) is_put_sign (λ sign room. Limited (IsSummandOf (is_put_minus sign)) room) (λ room p. less room) (λ p. 3) (λ p ps. p ∷ ps)

abbrev rest : Bool → Reader (List Summand)
rest minus = chained (summand_of minus) is_put_sign (λ sign room. limited is_number no_limit room (summand_of (is_put_minus sign))) (λ room p. less room) (λ p. 3) (λ p ps. p ∷ ps)

passes_minus : is_put_sign (passing Sign (codes "-")) ≡ true
unfolding same_kind
passes_minus = refl

part_rest : (minus : Bool) → IsPart (Rest minus) (rest minus) no_sign
part_rest minus = part_chained (IsSummandOf minus) (summand_of minus) is_put_sign (λ sign room. Limited (IsSummandOf (is_put_minus sign)) room) (λ sign room. limited is_number no_limit room (summand_of (is_put_minus sign))) always no_sign (record {
  passing = passing Sign (codes "-");
  passes = passes_minus;
  before = part_number minus;
  part = λ sign room. part_limited (IsSummandOf (is_put_minus sign)) (summand_of (is_put_minus sign)) is_number no_limit (starts_number (is_put_minus sign)) always (part_number (is_put_minus sign)) room;
  again = λ t e. refl;
  ends = λ t e. refl;
  differ = λ t e. not-true (is_put_sign t) e;
}) (λ room p. less room) (λ p. 3) (λ p ps. p ∷ ps)

starts_rest : (minus : Bool) → Starts (Rest minus) is_number no_limit
starts_rest minus = starts_then (IsSummandOf minus) _ is_number no_limit (starts_number minus) (λ p. record { text = []; whole = p ∷ []; is = made [] no_more })

rest_meets : (minus : Bool) → Meets is_number (Rest minus) no_sign
rest_meets minus = record { begins = starts_in (Rest minus) is_number no_limit (starts_rest minus); empty = λ xs ps t is e f. absurd (starts_some (Rest minus) is_number no_limit (starts_rest minus) xs ps is e) }

part_sum : IsPart IsPutSum a_put_sum no_sign
unfolding a_put_sum
part_sum = part_before IsPutMinus a_put_minus Rest rest is_number no_sign part_minus part_rest rest_meets

-- ---- the forms, by the token behind the name

abbrev Selected : List ℕ → Lang Put
Selected v = Then (IsThe is_dot) (λ line. Then IsPutName (λ w. IsAssigned (Some v) w))

part_assigned : (owner : Option (List ℕ)) (name : List ℕ) → IsPart (IsAssigned owner name) (assigned owner name) no_sign
unfolding assigned
part_assigned owner name = part_behind (IsThe is_assign) (the_line is_assign) (λ line. Made IsPutSum (λ s. a_put owner name s)) _ no_sign (a_token Sign (codes ":=") refl) (λ line. part_made IsPutSum (λ s. a_put owner name s) a_put_sum no_sign part_sum)

part_selected : (v : List ℕ) → IsPart (Selected v) (behind_name v selects) no_sign
part_selected v = part_behind (IsThe is_dot) (the_line is_dot) (λ line. Then IsPutName (λ w. IsAssigned (Some v) w)) _ no_sign (a_token Sign (codes ".") refl)
    (λ line. part_behind IsPutName a_put_name (λ w. IsAssigned (Some v) w) _ no_sign part_name (λ w. part_assigned (Some v) w))

starts_assigned : (owner : Option (List ℕ)) (name : List ℕ) → Starts (IsAssigned owner name) is_assign no_limit
starts_assigned owner name = starts_then (IsThe is_assign) (λ line. Made IsPutSum (λ s. a_put owner name s)) is_assign no_limit (starts_the is_assign) (λ line. some_text (Made IsPutSum (λ s. a_put owner name s)) (a_put_sum >>= λ s. pure (a_put owner name s)) (part_made IsPutSum (λ s. a_put owner name s) a_put_sum no_sign part_sum).law)

starts_selected : (v : List ℕ) → Starts (Selected v) is_dot no_limit
starts_selected v = starts_then (IsThe is_dot) (λ line. Then IsPutName (λ w. IsAssigned (Some v) w)) is_dot no_limit (starts_the is_dot)
    (λ line. some_text (Then IsPutName (λ w. IsAssigned (Some v) w)) _ (part_behind IsPutName a_put_name (λ w. IsAssigned (Some v) w) (λ w. assigned (Some v) w) no_sign part_name (λ w. part_assigned (Some v) w)).law)

-- what may stand behind a name, in each role of the next token
abbrev InRoleOf : List ℕ → Role → Lang Put
InRoleOf v assigns = IsAssigned None v
InRoleOf v selects = Selected v
InRoleOf v neither = λ xs p. ⊥

abbrev BehindName : List ℕ → Lang Put
BehindName v = Either (IsAssigned None v) (Selected v)

role_assigns : (t : Lexeme) → is_assign t ≡ true → put_role t ≡ assigns
role_assigns t e = rw e refl

role_selects : (t : Lexeme) → is_dot t ≡ true → put_role t ≡ selects
role_selects t e = let n : is_assign t ≡ false = other_text Sign (codes ".") (codes ":=") t refl e in rw (n, e) refl

view : (v : List ℕ) (xs : List Symbol) (p : Put) → BehindName v xs p → InRole put_role no_limit (InRoleOf v) xs p
view v xs p (of_first is) = let b = (starts_assigned None v).begins xs p is in record { t = b.t; more = b.more; parts = b.parts; is = subst (λ (r : Role). InRoleOf v r xs p) (sym (role_assigns b.t b.passes)) is }
view v xs p (of_second is) = let b = (starts_selected v).begins xs p is in record { t = b.t; more = b.more; parts = b.parts; is = subst (λ (r : Role). InRoleOf v r xs p) (sym (role_selects b.t b.passes)) is }

from : (v : List ℕ) (r : Role) (xs : List Symbol) (p : Put) → InRoleOf v r xs p → BehindName v xs p
from v assigns xs p is = of_first is
from v selects xs p is = of_second is
from v neither xs p is = absurd is

handles : (v : List ℕ) (r : Role) → IsHandled (InRoleOf v r) (behind_name v r) no_sign
handles v assigns = handled (part_assigned None v)
handles v selects = handled (part_selected v)
handles v neither = no_role (λ xs p is. is) refl

part_behind_name : (v : List ℕ) → IsPart (BehindName v) (by_role put_role (behind_name v)) no_sign
part_behind_name v =
    let s = some_text (IsAssigned None v) (assigned None v) (part_assigned None v).law in
    part_roles put_role no_limit (InRoleOf v) (BehindName v) (record { some = record { text = s.text; whole = s.whole; is = of_first s.is }; view = view v; from = from v }) (behind_name v) no_sign (handles v)

-- ---- as the format has them

abbrev Factored : Lang Put
Factored = Then IsPutName BehindName

from_factored : (xs : List Symbol) (p : Put) → Factored xs p → IsPut xs p
from_factored zs p (then v n (of_first is)) = of_first (then v n is)
from_factored zs p (then v n (of_second is)) = of_second (then v n is)

to_factored : (xs : List Symbol) (p : Put) → IsPut xs p → Factored xs p
to_factored zs p (of_first (then v n is)) = then v n (of_first is)
to_factored zs p (of_second (then v n is)) = then v n (of_second is)

pub part_put : IsPart IsPut put no_sign
unfolding put
part_put = part_same Factored IsPut from_factored to_factored _ no_sign (part_behind IsPutName a_put_name BehindName (λ v. by_role put_role (behind_name v)) no_sign part_name part_behind_name)

pub exact_put : Exact IsPut put
exact_put = exact IsPut put part_put.law
