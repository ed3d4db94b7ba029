-- A small format of which two forms begin alike, and whose separators have a meaning.
--   put := NAME ":=" sum | NAME "." NAME ":=" sum
--   sum := ["-"] NUMBER { ("+"|"-") NUMBER }
-- Limit: 4 numbers of a sum.
use Rattle.std.specs.Prelude.{ℕ, Bool, true, false, ◌||◌, if◌then◌else◌, List, ◌∷◌, Option, Some, None, codes}
use Rattle.text_tokens.specs.declared.token.TokenKind.TheVariants.{Word, Sign}
use Rattle.text_tokens.specs.Text.{Lexeme}
use Rattle.text_tokens.specs.Cursor.{is_the, is_kind}
use Rattle.text_tokens.specs.Reading.{Reader, ◌>>=◌, pure, refuse, one, no_limit, the_line, is_number, numeral, optional, by_role, limited, less, chained}
use Rattle.text_tokens.specs.Grammar.{Lang, IsOne, Then, Made, IsThe, IsNumeral, Either, IsOptional, Limited, Chained}

-- ---- what a text stands for

pub record Summand : Type 0 where
  pub minus : Bool
  pub number : ℕ

-- what is put, into the variable of this name, of another where a name stands before it
pub record Put : Type 0 where
  pub owner : Option (List ℕ)
  pub name : List ℕ
  pub sum : List Summand

abbrev pub a_summand : Bool → ℕ → Summand
a_summand minus n = record { minus = minus; number = n }

abbrev pub a_put : Option (List ℕ) → List ℕ → List Summand → Put
a_put owner name sum = record { owner = owner; name = name; sum = sum }

-- ---- tokens

abbrev pub is_put_name : Lexeme → Bool
is_put_name = is_kind Word

abbrev pub is_assign : Lexeme → Bool
is_assign = is_the Sign (codes ":=")

abbrev pub is_dot : Lexeme → Bool
is_dot = is_the Sign (codes ".")

abbrev pub is_put_minus : Lexeme → Bool
is_put_minus = is_the Sign (codes "-")

abbrev pub is_put_sign : Lexeme → Bool
is_put_sign t = is_the Sign (codes "+") t || is_put_minus t

-- ---- the grammar

abbrev pub IsPutName : Lang (List ℕ)
IsPutName = Made (IsOne is_put_name no_limit) (λ t. t.text)

-- whether a minus stands there
abbrev pub IsPutMinus : Lang Bool
IsPutMinus = IsOptional false (Made (IsThe is_put_minus) (λ line. true))

abbrev pub IsSummandOf : Bool → Lang Summand
IsSummandOf minus = Made (IsNumeral no_limit) (a_summand minus)

-- a sum, of which each further part has the sign before it
abbrev pub IsPutSum : Lang (List Summand)
IsPutSum =
    Then IsPutMinus (λ minus.
    Chained (IsSummandOf minus) is_put_sign (λ sign room. Limited (IsSummandOf (is_put_minus sign)) room)
    (λ room p. less room) (λ p. 3) (λ p ps. p ∷ ps))

-- a sum put into the variable of this name
abbrev pub IsAssigned : Option (List ℕ) → List ℕ → Lang Put
IsAssigned owner name = Then (IsThe is_assign) (λ line. Made IsPutSum (λ s. a_put owner name s))

-- into the own variable, or into that of another
abbrev pub IsPutOfOwn : Lang Put
IsPutOfOwn = Then IsPutName (λ v. IsAssigned None v)

abbrev pub IsPutOfOther : Lang Put
IsPutOfOther = Then IsPutName (λ v. Then (IsThe is_dot) (λ line. Then IsPutName (λ w. IsAssigned (Some v) w)))

abbrev pub IsPut : Lang Put
IsPut = Either IsPutOfOwn IsPutOfOther

-- ---- reading it

unfoldable pub a_put_name : Reader (List ℕ)
a_put_name = one is_put_name >>= λ t. pure t.text

unfoldable pub a_put_minus : Reader Bool
a_put_minus = optional is_put_minus false (the_line is_put_minus >>= λ line. pure true)

unfoldable pub summand_of : Bool → Reader Summand
summand_of minus = numeral no_limit >>= λ n. pure (a_summand minus n)

unfoldable pub a_put_sum : Reader (List Summand)
a_put_sum =
    a_put_minus >>= λ minus.
    chained (summand_of minus) is_put_sign (λ sign room.
    limited is_number no_limit room (summand_of (is_put_minus sign)))
    (λ room p. less room) (λ p. 3) (λ p ps. p ∷ ps)

-- what the token behind a name says of the form
pub data Role : Type 0 where
  assigns : Role
  selects : Role
  neither : Role

abbrev pub put_role : Lexeme → Role
put_role t = if is_assign t then assigns else (if is_dot t then selects else neither)

unfoldable pub assigned : Option (List ℕ) → List ℕ → Reader Put
assigned owner name = the_line is_assign >>= λ line. a_put_sum >>= λ s. pure (a_put owner name s)

abbrev pub behind_name : List ℕ → Role → Reader Put
behind_name v assigns = assigned None v
behind_name v selects = the_line is_dot >>= λ line. a_put_name >>= λ w. assigned (Some v) w
behind_name v neither = refuse

unfoldable pub put : Reader Put
put = a_put_name >>= λ v. by_role put_role (behind_name v)
