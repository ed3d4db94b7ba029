-- A grammar of which a token is refused in one text and not in another:
-- all other laws hold of a reader, and it says two things.
use Rattle.std.specs.Prelude.{◌≡◌, List, [], ◌∷◌, ◌++◌, Some, None, Err}
use Rattle.text_tokens.specs.declared.refusal.Refusal.{Refusal}
use Rattle.text_tokens.specs.declared.refusal.RefusalKind.TheVariants.{TooMany}
use Rattle.text_tokens.specs.Text.{Lexeme}
use Rattle.text_tokens.specs.Reading.{Reader}
use Rattle.text_tokens.specs.Grammar.{Symbol, tokens, outcome}
use Rattle.text_tokens.specs.Lawful.{Next, Stops, Tells, IsDecided}

abbrev pub r0 : Refusal
r0 = record { line = 0; kind = TooMany }

pub data Two : List Symbol → Unit {0} → Type 0 where
  short : (t : Lexeme) → Two (record { token = Some t; fault = Some r0 } ∷ []) tt
  long : (t u : Lexeme)
      → Two (record { token = Some t; fault = None } ∷ record { token = Some u; fault = Some r0 } ∷ []) tt

abbrev pub two : Reader (Unit {0})
two last [] = Err last
two last (t ∷ ts) = Err r0

pub record AllButAgreement : Type 0 where
  pub tells : (last : Refusal) (ts : List Lexeme) → Tells Two last ts (two last ts)
  pub reads : (xs : List Symbol) (a : Unit {0})
      → Two xs a
      → (last : Refusal) (rest : List Lexeme)
      → Stops Two (tokens xs) rest
      → two last (tokens xs ++ rest) ≡ outcome xs a rest
  pub limits : (us : List Lexeme) (x : Symbol) (t : Lexeme) (r : Refusal)
      → Next Two us x
      → x.token ≡ Some t
      → x.fault ≡ Some r
      → (last : Refusal) (rest : List Lexeme)
      → two last (us ++ t ∷ rest) ≡ Err r
  pub judges : (us : List Lexeme) (x : Symbol) (r : Refusal)
      → Next Two us x
      → x.token ≡ None
      → x.fault ≡ Some r
      → (last : Refusal) (rest : List Lexeme)
      → Stops Two us rest
      → two last (us ++ rest) ≡ Err r
  pub undecided : Lexeme → IsDecided Two → ⊥
