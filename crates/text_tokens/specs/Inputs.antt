-- Whole inputs: a text, with nothing behind it but blanks and comments.
use Rattle.std.specs.Prelude.{◌≡◌, ℕ, List, [], ◌∷◌, Result, Ok, Err}
use Rattle.text_tokens.specs.declared.refusal.Refusal.{Refusal}
use Rattle.text_tokens.specs.declared.refusal.RefusalKind.{RefusalKind}
use Rattle.text_tokens.specs.declared.refusal.RefusalKind.TheVariants.{Trailing, Truncated}
use Rattle.text_tokens.specs.Text.{Lexeme, AreTokens}
use Rattle.text_tokens.specs.Grammar.{Lang}
use Rattle.text_tokens.specs.Lawful.{IsText, IsFault}

-- A token behind a whole text is refused for this kind.
module _ {A : Type 0} (P : Lang A) (kind : RefusalKind) where
  -- all tokens are a text, and behind them the input ends
  pub record IsInput (last : Refusal) (ts : List Lexeme) (a : A) : Type 0 where
    pub text : IsText P ts a []
    pub ends : last.kind ≡ Truncated

  -- the first fault of an input: one of its text, or else what stands behind it,
  -- a token or what is none
  pub data IsInputFault (last : Refusal) (ts : List Lexeme) : Refusal → Type 0 where
    within : {r : Refusal} → IsFault P last ts r → IsInputFault last ts r
    trailing : (a : A) (t : Lexeme) (rest : List Lexeme)
        → IsText P ts a (t ∷ rest)
        → IsInputFault last ts (record { line = t.line; kind = kind })
    no_token : (a : A) → IsText P ts a [] → (last.kind ≡ Truncated → ⊥) → IsInputFault last ts last

  abbrev pub TellsInput : Refusal → List Lexeme → Result A Refusal → Type 0
  TellsInput last ts (Ok a) = IsInput last ts a
  TellsInput last ts (Err r) = IsInputFault last ts r

  -- each input is read in one way, or has one first fault
  pub record IsDecidedInput : Type 0 where
    pub some : (last : Refusal) (ts : List Lexeme) → (r : Result A Refusal) × TellsInput last ts r
    pub one : (last : Refusal) (ts : List Lexeme) (r s : Result A Refusal)
        → TellsInput last ts r
        → TellsInput last ts s
        → r ≡ s

  -- a reader of whole inputs answers what the grammar says, and it says nothing else
  pub record ExactInput (reads : Refusal → List Lexeme → Result A Refusal) : Type 0 where
    pub tells : (last : Refusal) (ts : List Lexeme) → TellsInput last ts (reads last ts)
    pub only : (last : Refusal) (ts : List Lexeme) (r : Result A Refusal)
        → TellsInput last ts r → reads last ts ≡ r

-- what a grammar says of a whole text: what it stands for, or its first fault,
-- where a token behind it is Trailing
abbrev pub Says : {A : Type 0} → Lang A → List ℕ → Result A Refusal → Type 0
Says P text answer =
    (ts : List Lexeme) (last : Refusal) → AreTokens text 0 ts last → TellsInput P Trailing last ts answer
