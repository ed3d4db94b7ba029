-- Some texts of groups, and some whole inputs.
use Rattle.std.specs.Prelude.{ℕ, List, [], ◌∷◌, codes}
use Rattle.text_tokens.specs.declared.refusal.Refusal.{Refusal}
use Rattle.text_tokens.specs.declared.refusal.RefusalKind.TheVariants.{BadByte, TooMany, Truncated, Trailing, BadRange, BadEntry}
use Rattle.text_tokens.specs.Text.{Lexeme}
use Rattle.text_tokens.specs.Cursor.{on_line}
use Rattle.text_tokens.specs.Reading.{too_large}
use Rattle.text_tokens.specs.Grammar.{IsNumeral, Limited}
use Rattle.text_tokens.specs.Lawful.{IsText, IsFault}
use Rattle.text_tokens.specs.Inputs.{IsInput, IsInputFault}
use Rattle.text_tokens.specs.Groups.{WrittenGroup, AreGroups}
use Rattle.text_tokens.specs.GroupFaults.{word_on, number_on}

-- a group of two pairs, of which the second has this number, and one of none
abbrev pub two_groups_then : List ℕ → List Lexeme → List Lexeme
two_groups_then digits rest =
    word_on 1 (codes "entry") ∷ number_on 2 (codes "2") ∷ word_on 3 (codes "pair") ∷ number_on 4 (codes "7")
    ∷ word_on 5 (codes "pair") ∷ number_on 6 digits
    ∷ word_on 7 (codes "entry") ∷ number_on 8 (codes "0") ∷ rest

abbrev pub two_groups : List WrittenGroup
two_groups =
    record { line = 1; count = 2; pairs = 7 ∷ 9 ∷ [] } ∷ record { line = 7; count = 0; pairs = [] } ∷ []

abbrev pub closed_by_end : List Lexeme → List Lexeme
closed_by_end rest = two_groups_then (codes "9") (word_on 9 (codes "end") ∷ rest)

-- the input ends on line 20
abbrev pub ends : Refusal
ends = on_line 20 Truncated

-- behind the tokens stands a byte that begins none, on line 20
abbrev pub bad : Refusal
bad = on_line 20 BadByte

abbrev pub IsWholeInput : Refusal → List Lexeme → List WrittenGroup → Type 0
IsWholeInput last ts es = IsInput AreGroups Trailing last ts es

abbrev pub IsWholeInputFault : Refusal → List Lexeme → Refusal → Type 0
IsWholeInputFault last ts r = IsInputFault AreGroups Trailing last ts r

pub record GroupsAreRead : Type 0 where
  -- a text, the largest number of a pair in it, and what stands behind its end
  pub text : IsText AreGroups (closed_by_end (word_on 10 (codes "entry") ∷ [])) two_groups
      (word_on 10 (codes "entry") ∷ [])
  pub nothing : IsText AreGroups (word_on 1 (codes "end") ∷ []) [] []
  -- a number above the largest
  pub large : IsFault AreGroups ends
      (two_groups_then (codes "10") (word_on 9 (codes "end") ∷ [])) (on_line 6 BadRange)
  -- where none may come it is one too many, whatever it is:
  -- only a level too deep would come before that
  pub large_and_many : IsFault (Limited (IsNumeral (too_large 9 BadRange)) 0) ends
      (number_on 1 (codes "10") ∷ [])
      (on_line 1 TooMany)
  -- a whole input
  pub input : IsWholeInput ends (closed_by_end []) two_groups
  -- a token behind it, and what is none
  pub trailing : IsWholeInputFault ends
      (closed_by_end (word_on 10 (codes "entry") ∷ [])) (on_line 10 Trailing)
  pub bad_byte : IsWholeInputFault bad (closed_by_end []) bad
  -- a token comes before a bad byte behind it
  pub trailing_first : IsWholeInputFault bad
      (closed_by_end (word_on 10 (codes "entry") ∷ [])) (on_line 10 Trailing)
  -- an input that ends too early, or at a bad byte
  pub truncated : IsWholeInputFault ends (two_groups_then (codes "9") []) ends
  pub bad_early : IsWholeInputFault bad (two_groups_then (codes "9") []) bad
  -- a fault within it comes before a token behind it
  pub within : IsWholeInputFault ends
      (word_on 1 (codes "entry") ∷ number_on 1 (codes "1")
      ∷ word_on 2 (codes "end") ∷ word_on 3 (codes "end") ∷ [])
      (on_line 1 BadEntry)
