-- What follows from the definitions alone.
use Rattle.std.specs.Prelude.{◌≡◌, ◌↔◌, ℕ, List, [], ◌∷◌, codes}
use Rattle.std.specs.declared.option.Option.TheVariants.{Some, None}
use Rattle.shipped_programs.specs.declared.shipped.Shipped.TheVariants.{Line}
use Rattle.commands.specs.declared.words.Command.{Command}
use Rattle.commands.specs.declared.words.Command.TheVariants.{Document, Show, Sample}
use Rattle.commands.specs.declared.words.DocumentCommand.TheVariants.{Run, Rewind, Tickets}
use Rattle.commands.specs.Words.{AreWordsOf, command_of}

-- the words are a command exactly where they are its words
abbrev pub CommandIsItsWords : Type 0
CommandIsItsWords = (words : List (List ℕ)) (c : Command) → (command_of words ≡ Some c) ↔ AreWordsOf c words

-- words that are a command, and words that are none
pub record SmallWords : Type 0 where
  pub run : command_of (codes "run" ∷ []) ≡ Some (Document Run)
  pub show : command_of (codes "show" ∷ codes "line" ∷ []) ≡ Some (Show Line)
  pub sample : command_of (codes "sample" ∷ codes "0000000017" ∷ []) ≡ Some (Sample 17)
  pub greatest : command_of (codes "sample" ∷ codes "4294967295" ∷ []) ≡ Some (Sample 4294967295)
  pub above : command_of (codes "sample" ∷ codes "4294967296" ∷ []) ≡ None
  pub eleven : command_of (codes "sample" ∷ codes "00000000001" ∷ []) ≡ None
  pub none : command_of (codes "sample" ∷ [] ∷ []) ≡ None
  pub signed : command_of (codes "sample" ∷ codes "+1" ∷ []) ≡ None
  pub tickets : command_of (codes "tickets" ∷ []) ≡ Some (Document Tickets)
  pub rewind : command_of (codes "rewind" ∷ codes "0000000007" ∷ []) ≡ Some (Document (Rewind 7))
  pub no_place : command_of (codes "rewind" ∷ []) ≡ None
  pub nothing : command_of [] ≡ None
  pub further : command_of (codes "run" ∷ codes "now" ∷ []) ≡ None
  pub other : command_of (codes "show" ∷ codes "Line" ∷ []) ≡ None
  pub one_ticket : command_of (codes "ticket" ∷ []) ≡ None
