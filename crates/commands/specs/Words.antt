-- The commands and their words. All of it is this project's profile.
use Rattle.std.specs.Prelude.{◌≡◌, ℕ, ◌^◌, ◌<◌, ◌≤◌, ◌&&◌, Bool, true, List, [], ◌∷◌, length, codes, if◌then◌else◌, nat_le, nat_lt}
use Rattle.std.specs.List.{list_all}
use Rattle.std.specs.declared.option.Option.{Option}
use Rattle.std.specs.declared.option.Option.TheVariants.{Some, None}
use Rattle.std.specs.Option.{option_map}
use Rattle.std.specs.Str.{bytes_eq}
use Rattle.std.specs.Char.{is_ascii_digit}
use Rattle.std.specs.Str.Parse.{digits_value}
use Rattle.shipped_programs.specs.declared.shipped.Shipped.{Shipped}
use Rattle.shipped_programs.specs.declared.shipped.Shipped.TheVariants.{Hexagon, Erosion, Line}
use Rattle.shipped_programs.specs.Shipped.{shipped_name}
use Rattle.commands.specs.declared.words.Command.{Command}
use Rattle.commands.specs.declared.words.Command.TheVariants.{Document, Show, Sample}
use Rattle.commands.specs.declared.words.DocumentCommand.{DocumentCommand}
use Rattle.commands.specs.Commands.{row_of}
use Rattle.commands.specs.declared.words.DocumentCommand.TheVariants.{Run, Interleave, Replay, Check, Measure, Renew, Rewind, Rounds, Elect, Tickets}

-- ---- when words are those of a command

-- the first word of a command that reads a document, and whether it is its only word
abbrev pub word_of : DocumentCommand → List ℕ
word_of c = (row_of c).word

abbrev pub is_one_word : DocumentCommand → Bool
is_one_word c = (row_of c).alone

-- a word that is a number: one digit to ten, which write one below 2^32
pub record IsNumberWord (digits : List ℕ) (number : ℕ) : Type 0 where
  pub some : 1 ≤ length digits
  pub few : length digits ≤ 10
  pub all : list_all is_ascii_digit digits ≡ true
  pub value : digits_value 10 digits ≡ number
  pub small : number < 2 ^ 32

-- one word; or `rewind` and a number; or `show` and the name of a program; or `sample` and a number
pub data AreWordsOf : Command → List (List ℕ) → Type 0 where
  document : (c : DocumentCommand) → is_one_word c ≡ true → AreWordsOf (Document c) (word_of c ∷ [])
  rewind : (digits : List ℕ) (place : ℕ) → IsNumberWord digits place
      → AreWordsOf (Document (Rewind place)) (codes "rewind" ∷ digits ∷ [])
  show : (program : Shipped) → AreWordsOf (Show program) (codes "show" ∷ shipped_name program ∷ [])
  sample : (digits : List ℕ) (seed : ℕ) → IsNumberWord digits seed
      → AreWordsOf (Sample seed) (codes "sample" ∷ digits ∷ [])

-- ---- which command words are

-- the first of some commands whose word this is
abbrev pub document_in : List DocumentCommand → List ℕ → Option Command
document_in [] word = None
document_in (c ∷ cs) word = if bytes_eq (word_of c) word then Some (Document c) else document_in cs word

abbrev pub documents : List DocumentCommand
documents = Run ∷ Interleave ∷ Replay ∷ Check ∷ Measure ∷ Renew ∷ Rounds ∷ Elect ∷ Tickets ∷ []

-- the first of some programs whose name this is
abbrev pub show_in : List Shipped → List ℕ → Option Command
show_in [] name = None
show_in (program ∷ programs) name =
    if bytes_eq (shipped_name program) name then Some (Show program) else show_in programs name

abbrev pub shipped : List Shipped
shipped = Hexagon ∷ Erosion ∷ Line ∷ []

abbrev pub are_few_digits : List ℕ → Bool
are_few_digits digits = nat_le (length digits) 10 && list_all is_ascii_digit digits

unfoldable pub is_number_word : List ℕ → Bool
is_number_word digits =
    are_few_digits digits && (nat_le 1 (length digits) && nat_lt (digits_value 10 digits) (2 ^ 32))

-- the number that a word writes, where it is one
unfoldable pub number_of : List ℕ → Option ℕ
number_of digits = if is_number_word digits then Some (digits_value 10 digits) else None

-- the command of a number
abbrev pub numbered_by : (ℕ → Command) → List ℕ → Option Command
numbered_by command digits = option_map command (number_of digits)

abbrev pub rewind_to : ℕ → Command
rewind_to place = Document (Rewind place)

unfoldable pub of_two_words : List ℕ → List ℕ → Option Command
of_two_words word other =
    if bytes_eq (codes "show") word
    then show_in shipped other
    else if bytes_eq (codes "sample") word
    then numbered_by Sample other
    else if bytes_eq (codes "rewind") word
    then numbered_by rewind_to other
    else None

-- the command that the words are
abbrev pub command_of : List (List ℕ) → Option Command
command_of [] = None
command_of (word ∷ []) = document_in documents word
command_of (word ∷ other ∷ []) = of_two_words word other
command_of (word ∷ other ∷ third ∷ words) = None
