-- The table of the commands, the documents of a command, and the numbers of the statuses.
use Rattle.std.specs.Prelude.{◌≡◌, ◌≢◌, ◌⊎◌, ℕ, List, Bool, true, false, codes, ⊤}
use Rattle.std.specs.declared.option.Option.{Option}
use Rattle.std.specs.declared.option.Option.TheVariants.{Some, None}
use Rattle.shape_files.specs.declared.section_kind.Form.{Form}
use Rattle.shape_files.specs.declared.section_kind.Form.TheVariants as form
use Rattle.shape_files.specs.Documents.{Contents, HasContentsFrom, IsDocumentFaultFrom}
use Rattle.shape_files.specs.Frame.{least_version}
use Rattle.text_tokens.specs.declared.refusal.Refusal.{Refusal}
use Rattle.document_answers.specs.Rewind.{with_old_values}
use Rattle.commands.specs.declared.words.Command.{Command}
use Rattle.commands.specs.declared.words.Command.TheVariants.{Document, Show, Sample}
use Rattle.commands.specs.declared.words.DocumentCommand.{DocumentCommand}
use Rattle.commands.specs.declared.words.DocumentCommand.TheVariants.{Run, Interleave, Replay, Check, Measure, Renew, Rewind, Rounds, Elect, Tickets}

-- who makes the turns of lists for a command
pub data TurnMaker : Type 0 where
  -- the command makes no turns
  no_maker : TurnMaker
  -- one step of a caller after another, along a schedule
  the_schedule : TurnMaker
  -- a worker for each list
  the_workers : TurnMaker
  -- a worker for each list, whose commits draw their places
  the_tickets : TurnMaker

-- a row of the table, of a command that reads a document
pub record CommandRow : Type 0 where
  -- its first word
  pub word : List ℕ
  -- whether that is its only word
  pub alone : Bool
  -- the form of its document
  pub form : Form
  -- the least version of its document
  pub least : ℕ
  -- the most bytes that its document may have
  pub limit : ℕ
  -- who makes turns for it
  pub maker : TurnMaker

-- a mebibyte, and 128 of them for a document that may have a journal
abbrev pub mebibyte : ℕ
mebibyte = 1048576

abbrev pub many_mebibytes : ℕ
many_mebibytes = 134217728

-- a row of a command whose word stands alone, and whose document may have any version
abbrev one_word_row : List ℕ → Form → ℕ → TurnMaker → CommandRow
one_word_row word form limit maker =
    record { word = word; alone = true; form = form; least = least_version; limit = limit; maker = maker }

-- the table
abbrev pub row_of : DocumentCommand → CommandRow
row_of Run = one_word_row (codes "run") form.Run mebibyte the_workers
row_of Interleave = one_word_row (codes "interleave") form.Interleave mebibyte the_schedule
row_of Replay = one_word_row (codes "replay") form.Replay many_mebibytes no_maker
row_of Check = one_word_row (codes "check") form.Check mebibyte no_maker
row_of Measure = one_word_row (codes "measure") form.Measure many_mebibytes no_maker
row_of Renew = one_word_row (codes "renew") form.Replay many_mebibytes no_maker
row_of (Rewind place) =
    record (one_word_row (codes "rewind") form.Replay many_mebibytes no_maker) {
      alone = false;
      least = with_old_values;
    }
row_of Rounds = one_word_row (codes "rounds") form.Replay many_mebibytes no_maker
row_of Elect = one_word_row (codes "elect") form.Replay many_mebibytes no_maker
row_of Tickets = one_word_row (codes "tickets") form.Run mebibyte the_tickets

-- the form of a command's document
abbrev pub form_of : DocumentCommand → Form
form_of c = (row_of c).form

-- and the least version that it may have
abbrev pub least_for : DocumentCommand → ℕ
least_for c = (row_of c).least

-- the bytes are a document of the command, in its form and of a version that it may have,
-- and the document has this
abbrev pub IsDocumentOf : DocumentCommand → List ℕ → Contents → Type 0
IsDocumentOf c bytes a = HasContentsFrom (least_for c) (form_of c) bytes a

-- the bytes are no document of the command, and this is their first fault
abbrev pub IsDocumentFaultOf : DocumentCommand → List ℕ → Refusal → Type 0
IsDocumentFaultOf c bytes r = IsDocumentFaultFrom (least_for c) (form_of c) bytes r

-- the most bytes that are read for a command
abbrev pub limit_for : Option Command → ℕ
limit_for (Some (Document c)) = (row_of c).limit
limit_for (Some (Show program)) = 0
limit_for (Some (Sample seed)) = 0
limit_for None = 0

-- nothing is read for it
abbrev pub ReadsNothing : Option Command → Type 0
ReadsNothing (Some (Document c)) = ⊥
ReadsNothing (Some (Show program)) = ⊤
ReadsNothing (Some (Sample seed)) = ⊤
ReadsNothing None = ⊤

-- who makes its turns
abbrev pub maker_of : Option Command → TurnMaker
maker_of (Some (Document c)) = (row_of c).maker
maker_of (Some (Show program)) = no_maker
maker_of (Some (Sample seed)) = the_workers
maker_of None = no_maker

-- the command makes the turns of lists: those of a document, or those of a sample
abbrev pub MakesTurns : Option Command → Type 0
MakesTurns c = maker_of c ≢ no_maker

-- workers make them, and take the journal for each commit
abbrev pub IsWorked : Option Command → Type 0
IsWorked c = maker_of c ≡ the_workers

-- workers make them, whose commits draw their places
abbrev pub IsTicketed : Option Command → Type 0
IsTicketed c = maker_of c ≡ the_tickets

-- workers make them in either way
abbrev pub NeedsWorkers : Option Command → Type 0
NeedsWorkers c = IsWorked c ⊎ IsTicketed c
