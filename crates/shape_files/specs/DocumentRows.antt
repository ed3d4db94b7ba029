-- Some texts of documents, with what they have or their first fault.
use Rattle.std.specs.Prelude.{ℕ, pos, false, List, [], ◌∷◌, ◌++◌, Some, None, Result, Ok, Err, codes}
use Rattle.text_tokens.specs.declared.refusal.Refusal.{Refusal}
use Rattle.text_tokens.specs.declared.refusal.RefusalKind.{RefusalKind}
use Rattle.text_tokens.specs.declared.refusal.RefusalKind.TheVariants.{BadByte, Unexpected, Truncated, BadRange, UnknownName, OutOfBox, NotAdjacent, Overlap, BadId, BadPlace, Trailing, WrongSection}
use Rattle.text_tokens.specs.Cursor.{on_line}
use Rattle.amoebot_state.specs.declared.bot.Bot.{Bot}
use Rattle.amoebot_state.specs.declared.bot.Chir.TheVariants.{Plus}
use Rattle.amoebot_state.specs.declared.bot.End.TheVariants.{Head}
use Rattle.amoebot_state.specs.declared.cell.CellName.{CellName}
use Rattle.amoebot_state.specs.declared.cell.CellName.TheVariants as name
use Rattle.amoebot_state.specs.declared.cell.Cell.{Cell}
use Rattle.amoebot_state.specs.declared.cell.Cell.TheVariants as cell
use Rattle.amoebot_state.specs.declared.verdict.Entry.{Entry}
use Rattle.amoebot_state.specs.declared.verdict.PlainEntry.{PlainEntry}
use Rattle.amoebot_state.specs.declared.verdict.Moved.TheVariants as moved
use Rattle.amoebot_state.specs.Configs.{Config, frame_of, with_these}
use Rattle.amoebot_state.specs.Pairs.{CellChange}
use Rattle.amoebot_state.specs.Ports.{port}
use Rattle.amoebot_state.specs.Steps.{entry_of, plain_entry}
use Rattle.amoebot_state.specs.Examples.{eight_by_eight, zeros}
use Rattle.action_tree.specs.Trees as tree
use Rattle.action_tree.specs.Trees.{Name, Literal, atom, through, expand, at_end, fixed, no_stmts}
use Rattle.action_tree.specs.Programs.{parsed_program}
use Rattle.shape_text.specs.Parts.{a_node_of}
use Rattle.shape_text.specs.ShapeRows.{shape_bot}
use Rattle.schedule_text.specs.Lists.{lists_of}
use Rattle.shape_files.specs.declared.section_kind.Form.{Form}
use Rattle.shape_files.specs.declared.section_kind.Form.TheVariants.{Run, Interleave, Replay, Check, Measure}
use Rattle.shape_files.specs.Documents.{Contents, FormSays, nothing_yet}

pub record DocumentRow : Type 0 where
  pub form : Form
  pub text : List ℕ
  pub answer : Result Contents Refusal

-- such a text is a document of the form that has this
abbrev has : Form → List ℕ → Contents → DocumentRow
has form text a = record { form = form; text = text; answer = Ok a }

-- such a text has this first fault, of this line
abbrev fails : Form → List ℕ → ℕ → RefusalKind → DocumentRow
fails form text line kind = record { form = form; text = text; answer = Err (on_line line kind) }

abbrev pub AreRead : List DocumentRow → Type 0
AreRead [] = Unit {0}
AreRead (r ∷ rs) = FormSays r.form r.text r.answer × AreRead rs

-- ---- an amoebot expands

-- lines 2 to 4, behind the header; 5 to 8 and 9 to 12
abbrev code_text : List ℕ
code_text = codes "program\naction out when contracted move expand head 0\nend\n"

abbrev pub program_text : List ℕ
program_text = codes "amoebot 1\n" ++ code_text

abbrev shape_text : List ℕ
shape_text = codes "shape\narea 0 0 8 8\nbot 2 3 2 3 0 +\nend\n"

abbrev lists_text : List ℕ
lists_text = codes "lists\nturns 2\nlist 0\nend\n"

abbrev schedule_text : List ℕ
schedule_text = codes "schedule 0 times 2 end\n"

abbrev journal_text : List ℕ
journal_text = codes "journal\nentry 0 0 0 0 0 expand head 0 spot 3 3 0 body 0 3 3 2 3 0 +\nend\n"

-- with old values
abbrev full_journal : List ℕ
full_journal = codes "journal\nentry 0 0 0 0 0 expand head 0 spot 3 3 empty to 0 "
    ++ codes "body 0 2 3 2 3 0 + to 3 3 2 3 0 +\nend\n"

abbrev final_text : List ℕ
final_text = codes "final\narea 0 0 8 8\nbot 3 3 2 3 0 +\nend\n"

abbrev pub turns_section : List ℕ
turns_section = codes "turns\nturn 0 0 done 0\nturn 0 1 idle 1\nend\n"

abbrev with_shape : List ℕ
with_shape = program_text ++ shape_text

abbrev with_lists : List ℕ
with_lists = with_shape ++ lists_text

abbrev record_text : List ℕ
record_text = journal_text ++ final_text

-- the program and the shape in a document of version 3
abbrev with_shape_3 : List ℕ
with_shape_3 = codes "amoebot 3\n" ++ code_text ++ shape_text

-- the same with this line of an amoebot
abbrev with_bot : List ℕ → List ℕ
with_bot line = program_text ++ codes "shape\narea 0 0 8 8\n" ++ line ++ codes "end\n" ++ lists_text

-- ---- what it is

abbrev pub out : tree.Program
out =
    let name : Name = record { text = codes "out"; line = 3 } in
    let direction : Literal = record { value = 0; line = 3 } in
    parsed_program false []
    (record {
      name = name;
      guard = atom tree.contracted;
      body = no_stmts;
      moved = through expand (at_end Head (fixed direction));
    } ∷ [])

abbrev pub bot_before : Bot
bot_before = shape_bot (pos 2) (pos 3) (pos 2) (pos 3) 0 Plus []

abbrev pub bot_after : Bot
bot_after = shape_bot (pos 3) (pos 3) (pos 2) (pos 3) 0 Plus []

abbrev pub shape_of_one : Bot → Config
shape_of_one b = with_these (frame_of eight_by_eight zeros) (b ∷ [])

abbrev from_to : CellName → Cell → Cell → CellChange
from_to n before after = (n, before, after)

abbrev pub entry_made : Entry
entry_made =
    entry_of 0 0 0 (record {
      action = 0;
      moved = moved.Expand (port Head 0);
      patch =
          from_to (name.Spot (a_node_of (pos 3) (pos 3))) (cell.Spot None) (cell.Spot (Some 0))
          ∷ from_to (name.Body 0) (cell.Body bot_before) (cell.Body bot_after) ∷ [];
    })

abbrev pub plain_made : PlainEntry
plain_made = plain_entry entry_made

abbrev pub only_program : Contents
only_program = record (nothing_yet 1) { checked = Some out }

abbrev pub program_and_shape : Contents
program_and_shape = record only_program { world = Some (shape_of_one bot_before) }

abbrev and_lists : Contents
and_lists = record program_and_shape { lists = Some (lists_of 2 ((0 ∷ []) ∷ [])) }

abbrev and_schedule : Contents
and_schedule = record and_lists { schedule = Some (0 ∷ 0 ∷ []) }

abbrev pub with_record : Contents → Contents
with_record a = record a { plain = Some (plain_made ∷ []); final_world = Some (shape_of_one bot_after) }

-- the same with old values
abbrev pub with_full_record : Contents → Contents
with_full_record a =
    record a { version = 3; entries = Some (entry_made ∷ []); final_world = Some (shape_of_one bot_after) }

-- ---- documents

abbrev pub document_rows : List DocumentRow
document_rows =
    has Run with_lists and_lists
    ∷ has Run (with_lists ++ schedule_text) and_schedule
    ∷ has Interleave (with_lists ++ schedule_text) and_schedule
    ∷ has Check program_text only_program
    ∷ has Check with_shape program_and_shape
    ∷ has Check with_lists and_lists
    ∷ has Check (with_lists ++ schedule_text) and_schedule
    ∷ has Replay (with_shape ++ record_text) (with_record program_and_shape)
    ∷ has Replay (with_lists ++ record_text ++ turns_section) (with_record and_lists)
    ∷ has Replay (with_lists ++ schedule_text ++ record_text ++ turns_section) (with_record and_schedule)
    ∷ has Replay (with_shape_3 ++ full_journal ++ final_text) (with_full_record program_and_shape)
    ∷ has Measure with_shape program_and_shape
    ∷ has Measure with_lists and_lists
    ∷ has Measure (with_lists ++ schedule_text) and_schedule
    ∷ has Measure (with_shape ++ record_text) (with_record program_and_shape)
    ∷ has Measure (with_lists ++ record_text ++ turns_section) (with_record and_lists)
    ∷ has Measure with_shape_3 (record program_and_shape { version = 3 })
    ∷ []

-- ---- texts that are none

abbrev pub fault_rows : List DocumentRow
fault_rows =
    fails Run [] 1 Truncated
    ∷ fails Run (program_text ++ codes "shape\narea 0 0 8 8\nbot 2 3") 7 Truncated
    -- rules of the sections
    ∷ fails Run (with_bot (codes "bot 9 3 9 3 0 +\n")) 7 OutOfBox
    ∷ fails Run (with_bot (codes "bot 2 3 4 3 0 +\n")) 7 NotAdjacent
    ∷ fails Run (with_bot (codes "bot 2 3 2 3 0 +\nbot 2 3 2 3 0 +\n")) 8 Overlap
    ∷ fails Run (with_shape ++ codes "lists\nturns 2\nlist 1\nend\n") 11 BadId
    ∷ fails Run (with_lists ++ codes "schedule\n1 end") 14 BadId
    ∷ fails Run
    (codes "amoebot 1\nprogram\naction out when contracted\nmove expand p end shape") 4 UnknownName
    ∷ fails Replay (with_shape ++ codes "journal\nentry 1 0 0 0 0 none\nend\n" ++ final_text) 10 BadPlace
    -- old values in a version without them, and none in one with them
    ∷ fails Replay (with_shape ++ full_journal ++ final_text) 10 Unexpected
    ∷ fails Replay (with_shape_3 ++ journal_text ++ final_text) 10 Unexpected
    -- the header
    ∷ fails Run (codes "amoebot 4\nprogram") 1 BadRange
    ∷ fails Run (codes "amoebot 0\nprogram") 1 BadRange
    ∷ fails Run (codes "program") 1 Unexpected
    ∷ fails Run (codes "amoebot\nprogram") 2 Unexpected
    -- a section word that may not come
    ∷ fails Run (codes "amoebot 1\namoebot 1") 2 WrongSection
    ∷ fails Run (codes "amoebot 1\nshape") 2 WrongSection
    ∷ fails Run (codes "amoebot 1\nlists") 2 WrongSection
    ∷ fails Run (codes "amoebot 1\nschedule") 2 WrongSection
    ∷ fails Run (codes "amoebot 1\njournal") 2 WrongSection
    ∷ fails Run (codes "amoebot 1\nfinal") 2 WrongSection
    ∷ fails Run (codes "amoebot 1\nturns") 2 WrongSection
    ∷ fails Run (program_text ++ codes "program") 5 WrongSection
    ∷ fails Run (program_text ++ lists_text) 5 WrongSection
    ∷ fails Interleave (with_lists ++ record_text) 13 WrongSection
    ∷ fails Replay (with_lists ++ final_text) 13 WrongSection
    ∷ fails Measure (with_shape ++ journal_text ++ turns_section) 12 WrongSection
    -- another word, or none
    ∷ fails Run (codes "amoebot 1\nend") 2 Unexpected
    ∷ fails Run with_shape 9 Truncated
    ∷ fails Interleave with_lists 13 Truncated
    ∷ fails Check (codes "amoebot 1\n") 2 Truncated
    ∷ fails Replay with_lists 13 Truncated
    ∷ fails Replay (with_shape ++ journal_text) 12 Truncated
    ∷ fails Measure program_text 5 Truncated
    -- behind a document
    ∷ fails Run (with_lists ++ codes "more\n") 13 Trailing
    ∷ fails Run (with_lists ++ record_text) 13 Trailing
    ∷ fails Interleave (with_lists ++ schedule_text ++ lists_text) 14 Trailing
    ∷ fails Check (program_text ++ lists_text) 5 Trailing
    ∷ fails Replay (with_shape ++ record_text ++ turns_section ++ turns_section) 20 Trailing
    ∷ fails Measure (with_shape ++ final_text) 9 Trailing
    ∷ fails Run (with_lists ++ codes "$") 13 BadByte
    ∷ []

pub record DocumentsAreRead : Type 0 where
  pub documents : AreRead document_rows
  pub faults : AreRead fault_rows
