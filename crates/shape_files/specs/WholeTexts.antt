-- Documents that are printed whole.
-- Such a document has what was printed, lines of the program aside.
use Rattle.std.specs.Prelude.{◌≡◌, ◌≤◌, ℕ, List, [], ◌∷◌, ◌++◌, Option, Some, None, length, codes, decimal}
use Rattle.std.specs.Option.{option_map, IfSome, IsSome}
use Rattle.std.specs.List.{All, flat_map}
use Rattle.text_tokens.specs.Lines.{Words, line_text}
use Rattle.amoebot_state.specs.Configs.{Config}
use Rattle.claim_core.specs.Limits.{most_callers, most_turns}
use Rattle.claim_core.specs.Turns.{MarkLists}
use Rattle.action_tree.specs.Lines.{without_lines}
use Rattle.action_print.specs.Canon.{canon}
use Rattle.journal_text.specs.Journals.{WrittenEntry}
use Rattle.journal_text.specs.Texts.{written_full, written_plain, journal_text, plain_text, turns_text}
use Rattle.journal_text.specs.Rereading.{KeepsLimits, AreWritable}
use Rattle.shape_text.specs.Texts.{shape_text}
use Rattle.shape_text.specs.Rereading.{IsWritableConfig}
use Rattle.shape_files.specs.declared.section_kind.Form.{Form}
use Rattle.shape_files.specs.Frame.{IsVersion}
use Rattle.shape_files.specs.Documents.{Contents, var_count, actions_of, maxes_in, bots_of, HasContents}
use Rattle.shape_files.specs.Fitting.{HasSections, AreTogether, IsByVersion, IsWritableProgram}

-- ---- the text

-- the first line: the word of documents, and the version
abbrev pub header_line : ℕ → Words
header_line version = codes "amoebot" ∷ decimal version ∷ []

-- the text of what is there
abbrev pub text_of_some : {A : Type 0} → (A → List ℕ) → Option A → List (List ℕ)
text_of_some text None = []
text_of_some text (Some a) = text a ∷ []

-- The sections that are there, in the order of documents.
-- Lists and schedules are not printed.
abbrev pub section_texts : Contents → Option MarkLists → List (List ℕ)
section_texts a marks =
    text_of_some canon a.checked
    ++ text_of_some (shape_text (codes "shape") (var_count a.checked)) a.world
    ++ text_of_some (journal_text (var_count a.checked)) a.entries
    ++ text_of_some (plain_text (var_count a.checked)) a.plain
    ++ text_of_some (shape_text (codes "final") (var_count a.checked)) a.final_world
    ++ text_of_some turns_text marks

-- the first line, and then the sections
abbrev pub document_text : Contents → Option MarkLists → List ℕ
document_text a marks = line_text (header_line a.version) ++ flat_map (λ text. text) (section_texts a marks)

-- ---- what can be printed

-- a configuration that a world has, with the maxima of the program
pub record IsWritableShape (a : Contents) (c : Config) : Type 0 where
  pub world : IsWritableConfig a.version (var_count a.checked) c
  pub maxes : c.maxes ≡ maxes_in a.checked

-- entries that break no limit, of the amoebots and actions that there are, where each is written so
pub record AreWritableEntries {E : Type 0} (written : E → WrittenEntry)
    (a : Contents) (es : List E) : Type 0 where
  pub few : length es ≤ most_turns
  pub each : All (λ e.
      KeepsLimits (bots_of a.world) (actions_of a.checked) (var_count a.checked) (written e)) es

-- Marks of such numbers as a text can hold.
-- They stand behind a last shape.
pub record AreWritableMarks (a : Contents) (m : MarkLists) : Type 0 where
  pub behind : IsSome a.final_world
  pub callers : length m.marks ≤ most_callers
  pub each : All (AreWritable a.version) m.marks

-- The version is one that there is.
-- The sections are those of the form, without lists and a schedule,
-- and each of them can be printed.
pub record IsWritableDocument (form : Form) (a : Contents) (marks : Option MarkLists) : Type 0 where
  pub version : IsVersion a.version
  pub sections : HasSections form a
  pub recorded : AreTogether a
  pub no_lists : a.lists ≡ None
  pub no_schedule : a.schedule ≡ None
  pub program : IfSome a.checked IsWritableProgram
  pub world : IfSome a.world (IsWritableShape a)
  pub entries : IfSome a.entries (AreWritableEntries written_full a)
  pub plain : IfSome a.plain (AreWritableEntries written_plain a)
  pub by_version : IsByVersion a
  pub final_world : IfSome a.final_world (IsWritableShape a)
  pub turns : IfSome marks (AreWritableMarks a)

-- ---- the law

-- with a program without lines
abbrev pub bare_contents : Contents → Contents
bare_contents a = record a { checked = option_map without_lines a.checked }

-- the bytes are a document of the form that has this, lines of the program aside
pub record HasBareContents (form : Form) (bytes : List ℕ) (a : Contents) : Type 0 where
  pub contents : Contents
  pub has : HasContents form bytes contents
  pub same : bare_contents contents ≡ bare_contents a

-- what can be printed is read back from its text
abbrev pub DocumentsReadBack : Type 0
DocumentsReadBack =
    (form : Form) (a : Contents) (marks : Option MarkLists)
    → IsWritableDocument form a marks
    → HasBareContents form (document_text a marks) a
