-- A document of the form Run, followed by the text of a run, is one of the form Replay.
use Rattle.std.specs.Prelude.{◌≡◌, ◌<◌, ◌≤◌, ◌^◌, ℕ, if◌then◌else◌, List, ◌++◌, Some, length, map, codes}
use Rattle.std.specs.List.{All}
use Rattle.amoebot_state.specs.declared.verdict.Entry.{Entry}
use Rattle.amoebot_state.specs.Limits.{most_vars}
use Rattle.amoebot_state.specs.Configs.{Config}
use Rattle.amoebot_state.specs.Steps.{plain_entry}
use Rattle.claim_core.specs.Limits.{most_callers, most_turns}
use Rattle.claim_core.specs.Turns.{MarkLists}
use Rattle.shape_text.specs.Parts.{has_old_values}
use Rattle.journal_text.specs.Texts.{written_by, journal_of_version, turns_text}
use Rattle.journal_text.specs.Rereading.{KeepsLimits, AreWritable}
use Rattle.shape_text.specs.Texts.{shape_text}
use Rattle.shape_text.specs.Rereading.{IsWritableConfig}
use Rattle.shape_files.specs.declared.section_kind.Form.TheVariants.{Run, Replay}
use Rattle.shape_files.specs.Documents.{Contents, var_count, actions_of, maxes_in, bots_of, HasContents}

-- the text of a run in documents of the version: its journal, its last shape and its turns,
-- of so many variables
abbrev pub run_text : ℕ → ℕ → List Entry → Config → MarkLists → List ℕ
run_text version vars entries last marks =
    journal_of_version version vars entries ++ (shape_text (codes "final") vars last ++ turns_text marks)

-- a document with the entries and the last configuration of a run, as its version has them
abbrev pub recorded_with : Contents → List Entry → Config → Contents
recorded_with a entries last =
    if has_old_values a.version
    then record a { entries = Some entries; final_world = Some last }
    else record a { plain = Some (map plain_entry entries); final_world = Some last }

-- What a run of a document leaves breaks no limit.
-- Its entries, as texts of the version have them, are known and few enough.
-- Its last configuration is one that a world has, with the maxima of the program.
-- Its marks have numbers of at most nine digits.
pub record KeepsRunLimits (a : Contents) (es : List Entry) (c : Config) (m : MarkLists) : Type 0 where
  pub vars : var_count a.checked ≤ most_vars
  pub actions : actions_of a.checked < 2 ^ 8
  pub bots : bots_of a.world < 2 ^ 16
  pub few : length es ≤ most_turns
  pub entries : All (λ e. KeepsLimits (bots_of a.world) (actions_of a.checked) (var_count a.checked)
      (written_by (has_old_values a.version) e)) es
  pub last : IsWritableConfig a.version (var_count a.checked) c
  pub maxes : c.maxes ≡ maxes_in a.checked
  pub callers : length m.marks ≤ most_callers
  pub marks : All (AreWritable a.version) m.marks

-- the last byte is a line feed
abbrev pub EndsLine : List ℕ → Type 0
EndsLine bytes = (front : List ℕ) × (bytes ≡ front ++ codes "\n")

-- such a document, followed by such a text, has the run's entries and its last
-- configuration besides what it had
abbrev pub RunsAreReplayed : Type 0
RunsAreReplayed =
    (bytes : List ℕ) (a : Contents) (entries : List Entry) (last : Config) (marks : MarkLists)
    → EndsLine bytes
    → HasContents Run bytes a
    → KeepsRunLimits a entries last marks
    → HasContents Replay (bytes ++ run_text a.version (var_count a.checked) entries last marks)
    (recorded_with a entries last)
