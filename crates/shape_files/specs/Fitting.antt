-- What a document has fits together: it has the sections of its form,
-- and each section names only what the others have.
use Rattle.std.specs.Prelude.{◌≡◌, ◌<◌, ◌≤◌, ℕ, Bool, true, false, List, [], None, length}
use Rattle.std.specs.Option.{IfSome, IsSome}
use Rattle.std.specs.List.{All}
use Rattle.amoebot_state.specs.Configs.{Config, IsValid, bot_at}
use Rattle.amoebot_state.specs.Limits.{most_bots, most_vars}
use Rattle.claim_core.specs.Limits.{most_turns}
use Rattle.claim_core.specs.Turns.{AreLists, HaveBots}
use Rattle.action_tree.specs.Trees as tree
use Rattle.action_tree.specs.Limits.{most_actions}
use Rattle.action_tree.specs.Writable.{is_writable}
use Rattle.action_check.specs.Faults.{faults}
use Rattle.shape_text.specs.Parts.{may_have_walls, has_old_values}
use Rattle.journal_text.specs.Journals.{WrittenEntry, is_known}
use Rattle.journal_text.specs.Texts.{written_full, written_plain}
use Rattle.shape_files.specs.declared.section_kind.Form.{Form}
use Rattle.shape_files.specs.declared.section_kind.Form.TheVariants.{Run, Interleave, Replay, Check, Measure}
use Rattle.shape_files.specs.Frame.{IsVersion}
use Rattle.shape_files.specs.Documents.{Contents, var_count, actions_of, maxes_in, bots_of, callers_of, HasContents}

-- ---- which sections there are

-- neither a journal nor a last shape
abbrev pub IsUnrecorded : Contents → Type 0
IsUnrecorded a = (a.entries ≡ None) × (a.plain ≡ None) × (a.final_world ≡ None)

-- a journal with old values, or one without
abbrev pub HasJournalBy : Bool → Contents → Type 0
HasJournalBy true a = IsSome a.entries
HasJournalBy false a = IsSome a.plain

-- a journal, as the version has it
abbrev pub HasJournal : Contents → Type 0
HasJournal a = HasJournalBy (has_old_values a.version) a

-- what a document of the form always has, and what it never has
abbrev pub HasSections : Form → Contents → Type 0
HasSections Run a = IsSome a.checked × IsSome a.world × IsSome a.lists × IsUnrecorded a
HasSections Interleave a =
    IsSome a.checked × IsSome a.world × IsSome a.lists × IsSome a.schedule × IsUnrecorded a
HasSections Check a = IsSome a.checked × IsUnrecorded a
HasSections Replay a = IsSome a.checked × IsSome a.world × HasJournal a × IsSome a.final_world
HasSections Measure a = IsSome a.checked × IsSome a.world

-- a journal and a last shape come together
pub record AreTogether (a : Contents) : Type 0 where
  pub last : IfSome a.entries (λ es. IsSome a.final_world)
  pub last_plain : IfSome a.plain (λ ps. IsSome a.final_world)
  pub first : IfSome a.final_world (λ c. HasJournal a)

-- ---- what they say of each other

-- a journal has old values only in a version that has them,
-- and lacks them only in one that has none
abbrev pub IsByVersion : Contents → Type 0
IsByVersion a = (has_old_values a.version ≡ true → a.plain ≡ None)
    × (has_old_values a.version ≡ false → a.entries ≡ None)

-- so many entries as there may be, of such amoebots and actions, where each is written so
pub record AreEntriesOf {E : Type 0} (written : E → WrittenEntry)
    (bots actions : ℕ) (es : List E) : Type 0 where
  pub few : length es ≤ most_turns
  pub there : All (λ e. (written e).bot < bots) es
  pub known : All (λ e. is_known bots actions (written e) ≡ true) es

pub record FitTogether (a : Contents) : Type 0 where
  -- the version is one that there is
  pub version : IsVersion a.version
  -- the program keeps the rules on names and ranges, and its limits
  pub checked : IfSome a.checked (λ p. faults p ≡ [])
  pub vars : var_count a.checked ≤ most_vars
  pub actions : actions_of a.checked ≤ most_actions
  -- the maxima of the variables are the program's
  pub world : IfSome a.world (λ c. c.maxes ≡ maxes_in a.checked)
  pub final_world : IfSome a.final_world (λ c. c.maxes ≡ maxes_in a.checked)
  -- there are walls only in a version that may have them
  pub walls : may_have_walls a.version ≡ false
      → IfSome a.world (λ c. c.walls ≡ []) × IfSome a.final_world (λ c. c.walls ≡ [])
  -- the amoebots of the lists are the shape's, and the callers of the schedule have lists
  pub lists : IfSome a.lists (λ l. IsSome a.world × HaveBots (bots_of a.world) l)
  pub schedule : IfSome a.schedule (λ steps.
      IsSome a.lists × All (λ caller. caller < callers_of a.lists) steps)
  -- the amoebots of the entries are the shape's, and their actions the program's;
  -- they have old values as the version says
  pub entries : IfSome a.entries (AreEntriesOf written_full (bots_of a.world) (actions_of a.checked))
  pub plain : IfSome a.plain (AreEntriesOf written_plain (bots_of a.world) (actions_of a.checked))
  pub by_version : IsByVersion a

pub record Fits (form : Form) (a : Contents) : Type 0 where
  pub sections : HasSections form a
  pub recorded : AreTogether a
  pub together : FitTogether a

-- ---- what they are by themselves

-- a shape is that of a world: it is valid, it has at most 4,096 amoebots, and each id has one
pub record IsWorldShape (c : Config) : Type 0 where
  pub valid : IsValid c
  pub few : length c.bots ≤ most_bots
  pub no_gaps : (id : ℕ) → id < length c.bots → IsSome (bot_at c id)

-- a program that keeps its limits, and the rules on names and ranges
pub record IsWritableProgram (p : tree.Program) : Type 0 where
  pub writable : is_writable p ≡ true
  pub checked : faults p ≡ []

-- the program of a document can be printed, its shapes are those of worlds,
-- and its lists are such as callers may have
pub record IsSoundDocument (a : Contents) : Type 0 where
  pub program : IfSome a.checked IsWritableProgram
  pub world : IfSome a.world IsWorldShape
  pub final_world : IfSome a.final_world IsWorldShape
  pub lists : IfSome a.lists AreLists

-- ---- laws

-- so it is with each document
abbrev pub DocumentsAreSound : Type 0
DocumentsAreSound =
    (form : Form) (bytes : List ℕ) (a : Contents) → HasContents form bytes a → IsSoundDocument a

-- what a document of a form has fits together
abbrev pub DocumentsFit : Type 0
DocumentsFit = (form : Form) (bytes : List ℕ) (a : Contents) → HasContents form bytes a → Fits form a
