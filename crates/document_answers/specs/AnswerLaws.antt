-- What follows from the definitions of answers alone.
use Rattle.std.specs.Prelude.{◌≡◌, ◌<◌, ◌⊎◌, ℕ, true, List, length, IsSome}
use Rattle.amoebot_state.specs.declared.verdict.Entry.{Entry}
use Rattle.amoebot_state.specs.declared.verdict.Verdict.{Verdict}
use Rattle.amoebot_state.specs.Configs.{Config, IsValid, bot_at}
use Rattle.amoebot_state.specs.Steps.{HasPatchedWorld}
use Rattle.amoebot_state.specs.Zones.{Shown}
use Rattle.claim_core.specs.declared.report.Report.{Report}
use Rattle.claim_core.specs.Turns.{CallerLists}
use Rattle.claim_core.specs.Machine.{Setup}
use Rattle.text_tokens.specs.declared.refusal.Refusal.{Refusal}
use Rattle.text_tokens.specs.Text.{Lexeme, AreTokens}
use Rattle.action_tree.specs.Trees.{Program}
use Rattle.action_tree.specs.Writable.{is_writable}
use Rattle.action_print.specs.Canon.{canon}
use Rattle.action_print.specs.ReadsBack.{AreReadAs}
use Rattle.action_check.specs.Faults.{AreRulesKept}
use Rattle.action_meaning.specs.Verdicts.{verdict_on}
use Rattle.document_answers.specs.Reports.{report_text}
use Rattle.document_answers.specs.Interleave.{IsScheduled, IsInterleaveReport}
use Rattle.document_answers.specs.Journals.{AgreesIn, DiffersAt}
use Rattle.document_answers.specs.Rounds.{CountedIn}
use Rattle.document_answers.specs.Measure.{IsMeasureText}

-- one report, apart from the room in its journal
pub record SameReport (one two : Report) : Type 0 where
  pub world : one.world ≡ two.world
  pub entries : one.journal.entries ≡ two.journal.entries
  pub marks : one.turns.marks ≡ two.turns.marks

-- a schedule gives at most one report
abbrev pub ScheduleHasOneReport : Type 0
ScheduleHasOneReport =
    (g : Setup) (schedule : List ℕ) (one two : Report)
    → IsScheduled g schedule one
    → IsScheduled g schedule two
    → SameReport one two

-- and at most one text of it
abbrev pub InterleaveReportIsOne : Type 0
InterleaveReportIsOne =
    (f : Shown → Verdict) (start : Config) (lists : CallerLists)
    (schedule : List ℕ) (one two : Report) (version vars : ℕ)
    → IsInterleaveReport f start lists schedule one
    → IsInterleaveReport f start lists schedule two
    → SameReport one two × (report_text version vars one ≡ report_text version vars two)

-- Of entries in a form: what agrees differs nowhere, and what differs does so at one place.
-- Where each change that is decided leads somewhere,
-- a journal from a valid shape agrees or differs.
pub record ReplayIsDecided {E : Type 0} (form : Entry → E) : Type 0 where
  pub exclusive : (f : Shown → Verdict) (start final : Config) (told : List E) (place : ℕ)
      → AgreesIn form f start told final
      → ¬ DiffersAt form f start told final place
  pub one_place : (f : Shown → Verdict) (start final : Config) (told : List E) (one two : ℕ)
      → DiffersAt form f start told final one
      → DiffersAt form f start told final two
      → one ≡ two
  pub some : (f : Shown → Verdict) (start final : Config) (told : List E)
      → HasPatchedWorld f
      → IsValid start
      → AgreesIn form f start told final ⊎ ((place : ℕ) × DiffersAt form f start told final place)

-- Entries in a form have one number of rounds, and one of amoebots that wait.
-- Entries from a valid shape without gaps that agree have both numbers.
pub record RoundsAreDecided {E : Type 0} (form : Entry → E) : Type 0 where
  pub one : (f : Shown → Verdict) (start final : Config) (told : List E) (rounds waiting others still : ℕ)
      → CountedIn form f start told final rounds waiting
      → CountedIn form f start told final others still
      → (rounds ≡ others) × (waiting ≡ still)
  pub some : (f : Shown → Verdict) (start final : Config) (told : List E)
      → IsValid start
      → ((b : ℕ) → b < length start.bots → IsSome (bot_at start b))
      → AgreesIn form f start told final
      → (rounds : ℕ) × (waiting : ℕ) × CountedIn form f start told final rounds waiting

-- the canonical text of a program that keeps the rules is read as a program that keeps them too,
-- and has the same verdict
abbrev pub CanonMeansTheSame : Type 0
CanonMeansTheSame =
    (p : Program) (ts : List Lexeme) (last : Refusal)
    → is_writable p ≡ true
    → AreRulesKept p
    → AreTokens (canon p) 0 ts last
    → (read : AreReadAs p ts last)
    × AreRulesKept read.program
    × ((c : Config) (i : ℕ) → verdict_on read.program c i ≡ verdict_on p c i)

-- a shape has one text of its measures
abbrev pub MeasureTextIsOne : Type 0
MeasureTextIsOne =
    (c : Config) (text other : List ℕ) → IsMeasureText c text → IsMeasureText c other → text ≡ other
