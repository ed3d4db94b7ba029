-- The command `sample`: the text of a report of lists' turns, which were made from a number.
use Rattle.std.specs.Prelude.{◌≡◌, ℕ, ◌*◌, Bool, List, [], ◌∷◌, ◌++◌, length, codes, decimal, Decides}
use Rattle.text_tokens.specs.Lines.{line_text, lines_text}
use Rattle.tri_lattice.specs.Sets.{IsConnected}
use Rattle.amoebot_state.specs.declared.verdict.Verdict.{Verdict}
use Rattle.amoebot_state.specs.Configs.{Config}
use Rattle.amoebot_state.specs.Occupied.{occupied}
use Rattle.amoebot_state.specs.Zones.{Shown}
use Rattle.claim_core.specs.declared.report.Report.{Report}
use Rattle.claim_core.specs.Turns.{CallerLists}
use Rattle.claim_core.specs.Machine.{setup}
use Rattle.claim_core.specs.Good.{Good}
use Rattle.claim_core.specs.Reached.{Reached}
use Rattle.action_meaning.specs.Verdicts.{verdict_shown}
use Rattle.run_sample.specs.declared.whole.Sample.{Sample}
use Rattle.run_sample.specs.Whole.{IsSample}
use Rattle.document_answers.specs.Measure.{yes_or_no}
use Rattle.document_answers.specs.Journals.{Agrees}

abbrev pub sample_text : ℕ → ℕ → ℕ → ℕ → Bool → Bool → List ℕ
sample_text seed bots callers turns connected agrees = lines_text (
    (codes "sample" ∷ decimal seed ∷ [])
    ∷ (codes "bots" ∷ decimal bots ∷ [])
    ∷ (codes "callers" ∷ decimal callers ∷ [])
    ∷ (codes "turns" ∷ decimal turns ∷ [])
    ∷ (codes "connected" ∷ yes_or_no connected ∷ [])
    ∷ (codes "replay" ∷ yes_or_no agrees ∷ [])
    ∷ [])

-- the text of a report: its number, how many amoebots, callers and turns there are,
-- whether the last world is connected, and whether the journal is a run
-- from the world at the start to the last one
pub record IsSampleText (f : Shown → Verdict) (start : Config) (lists : CallerLists) (seed : ℕ)
    (report : Report) (text : List ℕ) : Type 0 where
  pub connected : Bool
  pub agrees : Bool
  pub is_connected : Decides connected (IsConnected (occupied report.world))
  pub is_run : Decides agrees (Agrees f start report.journal.entries report.world)
  pub whole : text ≡ sample_text seed (length start.bots)
      (length lists.ids) (length lists.ids * lists.turns) connected agrees

-- the report is a good one of the turns of the number's sample, an interleaving gives it,
-- and the text tells it
pub record IsTextOfSample (seed : ℕ) (report : Report) (text : List ℕ) : Type 0 where
  pub sample : Sample
  pub its_sample : IsSample seed sample
  pub good : Good (verdict_shown sample.checked) sample.world sample.lists report
  pub reached : Reached (setup (verdict_shown sample.checked) sample.world sample.lists) report
  pub writes : IsSampleText (verdict_shown sample.checked) sample.world sample.lists seed report text

-- what such a text is
abbrev pub six_lines : ℕ → List ℕ
six_lines seed = line_text (codes "sample" ∷ decimal seed ∷ [])
    ++ codes "bots 150\ncallers 4\nturns 16000\nconnected yes\nreplay yes\n"
