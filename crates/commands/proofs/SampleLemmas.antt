-- The text of a sample is six lines, whatever its report.
use Rattle.std.proofs.Common.{◌≡◌, ◌*◌, ℕ, List, [], ◌∷◌, ◌++◌, true, length, refl, ap, ◌∙◌}
use Rattle.std.specs.Prelude.{codes, decimal}
use Rattle.std.specs.Fmt.{digits}
use Rattle.text_tokens.specs.Lines.{line_text, lines_text}
use Rattle.tri_lattice.specs.Sets.{IsConnected}
use Rattle.amoebot_state.specs.Configs.{Config}
use Rattle.amoebot_state.specs.Occupied.{occupied}
use Rattle.claim_core.specs.declared.report.Report.{Report}
use Rattle.amoebot_state.specs.Steps.{IsWorldAt}
use Rattle.amoebot_state.proofs.Stays.{world_last}
use Rattle.action_tree.specs.Trees.{Program}
use Rattle.action_meaning.specs.Verdicts.{verdict_shown}
use Rattle.run_sample.specs.Laws.{SampleIsFit}
use Rattle.commands.specs.ReportLaws.{GoodStaysConnected}
use Rattle.document_answers.specs.Measure.{yes_or_no}
use Rattle.commands.specs.Sample.{sample_text, IsTextOfSample, six_lines}
use Rattle.commands.specs.Headline.{IsRunOfSample}

-- the lines behind the first
abbrev lines_behind : List ℕ
lines_behind = lines_text ((codes "bots" ∷ decimal 150 ∷ []) ∷ (codes "callers" ∷ decimal 4 ∷ []) ∷ (codes "turns" ∷ decimal 16000 ∷ []) ∷ (codes "connected" ∷ yes_or_no true ∷ []) ∷ (codes "replay" ∷ yes_or_no true ∷ []) ∷ [])

same_lines : lines_behind ≡ codes "bots 150\ncallers 4\nturns 16000\nconnected yes\nreplay yes\n"
unfolding digits
same_lines = refl

numbers : (seed : ℕ) → sample_text seed 150 4 16000 true true ≡ six_lines seed
numbers seed = ap (λ (lines : List ℕ). line_text (codes "sample" ∷ decimal seed ∷ []) ++ lines) same_lines

module _ (stays : GoodStaysConnected) (fit : SampleIsFit) (seed : ℕ) (report : Report) (text : List ℕ) (x : IsTextOfSample seed report text) where
  each_connected : (place : ℕ) (world : Config) → IsWorldAt (verdict_shown x.sample.checked) x.sample.world report.journal.entries place world → IsConnected (occupied world)
  each_connected = stays x.sample.checked x.sample.world x.sample.lists report x.good (ap (λ (p : Program). p.guard) x.its_sample.program) (fit seed x.sample x.its_sample).connected

  pub text_is_six_lines : text ≡ six_lines seed
  text_is_six_lines =
      let run = x.good.run in
      let last = each_connected (length report.journal.entries) report.world (world_last (verdict_shown x.sample.checked) x.sample.world report.world report.journal.entries run) in
      let connected : x.writes.connected ≡ true = x.writes.is_connected.1 last in
      let agrees : x.writes.agrees ≡ true = x.writes.is_run.1 run in
      let many = (fit seed x.sample x.its_sample).many in
      let lists = x.its_sample.lists in
      x.writes.whole ∙ (λ i. sample_text seed (many i) (length (lists i).ids) (length (lists i).ids * (lists i).turns) (connected i) (agrees i)) ∙ numbers seed

  pub told_by_sample : IsRunOfSample seed report text
  told_by_sample = record { sample = x.sample; its_sample = x.its_sample; good = x.good; reached = x.reached; connected = each_connected; writes = text_is_six_lines }
