-- What is prepared for workers, and the texts of their reports.
use Rattle.std.proofs.Common.{◌≡◌, ◌≤◌, ◌*◌, ℕ, List, length, Some, refl, ap, sym, subst, arith}
use Rattle.std.specs.Prelude.{IsSome}
use Rattle.std.specs.List.{All}
use Rattle.amoebot_state.specs.Configs.{Config, bot_at}
use Rattle.serial_model.specs.Replays.{AreCountable}
use Rattle.claim_core.specs.declared.report.Report.{Report}
use Rattle.claim_core.specs.Turns.{CallerLists}
use Rattle.claim_core.specs.Good.{Good}
use Rattle.claim_core.specs.Laws.{OneListIsSerial}
use Rattle.claim_core.specs.Machine.{Setup, setup}
use Rattle.claim_core.specs.Reached.{Reached}
use Rattle.action_tree.specs.Trees.{Program}
use Rattle.action_meaning.specs.Verdicts.{verdict_shown}
use Rattle.shape_files.specs.Documents.{Contents}
use Rattle.run_sample.specs.Callers.{sample_lists}
use Rattle.run_sample.specs.Laws.{SampleIsFit}
use Rattle.run_sample.specs.Whole.{IsSample}
use Rattle.commands.specs.ReportLaws.{GoodIsFew}
use Rattle.document_answers.specs.Reports.{report_text, reported}
use Rattle.commands.specs.Sample.{IsSampleText}
use Rattle.commands.specs.declared.words.Command.TheVariants.{Document, Sample}
use Rattle.commands.specs.declared.words.DocumentCommand.TheVariants.{Run, Tickets}
use Rattle.document_answers.specs.declared.answer.Answer.{Answer}
use Rattle.commands.specs.declared.prepared.Maker.{Maker}
use Rattle.commands.specs.declared.prepared.Maker.TheVariants as maker
use Rattle.commands.specs.declared.prepared.Prepared.{Prepared}
use Rattle.commands.specs.declared.prepared.Telling.{Telling}
use Rattle.commands.specs.declared.prepared.Telling.TheVariants as telling
use Rattle.document_answers.specs.declared.status.Status.TheVariants as status
use Rattle.commands.specs.Commands.{IsDocumentOf}
use Rattle.commands.specs.Reads.{nothing, whole}
use Rattle.commands.specs.Owed.{IsOwed, served, sampled}
use Rattle.commands.specs.Tasks.{IsCounted, IsPrepared, IsRunFor, ReachedBy, TellsReport, Tells, of_document, of_number, turn_maker}
use Rattle.document_answers.specs.Answers.{with_report}

-- what workers leave, an interleaving gives
reached_by : (m : Maker) (g : Setup) (report : Report) → m ≡ maker.Workers → ReachedBy m g report → Reached g report
reached_by m g report is reached = subst (λ (n : Maker). ReachedBy n g report) is reached

-- the run of a document
pub prepares : OneListIsSerial → (a : Contents) (bytes : List ℕ) (run : Prepared) → IsDocumentOf Run bytes a → a.checked ≡ Some run.runner → a.world ≡ Some run.world → a.lists ≡ Some run.lists → run.telling ≡ telling.Report a.version → run.maker ≡ maker.Workers
    → All (All (λ (id : ℕ). IsSome (bot_at run.world id))) run.lists.ids → IsPrepared (Some (Document Run)) (whole bytes) run
prepares serials a bytes run h its_program its_shape its_lists its_telling its_maker there = record {
  its_maker = ap turn_maker (sym its_maker);
  its_lists = of_document Run bytes a h its_program its_shape its_lists its_telling its_maker;
  there = there;
  few = λ report good. subst (λ (t : Telling). IsCounted t report) (sym its_telling) tt;
  owed = λ report text good reached tells.
      let whole_text : text ≡ report_text a.version (length run.runner.vars) report = subst (λ (t : Telling). Tells t run.runner run.lists report text) its_telling tells in
      subst (λ (t : List ℕ). IsOwed (Some (Document Run)) (whole bytes) status.Done (Some report) t) (sym whole_text)
      (served Run bytes a status.Done (Some report) (report_text a.version (length run.runner.vars) report) h
      (reported (record { program = run.runner; start = run.world; lists = run.lists; its_program = its_program; its_shape = its_shape; its_lists = its_lists }) report (record {
        good = good;
        reached = reached_by run.maker (setup (verdict_shown run.runner) run.world run.lists) report its_maker reached;
        serial = λ few. serials (verdict_shown run.runner) run.world run.lists report few good;
      })));
}

-- the same run, whose commits draw their places
abbrev pub with_tickets : Prepared → Prepared
with_tickets run = record run { maker = maker.Tickets }

module _ (serials : OneListIsSerial) (bytes : List ℕ) (run : Prepared) (prepared : IsPrepared (Some (Document Run)) (whole bytes) run) where
  tickets_from : IsRunFor run (Some (Document Run)) (whole bytes) → IsPrepared (Some (Document Tickets)) (whole bytes) (with_tickets run)
  tickets_from (of_document c same a h its_program its_shape its_lists its_telling its_maker) = record {
    its_maker = refl;
    its_lists = of_document Tickets bytes a h its_program its_shape its_lists its_telling refl;
    there = prepared.there;
    few = prepared.few;
    owed = λ report text good reached tells.
        let whole_text : text ≡ report_text a.version (length run.runner.vars) report = subst (λ (t : Telling). Tells t run.runner run.lists report text) its_telling tells in
        subst (λ (t : List ℕ). IsOwed (Some (Document Tickets)) (whole bytes) status.Done (Some report) t) (sym whole_text)
        (served Tickets bytes a status.Done (Some report) (report_text a.version (length run.runner.vars) report) h
        (reported (record { program = run.runner; start = run.world; lists = run.lists; its_program = its_program; its_shape = its_shape; its_lists = its_lists }) report
        (record { good = good; reached = reached; serial = λ few. serials (verdict_shown run.runner) run.world run.lists report few good })));
  }

  pub prepares_tickets : IsPrepared (Some (Document Tickets)) (whole bytes) (with_tickets run)
  prepares_tickets = tickets_from prepared.its_lists

-- the run of a number's sample, whose report has few entries
few_of_sample : GoodIsFew → (run : Prepared) (report : Report) → run.lists ≡ sample_lists → Good (verdict_shown run.runner) run.world run.lists report → AreCountable report.journal.entries
few_of_sample law run report its_lists good =
    let few : length report.journal.entries ≤ length sample_lists.ids * sample_lists.turns = subst (λ (lists : CallerLists). length report.journal.entries ≤ length lists.ids * lists.turns) its_lists (law (verdict_shown run.runner) run.world run.lists report good).few in
    omega arith

pub prepares_sample : SampleIsFit → GoodIsFew → (seed : ℕ) (run : Prepared) → IsSample seed (record { checked = run.runner; world = run.world; lists = run.lists }) → run.telling ≡ telling.Sample seed → run.maker ≡ maker.Workers
    → IsPrepared (Some (Sample seed)) nothing run
prepares_sample fit law seed run is its_telling its_maker = record {
  its_maker = ap turn_maker (sym its_maker);
  its_lists = of_number seed is its_telling its_maker;
  there = (fit seed (record { checked = run.runner; world = run.world; lists = run.lists }) is).there;
  few = λ report good. subst (λ (t : Telling). IsCounted t report) (sym its_telling) (few_of_sample law run report is.lists good);
  owed = λ report text good reached tells.
      let first : IsSampleText (verdict_shown run.runner) report.journal.first run.lists seed report text = subst (λ (t : Telling). Tells t run.runner run.lists report text) its_telling tells in
      sampled seed report text (record {
        sample = record { checked = run.runner; world = run.world; lists = run.lists };
        its_sample = is;
        good = good;
        reached = reached_by run.maker (setup (verdict_shown run.runner) run.world run.lists) report its_maker reached;
        writes = subst (λ (start : Config). IsSampleText (verdict_shown run.runner) start run.lists seed report text) good.first first;
      });
}

-- ---- the text of a report

-- an answer with the report's own text tells it
pub report_told : (version : ℕ) (p : Program) (lists : CallerLists) (report : Report) (t : Telling) (answer : Answer) → t ≡ telling.Report version → answer ≡ with_report version (length p.vars) report → TellsReport t p lists report answer
report_told version p lists report t answer is same = subst (λ (t : Telling). TellsReport t p lists report answer) (sym is) (record {
  done = ap (λ (a : Answer). a.status) same;
  its_report = ap (λ (a : Answer). a.report) same;
  text = ap (λ (a : Answer). a.text) same;
})
