-- A document with the text of its run behind it is one of Replay, and the journal agrees.
use Rattle.std.proofs.Common.{◌≡◌, ℕ, ◌^◌, ◌<◌, ◌≤◌, Bool, true, false, List, [], ◌++◌, length, map, get_or, Option, Some, codes, refl, sym, ap, subst, ◌∙◌, arith, append_assoc, inl, inr}
use Rattle.std.specs.Prelude.{IsSome, if◌then◌else◌}
use Rattle.std.specs.Option.{IfSome}
use Rattle.std.specs.List.{All}
use Rattle.amoebot_state.specs.declared.verdict.Entry.{Entry}
use Rattle.amoebot_state.specs.Configs.{Config}
use Rattle.amoebot_state.specs.Steps.{plain_entry}
use Rattle.amoebot_state.specs.Laws.{ZoneHasAtMostNineBodies}
use Rattle.claim_core.specs.declared.report.Report.{Report}
use Rattle.claim_core.specs.Limits.{most_turns}
use Rattle.claim_core.specs.Turns.{CallerLists, AreFew, AreLists, HaveBots}
use Rattle.claim_core.specs.Good.{Good}
use Rattle.shape_text.specs.Parts.{may_have_walls, has_old_values}
use Rattle.journal_text.specs.Rereading.{KeepsLimits, PlainKeepsLimits}
use Rattle.journal_text.specs.Texts.{written_by, written_full, journal_of_version, turns_text}
use Rattle.shape_text.specs.Texts.{shape_text}
use Rattle.shape_text.specs.Rereading as shape
use Rattle.model_ops.specs.Laws.{ActsKeepDeciderLaws}
use Rattle.action_tree.specs.Trees.{Program}
use Rattle.action_meaning.specs.Verdicts.{verdict_shown}
use Rattle.action_meaning.specs.Laws.{ProgramsDecideByActs, BlockedIsShown}
use Rattle.shape_files.specs.declared.section_kind.Form.TheVariants as form
use Rattle.shape_files.specs.Documents.{Contents, var_count, actions_of, maxes_in, bots_of, HasContents}
use Rattle.shape_files.specs.RunTexts.{run_text, recorded_with, KeepsRunLimits, EndsLine, RunsAreReplayed}
use Rattle.shape_files.specs.Fitting.{FitTogether, DocumentsAreSound, DocumentsFit, IsSoundDocument, IsWorldShape}
use Rattle.document_answers.specs.Reports.{report_text, reported}
use Rattle.commands.specs.ReportLaws.{GoodIsFew}
use Rattle.commands.specs.declared.words.DocumentCommand.{DocumentCommand}
use Rattle.commands.specs.declared.words.DocumentCommand.TheVariants.{Interleave}
use Rattle.document_answers.specs.declared.status.Status.TheVariants as status
use Rattle.commands.specs.Commands.{IsDocumentOf}
use Rattle.commands.specs.Outcomes.{IsOutcome}
use Rattle.commands.specs.Owed.{served}
use Rattle.commands.specs.ReplayLaws.{IsReplayed, RunTextsAreReplayed, TicketTextsAreReplayed, InterleaveTextsAreReplayed, WhatIsOwedIsReplayed}
use Rattle.claim_core.proofs.Frames.{IsFramed, framed_first, framed_on}
use Rattle.commands.proofs.Worlds.{MayRun, maxes_are, is_writable}
use Rattle.commands.proofs.DocumentWorlds.{drawn, may, start_walls}
use Rattle.commands.proofs.Entries.{IsNumbered, listed_numbered, all_keep_limits}
use Rattle.commands.proofs.MarkLemmas.{few_callers, marks_writable}
use Rattle.commands.proofs.Interleaved.{interleaves_are_runs}
use Rattle.document_answers.specs.Journals.{TellsEntries}
use Rattle.commands.proofs.JournalLemmas.{replay_agrees}
use Rattle.commands.proofs.OutcomeEnds.{IsEndOf, reports, end_of}
use Rattle.document_answers.specs.declared.status.Status.TheVariants.{Done}

-- what the laws of lower crates say
pub record Laws : Type 0 where
  pub fit : DocumentsFit
  pub sound : DocumentsAreSound
  pub replayed : RunsAreReplayed
  pub few : GoodIsFew
  pub acts : ProgramsDecideByActs
  pub blocked : BlockedIsShown
  pub decide : ActsKeepDeciderLaws
  pub nine : ZoneHasAtMostNineBodies
  pub plain_limits : PlainKeepsLimits

-- an entry that breaks no limit breaks none without its old values
limits_by : Laws → (old : Bool) (bots actions vars : ℕ) (e : Entry) → KeepsLimits bots actions vars (written_full e) → KeepsLimits bots actions vars (written_by old e)
limits_by laws true bots actions vars e keeps = keeps
limits_by laws false bots actions vars e keeps = laws.plain_limits bots actions vars e keeps

-- the text of a report is that of a run
text_is : (version vars : ℕ) (report : Report) → run_text version vars report.journal.entries report.world report.turns ≡ report_text version vars report
text_is version vars report = sym (append_assoc (journal_of_version version vars report.journal.entries) (shape_text (codes "final") vars report.world) (turns_text report.turns))

-- what a document has of a run, with the old values of its patches or without
record HasRun (a : Contents) (es : List Entry) (end : Config) (b : Contents) : Type 0 where
  program : b.checked ≡ a.checked
  world : b.world ≡ a.world
  final : b.final_world ≡ Some end
  told : TellsEntries b es

has_run : (a : Contents) (es : List Entry) (end : Config) (old : Bool) → HasRun a es end (if old then record a { entries = Some es; final_world = Some end } else record a { plain = Some (map plain_entry es); final_world = Some end })
has_run a es end true = record { program = refl; world = refl; final = refl; told = inl refl }
has_run a es end false = record { program = refl; world = refl; final = refl; told = inr refl }

module _ (laws : Laws) (bytes : List ℕ) (a : Contents) (p : Program) (start : Config) (lists : CallerLists) (report : Report) (holds : HasContents form.Run bytes a) (its_program : a.checked ≡ Some p) (its_shape : a.world ≡ Some start) (its_lists : a.lists ≡ Some lists) (good : Good (verdict_shown p) start lists report) where
  fits : FitTogether a
  fits = (laws.fit form.Run bytes a holds).together

  sound : IsSoundDocument a
  sound = laws.sound form.Run bytes a holds

  -- ---- of the parts by themselves

  few_lists : AreFew (length lists.ids) lists.turns
  few_lists = (subst (λ (o : Option CallerLists). IfSome o AreLists) its_lists sound.lists).few

  bots_there : HaveBots (length start.bots) lists
  bots_there =
      let of : IsSome a.world × HaveBots (bots_of a.world) lists = subst (λ (o : Option CallerLists). IfSome o (λ l. IsSome a.world × HaveBots (bots_of a.world) l)) its_lists fits.lists in
      subst (λ (o : Option Config). HaveBots (bots_of o) lists) its_shape of.1

  stands : IsWorldShape start
  stands = drawn a p start fits sound its_program its_shape

  runs : MayRun p start
  runs = may a p start fits sound its_program its_shape

  walls : may_have_walls a.version ≡ false → start.walls ≡ []
  walls = start_walls a p start fits sound its_program its_shape

  first : IsFramed start start
  first = framed_first start good.valid

  last : IsFramed start report.world
  last = framed_on (verdict_shown p) start start report.world report.journal.entries first good.run

  few_entries : length report.journal.entries ≤ most_turns
  few_entries =
      let few = (laws.few (verdict_shown p) start lists report good).few in
      let all = few_lists.in_all in
      omega arith

  numbered : All IsNumbered report.journal.entries
  numbered = λ k d inside. listed_numbered lists (get_or report.journal.entries k d) few_lists (good.order.listed k d inside)

  entries : All (λ e. KeepsLimits (length start.bots) (length p.actions) (length p.vars) (written_full e)) report.journal.entries
  entries = all_keep_limits p start runs (laws.decide (verdict_shown p) (laws.acts p)) laws.nine report.world report.journal.entries first numbered good.run

  -- with their old values or without, as the version has them
  entries_by_version : All (λ e. KeepsLimits (length start.bots) (length p.actions) (length p.vars) (written_by (has_old_values a.version) e)) report.journal.entries
  entries_by_version = λ k d inside. limits_by laws (has_old_values a.version) (length start.bots) (length p.actions) (length p.vars) (get_or report.journal.entries k d) (entries k d inside)

  -- ---- of the document

  keeps : KeepsRunLimits a report.journal.entries report.world report.turns
  keeps = record {
    vars = fits.vars;
    actions = (let few = fits.actions in omega arith);
    bots = subst (λ (o : Option Config). bots_of o < 2 ^ 16) (sym its_shape) (let few = stands.few in omega arith);
    few = few_entries;
    entries = subst (λ (o : Option Config). All (λ e. KeepsLimits (bots_of o) (actions_of a.checked) (var_count a.checked) (written_by (has_old_values a.version) e)) report.journal.entries) (sym its_shape)
        (subst (λ (o : Option Program). All (λ e. KeepsLimits (length start.bots) (actions_of o) (var_count o) (written_by (has_old_values a.version) e)) report.journal.entries) (sym its_program) entries_by_version);
    last = subst (λ (o : Option Program). shape.IsWritableConfig a.version (var_count o) report.world) (sym its_program) (is_writable p start runs report.world last a.version walls);
    maxes = subst (λ (o : Option Program). report.world.maxes ≡ maxes_in o) (sym its_program) (maxes_are p start runs report.world last);
    callers = few_callers (verdict_shown p) start lists report.journal.entries report.turns first stands.few bots_there few_lists few_entries good.marks;
    marks = marks_writable (verdict_shown p) start lists report.journal.entries report.turns first stands.few bots_there few_lists few_entries a.version (laws.blocked p) walls good.marks;
  }

  is_replayed : (text : List ℕ) → EndsLine bytes → text ≡ report_text a.version (length p.vars) report → IsReplayed bytes a report text
  is_replayed text line whole =
      let same : run_text a.version (var_count a.checked) report.journal.entries report.world report.turns ≡ text =
      ap (λ (o : Option Program). run_text a.version (var_count o) report.journal.entries report.world report.turns) its_program ∙ text_is a.version (length p.vars) report ∙ sym whole in
      let b = recorded_with a report.journal.entries report.world in
      let document : HasContents form.Replay (bytes ++ text) b =
      subst (λ (t : List ℕ). HasContents form.Replay (bytes ++ t) b) same (laws.replayed bytes a report.journal.entries report.world report.turns line holds keeps) in
      let has : HasRun a report.journal.entries report.world b = has_run a report.journal.entries report.world (has_old_values a.version) in
      record {
        document = document;
        agrees = replay_agrees (bytes ++ text) b (record {
          program = p;
          start = start;
          final = report.world;
          its_program = has.program ∙ its_program;
          its_shape = has.world ∙ its_shape;
          its_final = has.final;
        }) report.journal.entries document (record { told = has.told; agrees = good.run });
      }

module _ (laws : Laws) where
  pub run_texts_are_replayed : RunTextsAreReplayed
  run_texts_are_replayed bytes a report text line holds (reported d r run) = is_replayed laws bytes a d.program d.start d.lists report holds d.its_program d.its_shape d.its_lists run.good text line refl

  pub ticket_texts_are_replayed : TicketTextsAreReplayed
  ticket_texts_are_replayed bytes a report text line holds (reported d r run) = is_replayed laws bytes a d.program d.start d.lists report holds d.its_program d.its_shape d.its_lists run.good text line refl

  interleave_text_is_replayed : (bytes : List ℕ) (a : Contents) (report : Report) (text : List ℕ) → EndsLine bytes → HasContents form.Run bytes a → IsOutcome a Interleave status.Done (Some report) text → IsReplayed bytes a report text
  interleave_text_is_replayed bytes a report text line holds (reported d r (schedule, its_schedule, run)) = is_replayed laws bytes a d.program d.start d.lists report holds d.its_program d.its_shape d.its_lists run.good text line refl

  pub interleave_texts_are_replayed : InterleaveTextsAreReplayed
  interleave_texts_are_replayed = record { is_run = interleaves_are_runs; replayed = interleave_text_is_replayed }

  end_is_replayed : (c : DocumentCommand) (bytes : List ℕ) (a : Contents) (report : Report) (text : List ℕ) → EndsLine bytes → IsDocumentOf c bytes a → IsEndOf c a status.Done (Some report) text → IsReplayed bytes a report text
  end_is_replayed c bytes a report text line holds (reports makes as_run d r good reached) = is_replayed laws bytes a d.program d.start d.lists report (as_run bytes holds) d.its_program d.its_shape d.its_lists good text line refl

  pub what_is_owed_is_replayed : WhatIsOwedIsReplayed
  what_is_owed_is_replayed c bytes report text line (served d same a s told v holds is) = (end_is_replayed c bytes a report text line holds (end_of c a status.Done (Some report) text is)).agrees
