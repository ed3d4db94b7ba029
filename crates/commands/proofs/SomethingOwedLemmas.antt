-- Something is owed.
use Rattle.std.proofs.Common.{◌≡◌, ◌≤◌, ◌*◌, ℕ, Bool, List, [], length, codes, true, Option, Some, None, Result, Ok, Err, inl, inr, refl, ap, sym, subst, arith}
use Rattle.std.specs.Prelude.{IsSome, IfSome, reverse}
use Rattle.std.specs.List.{All}
use Rattle.std.specs.Option.{option_or}
use Rattle.std.proofs.lemmas.Bool.{cases_Bool, cases_lt}
use Rattle.text_tokens.specs.declared.refusal.Refusal.{Refusal}
use Rattle.amoebot_state.specs.declared.verdict.Entry.{Entry}
use Rattle.amoebot_state.specs.Configs.{Config, IsValid, bot_at}
use Rattle.amoebot_state.specs.Limits.{most_bots}
use Rattle.serial_model.specs.Forms.{full_entry}
use Rattle.shape_text.specs.Parts.{has_old_values}
use Rattle.amoebot_state.specs.Steps.{HasPatchedWorld, OldValuesAreFound, plain_entry}
use Rattle.amoebot_state.proofs.Options.{there_is}
use Rattle.model_ops.specs.Laws.{ActsKeepDeciderLaws}
use Rattle.claim_core.specs.Turns.{AreLists, CallerLists}
use Rattle.claim_core.specs.Good.{Good}
use Rattle.claim_core.specs.Machine.{setup}
use Rattle.claim_core.specs.Soundness.{IsSetup}
use Rattle.claim_core.specs.Laws.{OneListIsSerial, ReachedIsGood, RoundsLeaveAReport}
use Rattle.claim_core.specs.TicketLaws.{TicketReachedIsGood, TicketsLeaveAReport}
use Rattle.amoebot_state.proofs.Stays.{world_last}
use Rattle.rewind_log.specs.Laws.{UnwoundIsSome}
use Rattle.rewind_log.specs.Unwinding.{IsUnwound}
use Rattle.round_meter.specs.Laws.{EachRunIsRounded}
use Rattle.action_tree.specs.Trees.{Program}
use Rattle.action_meaning.specs.Laws.{ProgramsDecideByActs}
use Rattle.action_meaning.specs.Verdicts.{verdict_shown}
use Rattle.shape_checks.specs.Laws.{MeasuresAreDecided}
use Rattle.shape_text.specs.Texts.{shape_text}
use Rattle.shape_files.specs.declared.section_kind.Form.TheVariants as form
use Rattle.shape_files.specs.Documents.{Contents, FormSaysFrom}
use Rattle.shape_files.specs.LeastVersions.{DecidedFromEach, LaterIsDocument, LaterHasOldValues}
use Rattle.shape_files.specs.Fitting.{DocumentsAreSound, DocumentsFit, Fits, HasJournal, HasJournalBy, HasSections, IsWorldShape, IsSoundDocument}
use Rattle.election_law.specs.Elections.{IsErosion, IsReadyStart}
use Rattle.election_law.specs.Laws.{ErosionOrNot, ReadyHasNone, ReadyOrUnready}
use Rattle.run_sample.specs.Laws.{SampleIsFit, SampleIsSome}
use Rattle.document_answers.specs.Check.{check_text}
use Rattle.commands.specs.Elect.{no_erosion, not_ready, elected_text, begun}
use Rattle.commands.specs.ReportLaws.{GoodStaysConnected}
use Rattle.document_answers.specs.AnswerLaws.{ReplayIsDecided}
use Rattle.document_answers.specs.Measure.{measure_text, last_shape}
use Rattle.document_answers.specs.Renew.{renewed_text}
use Rattle.document_answers.specs.Replay.{agrees_line}
use Rattle.document_answers.specs.Reports.{report_text, DocumentLists, reported}
use Rattle.document_answers.specs.Rounds.{IsRoundsText}
use Rattle.commands.specs.Sample.{sample_text}
use Rattle.commands.specs.declared.words.Command.TheVariants.{Document, Sample}
use Rattle.commands.specs.declared.words.DocumentCommand.{DocumentCommand}
use Rattle.commands.specs.declared.words.DocumentCommand.TheVariants.{Run, Interleave, Replay, Check, Measure, Renew, Rewind, Rounds, Elect, Tickets}
use Rattle.document_answers.specs.declared.status.Status.{Status}
use Rattle.document_answers.specs.declared.status.Status.TheVariants as status
use Rattle.commands.specs.Commands.{form_of, least_for, IsDocumentOf}
use Rattle.document_answers.specs.Rewind.{with_old_values, no_such_place, no_place, unwound, not_unwound}
use Rattle.commands.specs.Lines.{read_fault_line, too_long, usage_line, not_erosion, bad_start}
use Rattle.document_answers.specs.Answers.{refusal_line}
use Rattle.commands.specs.Outcomes.{IsOutcome}
use Rattle.commands.specs.Owed.{usage, read_fault, longer, refused, served, shown, sampled}
use Rattle.commands.specs.Reads.{nothing, whole}
use Rattle.commands.specs.Laws.{OwedIsSome, SomethingOwed}
use Rattle.commands.proofs.CommandDocuments.{of_form}
use Rattle.commands.proofs.OwedTexts.{are_there}
use Rattle.document_answers.specs.Journals.{differs_line, DocumentRecord, agreeing, differing, Agrees, EntriesOutcome, JournalOutcome, in_full, in_plain}
use Rattle.document_answers.specs.Texts.{written}
use Rattle.commands.specs.Show.{show_text}
use Rattle.document_answers.proofs.JournalAnswers.{IsAgreesLine}
use Rattle.commands.proofs.RoundsLemmas.{rounds_of}

-- what the laws of lower crates say
pub record Exists : Type 0 where
  pub documents : DecidedFromEach
  pub later : LaterIsDocument
  pub values : LaterHasOldValues
  pub fit : DocumentsFit
  pub sound : DocumentsAreSound
  pub rounds : RoundsLeaveAReport
  pub goods : ReachedIsGood
  pub tickets : TicketsLeaveAReport
  pub fine : TicketReachedIsGood
  pub serials : OneListIsSerial
  pub full : ReplayIsDecided full_entry
  pub plain : ReplayIsDecided plain_entry
  pub measures : MeasuresAreDecided
  pub stays : GoodStaysConnected
  pub samples : SampleIsSome
  pub fits : SampleIsFit
  pub acts : ProgramsDecideByActs
  pub decide : ActsKeepDeciderLaws
  pub backs : UnwoundIsSome
  pub counts : EachRunIsRounded
  pub erosions : ErosionOrNot
  pub starts : ReadyOrUnready
  pub ready : ReadyHasNone

-- an outcome of a document
record HasOutcome (a : Contents) (c : DocumentCommand) : Type 0 where
  status : Status
  report : Option Rattle.claim_core.specs.declared.report.Report.Report
  text : List ℕ
  is : IsOutcome a c status report text

module _ (laws : Exists) where
  -- ---- runs

  may_run : (p : Program) (start : Config) (lists : CallerLists) → IsValid start → length start.bots ≤ most_bots → AreLists lists → All (All (λ (id : ℕ). IsSome (bot_at start id))) lists.ids → IsSetup (setup (verdict_shown p) start lists)
  may_run p start lists valid few listed there =
      let keep = laws.decide (verdict_shown p) (laws.acts p) in
      record { valid = valid; few = few; lists = listed; bots = there; touches = λ c i change d. (keep c i change d).touches; leads = λ c i change d. (keep c i change d).leads }

  module _ (bytes : List ℕ) (a : Contents) (c : DocumentCommand) (h : IsDocumentOf c bytes a) where
    fits : Fits (form_of c) a
    fits = laws.fit (form_of c) bytes a (of_form laws.later c bytes a h)

    sound : IsSoundDocument a
    sound = laws.sound (form_of c) bytes a (of_form laws.later c bytes a h)

    drawn : (start : Config) → a.world ≡ Some start → IsWorldShape start
    drawn start e = subst (λ (o : Option Config). IfSome o IsWorldShape) e sound.world

    -- lists of a document, and what they make a run of
    lists_of : IsSome a.checked → IsSome a.world → IsSome a.lists → DocumentLists a
    lists_of checked world lists =
        let p = there_is a.checked checked in
        let w = there_is a.world world in
        let l = there_is a.lists lists in
        record { program = p.0; start = w.0; lists = l.0; its_program = p.1; its_shape = w.1; its_lists = l.1 }

    runs : (d : DocumentLists a) → IsSetup (setup (verdict_shown d.program) d.start d.lists)
    runs d =
        let is = drawn d.start d.its_shape in
        may_run d.program d.start d.lists is.valid is.few (subst (λ (o : Option CallerLists). IfSome o AreLists) d.its_lists sound.lists)
        (are_there a d.start d.lists fits.together d.its_shape d.its_lists is.no_gaps)

    run_outcome : DocumentLists a → HasOutcome a Run
    run_outcome d =
        let g = setup (verdict_shown d.program) d.start d.lists in
        let end = laws.rounds g (runs d) [] in
        let good : Good (verdict_shown d.program) d.start d.lists end.report = laws.goods g (runs d) end.report end.reached in
        record { status = status.Done; report = Some end.report; text = report_text a.version (length d.program.vars) end.report; is = reported d end.report (record { good = good; reached = end.reached; serial = λ few. laws.serials (verdict_shown d.program) d.start d.lists end.report few good }) }

    tickets_outcome : DocumentLists a → HasOutcome a Tickets
    tickets_outcome d =
        let g = setup (verdict_shown d.program) d.start d.lists in
        let (report, reached) = laws.tickets g (runs d) in
        let good : Good (verdict_shown d.program) d.start d.lists report = laws.fine g (runs d) report reached in
        record { status = status.Done; report = Some report; text = report_text a.version (length d.program.vars) report; is = reported d report (record { good = good; reached = reached; serial = λ few. laws.serials (verdict_shown d.program) d.start d.lists report few good }) }

    interleave_outcome : DocumentLists a → IsSome a.schedule → HasOutcome a Interleave
    interleave_outcome d scheduled =
        let schedule = there_is a.schedule scheduled in
        let g = setup (verdict_shown d.program) d.start d.lists in
        let end = laws.rounds g (runs d) (reverse schedule.0) in
        let good : Good (verdict_shown d.program) d.start d.lists end.report = laws.goods g (runs d) end.report end.reached in
        record { status = status.Done; report = Some end.report; text = report_text a.version (length d.program.vars) end.report; is = reported d end.report (schedule.0, schedule.1, record { good = good; reached = end.reached; scheduled = record { count = end.count; ended = end.ended; first = end.first; left = end.left } }) }

    -- ---- journals and measures

    leads : (p : Program) → HasPatchedWorld (verdict_shown p)
    leads p b i change by = (laws.decide (verdict_shown p) (laws.acts p) b i change by).leads

    -- a journal agrees or differs: that is how a command ends that has a text for each run
    record Ends (d : DocumentRecord a) (IsText : List Entry → List ℕ → Type 0) : Type 0 where
      status : Status
      text : List ℕ
      is : JournalOutcome a d IsText status None text

    module _ (d : DocumentRecord a) (IsText : List Entry → List ℕ → Type 0) (text_of : (es : List Entry) → Agrees (verdict_shown d.program) d.start es d.final → (text : List ℕ) × IsText es text) where
      record EndsIn {E : Type 0} (form : Entry → E) (told : List E) : Type 0 where
        status : Status
        text : List ℕ
        is : EntriesOutcome form (verdict_shown d.program) d.start told d.final IsText status None text

      ends_in : {E : Type 0} {form : Entry → E} (told : List E) → ReplayIsDecided form → EndsIn form told
      ends_in told decided = elim (decided.some (verdict_shown d.program) d.start d.final told (leads d.program) (drawn d.start d.its_shape).valid) [
        | inl by ↦ let text = text_of by.source by.holds in record { status = status.Done; text = text.0; is = agreeing by.source text.0 by.tells by.holds text.1 }
        | inr by ↦ record { status = status.Differs by.0; text = differs_line by.0; is = differing by.0 by.1 }
      ]

      ends : HasJournal a → Ends d IsText
      ends has = elim (cases_Bool (has_old_values a.version)) [
        | inl is ↦
            let es = there_is a.entries (subst (λ (b : Bool). HasJournalBy b a) is has) in
            let by = ends_in es.0 laws.full in
            record { status = by.status; text = by.text; is = in_full es.0 es.1 by.is }
        | inr without ↦
            let ps = there_is a.plain (subst (λ (b : Bool). HasJournalBy b a) without has) in
            let by = ends_in ps.0 laws.plain in
            record { status = by.status; text = by.text; is = in_plain ps.0 ps.1 by.is }
      ]

    record_of : HasSections form.Replay a → DocumentRecord a
    record_of has =
        let p = there_is a.checked has.0 in
        let w = there_is a.world has.1 in
        let last = there_is a.final_world has.3 in
        record { program = p.0; start = w.0; final = last.0; its_program = p.1; its_shape = w.1; its_final = last.1 }

    replay_outcome : HasSections form.Replay a → HasOutcome a Replay
    replay_outcome has =
        let d = record_of has in
        let by = ends d IsAgreesLine (λ es run. (agrees_line (length es), refl)) has.2 in
        record { status = by.status; report = None; text = by.text; is = (d, by.is) }

    renew_outcome : HasSections form.Replay a → HasOutcome a Renew
    renew_outcome has =
        let d = record_of has in
        let by = ends d (λ es text. text ≡ renewed_text d.program d.start es d.final) (λ es run. (renewed_text d.program d.start es d.final, refl)) has.2 in
        record { status = by.status; report = None; text = by.text; is = (d, by.is) }

    drawn_last : (last : Config) → a.final_world ≡ Some last → IsWorldShape last
    drawn_last last e = subst (λ (o : Option Config). IfSome o IsWorldShape) e sound.final_world

    -- ---- ways back, rounds and elections

    found : (p : Program) → OldValuesAreFound (verdict_shown p)
    found p b i change by = (laws.decide (verdict_shown p) (laws.acts p) b i change by).found

    back_outcome : (d : DocumentRecord a) (es : List Entry) (place : ℕ) → a.entries ≡ Some es → place ≤ length es → HasOutcome a (Rewind place)
    back_outcome d es place its within = by end.0 end.1
      where
        end : (r : Result Config ℕ) × IsUnwound (verdict_shown d.program) d.start d.final es place r
        end = laws.backs (verdict_shown d.program) d.start d.final es place (found d.program) (drawn_last d.final d.its_final).valid within

        by : (r : Result Config ℕ) → IsUnwound (verdict_shown d.program) d.start d.final es place r → HasOutcome a (Rewind place)
        by (Ok world) is = record { status = status.Done; report = None; text = shape_text (codes "shape") (length d.program.vars) world; is = unwound d es world its within is }
        by (Err k) is = record { status = status.Differs k; report = None; text = differs_line k; is = not_unwound d es k its within is }

    rewind_outcome : (place : ℕ) → IsSome a.entries → HasSections form.Replay a → HasOutcome a (Rewind place)
    rewind_outcome place some has =
        let es = there_is a.entries some in
        elim (cases_lt (length es.0) place) [
          | inl past ↦ record { status = status.Refused no_such_place; report = None; text = refusal_line no_such_place; is = no_place (record_of has) es.0 es.1 past }
          | inr within ↦ back_outcome (record_of has) es.0 place es.1 within
        ]

    rounds_outcome : HasSections form.Replay a → HasOutcome a Rounds
    rounds_outcome has =
        let d = record_of has in
        let first = drawn d.start d.its_shape in
        let by = ends d (IsRoundsText (verdict_shown d.program) d.start) (λ es run. rounds_of laws.counts d es first run) has.2 in
        record { status = by.status; report = None; text = by.text; is = (d, by.is) }

    election_outcome : (d : DocumentRecord a) → IsErosion d.program → IsReadyStart d.start → HasJournal a → HasOutcome a Elect
    election_outcome d is ready has =
        let by = ends d (λ es text. text ≡ elected_text d.final) (λ es run. (elected_text d.final, refl)) has in
        record { status = by.status; report = None; text = by.text; is = begun d by.status None by.text is ready by.is }

    elect_outcome : HasSections form.Replay a → HasOutcome a Elect
    elect_outcome has = let d = record_of has in elim (laws.erosions d.program) [
      | inl is ↦ elim (laws.starts d.start (drawn d.start d.its_shape).valid) [
        | inl ready ↦ election_outcome d is ready has.2
        | inr by ↦ record { status = status.Refused bad_start; report = None; text = refusal_line bad_start; is = not_ready d is (λ ready. laws.ready d.start by.0 ready by.1) }
      ]
      | inr other ↦ record { status = status.Refused not_erosion; report = None; text = refusal_line not_erosion; is = no_erosion d other }
    ]

    measured : (last : Config) → last_shape a ≡ Some last → IsValid last → HasOutcome a Measure
    measured last e valid =
        let by = laws.measures last valid in
        let text = measure_text (length last.bots) by.0.0 by.1.0 in
        record { status = status.Done; report = None; text = text; is = written text (last, e, record { connected = by.0.0; hexagon = by.1.0; is_connected = by.0.1; is_hexagon = by.1.1; whole = refl }) }

    measure_outcome : IsSome a.world → HasOutcome a Measure
    measure_outcome some = by a.final_world refl
      where
        by : (o : Option Config) → a.final_world ≡ o → HasOutcome a Measure
        by (Some last) e = measured last (ap (λ (o : Option Config). option_or o a.world) e) (drawn_last last e).valid
        by None e = let w = there_is a.world some in measured w.0 (subst (λ (o : Option Config). option_or o a.world ≡ Some w.0) (sym e) w.1) (drawn w.0 w.1).valid

  outcome : (c : DocumentCommand) (bytes : List ℕ) (a : Contents) → IsDocumentOf c bytes a → HasOutcome a c
  outcome Run bytes a h = let has = (fits bytes a Run h).sections in run_outcome bytes a Run h (lists_of bytes a Run h has.0 has.1 has.2)
  outcome Interleave bytes a h = let has = (fits bytes a Interleave h).sections in interleave_outcome bytes a Interleave h (lists_of bytes a Interleave h has.0 has.1 has.2) has.3
  outcome Replay bytes a h = replay_outcome bytes a Replay h (fits bytes a Replay h).sections
  outcome Check bytes a h = let p = there_is a.checked (fits bytes a Check h).sections.0 in record { status = status.Done; report = None; text = check_text a.version p.0; is = written (check_text a.version p.0) (p.0, p.1, refl) }
  outcome Measure bytes a h = measure_outcome bytes a Measure h (fits bytes a Measure h).sections.1
  outcome Renew bytes a h = renew_outcome bytes a Renew h (fits bytes a Renew h).sections
  outcome (Rewind place) bytes a h = rewind_outcome bytes a (Rewind place) h place (laws.values with_old_values bytes a refl h) (fits bytes a (Rewind place) h).sections
  outcome Rounds bytes a h = rounds_outcome bytes a Rounds h (fits bytes a Rounds h).sections
  outcome Elect bytes a h = elect_outcome bytes a Elect h (fits bytes a Elect h).sections
  outcome Tickets bytes a h = let has = (fits bytes a Tickets h).sections in tickets_outcome bytes a Tickets h (lists_of bytes a Tickets h has.0 has.1 has.2)

  for_whole : (c : DocumentCommand) (bytes : List ℕ) → SomethingOwed (Some (Document c)) (whole bytes)
  for_whole c bytes = let by = (laws.documents (least_for c) (form_of c)).some bytes in said by.0 by.1
    where
      said : (r : Result Contents Refusal) → FormSaysFrom (least_for c) (form_of c) bytes r → SomethingOwed (Some (Document c)) (whole bytes)
      said (Err r) is = record { status = status.Refused r; report = None; text = refusal_line r; owed = refused c bytes r is }
      said (Ok a) is = let o = outcome c bytes a is in record { status = o.status; report = o.report; text = o.text; owed = served c bytes a o.status o.report o.text is o.is }

  -- ---- samples

  for_sample : (seed : ℕ) → SomethingOwed (Some (Sample seed)) nothing
  for_sample seed =
      let by = laws.samples seed in
      let s = by.0 in
      let fit = laws.fits seed s by.1 in
      let g = setup (verdict_shown s.checked) s.world s.lists in
      let many : length s.world.bots ≡ 150 = fit.many in
      let runs = may_run s.checked s.world s.lists fit.valid (omega (arith, many)) fit.listed fit.there in
      let end = laws.rounds g runs [] in
      let good : Good (verdict_shown s.checked) s.world s.lists end.report = laws.goods g runs end.report end.reached in
      let last = laws.stays s.checked s.world s.lists end.report good (ap (λ (p : Program). p.guard) by.1.program) fit.connected (length end.report.journal.entries) end.report.world (world_last (verdict_shown s.checked) s.world end.report.world end.report.journal.entries good.run) in
      let text = sample_text seed (length s.world.bots) (length s.lists.ids) (length s.lists.ids * s.lists.turns) true true in
      record {
        status = status.Done;
        report = Some end.report;
        text = text;
        owed = sampled seed end.report text (record {
          sample = s;
          its_sample = by.1;
          good = good;
          reached = end.reached;
          writes = record { connected = true; agrees = true; is_connected = (λ is. last, λ is. refl); is_run = (λ is. good.run, λ is. refl); whole = refl };
        });
      }

  pub owed_is_some : OwedIsSome
  owed_is_some = record {
    whole_input = for_whole;
    long_input = λ c got. record { status = status.Refused too_long; report = None; text = refusal_line too_long; owed = longer c got };
    failed_input = λ c got. record { status = status.ReadFault; report = None; text = read_fault_line; owed = read_fault c got };
    show = λ program. record { status = status.Done; report = None; text = show_text program; owed = shown program };
    sample = for_sample;
    no_command = record { status = status.Words; report = None; text = usage_line; owed = usage };
  }
