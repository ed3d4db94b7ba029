-- One thing is owed.
use Rattle.std.proofs.Common.{◌≡◌, ◌<◌, ◌≤◌, ℕ, List, length, codes, Option, Some, Result, Ok, Err, inl, inr, ap, sym, subst, refl, ◌∙◌, arith}
use Rattle.std.specs.Prelude.{IfSome}
use Rattle.text_tokens.specs.declared.refusal.Refusal.{Refusal}
use Rattle.amoebot_state.specs.declared.verdict.Entry.{Entry}
use Rattle.amoebot_state.specs.Configs.{Config}
use Rattle.amoebot_state.specs.Steps.{OldValuesAreFound, plain_entry}
use Rattle.model_ops.specs.Laws.{ActsKeepDeciderLaws}
use Rattle.serial_model.specs.Forms.{full_entry}
use Rattle.serial_model.specs.Laws.{PlainRunIsUnique}
use Rattle.claim_core.specs.declared.report.Report.{Report}
use Rattle.claim_core.specs.Machine.{setup}
use Rattle.claim_core.specs.Reached.{Reached}
use Rattle.claim_core.specs.TicketLaws.{TicketReachedIsReached}
use Rattle.claim_core.specs.Turns.{CallerLists}
use Rattle.claim_core.proofs.Places.{one_at}
use Rattle.rewind_log.specs.Laws.{UnwoundIsUnique}
use Rattle.rewind_log.specs.Unwinding.{IsUnwound}
use Rattle.round_meter.specs.Laws.{RoundsAreUnique}
use Rattle.action_tree.specs.Trees.{Program}
use Rattle.action_meaning.specs.Laws.{ProgramsDecideByActs}
use Rattle.action_meaning.specs.Verdicts.{verdict_shown}
use Rattle.shape_text.specs.Texts.{shape_text}
use Rattle.shape_files.specs.Documents.{Contents}
use Rattle.shape_files.specs.LeastVersions.{DecidedFromEach, LaterIsDocument}
use Rattle.shape_files.specs.Fitting.{FitTogether, DocumentsFit}
use Rattle.election_law.specs.Elections.{IsErosion, IsReadyStart}
use Rattle.run_sample.specs.Laws.{SampleIsFit}
use Rattle.commands.specs.Run.{IsRunReport}
use Rattle.document_answers.specs.Interleave.{IsInterleaveReport}
use Rattle.commands.specs.Elect.{no_erosion, not_ready, ElectOutcome, elected_text, begun}
use Rattle.document_answers.specs.Rounds.{rounds_text, IsRoundsText}
use Rattle.document_answers.specs.Replay.{agrees_line}
use Rattle.document_answers.specs.Renew.{renewed_text}
use Rattle.document_answers.specs.Reports.{report_text, DocumentLists, reported}
use Rattle.document_answers.specs.Check.{check_text}
use Rattle.document_answers.specs.Measure.{IsMeasureText}
use Rattle.commands.specs.ReportLaws.{GoodStaysConnected, RunReportIsOne}
use Rattle.document_answers.specs.AnswerLaws.{InterleaveReportIsOne, ReplayIsDecided, MeasureTextIsOne, SameReport}
use Rattle.commands.specs.declared.words.Command.TheVariants.{Document}
use Rattle.commands.specs.declared.words.DocumentCommand.{DocumentCommand}
use Rattle.document_answers.specs.declared.status.Status.{Status}
use Rattle.document_answers.specs.declared.status.Status.TheVariants as status
use Rattle.document_answers.specs.Answers.{refusal_line}
use Rattle.commands.specs.Outcomes.{IsOutcome}
use Rattle.commands.specs.Commands.{form_of, least_for, IsDocumentOf, IsDocumentFaultOf}
use Rattle.commands.specs.Owed.{usage, read_fault, longer, refused, served, shown, sampled}
use Rattle.commands.specs.Reads.{whole}
use Rattle.commands.specs.Laws.{SameOwed, OwedIsOne}
use Rattle.commands.proofs.CommandDocuments.{of_form}
use Rattle.commands.proofs.SampleLemmas.{text_is_six_lines}
use Rattle.document_answers.specs.Journals.{differs_line, Agrees, DocumentRecord, JournalOutcome}
use Rattle.document_answers.specs.Rewind.{no_place, unwound, not_unwound, RewindOutcome}
use Rattle.document_answers.specs.Texts.{written}
use Rattle.commands.specs.declared.words.DocumentCommand.TheVariants.{Run, Interleave, Replay, Check, Measure, Renew, Rewind, Rounds, Elect, Tickets}
use Rattle.commands.proofs.JournalLemmas.{JournalRules, SameEnd, one_journal, one_record}

module _ (documents : DecidedFromEach) where
  pub same_contents : (c : DocumentCommand) (bytes : List ℕ) (a b : Contents) → IsDocumentOf c bytes a → IsDocumentOf c bytes b → a ≡ b
  same_contents c bytes a b x y = let r : Result Contents Refusal = Ok a in let q : Result Contents Refusal = Ok b in let e : r ≡ q = (documents (least_for c) (form_of c)).one bytes r q x y in cc

  pub same_fault : (c : DocumentCommand) (bytes : List ℕ) (r q : Refusal) → IsDocumentFaultOf c bytes r → IsDocumentFaultOf c bytes q → r ≡ q
  same_fault c bytes r q x y = let o : Result Contents Refusal = Err r in let p : Result Contents Refusal = Err q in let e : o ≡ p = (documents (least_for c) (form_of c)).one bytes o p x y in cc

  pub not_both : (c : DocumentCommand) (bytes : List ℕ) (a : Contents) (r : Refusal) → IsDocumentOf c bytes a → IsDocumentFaultOf c bytes r → ⊥
  not_both c bytes a r x y = let o : Result Contents Refusal = Ok a in let p : Result Contents Refusal = Err r in let e : o ≡ p = (documents (least_for c) (form_of c)).one bytes o p x y in cc

-- the lists of a document are one, and so are its program and its shapes
one_lists : (a : Contents) (d e : DocumentLists a) → ◌≡◌ {A = Program × Config × CallerLists} (e.program, e.start, e.lists) (d.program, d.start, d.lists)
one_lists a d e =
    let program = one_at _ e.program d.program e.its_program d.its_program in
    let shape = one_at _ e.start d.start e.its_shape d.its_shape in
    let lists = one_at _ e.lists d.lists e.its_lists d.its_lists in
    λ i. (program i, shape i, lists i)

-- ---- ways back, rounds and elections

-- the ways back of a document are of one program, one shape, one final shape and one journal
back_as : (a : Contents) (d e : DocumentRecord a) (es ds : List Entry) (place : ℕ) (r : Result Config ℕ) → a.entries ≡ Some es → a.entries ≡ Some ds
    → IsUnwound (verdict_shown e.program) e.start e.final ds place r → IsUnwound (verdict_shown d.program) d.start d.final es place r
back_as a d e es ds place r its other is =
    let parts = one_record a d e in
    let same = one_at _ ds es other its in
    subst (λ (z : (Program × Config × Config) × List Entry). IsUnwound (verdict_shown z.0.0) z.0.1 z.0.2 z.1 place r) (λ i. (parts i, same i)) is

not_past : (a : Contents) (es ds : List Entry) (place : ℕ) → a.entries ≡ Some es → a.entries ≡ Some ds → length es < place → place ≤ length ds → ⊥
not_past a es ds place its other above within = let same : length ds ≡ length es = ap (λ (zs : List Entry). length zs) (one_at _ ds es other its) in omega arith

one_world : (w v : Config) → ◌≡◌ {A = Result Config ℕ} (Ok w) (Ok v) → w ≡ v
one_world w v e = cc

one_end : (k m : ℕ) → ◌≡◌ {A = Result Config ℕ} (Err k) (Err m) → k ≡ m
one_end k m e = cc

no_world : (w : Config) (k : ℕ) → ◌≡◌ {A = Result Config ℕ} (Ok w) (Err k) → ⊥
no_world w k e = cc

erosion_as : (a : Contents) (d e : DocumentRecord a) → IsErosion e.program → IsErosion d.program
erosion_as a d e is = subst IsErosion (one_at _ e.program d.program e.its_program d.its_program) is

ready_as : (a : Contents) (d e : DocumentRecord a) → IsReadyStart e.start → IsReadyStart d.start
ready_as a d e is = subst IsReadyStart (one_at _ e.start d.start e.its_shape d.its_shape) is

-- ---- outcomes

-- what the laws of lower crates say
pub record OneOfEach : Type 0 where
  pub documents : DecidedFromEach
  pub later : LaterIsDocument
  pub together : DocumentsFit
  pub runs : RunReportIsOne
  pub claimed : TicketReachedIsReached
  pub interleaves : InterleaveReportIsOne
  pub full : ReplayIsDecided full_entry
  pub plain : ReplayIsDecided plain_entry
  pub unique : PlainRunIsUnique
  pub measures : MeasureTextIsOne
  pub stays : GoodStaysConnected
  pub fit : SampleIsFit
  pub acts : ProgramsDecideByActs
  pub decide : ActsKeepDeciderLaws
  pub backs : UnwoundIsUnique
  pub counts : RoundsAreUnique

module _ (laws : OneOfEach) where
  run_is_one : (a : Contents) (d e : DocumentLists a) (one two : Report) → IfSome a.lists (λ lists. length lists.ids ≤ 1)
      → IsRunReport Reached (verdict_shown d.program) d.start d.lists one → IsRunReport Reached (verdict_shown e.program) e.start e.lists two
      → SameReport one two × (report_text a.version (length d.program.vars) one ≡ report_text a.version (length e.program.vars) two)
  run_is_one a d e one two few x y =
      let lists = one_lists a d e in
      let other = subst (λ (z : Program × Config × CallerLists). IsRunReport Reached (verdict_shown z.0) z.1 z.2 two) lists y in
      let by = laws.runs (verdict_shown d.program) d.start d.lists one two a.version (length d.program.vars) (subst (λ ls. IfSome ls (λ lists. length lists.ids ≤ 1)) d.its_lists few) x other in
      (by.0, by.1 ∙ ap (λ (z : Program × Config × CallerLists). report_text a.version (length z.0.vars) two) (sym lists))

  interleave_is_one : (a : Contents) (d e : DocumentLists a) (schedule other : List ℕ) (one two : Report) → a.schedule ≡ Some schedule → a.schedule ≡ Some other
      → IsInterleaveReport (verdict_shown d.program) d.start d.lists schedule one → IsInterleaveReport (verdict_shown e.program) e.start e.lists other two
      → SameReport one two × (report_text a.version (length d.program.vars) one ≡ report_text a.version (length e.program.vars) two)
  interleave_is_one a d e schedule other one two first second x y =
      let lists = one_lists a d e in
      let schedules = one_at _ other schedule second first in
      let same = subst (λ (z : (Program × Config × CallerLists) × List ℕ). IsInterleaveReport (verdict_shown z.0.0) z.0.1 z.0.2 z.1 two) (λ i. (lists i, schedules i)) y in
      let by = laws.interleaves (verdict_shown d.program) d.start d.lists schedule one two a.version (length d.program.vars) x same in
      (by.0, by.1 ∙ ap (λ (z : Program × Config × CallerLists). report_text a.version (length z.0.vars) two) (sym lists))

  fits : (bytes : List ℕ) (a : Contents) (c : DocumentCommand) → IsDocumentOf c bytes a → FitTogether a
  fits bytes a c h = (laws.together (form_of c) bytes a (of_form laws.later c bytes a h)).together

  rules : JournalRules
  rules = record { full = laws.full; plain = laws.plain; unique = laws.unique }

  found : (p : Program) → OldValuesAreFound (verdict_shown p)
  found p b i change by = (laws.decide (verdict_shown p) (laws.acts p) b i change by).found

  one_way : (a : Contents) (d e : DocumentRecord a) (es ds : List Entry) (place : ℕ) (r q : Result Config ℕ) → a.entries ≡ Some es → a.entries ≡ Some ds
      → IsUnwound (verdict_shown d.program) d.start d.final es place r → IsUnwound (verdict_shown e.program) e.start e.final ds place q → r ≡ q
  one_way a d e es ds place r q its other x y = laws.backs (verdict_shown d.program) d.start d.final es place r q (found d.program) x (back_as a d e es ds place q its other y)

  -- the journal of a document of a command
  module _ (bytes : List ℕ) (a : Contents) (c : DocumentCommand) (h : IsDocumentOf c bytes a) (s t : Status) (one two : Option Report) (text other : List ℕ) where
    alike : SameEnd s t one two text other → SameOwed (Some (Document c)) (whole bytes) s t one two text other
    alike x = record { status = x.status; report = λ _. x.report; text = λ _. x.text }

    -- its text is that of the record's parts
    told_once : (Text : Program × Config × Config → List Entry → List ℕ) (d e : DocumentRecord a)
        → JournalOutcome a d (λ (es : List Entry) (u : List ℕ). u ≡ Text (d.program, d.start, d.final) es) s one text
        → JournalOutcome a e (λ (es : List Entry) (u : List ℕ). u ≡ Text (e.program, e.start, e.final) es) t two other
        → SameOwed (Some (Document c)) (whole bytes) s t one two text other
    told_once Text d e x y = alike (one_journal rules a (fits bytes a c h) (λ (z : Program × Config × Config) (es : List Entry) (u : List ℕ). u ≡ Text z es) (λ z es u v run is so. is ∙ sym so) d e s t one two text other x y)

    counted_once : (d e : DocumentRecord a) → JournalOutcome a d (IsRoundsText (verdict_shown d.program) d.start) s one text → JournalOutcome a e (IsRoundsText (verdict_shown e.program) e.start) t two other
        → SameOwed (Some (Document c)) (whole bytes) s t one two text other
    counted_once d e x y = alike (one_journal rules a (fits bytes a c h) (λ (z : Program × Config × Config). IsRoundsText (verdict_shown z.0) z.1) one_count d e s t one two text other x y)
      where
        one_count : (z : Program × Config × Config) (es : List Entry) (u v : List ℕ) → Agrees (verdict_shown z.0) z.1 es z.2 → IsRoundsText (verdict_shown z.0) z.1 es u → IsRoundsText (verdict_shown z.0) z.1 es v → u ≡ v
        one_count z es u v run is so = let by = laws.counts (verdict_shown z.0) z.1 es is.rounds is.waiting so.rounds so.waiting is.counted so.counted in is.whole ∙ (λ i. rounds_text (by.0 i) (by.1 i)) ∙ sym so.whole

  one_way_back : (bytes : List ℕ) (a : Contents) (place : ℕ) (s t : Status) (one two : Option Report) (text other : List ℕ) → RewindOutcome a place s one text → RewindOutcome a place t two other → SameEnd s t one two text other
  one_way_back bytes a place s t one two text other (no_place d es its above) (no_place e ds yours beyond) = record { status = refl; report = tt; text = refl }
  one_way_back bytes a place s t one two text other (no_place d es its above) (unwound e ds w yours within is) = absurd (not_past a es ds place its yours above within)
  one_way_back bytes a place s t one two text other (no_place d es its above) (not_unwound e ds k yours within is) = absurd (not_past a es ds place its yours above within)
  one_way_back bytes a place s t one two text other (unwound d es w its within is) (no_place e ds yours above) = absurd (not_past a ds es place yours its above within)
  one_way_back bytes a place s t one two text other (unwound d es w its within is) (unwound e ds v yours inside so) =
      let worlds = one_world w v (one_way a d e es ds place (Ok w) (Ok v) its yours is so) in
      let parts = sym (one_record a d e) in
      record { status = refl; report = tt; text = λ i. shape_text (codes "shape") (length (parts i).0.vars) (worlds i) }
  one_way_back bytes a place s t one two text other (unwound d es w its within is) (not_unwound e ds k yours inside so) = absurd (no_world w k (one_way a d e es ds place (Ok w) (Err k) its yours is so))
  one_way_back bytes a place s t one two text other (not_unwound d es k its within is) (no_place e ds yours above) = absurd (not_past a ds es place yours its above within)
  one_way_back bytes a place s t one two text other (not_unwound d es k its within is) (unwound e ds w yours inside so) = absurd (no_world w k (sym (one_way a d e es ds place (Err k) (Ok w) its yours is so)))
  one_way_back bytes a place s t one two text other (not_unwound d es k its within is) (not_unwound e ds m yours inside so) =
      let ends = one_end k m (one_way a d e es ds place (Err k) (Err m) its yours is so) in
      record { status = ap status.Differs ends; report = tt; text = ap differs_line ends }

  one_election : (bytes : List ℕ) (a : Contents) (s t : Status) (one two : Option Report) (text other : List ℕ) → IsDocumentOf Elect bytes a → ElectOutcome a s one text → ElectOutcome a t two other → SameOwed (Some (Document Elect)) (whole bytes) s t one two text other
  one_election bytes a s t one two text other h (no_erosion d not) (no_erosion e none) = record { status = refl; report = λ _. tt; text = λ _. refl }
  one_election bytes a s t one two text other h (no_erosion d not) (not_ready e is none) = absurd (not (erosion_as a d e is))
  one_election bytes a s t one two text other h (no_erosion d not) (begun e u r v is ready y) = absurd (not (erosion_as a d e is))
  one_election bytes a s t one two text other h (not_ready d is not) (no_erosion e none) = absurd (none (erosion_as a e d is))
  one_election bytes a s t one two text other h (not_ready d is not) (not_ready e so none) = record { status = refl; report = λ _. tt; text = λ _. refl }
  one_election bytes a s t one two text other h (not_ready d is not) (begun e u r v so ready y) = absurd (not (ready_as a d e ready))
  one_election bytes a s t one two text other h (begun d u r v is ready x) (no_erosion e none) = absurd (none (erosion_as a e d is))
  one_election bytes a s t one two text other h (begun d u r v is ready x) (not_ready e so none) = absurd (none (ready_as a e d ready))
  one_election bytes a s t one two text other h (begun d u r v is ready x) (begun e w q z so steady y) =
      told_once bytes a Elect h s t one two text other (λ (z : Program × Config × Config) (es : List Entry). elected_text z.2) d e x y

  one_outcome : (c : DocumentCommand) (bytes : List ℕ) (a : Contents) (s t : Status) (one two : Option Report) (text other : List ℕ) → IsDocumentOf c bytes a
      → IsOutcome a c s one text → IsOutcome a c t two other → SameOwed (Some (Document c)) (whole bytes) s t one two text other
  one_outcome Run bytes a s t one two text other h (reported d r run) (reported e q other_run) =
      let same = λ (decided : IfSome a.lists (λ lists. length lists.ids ≤ 1)). run_is_one a d e r q decided run other_run in
      record { status = refl; report = λ decided. (same (decided (inl refl) a h)).0; text = λ decided. (same (decided (inl refl) a h)).1 }
  one_outcome Tickets bytes a s t one two text other h (reported d r run) (reported e q other_run) =
      let first = laws.claimed (setup (verdict_shown d.program) d.start d.lists) r run.reached in
      let second = laws.claimed (setup (verdict_shown e.program) e.start e.lists) q other_run.reached in
      let same = λ (decided : IfSome a.lists (λ lists. length lists.ids ≤ 1)). run_is_one a d e r q decided (record { good = run.good; reached = first; serial = run.serial }) (record { good = other_run.good; reached = second; serial = other_run.serial }) in
      record { status = refl; report = λ decided. (same (decided (inr refl) a h)).0; text = λ decided. (same (decided (inr refl) a h)).1 }
  one_outcome Interleave bytes a s t one two text other h (reported d r (schedule, its_schedule, run)) (reported e q (steps, its_steps, other_run)) =
      let same = interleave_is_one a d e schedule steps r q its_schedule its_steps run other_run in
      record { status = refl; report = λ _. same.0; text = λ _. same.1 }
  one_outcome Replay bytes a s t one two text other h (d, x) (e, y) = told_once bytes a Replay h s t one two text other (λ (z : Program × Config × Config) (es : List Entry). agrees_line (length es)) d e x y
  one_outcome Check bytes a s t one two text other h (written u (p, its_program, is)) (written v (q, its_other, so)) = record { status = refl; report = λ _. tt; text = λ _. is ∙ ap (check_text a.version) (one_at _ p q its_program its_other) ∙ sym so }
  one_outcome Measure bytes a s t one two text other h (written u (last, its_last, measured)) (written v (end, its_end, measure)) =
      record { status = refl; report = λ _. tt; text = λ _. laws.measures last u v measured (subst (λ (w : Config). IsMeasureText w v) (one_at _ end last its_end its_last) measure) }
  one_outcome Renew bytes a s t one two text other h (d, x) (e, y) = told_once bytes a Renew h s t one two text other (λ (z : Program × Config × Config) (es : List Entry). renewed_text z.0 z.1 es z.2) d e x y
  one_outcome (Rewind place) bytes a s t one two text other h x y = alike bytes a (Rewind place) h s t one two text other (one_way_back bytes a place s t one two text other x y)
  one_outcome Rounds bytes a s t one two text other h (d, x) (e, y) = counted_once bytes a Rounds h s t one two text other d e x y
  one_outcome Elect bytes a s t one two text other h x y = one_election bytes a s t one two text other h x y

  pub owed_is_one : OwedIsOne
  owed_is_one c read s t one two text other usage usage = record { status = refl; report = λ _. tt; text = λ _. refl }
  owed_is_one c read s t one two text other (read_fault d got) (read_fault e more) = record { status = refl; report = λ _. tt; text = λ _. refl }
  owed_is_one c read s t one two text other (longer d got) (longer e more) = record { status = refl; report = λ _. tt; text = λ _. refl }
  owed_is_one c read s t one two text other (refused d bytes r x) (refused e same q y) = let by = same_fault laws.documents d bytes r q x y in record { status = ap status.Refused by; report = λ _. tt; text = λ _. ap refusal_line by }
  owed_is_one c read s t one two text other (refused d bytes r x) (served e same a u q v y is) = absurd (not_both laws.documents d bytes a r y x)
  owed_is_one c read s t one two text other (served d bytes a u q v x is) (refused e same r y) = absurd (not_both laws.documents d bytes a r x y)
  owed_is_one c read s t one two text other (served d bytes a u q v x is) (served e same b w r z y other_is) =
      one_outcome d bytes a s t one two text other x is (subst (λ (k : Contents). IsOutcome k d t two other) (same_contents laws.documents d bytes b a y x) other_is)
  owed_is_one c read s t one two text other (shown p) (shown q) = record { status = refl; report = λ _. tt; text = λ _. refl }
  owed_is_one c read s t one two text other (sampled seed r v x) (sampled same q u y) = record { status = refl; report = λ decided. absurd decided; text = λ _. text_is_six_lines laws.stays laws.fit seed r v x ∙ sym (text_is_six_lines laws.stays laws.fit seed q u y) }
