-- What `elect` answers, each world of its run is elected, and it ends as `replay` does.
use Rattle.std.proofs.Common.{◌≡◌, ◌≢◌, ◌⊎◌, ℕ, List, length, Option, None, Result, Ok, Err, inl, inr, ap, refl, sym, subst, ◌∙◌}
use Rattle.std.specs.Prelude.{IfErr, IfSome, MatchResult, OnOk, ⊤}
use Rattle.std.proofs.lemmas.Option.{same_Some}
use Rattle.amoebot_state.specs.declared.verdict.Entry.{Entry}
use Rattle.amoebot_state.specs.Configs.{Config, IsValid}
use Rattle.serial_model.specs.declared.replays.Differs.{Differs}
use Rattle.action_tree.specs.Trees.{Program}
use Rattle.action_meaning.specs.Verdicts.{verdict_shown}
use Rattle.election_law.specs.Elections.{IsErosion, IsReadyStart}
use Rattle.election_law.specs.declared.refusal.ElectRefusal.{ElectRefusal}
use Rattle.election_law.specs.declared.refusal.ElectRefusal.TheVariants.{NoMemory}
use Rattle.election_law.specs.Starts.{AreBotsReady, IsFirstUnready}
use Rattle.election_law.specs.States.{ElectionState}
use Rattle.election_law.specs.Laws.{ErosionElects, ReadyHasNone}
use Rattle.shape_files.specs.declared.section_kind.Form.TheVariants as form
use Rattle.shape_files.specs.Documents.{Contents, HasContents}
use Rattle.shape_files.specs.LeastVersions.{DecidedFromEach}
use Rattle.shape_files.specs.Fitting.{DocumentsAreSound, IsWorldShape}
use Rattle.commands.specs.Elect.{no_erosion, not_ready, ElectOutcome, begun, elected_text}
use Rattle.document_answers.specs.Replay.{agrees_line}
use Rattle.commands.specs.declared.words.DocumentCommand.TheVariants.{Elect, Replay}
use Rattle.document_answers.specs.declared.answer.Answer.{Answer}
use Rattle.document_answers.specs.declared.status.Status.{Status}
use Rattle.document_answers.specs.declared.status.Status.TheVariants as status
use Rattle.document_answers.specs.Journals.{AgreesIn, DiffersAt, differs_line, DocumentRecord, agreeing, differing, EntriesOutcome}
use Rattle.commands.specs.ElectLaws.{ElectEndsAsReplay, ElectionsAreWon, IsWonElection}
use Rattle.commands.specs.Lines.{bad_start}
use Rattle.document_answers.specs.Answers.{refusal_line, IsAnswerOf, with_text}
use Rattle.commands.specs.Outcomes.{IsOutcome}
use Rattle.commands.specs.Owed.{served}
use Rattle.commands.specs.Reads.{whole}
use Rattle.commands.specs.RenewLaws.{IsOwedFor}
use Rattle.commands.proofs.Outcomes.{documents_have_outcomes}
use Rattle.document_answers.proofs.AnswerLemmas.{answers}
use Rattle.document_answers.proofs.JournalAnswers.{IsAgreesLine}
use Rattle.commands.proofs.JournalLemmas.{agreeing_journal, done_journal, other_end, replay_agrees}

-- ---- what is answered

-- a start that is refused for something else than memory
pub refused_start : (a : Contents) (d : DocumentRecord a) (answer : Answer) → IsErosion d.program → ReadyHasNone → (e : ElectRefusal) → IsFirstUnready d.start e ⊎ ((e ≡ NoMemory) × AreBotsReady d.start)
    → (e ≢ NoMemory) × (answer ≡ with_text (status.Refused bad_start) (refusal_line bad_start)) → IsAnswerOf (ElectOutcome a) answer
refused_start a d answer erodes none e (inl first) is = answers (ElectOutcome a) answer _ is.1 (not_ready d erodes (λ ready. none d.start e ready first))
refused_start a d answer erodes none e (inr short) is = absurd (is.0 short.0)

-- the text of a world's election
abbrev pub IsElectedText : Config → List Entry → List ℕ → Type 0
IsElectedText final es text = text ≡ elected_text final

-- an election that began is that of the document's program, from its shape on
pub of_began : {E : Type 0} (form : Entry → E) (p : Program) (start : Config) (told : List E) (final : Config) (answer : Answer) (e : ElectionState) → e ≡ record { program = p; world = start; steps = 0 }
    → IsAnswerOf (EntriesOutcome form (verdict_shown e.program) e.world told final (IsElectedText final)) answer
    → IsAnswerOf (EntriesOutcome form (verdict_shown p) start told final (IsElectedText final)) answer
of_began form p start told final answer e began by = subst (λ (x : ElectionState). IsAnswerOf (EntriesOutcome form (verdict_shown x.program) x.world told final (IsElectedText final)) answer) began by

-- what is told of the steps of its entries
pub of_steps : {E : Type 0} (form : Entry → E) (p : Program) (start : Config) (told : List E) (final : Config) (answer : Answer) (made : Result ⊤ Differs) (world : Config)
    → OnOk made (AgreesIn form (verdict_shown p) start told final)
    → OnOk made (world ≡ final)
    → IfErr made (λ x. DiffersAt form (verdict_shown p) start told final x.place)
    → MatchResult made (λ _. answer ≡ with_text status.Done (elected_text world)) (λ x. answer ≡ with_text (status.Differs x.place) (differs_line x.place))
    → IsAnswerOf (EntriesOutcome form (verdict_shown p) start told final (IsElectedText final)) answer
of_steps form p start told final answer (Ok u) world agrees reached differs is =
    answers (EntriesOutcome form (verdict_shown p) start told final (IsElectedText final)) answer _ is (agreeing agrees.source (elected_text world) agrees.tells agrees.holds (ap elected_text reached))
of_steps form p start told final answer (Err x) world agrees reached differs is =
    answers (EntriesOutcome form (verdict_shown p) start told final (IsElectedText final)) answer _ is (differing x.place differs)

-- ---- elections are won

same_program : (a : Contents) (d e : DocumentRecord a) → e.program ≡ d.program
same_program a d e = same_Some _ _ (sym e.its_program ∙ d.its_program)

same_start : (a : Contents) (d e : DocumentRecord a) → e.start ≡ d.start
same_start a d e = same_Some _ _ (sym e.its_shape ∙ d.its_shape)

valid_start : DocumentsAreSound → (bytes : List ℕ) (a : Contents) (d : DocumentRecord a) → HasContents form.Replay bytes a → IsValid d.start
valid_start sound bytes a d h =
    let stands : IsWorldShape d.start = subst (λ (o : Option Config). IfSome o IsWorldShape) d.its_shape (sound form.Replay bytes a h).world in
    stands.valid

won : ErosionElects → DocumentsAreSound → (bytes : List ℕ) (a : Contents) (text : List ℕ) → HasContents form.Replay bytes a → IsOutcome a Elect status.Done None text → IsWonElection a text
won law sound bytes a text h (begun d t told u erodes ready x) =
    let by = done_journal a d (IsElectedText d.final) text x in
    record {
      document = d;
      entries = by.entries;
      told = by.agrees.told;
      agrees = by.agrees.agrees;
      elected = λ place world at. law d.program d.start by.entries place world erodes (valid_start sound bytes a d h) ready at;
      writes = by.is_text;
    }

pub elections_are_won : DecidedFromEach → DocumentsAreSound → ErosionElects → ElectionsAreWon
elections_are_won documents sound law bytes text a h owed = won law sound bytes a text h (documents_have_outcomes documents Elect bytes a status.Done None text h owed)

-- ---- it ends as `replay`

module _ (bytes : List ℕ) (a : Contents) (d : DocumentRecord a) (h : HasContents form.Replay bytes a) (erodes : IsErosion d.program) (ready : IsReadyStart d.start) where
  erodes_too : (e : DocumentRecord a) → IsErosion e.program
  erodes_too e = subst IsErosion (same_program a e d) erodes

  ready_too : (e : DocumentRecord a) → IsReadyStart e.start
  ready_too e = subst IsReadyStart (same_start a e d) ready

  to_replay : (s : Status) (text : List ℕ) → s ≢ status.Done → IsOutcome a Elect s None text → IsOwedFor Replay (whole bytes) s text
  to_replay s text other (no_erosion e none) = absurd (none (erodes_too e))
  to_replay s text other (not_ready e is none) = absurd (none (ready_too e))
  to_replay s text other (begun e t told u is starts x) = served Replay bytes a s None text h (e, other_end IsAgreesLine s None text other x)

  to_elect : (s : Status) (text : List ℕ) → s ≢ status.Done → IsOutcome a Replay s None text → IsOwedFor Elect (whole bytes) s text
  to_elect s text other (e, x) = served Elect bytes a s None text h (begun e s None text (erodes_too e) (ready_too e) (other_end (IsElectedText e.final) s None text other x))

  done_by_replay : (text : List ℕ) → IsOutcome a Elect status.Done None text → (line : List ℕ) × IsOwedFor Replay (whole bytes) status.Done line
  done_by_replay text (begun e t told u is starts x) =
      let by = done_journal a e (IsElectedText e.final) text x in
      (agrees_line (length by.entries), replay_agrees bytes a e by.entries h by.agrees)

  done_by_elect : (line : List ℕ) → IsOutcome a Replay status.Done None line → (text : List ℕ) × IsOwedFor Elect (whole bytes) status.Done text
  done_by_elect line (e, x) =
      let by = done_journal a e IsAgreesLine line x in
      let text = elected_text e.final in
      (text, served Elect bytes a status.Done None text h (begun e status.Done None text (erodes_too e) (ready_too e) (agreeing_journal a e (IsElectedText e.final) by.entries text by.agrees refl)))

pub elect_ends_as_replay : DecidedFromEach → ElectEndsAsReplay
elect_ends_as_replay documents bytes a d h erodes ready =
    let of_elect = λ (s : Status) (text : List ℕ) (owed : IsOwedFor Elect (whole bytes) s text). documents_have_outcomes documents Elect bytes a s None text h owed in
    let of_replay = λ (s : Status) (text : List ℕ) (owed : IsOwedFor Replay (whole bytes) s text). documents_have_outcomes documents Replay bytes a s None text h owed in
    record {
      done = (λ owed. done_by_replay bytes a d h erodes ready owed.0 (of_elect status.Done owed.0 owed.1), λ owed. done_by_elect bytes a d h erodes ready owed.0 (of_replay status.Done owed.0 owed.1));
      other = λ s text not_done. (λ owed. to_replay bytes a d h erodes ready s text not_done (of_elect s text owed), λ owed. to_elect bytes a d h erodes ready s text not_done (of_replay s text owed));
    }
