-- What follows from how a call ended.
use Rattle.std.proofs.Common.{◌≡◌, ◌↔◌, ◌⊎◌, ℕ, List, Option, Some, None, refl, sym, subst, inl, inr}
use Rattle.std.specs.Prelude.{IsSome, IfSome, ⊤, codes}
use Rattle.std.specs.Fmt.{digits}
use Rattle.std.proofs.lemmas.Bool.{false≢true}
use Rattle.outer_io.specs.declared.sink.Sink.{Ghosts as SinkOf}
use Rattle.claim_core.specs.declared.report.Report.{Report}
use Rattle.shape_files.specs.Documents.{Contents}
use Rattle.claim_rule.specs.declared.manner.ByJournal.{ByJournal}
use Rattle.claim_rule.specs.declared.manner.ByTicket.{ByTicket}
use Rattle.node_claims.specs.declared.turn.Turn.{Turn}
use Rattle.shipped_programs.specs.declared.shipped.Shipped.{Shipped}
use Rattle.commands.specs.declared.words.Command.{Command}
use Rattle.commands.specs.declared.words.Command.TheVariants.{Document, Show, Sample}
use Rattle.commands.specs.declared.words.DocumentCommand.{DocumentCommand}
use Rattle.document_answers.specs.declared.status.Status.{Status}
use Rattle.document_answers.specs.declared.status.Status.TheVariants as status
use Rattle.commands.specs.Commands.{IsDocumentOf, MakesTurns, ReadsNothing}
use Rattle.commands.specs.Sample.{six_lines}
use Rattle.text_tokens.specs.Kinds.{name}
use Rattle.document_answers.specs.Answers.{refusal_line}
use Rattle.commands.specs.Lines.{too_long}
use Rattle.commands.specs.Laws.{OwedIsOne, SameOwed, DocumentsHaveOutcomes, ReportsAreOfTurns, ReportsAreOfDocuments, ReportsAreOfSamples}
use Rattle.commands.specs.Reads.{Read, nothing, whole, above, up_to_fault, some}
use Rattle.commands.specs.Outcomes.{IsOutcome}
use Rattle.commands.specs.Owed.{IsOwed, usage, read_fault, longer, refused, served, shown, sampled}
use Rattle.amoebot_run.specs.declared.ended.Ended.{Ended}
use Rattle.amoebot_run.specs.Clauses.{WroteAll, WroteFront}
use Rattle.amoebot_run.specs.Endings.{IsEnding, written, cut, wanting, IsReadWithinLimit, IsAnswered, IsOutsideFault, IsUnwritten, IsServed, IsReportOfCall, of_document, of_sample}
use Rattle.amoebot_run.specs.Parts.{IsEndOfWriting, all, front}
use Rattle.commands.proofs.Outcomes.{served_status, done, refused_as, differs_at}

-- ---- how a call ended, from what was written

pub ending_of : {K : Type 0} {sink : SinkOf K} {old new : K} {command : Option Command} {Reads : Read → Type 0} {Untouched : Type 0}
    (read : Read) (s : Status) (report : Option Report) (turns : Option (List (List (Turn ByJournal)))) (tickets : Option (List (List (Turn ByTicket)))) (text : List ℕ) (ended : Ended) → Reads read → IsOwed command read s report text
    → IsEndOfWriting sink old new s report turns tickets text ended
    → IsEnding command Reads (WroteAll sink old new) (WroteFront sink old new) Untouched ended.status ended.report
ending_of read s report turns tickets text _ reads owes (all writes) = written read s report text reads owes writes
ending_of read s report turns tickets text _ reads owes (front writes) = cut read s report text reads owes writes

module _ {K : Type 0} (sink : SinkOf K) {old new : K} where
  pub is_written : (s : Status) (report : Option Report) (turns : Option (List (List (Turn ByJournal)))) (tickets : Option (List (List (Turn ByTicket)))) (text bytes : List ℕ) (ended : Ended) → bytes ≡ text → WroteAll sink old new bytes → ended ≡ record { status = s; report = report; turns = turns; tickets = tickets }
      → IsEndOfWriting sink old new s report turns tickets text ended
  is_written s report turns tickets text bytes ended same writes e = subst (λ r. IsEndOfWriting sink old new s report turns tickets text r) (sym e) (all (subst (WroteAll sink old new) same writes))

  pub is_cut : (s : Status) (report : Option Report) (turns : Option (List (List (Turn ByJournal)))) (tickets : Option (List (List (Turn ByTicket)))) (text bytes : List ℕ) (ended : Ended) → bytes ≡ text → WroteFront sink old new bytes → ended ≡ record { status = status.WriteFault; report = None; turns = None; tickets = None }
      → IsEndOfWriting sink old new s report turns tickets text ended
  is_cut s report turns tickets text bytes ended same writes e = subst (λ r. IsEndOfWriting sink old new s report turns tickets text r) (sym e) (front (subst (WroteFront sink old new) same writes))

pub too_long_line : codes "refused 0 TooLong\n" ≡ refusal_line too_long
unfolding name digits
too_long_line = refl

-- memory was wanting
pub without : {command : Option Command} {Reads : Read → Type 0} {Writes Cuts : List ℕ → Type 0} {Untouched : Type 0} (read : Read) (ended : Ended) → ended ≡ record { status = status.NoMemory; report = None; turns = None; tickets = None } → Reads read → IsReadWithinLimit read → Untouched
    → IsEnding command Reads Writes Cuts Untouched ended.status ended.report
without {command = command} {Reads = Reads} {Writes = Writes} {Cuts = Cuts} {Untouched = Untouched} read ended e reads within untouched = subst (λ (r : Ended). IsEnding command Reads Writes Cuts Untouched r.status r.report) (sym e) (wanting read reads within untouched)

-- with other words for the same
pub ending_maps : {Reads Reads' : Read → Type 0} {Writes Writes' Cuts Cuts' : List ℕ → Type 0} {Untouched Untouched' : Type 0}
    → ((r : Read) → Reads r → Reads' r) → ((t : List ℕ) → Writes t → Writes' t) → ((t : List ℕ) → Cuts t → Cuts' t) → (Untouched → Untouched')
    → (command : Option Command) (s : Status) (report : Option Report) → IsEnding command Reads Writes Cuts Untouched s report → IsEnding command Reads' Writes' Cuts' Untouched' s report
ending_maps f g h k command _ _ (written read s report text reads owes writes) = written read s report text (f read reads) owes (g text writes)
ending_maps f g h k command _ _ (cut read s report text reads owes cuts) = cut read s report text (f read reads) owes (h text cuts)
ending_maps f g h k command _ _ (wanting read reads within untouched) = wanting read (f read reads) within (k untouched)

-- ---- the report

pub no_report : (s : Status) (P : Type 0) → ((s ≡ status.Done) → ⊥) → IsSome {T = Report} None ↔ ((s ≡ status.Done) × P)
no_report s P never = ((λ t. absurd (false≢true t)), λ e. absurd (never e.0))

pub reported : ReportsAreOfTurns → {Reads : Read → Type 0} {Writes Cuts : List ℕ → Type 0} {Untouched : Type 0} (command : Option Command) (s : Status) (report : Option Report) → IsEnding command Reads Writes Cuts Untouched s report → IsSome report ↔ ((s ≡ status.Done) × MakesTurns command)
reported law command _ _ (written read s report text reads owes writes) = law command read s report text owes
reported law command _ _ (cut read s report text reads owes cuts) = no_report _ _ (λ e. cc)
reported law command _ _ (wanting read reads within untouched) = no_report _ _ (λ e. cc)

module _ (documents : ReportsAreOfDocuments) (samples : ReportsAreOfSamples) (Reads : Read → Type 0) (Writes : List ℕ → Type 0) where
  told_owed : (command : Option Command) (read : Read) (s : Status) (report : Option Report) (text : List ℕ) → Reads read → Writes text → IsOwed command read s report text → IfSome report (IsReportOfCall command Reads Writes)
  told_owed command read s None text reads writes owes = tt
  told_owed None read s (Some report) text reads writes owes = elim owes [ ]
  told_owed (Some (Show p)) read s (Some report) text reads writes owes = elim owes [ ]
  told_owed (Some (Document c)) read s (Some report) text reads writes owes =
      let by = documents c read s report text owes in
      of_document c by.0 text refl (subst Reads by.1 reads) by.2 writes
  told_owed (Some (Sample seed)) read s (Some report) text reads writes owes =
      let by = samples seed read s report text owes in
      of_sample seed text refl (subst Reads by.0 reads) by.1 writes

  pub told : {Cuts : List ℕ → Type 0} {Untouched : Type 0} (command : Option Command) (s : Status) (report : Option Report) → IsEnding command Reads Writes Cuts Untouched s report → IfSome report (IsReportOfCall command Reads Writes)
  told command _ _ (written read s report text reads owes writes) = told_owed command read s report text reads writes owes
  told command _ _ (cut read s report text reads owes cuts) = tt
  told command _ _ (wanting read reads within untouched) = tt

-- ---- a document whose bytes are told

-- what an input of these bytes can have come to: what was read to its end is it, and no byte above the limit was got
abbrev pub IsAll : List ℕ → Read → Type 0
IsAll document nothing = ⊤
IsAll document (whole bytes) = bytes ≡ document
IsAll document (above got) = ⊥
IsAll document (up_to_fault got) = ⊤
IsAll document (some got) = ⊤

no_usage : (document : List ℕ) (t : Status) (other : Option Report) (its : List ℕ) → IsOwed None (whole document) t other its → ⊥
no_usage document t other its x = elim x [ ]

no_show : (p : Shipped) (document : List ℕ) (t : Status) (other : Option Report) (its : List ℕ) → IsOwed (Some (Show p)) (whole document) t other its → ⊥
no_show p document t other its x = elim x [ ]

is_answered : {command : Option Command} {read : Read} {s t : Status} {report other : Option Report} {text its : List ℕ} (Writes : List ℕ → Type 0) → Writes text → SameOwed command read s t report other text its → IsAnswered command read t other its Writes s report
is_answered Writes writes same = record { status = same.status; told = same.report; writes = λ decided. subst Writes (same.text decided) writes }

no_sample : (seed : ℕ) (document : List ℕ) (t : Status) (other : Option Report) (its : List ℕ) → IsOwed (Some (Sample seed)) (whole document) t other its → ⊥
no_sample seed document t other its x = elim x [ ]

-- what is owed for it is what the call answers
module _ (law : OwedIsOne) (document : List ℕ) (t : Status) (other : Option Report) (its : List ℕ) (Writes : List ℕ → Type 0) where
  one_owed : (command : Option Command) (read : Read) (s : Status) (report : Option Report) (text : List ℕ) → IsAll document read → IsOwed command (whole document) t other its → Writes text → IsOwed command read s report text → IsAnswered command (whole document) t other its Writes s report ⊎ IsOutsideFault s
  one_owed command (whole bytes) s report text same owes writes x = inl (is_answered Writes writes (law command (whole document) s t report other text its (subst (λ b. IsOwed command (whole b) s report text) same x) owes))
  one_owed command (above got) s report text same owes writes x = absurd same
  one_owed command (up_to_fault got) s report text same owes writes (read_fault c more) = inr tt
  one_owed command nothing s report text same owes writes usage = absurd (no_usage _ _ _ _ owes)
  one_owed command nothing s report text same owes writes (shown p) = absurd (no_show _ _ _ _ _ owes)
  one_owed command nothing s report text same owes writes (sampled seed told v x) = absurd (no_sample _ _ _ _ _ owes)
  one_owed command (some got) s report text same owes writes x = elim x [ ]

  pub one : {Reads : Read → Type 0} {Cuts : List ℕ → Type 0} {Untouched : Type 0} → ((r : Read) → Reads r → IsAll document r) → (command : Option Command) (s : Status) (report : Option Report)
      → IsOwed command (whole document) t other its → IsEnding command Reads Writes Cuts Untouched s report → IsAnswered command (whole document) t other its Writes s report ⊎ IsOutsideFault s
  one is_all command _ _ owes (written read s report text reads x writes) = one_owed command read s report text (is_all read reads) owes writes x
  one is_all command _ _ owes (cut read s report text reads x cuts) = inr tt
  one is_all command _ _ owes (wanting read reads within untouched) = inr tt

-- and so is what is owed where nothing is read
reads_nothing : (command : Option Command) (read : Read) (s t : Status) (one two : Option Report) (text other : List ℕ) → IsOwed command nothing t two other → IsOwed command read s one text → read ≡ nothing
reads_nothing command read s t one two text other usage usage = refl
reads_nothing command read s t one two text other (shown p) (shown q) = refl
reads_nothing command read s t one two text other (sampled seed r v x) (sampled same q u y) = refl

pub one_unread : OwedIsOne → (t : Status) (other : Option Report) (its : List ℕ) (Writes : List ℕ → Type 0) {Reads : Read → Type 0} {Cuts : List ℕ → Type 0} {Untouched : Type 0} (command : Option Command) (s : Status) (report : Option Report)
    → IsOwed command nothing t other its → IsEnding command Reads Writes Cuts Untouched s report → IsAnswered command nothing t other its Writes s report ⊎ IsUnwritten s
one_unread law t other its Writes command _ _ owes (written read s report text reads x writes) =
    let same = reads_nothing command read s t report other text its owes x in
    inl (is_answered Writes writes (law command nothing s t report other text its (subst (λ r. IsOwed command r s report text) same x) owes))
one_unread law t other its Writes command _ _ owes (cut read s report text reads x cuts) = inr (inl refl)
one_unread law t other its Writes command _ _ owes (wanting read reads within untouched) = inr (inr refl)

-- a command that reads nothing is done
done_unread : (c : Command) (read : Read) (s : Status) (report : Option Report) (text : List ℕ) → ReadsNothing (Some c) → IsOwed (Some c) read s report text → s ≡ status.Done
done_unread c read s report text nothing_read (shown p) = refl
done_unread c read s report text nothing_read (sampled seed told v x) = refl
done_unread c read s report text nothing_read (read_fault d got) = absurd nothing_read
done_unread c read s report text nothing_read (longer d got) = absurd nothing_read
done_unread c read s report text nothing_read (refused d bytes r x) = absurd nothing_read
done_unread c read s report text nothing_read (served d bytes a t r v x is) = absurd nothing_read

pub served_unread : {Reads : Read → Type 0} {Writes Cuts : List ℕ → Type 0} {Untouched : Type 0} (c : Command) (command : Option Command) (s : Status) (report : Option Report)
    → command ≡ Some c → ReadsNothing (Some c) → IsEnding command Reads Writes Cuts Untouched s report → (s ≡ status.Done) ⊎ IsUnwritten s
served_unread c command _ _ is nothing_read (written read s report text reads x writes) = inl (done_unread c read s report text nothing_read (subst (λ o. IsOwed o read s report text) is x))
served_unread c command _ _ is nothing_read (cut read s report text reads x cuts) = inr (inl refl)
served_unread c command _ _ is nothing_read (wanting read reads within untouched) = inr (inr refl)

-- of a sample the six lines are written
lines_owed : ReportsAreOfSamples → (seed : ℕ) (Writes : List ℕ → Type 0) (read : Read) (s : Status) (report : Option Report) (text : List ℕ) → Writes text → IsOwed (Some (Sample seed)) read s report text → (s ≡ status.Done) × Writes (six_lines seed)
lines_owed law seed Writes read s report text writes (sampled same told v x) = (refl, subst Writes (law seed read s told text (sampled seed told text x)).1.writes writes)

pub six_lines_written : ReportsAreOfSamples → (seed : ℕ) {Reads : Read → Type 0} (Writes : List ℕ → Type 0) {Cuts : List ℕ → Type 0} {Untouched : Type 0} (command : Option Command) (s : Status) (report : Option Report)
    → command ≡ Some (Sample seed) → IsEnding command Reads Writes Cuts Untouched s report → ((s ≡ status.Done) × Writes (six_lines seed)) ⊎ IsUnwritten s
six_lines_written law seed Writes command _ _ is (written read s report text reads x writes) = inl (lines_owed law seed Writes read s report text writes (subst (λ o. IsOwed o read s report text) is x))
six_lines_written law seed Writes command _ _ is (cut read s report text reads x cuts) = inr (inl refl)
six_lines_written law seed Writes command _ _ is (wanting read reads within untouched) = inr (inr refl)

-- a document is served
module _ (law : DocumentsHaveOutcomes) (document : List ℕ) (a : Contents) (Writes : List ℕ → Type 0) where
  serves_owed : (c : DocumentCommand) (read : Read) (s : Status) (report : Option Report) (text : List ℕ) → IsAll document read → IsDocumentOf c document a → Writes text → IsOwed (Some (Document c)) read s report text → IsServed a c Writes s report ⊎ IsOutsideFault s
  serves_owed c (whole bytes) s report text same holds writes owes = inl (text, law c document a s report text holds (subst (λ b. IsOwed (Some (Document c)) (whole b) s report text) same owes), writes)
  serves_owed c (above got) s report text same holds writes owes = absurd same
  serves_owed c (up_to_fault got) s report text same holds writes (read_fault d more) = inr tt
  serves_owed c nothing s report text same holds writes owes = elim owes [ ]
  serves_owed c (some got) s report text same holds writes owes = elim owes [ ]

  pub serves : {Reads : Read → Type 0} {Cuts : List ℕ → Type 0} {Untouched : Type 0} → ((r : Read) → Reads r → IsAll document r) → (c : DocumentCommand) (command : Option Command) (s : Status) (report : Option Report)
      → command ≡ Some (Document c) → IsDocumentOf c document a → IsEnding command Reads Writes Cuts Untouched s report → IsServed a c Writes s report ⊎ IsOutsideFault s
  serves is_all c command _ _ is holds (written read s report text reads x writes) = serves_owed c read s report text (is_all read reads) holds writes (subst (λ o. IsOwed o read s report text) is x)
  serves is_all c command _ _ is holds (cut read s report text reads x cuts) = inr tt
  serves is_all c command _ _ is holds (wanting read reads within untouched) = inr tt

-- ---- the causes

-- what is behind a status
abbrev Cause : Option Command → Read → Status → Type 0
Cause command read status.Words = command ≡ None
Cause command read status.ReadFault = (got : List ℕ) × (read ≡ up_to_fault got)
Cause command read status.WriteFault = ⊥
Cause command read status.NoMemory = ⊥
Cause command read s = ⊤

cause_of_outcome : (a : Contents) (c : DocumentCommand) (bytes : List ℕ) (s : Status) (report : Option Report) (text : List ℕ) → IsOutcome a c s report text → Cause (Some (Document c)) (whole bytes) s
cause_of_outcome a c bytes s report text is = elim (served_status c a s report text is) [
  | done same ↦ subst (Cause (Some (Document c)) (whole bytes)) (sym same) tt
  | refused_as r same ↦ subst (Cause (Some (Document c)) (whole bytes)) (sym same) tt
  | differs_at place same ↦ subst (Cause (Some (Document c)) (whole bytes)) (sym same) tt
]

cause_of : (command : Option Command) (read : Read) (s : Status) (report : Option Report) (text : List ℕ) → IsOwed command read s report text → Cause command read s
cause_of command read s report text usage = refl
cause_of command read s report text (read_fault c got) = (got, refl)
cause_of command read s report text (longer c got) = tt
cause_of command read s report text (refused c bytes r x) = tt
cause_of command read s report text (shown p) = tt
cause_of command read s report text (sampled seed told v x) = tt
cause_of command read s report text (served c bytes a t told v x is) = cause_of_outcome a c bytes s report text is

module _ {Reads : Read → Type 0} {Writes Cuts : List ℕ → Type 0} {Untouched : Type 0} where
  -- where the words are no command, that is answered
  pub is_no_command : (s : Status) (report : Option Report) → IsEnding None Reads Writes Cuts Untouched s report → (s ≡ status.Words) ⊎ IsUnwritten s
  is_no_command _ _ (written read s report text reads usage writes) = inl refl
  is_no_command _ _ (cut read s report text reads x cuts) = inr (inl refl)
  is_no_command _ _ (wanting read reads within untouched) = inr (inr refl)

  pub no_command_at : (command : Option Command) (s : Status) (report : Option Report) → IsEnding command Reads Writes Cuts Untouched s report → command ≡ None → (s ≡ status.Words) ⊎ IsUnwritten s
  no_command_at command s report ending is = is_no_command s report (subst (λ o. IsEnding o Reads Writes Cuts Untouched s report) is ending)

  pub no_command : (command : Option Command) (s : Status) (report : Option Report) → IsEnding command Reads Writes Cuts Untouched s report → s ≡ status.Words → command ≡ None
  no_command command _ _ (written read s report text reads x writes) e = subst (Cause command read) e (cause_of command read s report text x)
  no_command command _ _ (cut read s report text reads x cuts) e = absurd (cc)
  no_command command _ _ (wanting read reads within untouched) e = absurd (cc)

  pub at_read_fault : (command : Option Command) (s : Status) (report : Option Report) → IsEnding command Reads Writes Cuts Untouched s report → s ≡ status.ReadFault → (got : List ℕ) × Reads (up_to_fault got)
  at_read_fault command _ _ (written read s report text reads x writes) e = let by = subst (Cause command read) e (cause_of command read s report text x) in (by.0, subst Reads by.1 reads)
  at_read_fault command _ _ (cut read s report text reads x cuts) e = absurd (cc)
  at_read_fault command _ _ (wanting read reads within untouched) e = absurd (cc)

  pub at_write_fault : (command : Option Command) (s : Status) (report : Option Report) → IsEnding command Reads Writes Cuts Untouched s report → s ≡ status.WriteFault → (text : List ℕ) × Cuts text
  at_write_fault command _ _ (written read s report text reads x writes) e = absurd (subst (Cause command read) e (cause_of command read s report text x))
  at_write_fault command _ _ (cut read s report text reads x cuts) e = (text, cuts)
  at_write_fault command _ _ (wanting read reads within untouched) e = absurd (cc)

  pub without_memory : (command : Option Command) (s : Status) (report : Option Report) → IsEnding command Reads Writes Cuts Untouched s report → s ≡ status.NoMemory → Untouched
  without_memory command _ _ (written read s report text reads x writes) e = absurd (subst (Cause command read) e (cause_of command read s report text x))
  without_memory command _ _ (cut read s report text reads x cuts) e = absurd (cc)
  without_memory command _ _ (wanting read reads within untouched) e = untouched
