-- What the ending of a call comes to.
use Rattle.std.proofs.Common.{◌≡◌, ◌≤◌, ℕ, List, length, Option, None, inl, inr, refl, sym, subst}
use Rattle.claim_core.specs.declared.report.Report.{Report}
use Rattle.commands.specs.declared.words.Command.{Command}
use Rattle.document_answers.specs.declared.status.Status.{Status}
use Rattle.document_answers.specs.declared.status.Status.TheVariants as status
use Rattle.commands.specs.Commands.{limit_for}
use Rattle.commands.specs.Laws.{OwedIsOne, ReportsAreOfTurns, ReportsAreOfSamples}
use Rattle.commands.specs.Reads.{Read, up_to_fault}
use Rattle.amoebot_run.specs.declared.ended.Ended.{Ended}
use Rattle.amoebot_run.specs.Endings.{EndingTells, IsEnding, IsOutsideFault, IsUnwritten}
use Rattle.amoebot_run.proofs.Endings.{IsAll, at_read_fault, at_write_fault, no_command, no_command_at, no_report, one, one_unread, reported, served_unread, six_lines_written, without_memory}
use Rattle.amoebot_run.proofs.InMemory.{answered_maps, memory_alone, unwritten_alone}

-- by the laws of what is owed, where what the input came to has all its bytes, and each fault has its cause
pub ending_tells : OwedIsOne → ReportsAreOfTurns → ReportsAreOfSamples
    → {Reads : Read → Type 0} {Writes Cuts Has : List ℕ → Type 0} {Untouched ReadFails WriteFails : Type 0} (command : Option Command)
    → ((document : List ℕ) → Has document → length document ≤ limit_for command → (r : Read) → Reads r → IsAll document r)
    → ((got : List ℕ) → Reads (up_to_fault got) → ReadFails)
    → ((text : List ℕ) → Cuts text → WriteFails)
    → (s : Status) (report : Option Report) → IsEnding command Reads Writes Cuts Untouched s report
    → EndingTells command Has Writes ReadFails WriteFails Untouched IsOutsideFault IsUnwritten s report
ending_tells owed turns samples command all read_fails write_fails s report ending = record {
  report = reported turns command s report ending;
  determined = λ document t other text has few owes. one owed document t other text _ (all document has few) command s report owes ending;
  determined_unread = λ t other text owes. one_unread owed t other text _ command s report owes ending;
  words = no_command command s report ending;
  no_command = no_command_at command s report ending;
  read_fault = λ e. let by = at_read_fault command s report ending e in read_fails by.0 by.1;
  write_fault = λ e. let by = at_write_fault command s report ending e in write_fails by.0 by.1;
  no_memory = without_memory command s report ending;
  complete_unread = λ c is none. served_unread c command s report is none ending;
  sample = λ seed is. six_lines_written samples seed _ command s report is ending;
}

-- the same over bytes in memory, which have no faults
pub tells_in_memory : {command : Option Command} {Has Has' Writes Writes' : List ℕ → Type 0} {ReadFails WriteFails Untouched : Type 0}
    → ((document : List ℕ) → Has' document → Has document)
    → ((text : List ℕ) → Writes text → Writes' text)
    → (ReadFails → ⊥) → (WriteFails → ⊥)
    → (s : Status) (report : Option Report) → EndingTells command Has Writes ReadFails WriteFails Untouched IsOutsideFault IsUnwritten s report
    → EndingTells command Has' Writes' ⊥ ⊥ Untouched (λ t. t ≡ status.NoMemory) (λ t. t ≡ status.NoMemory) s report
tells_in_memory has writes no_read no_write s report x =
    let alone = memory_alone s (λ e. no_read (x.read_fault e)) (λ e. no_write (x.write_fault e)) in
    let unwritten = unwritten_alone s (λ e. no_write (x.write_fault e)) in
    record {
      report = x.report;
      determined = λ document t other text is few owes. elim (x.determined document t other text (has document is) few owes) [ inl y ↦ inl (answered_maps writes y) | inr y ↦ inr (alone y) ];
      determined_unread = λ t other text owes. elim (x.determined_unread t other text owes) [ inl y ↦ inl (answered_maps writes y) | inr y ↦ inr (unwritten y) ];
      words = x.words;
      no_command = λ none. elim (x.no_command none) [ inl y ↦ inl y | inr y ↦ inr (unwritten y) ];
      read_fault = λ e. no_read (x.read_fault e);
      write_fault = λ e. no_write (x.write_fault e);
      no_memory = x.no_memory;
      complete_unread = λ c is none. elim (x.complete_unread c is none) [ inl y ↦ inl y | inr y ↦ inr (unwritten y) ];
      sample = λ seed is. elim (x.sample seed is) [ inl y ↦ inl (y.0, writes _ y.1) | inr y ↦ inr (unwritten y) ];
    }

-- nor is anything else known of it where memory was wanting for a copy of the bytes
pub tells_without : {command : Option Command} {Has Writes : List ℕ → Type 0} {Untouched : Type 0} (ended : Ended) → ended ≡ record { status = status.NoMemory; report = None; turns = None; tickets = None } → Untouched
    → EndingTells command Has Writes ⊥ ⊥ Untouched (λ t. t ≡ status.NoMemory) (λ t. t ≡ status.NoMemory) ended.status ended.report
tells_without {command} {Has} {Writes} {Untouched} ended e untouched =
    subst (λ (r : Ended). EndingTells command Has Writes ⊥ ⊥ Untouched (λ t. t ≡ status.NoMemory) (λ t. t ≡ status.NoMemory) r.status r.report) (sym e) (record {
      report = no_report _ _ (λ done. cc);
      determined = λ document t other text is few owes. inr refl;
      determined_unread = λ t other text owes. inr refl;
      words = λ same. absurd (cc);
      no_command = λ none. inr refl;
      read_fault = λ same. cc;
      write_fault = λ same. cc;
      no_memory = λ same. untouched;
      complete_unread = λ c is none. inr refl;
      sample = λ seed is. inr refl;
    })
