-- A call over bytes in memory.
use Rattle.std.proofs.Common.{◌≡◌, ◌≤◌, refl, subst, List, ℕ, length, Option, Some, None, inl, inr, arith}
use Rattle.std.specs.Prelude.{IfSome}
use Rattle.outer_io.specs.KeptBytes.{KeptBytes, KeepsPiece, TextIsKeptAsOnePiece, written_of}
use Rattle.outer_io.specs.Told.{Rose}
use Rattle.outer_io.specs.Writings.{WritesAll}
use Rattle.claim_core.specs.declared.report.Report.{Report}
use Rattle.commands.specs.declared.words.Command.{Command}
use Rattle.document_answers.specs.declared.status.Status.{Status}
use Rattle.document_answers.specs.declared.status.Status.TheVariants as status
use Rattle.commands.specs.Reads.{Read, IsReading, nothing, whole, above, up_to_fault, some}
use Rattle.amoebot_run.specs.Endings.{IsAnswered, IsOutsideFault, IsUnwritten, IsReadingOf, IsReportOfCall, of_document, of_sample, HasText}
use Rattle.amoebot_run.proofs.Fronts.{whole_is, no_longer}

-- a count that stays 0 did not rise
pub not_risen : Rose 0 0 → ⊥
not_risen rose = grind (arith)

-- a reading of bytes whose source has no faults
pub reading_of : {S : Type 0} (left : S → Option (List ℕ)) (gives : S → List ℕ → S → Type 0) (fails : S → S → Type 0) (limit : ℕ) (old new : S) (bytes : List ℕ) → left old ≡ Some bytes
    → (r : Read) → IsReading left gives fails (λ _. 0) limit old new r → IsReadingOf limit bytes r
reading_of left gives fails limit old new bytes is nothing reads = tt
reading_of left gives fails limit old new bytes is (whole got) reads =
    let same = whole_is (left old) (left new) bytes got is reads.all reads.end in
    (same, subst (λ (b : List ℕ). length b ≤ limit) same reads.within)
reading_of left gives fails limit old new bytes is (above got) reads = let most = no_longer (left old) (left new) bytes got is reads.all in let long = reads.above in omega arith
reading_of left gives fails limit old new bytes is (up_to_fault got) reads = absurd (not_risen reads.0)
reading_of left gives fails limit old new bytes is (some got) reads = tt

pub has_text : TextIsKeptAsOnePiece → (old new : KeptBytes) (text : List ℕ) → WritesAll written_of KeepsPiece old new text → HasText old new text
has_text law old new text writes = (law old new text writes.writes, writes.told)

-- of the three failures, out of memory alone is left
pub memory_alone : (s : Status) → (s ≡ status.ReadFault → ⊥) → (s ≡ status.WriteFault → ⊥) → IsOutsideFault s → s ≡ status.NoMemory
memory_alone status.ReadFault read write fails = absurd (read refl)
memory_alone status.WriteFault read write fails = absurd (write refl)
memory_alone status.NoMemory read write fails = refl
memory_alone status.Done read write fails = elim fails [ ]
memory_alone status.Words read write fails = elim fails [ ]
memory_alone (status.Refused _) read write fails = elim fails [ ]
memory_alone (status.Differs _) read write fails = elim fails [ ]

pub unwritten_alone : (s : Status) → (s ≡ status.WriteFault → ⊥) → IsUnwritten s → s ≡ status.NoMemory
unwritten_alone s write unwritten = elim unwritten [ inl e ↦ absurd (write e) | inr e ↦ e ]

pub answered_maps : {command : Option Command} {read : Read} {s ended : Status} {report told : Option Report} {text : List ℕ} {Writes Writes' : List ℕ → Type 0} → ((t : List ℕ) → Writes t → Writes' t)
    → IsAnswered command read s report text Writes ended told → IsAnswered command read s report text Writes' ended told
answered_maps {text = text} f x = record { status = x.status; told = x.told; writes = λ decided. f text (x.writes decided) }

pub told_maps : (command : Option Command) {Reads Reads' : Read → Type 0} {Writes Writes' : List ℕ → Type 0} → ((r : Read) → Reads r → Reads' r) → ((t : List ℕ) → Writes t → Writes' t) → (report : Option Report)
    → IfSome report (IsReportOfCall command Reads Writes) → IfSome report (IsReportOfCall command Reads' Writes')
told_maps command f g None told = tt
told_maps command f g (Some report) (of_document c document text its_command reads run writes) = of_document c document text its_command (f (whole document) reads) run (g text writes)
told_maps command f g (Some report) (of_sample seed text its_command reads run writes) = of_sample seed text its_command (f nothing reads) run (g text writes)
