-- What was read of bytes that are told.
use Rattle.std.proofs.Common.{◌≡◌, ◌∙◌, ◌≤◌, ◌+◌, ap, sym, List, ℕ, ◌++◌, length, append-nil, Option, Some, None, arith}
use Rattle.std.proofs.lemmas.List.{length-append}
use Rattle.std.proofs.lemmas.Option.{same_Some, none-some}
use Rattle.std.specs.Io.KnownBytes.{Consumes, IsAtEnd}
use Rattle.commands.specs.Reads.{Read, IsReading, nothing, whole, above, up_to_fault, some}
use Rattle.amoebot_run.proofs.Endings.{IsAll}

-- what was consumed up to the end is all of it
pub whole_is : (left new : Option (List ℕ)) (all got : List ℕ) → left ≡ Some all → Consumes left new got → IsAtEnd new → got ≡ all
whole_is None new all got e consumed end = absurd (none-some all e)
whole_is (Some xs) None all got e consumed end = absurd consumed
whole_is (Some xs) (Some ys) all got e consumed end = sym (append-nil got) ∙ ap (λ zs. got ++ zs) (sym end) ∙ sym consumed ∙ same_Some xs all e

-- no more can be consumed than there is
pub no_longer : (left new : Option (List ℕ)) (all got : List ℕ) → left ≡ Some all → Consumes left new got → length got ≤ length all
no_longer None new all got e consumed = absurd (none-some all e)
no_longer (Some xs) None all got e consumed = absurd consumed
no_longer (Some xs) (Some ys) all got e consumed = let long : length all ≡ length got + length ys = ap length (sym (same_Some xs all e)) ∙ ap length consumed ∙ length-append got ys in omega arith

-- a reading of bytes that are told, within the limit
pub reads_all : {S : Type 0} (left : S → Option (List ℕ)) (gives : S → List ℕ → S → Type 0) (fails : S → S → Type 0) (faults : S → ℕ) (limit : ℕ) (old new : S) (document : List ℕ) → left old ≡ Some document → length document ≤ limit
    → (r : Read) → IsReading left gives fails faults limit old new r → IsAll document r
reads_all left gives fails faults limit old new document is few nothing reads = tt
reads_all left gives fails faults limit old new document is few (whole bytes) reads = whole_is (left old) (left new) document bytes is reads.all reads.end
reads_all left gives fails faults limit old new document is few (above got) reads = let most = no_longer (left old) (left new) document got is reads.all in let long = reads.above in omega arith
reads_all left gives fails faults limit old new document is few (up_to_fault got) reads = tt
reads_all left gives fails faults limit old new document is few (some got) reads = tt
