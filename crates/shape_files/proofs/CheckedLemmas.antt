-- A program that was read, and judged.
use Rattle.std.proofs.Common.{◌≡◌, List, [], ◌∷◌, Some, None, Err, refl, ap}
use Rattle.text_tokens.specs.declared.refusal.Refusal.{Refusal}
use Rattle.action_check.specs.Told.{first_of}
use Rattle.shape_files.specs.Documents.{first_in}

pub none_first : (faults : List Refusal) → faults ≡ [] → first_in faults ≡ None
none_first faults e = rw e refl

pub some_first : (faults : List Refusal) (r : Refusal) → first_of faults ≡ Err r → first_in faults ≡ Some r
some_first [] r e = absurd cc
some_first (s ∷ faults) r e = let is : s ≡ r = cc in ap (λ (x : Refusal). Some x) is
