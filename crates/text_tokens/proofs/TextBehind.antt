-- Bytes put into room.
use Rattle.std.proofs.Common.{◌≡◌, ℕ, ◌+◌, ◌≤◌, List, ◌++◌, length, take, drop, sym, ap, ◌∙◌}
use Rattle.std.proofs.Math.Seq.{take-append-add, take-append_seam}
use Rattle.std.proofs.lemmas.List.{take-append-drop, length-take-le}

-- a text that was written behind a front is there
pub text_behind : (old new more rest : List ℕ) (at : ℕ) → at ≤ length old → take at new ≡ take at old → drop at new ≡ more ++ rest → take (at + length more) new ≡ take at old ++ more
text_behind old new more rest at within before written =
    let whole : new ≡ take at old ++ (more ++ rest) = sym (take-append-drop at new) ∙ ap (λ (bs : List ℕ). bs ++ drop at new) before ∙ ap (λ (bs : List ℕ). take at old ++ bs) written in
    let long : at + length more ≡ length (take at old) + length more = ap (λ (k : ℕ). k + length more) (sym (length-take-le at old within)) in
    ap (λ (k : ℕ). take k new) long ∙ ap (take (length (take at old) + length more)) whole ∙ take-append-add (take at old) (more ++ rest) (length more) ∙ ap (λ (bs : List ℕ). take at old ++ bs) (take-append_seam more rest)
