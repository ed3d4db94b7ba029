-- What a read of a source in memory answers, from what its body does.
use Rattle.std.proofs.Common.{◌≡◌, ◌≤◌, ◌∙◌, ℕ, List, ◌++◌, take, drop, length, ap, subst, sym, arith}
use Rattle.std.specs.declared.option.Option.{Option}
use Rattle.std.specs.declared.option.Option.TheVariants.{Some, None}
use Rattle.std.proofs.lemmas.List.{take-append-drop, take-append-le, length-take-le, take_all}
use Rattle.outer_io.specs.CallPlans.{CallPlan, FailsNext, after_good_call, after_failed_call}
use Rattle.outer_io.specs.MemReads.{PlannedBytes, MemRead, fails, gives, given_count}

abbrev planned : CallPlan → List ℕ → PlannedBytes
planned plan bytes = record { plan = plan; bytes = bytes }

pub failed_read : {inside old : PlannedBytes} {plan : CallPlan} (room : ℕ) → inside ≡ old → FailsNext inside.plan → plan ≡ after_failed_call inside.plan
    → MemRead old room None (planned plan inside.bytes)
failed_read {inside = inside} {plan = plan} room same now e =
    subst (λ old. MemRead old room None (planned plan inside.bytes)) same (subst (λ p. MemRead inside room None (planned p inside.bytes)) (sym e) (fails now))

pub given_read : {inside old : PlannedBytes} {plan : CallPlan} (room : ℕ) {count : ℕ} {bytes rest : List ℕ} → inside ≡ old → ¬ FailsNext inside.plan
    → plan ≡ after_good_call inside.plan → count ≡ given_count inside room → bytes ≡ take count inside.bytes → rest ≡ drop count inside.bytes
    → MemRead old room (Some bytes) (planned plan rest)
given_read {inside = inside} {plan = plan} room {bytes = bytes} {rest = rest} same now next many front behind =
    let reads : Option (List ℕ) → PlannedBytes → Type 0 = MemRead inside room in
    let first : take (given_count inside room) inside.bytes ≡ bytes = sym (front ∙ ap (λ n. take n inside.bytes) many) in
    let left : drop (given_count inside room) inside.bytes ≡ rest = sym (behind ∙ ap (λ n. drop n inside.bytes) many) in
    subst (λ old. MemRead old room (Some bytes) (planned plan rest)) same
    (subst (λ p. reads (Some bytes) (planned p rest)) (sym next)
    (subst (λ bs. reads (Some bytes) (planned (after_good_call inside.plan) bs)) left
    (subst (λ bs. reads (Some bs) (planned (after_good_call inside.plan) (drop (given_count inside room) inside.bytes))) first (gives now))))

-- the bytes that were copied to the front of a piece are the first ones that were left
pub copied_front : (left copied behind : List ℕ) (count : ℕ) → count ≤ length left → copied ≡ take count left → take count (copied ++ behind) ≡ take count left
copied_front left copied behind count fits e =
    let long : length copied ≡ count = ap length e ∙ length-take-le count left fits in
    take-append-le count copied behind (omega (arith, long)) ∙ take_all count copied (omega (arith, long)) ∙ e

-- bytes are a front of them and what stands behind it
pub front_and_rest : {bytes left front rest : List ℕ} (count : ℕ) → bytes ≡ left → front ≡ take count left → rest ≡ drop count left → bytes ≡ front ++ rest
front_and_rest {left = left} {front = front} count same e f =
    same ∙ sym (take-append-drop count left) ∙ ap (λ bs. bs ++ drop count left) (sym e) ∙ ap (λ bs. front ++ bs) (sym f)
