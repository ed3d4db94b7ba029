-- What a write to a sink in memory answers, from what its body does.
use Rattle.std.proofs.Common.{◌≡◌, ◌∙◌, ◌⊎◌, ◌≤◌, ◌<◌, ℕ, List, ◌++◌, take, length, ap, subst, sym}
use Rattle.std.specs.declared.option.Option.{Option}
use Rattle.std.specs.declared.option.Option.TheVariants.{Some, None}
use Rattle.outer_io.specs.CallPlans.{CallPlan, FailsNext, after_good_call, after_failed_call}
use Rattle.outer_io.specs.MemWrites.{PlannedRoom, MemWrite, fails, takes, next_count}

abbrev planned : CallPlan → ℕ → List ℕ → PlannedRoom
planned plan room bytes = record { plan = plan; room = room; bytes = bytes }

pub failed_write : {inside old : PlannedRoom} {plan : CallPlan} (piece : List ℕ) → inside ≡ old
    → FailsNext inside.plan ⊎ (inside.room ≤ length inside.bytes) → plan ≡ after_failed_call inside.plan
    → MemWrite old piece None (planned plan inside.room inside.bytes)
failed_write {inside = inside} {plan = plan} piece same now e =
    subst (λ old. MemWrite old piece None (planned plan inside.room inside.bytes)) same
    (subst (λ p. MemWrite inside piece None (planned p inside.room inside.bytes)) (sym e) (fails now))

pub taken_write : {inside old : PlannedRoom} {plan : CallPlan} {count : ℕ} {bytes : List ℕ} (piece : List ℕ) → inside ≡ old
    → ¬ FailsNext inside.plan → length inside.bytes < inside.room → plan ≡ after_good_call inside.plan
    → count ≡ next_count inside piece → bytes ≡ inside.bytes ++ take count piece
    → MemWrite old piece (Some count) (planned plan inside.room bytes)
taken_write {inside = inside} {plan = plan} {count = count} {bytes = bytes} piece same now free next many grown =
    let writes : Option ℕ → PlannedRoom → Type 0 = MemWrite inside piece in
    let whole : inside.bytes ++ take (next_count inside piece) piece ≡ bytes = sym (grown ∙ ap (λ n. inside.bytes ++ take n piece) many) in
    subst (λ old. MemWrite old piece (Some count) (planned plan inside.room bytes)) same
    (subst (λ p. writes (Some count) (planned p inside.room bytes)) (sym next)
    (subst (λ n. writes (Some n) (planned (after_good_call inside.plan) inside.room bytes)) (sym many)
    (subst (λ bs. writes (Some (next_count inside piece)) (planned (after_good_call inside.plan) inside.room bs)) whole (takes now free))))
