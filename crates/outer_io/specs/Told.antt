-- When a count of faults rose, and what a write does to the bytes that a sink tells.
use Rattle.std.specs.Prelude.{◌≡◌, ℕ, ◌<◌, ◌⊎◌, List, ◌++◌, take, ⊤, MatchResult}
use Rattle.std.specs.declared.option.Option.{Option}
use Rattle.std.specs.declared.option.Option.TheVariants.{Some, None}
use Rattle.std.specs.declared.result.Result.{Result}
use Rattle.outer_io.specs.Counted.{most_faults}

-- a count is greater now than before, or stands at its last value
abbrev pub Rose : ℕ → ℕ → Type 0
Rose before now = (before < now) ⊎ (now ≡ most_faults)

-- bytes that are told now were told before, and grew by `bytes`
abbrev pub Grows : Option (List ℕ) → Option (List ℕ) → List ℕ → Type 0
Grows old None bytes = ⊤
Grows None (Some now) bytes = ⊥
Grows (Some before) (Some now) bytes = now ≡ before ++ bytes

-- bytes that are told now are those that were told before
abbrev pub Stays : Option (List ℕ) → Option (List ℕ) → Type 0
Stays old None = ⊤
Stays old (Some now) = old ≡ Some now

-- a write took the first bytes of a piece, as many as its answer says, and none where it failed
abbrev pub TakesFront : {E : Type 0} → Option (List ℕ) → Option (List ℕ) → Result ℕ E → List ℕ → Type 0
TakesFront old new answer piece =
    MatchResult answer (λ taken. Grows old new (take taken piece)) (λ _. Stays old new)
