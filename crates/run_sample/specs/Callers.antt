-- The lists of a sample's callers. All of it is this project's profile.
use Rattle.std.specs.Prelude.{ℕ, ◌%◌, ◌==◌, List, [], ◌∷◌, map}
use Rattle.std.specs.List.{filter, range_with_len}
use Rattle.claim_core.specs.Turns.{CallerLists}
use Rattle.run_sample.specs.Sample.{sample_bots}

-- the ids below n that are c modulo 4, in rising order
unfoldable pub ids_below : ℕ → ℕ → List ℕ
ids_below n c = filter (λ id. id % 4 == c) (range_with_len 0 n)

-- the ids of a caller
abbrev pub ids_of : ℕ → List ℕ
ids_of c = ids_below sample_bots c

-- the lists of four callers, who have 4,000 turns each
abbrev pub sample_lists : CallerLists
sample_lists = record { turns = 4000; ids = map ids_of (0 ∷ 1 ∷ 2 ∷ 3 ∷ []) }
