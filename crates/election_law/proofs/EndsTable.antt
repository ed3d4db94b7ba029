-- The ends of arcs, counted by the local directions of an amoebot: where there is one, the ring is one arc.
use Rattle.std.proofs.Common.{◌≡◌, ℕ, ◌+◌, ◌%◌, ◌<◌, Bool, true, ◌&&◌, not, List, [], ◌∷◌, refl, eqb}
use Rattle.std.proofs.lemmas.Bool.{and_parts, eq-eqb}
use Rattle.std.specs.List.{count_by}
use Rattle.tri_lattice.specs.Lattice.{directions}
use Rattle.amoebot_state.specs.declared.bot.Chir.{Chir}
use Rattle.amoebot_state.specs.declared.bot.Chir.TheVariants.{Plus, Minus}
use Rattle.amoebot_state.specs.Ports.{global_by}
use Rattle.ring_guard.specs.Rings.{ring_entry, IsOneArc, is_one_arc}
use Rattle.ring_guard.proofs.Tables.{each_list, implies, implies_at, ring_table, is_one_arc-true, each_below, each_below_at}

-- the entry in a local direction is true, and the next one is not
abbrev pub local_end : Chir → ℕ → List Bool → ℕ → Bool
local_end chir rot xs i = ring_entry xs (global_by chir rot i) && not (ring_entry xs (global_by chir rot ((i + 1) % 6)))

-- in how many local directions that is so
abbrev pub local_ends : Chir → ℕ → List Bool → ℕ
local_ends chir rot xs = count_by (local_end chir rot xs) directions

abbrev one_means_arc : Chir → List Bool → ℕ → Bool
one_means_arc chir xs rot = implies (eqb (local_ends chir rot xs) 1) (is_one_arc xs)

abbrev ends_told : List Bool → Bool
ends_told xs = each_below 6 (one_means_arc Plus xs) && each_below 6 (one_means_arc Minus xs)

ends_computed : each_list 6 ends_told ≡ true
ends_computed = refl

told_of : (chir : Chir) (xs : List Bool) → ends_told xs ≡ true → (rot : ℕ) → rot < 6 → one_means_arc chir xs rot ≡ true
told_of Plus xs all rot l = each_below_at 6 (one_means_arc Plus xs) (and_parts _ _ all).0 rot l
told_of Minus xs all rot l = each_below_at 6 (one_means_arc Minus xs) (and_parts _ _ all).1 rot l

pub one_end_is_arc : (chir : Chir) (rot : ℕ) (x0 x1 x2 x3 x4 x5 : Bool) → rot < 6
    → (let xs : List Bool = x0 ∷ x1 ∷ x2 ∷ x3 ∷ x4 ∷ x5 ∷ [] in local_ends chir rot xs ≡ 1 → IsOneArc xs)
one_end_is_arc chir rot x0 x1 x2 x3 x4 x5 l one =
    let xs : List Bool = x0 ∷ x1 ∷ x2 ∷ x3 ∷ x4 ∷ x5 ∷ [] in
    let told = told_of chir xs (ring_table ends_told ends_computed xs) rot l in
    is_one_arc-true xs (implies_at _ _ told (eq-eqb (local_ends chir rot xs) 1 one))
