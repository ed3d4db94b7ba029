-- At most one fault and one refusal is the first one, a list without a fault has none, and small lists with theirs.
use Rattle.std.proofs.Common.{◌≡◌, ◌<◌, ℕ, zero, suc, List, [], ◌∷◌, length, take, false, ap, sym, ◌∙◌, refl, subst, inl, inr, arith, None}
use Rattle.std.specs.Prelude.{slice_get}
use Rattle.std.proofs.lemmas.Bool.{both_ways, cases_lt}
use Rattle.std.proofs.lemmas.Option.{none-some, same_Some, slice_get_within}
use Rattle.amoebot_state.specs.declared.bot.Bot.{Bot}
use Rattle.amoebot_state.specs.declared.refusal.WorldRefusal.{WorldRefusal}
use Rattle.tri_lattice.specs.declared.node.Node.{Node}
use Rattle.tri_lattice.specs.Extent.{Extent}
use Rattle.amoebot_state.specs.declared.refusal.WorldRefusal.TheVariants.{BadWall}
use Rattle.amoebot_state.specs.Configs.{Config, frame_of, walled_frame, with_these}
use Rattle.amoebot_state.specs.Refusals.{AreWalls, bot_fault, is_bad_wall, IsFaultless, IsFirstBadWall, IsFirstFault}
use Rattle.amoebot_state.specs.Laws.{FirstFaultIsUnique, FirstRefusalIsUnique, FaultlessHasNoFault, LawfulHasNoRefusal}
use Rattle.amoebot_state.specs.Examples.{eight_by_eight, node_by, on, one_wall, zeros, SmallFaults, SmallRefusals}

-- before a first fault there is none
not_before : (c : Config) (bots : List Bot) (one two : WorldRefusal) (x : IsFirstFault c bots one) (y : IsFirstFault c bots two) → x.place < y.place → ⊥
not_before c bots one two x y lt = none-some one (sym (y.before x.place x.bot lt x.there) ∙ x.fault)

pub first_fault_is_unique : FirstFaultIsUnique
first_fault_is_unique c bots one two x y = elim (cases_lt x.place y.place) [
  | inl lt ↦ absurd (not_before c bots one two x y lt)
  | inr ge ↦ elim (cases_lt y.place x.place) [
    | inl lt ↦ absurd (not_before c bots two one y x lt)
    | inr le ↦
        (let place : x.place ≡ y.place = omega arith in
        let bot : x.bot ≡ y.bot = same_Some x.bot y.bot (sym x.there ∙ ap (slice_get bots) place ∙ y.there) in
        same_Some one two (sym x.fault ∙ (λ i. bot_fault (with_these c (take (place i) bots)) (bot i)) ∙ y.fault))
  ]
]

pub faultless_has_no_fault : FaultlessHasNoFault
faultless_has_no_fault c bots e fine x = none-some e (sym (fine x.place x.bot (slice_get_within bots x.place x.bot x.there) x.there) ∙ x.fault)

abbrev small_frame : Config
small_frame = frame_of eight_by_eight zeros

-- an amoebot without a fault stands before place 1
one_before : (b : Bot) (bots : List Bot) → bot_fault small_frame b ≡ None → IsFaultless small_frame (b ∷ bots) 1
one_before b bots fine zero d lt there = subst (λ (x : Bot). bot_fault small_frame x ≡ None) (same_Some b d there) fine
one_before b bots fine (suc j) d lt there = absurd (omega arith)

pub small_faults : SmallFaults
small_faults = record {
  overlap = record { place = 1; bot = on 2 2; there = refl; fault = refl; before = one_before (on 2 2) (on 2 2 ∷ on 4 6 ∷ []) refl };
  torn = record { place = 1; bot = on 4 2; there = refl; fault = refl; before = one_before (on 2 2) (on 4 2 ∷ on 2 2 ∷ []) refl };
}

-- before a first bad wall there is none
no_bad_before : (a : Extent) (walls : List Node) (n m : ℕ) → IsFirstBadWall a walls n → AreWalls a walls m → n < m → ⊥
no_bad_before a walls n m x are lt = both_ways _ (are n x.wall lt x.there) x.bad

bad_wall_once : (a : Extent) (walls : List Node) (n m : ℕ) → IsFirstBadWall a walls n → IsFirstBadWall a walls m → n ≡ m
bad_wall_once a walls n m x y = elim (cases_lt n m) [
  | inl lt ↦ absurd (no_bad_before a walls n m x y.before lt)
  | inr ge ↦ elim (cases_lt m n) [
    | inl lt ↦ absurd (no_bad_before a walls m n y x.before lt)
    | inr le ↦ omega arith
  ]
]

no_bad_wall : (a : Extent) (walls : List Node) (n : ℕ) → IsFirstBadWall a walls n → AreWalls a walls (length walls) → ⊥
no_bad_wall a walls n x are = no_bad_before a walls n (length walls) x are (slice_get_within walls n x.wall x.there)

pub first_refusal_is_unique : FirstRefusalIsUnique
first_refusal_is_unique a walls maxes bots one two (inl (n, e, x)) (inl (m, f, y)) = e ∙ ap BadWall (bad_wall_once a walls n m x y) ∙ sym f
first_refusal_is_unique a walls maxes bots one two (inl (n, e, x)) (inr (are, y)) = absurd (no_bad_wall a walls n x are)
first_refusal_is_unique a walls maxes bots one two (inr (are, x)) (inl (m, f, y)) = absurd (no_bad_wall a walls m y are)
first_refusal_is_unique a walls maxes bots one two (inr (are, x)) (inr (also, y)) = first_fault_is_unique (walled_frame a walls maxes) bots one two x y

pub lawful_has_no_refusal : LawfulHasNoRefusal
lawful_has_no_refusal a walls maxes bots e are fine (inl (n, same, x)) = no_bad_wall a walls n x are
lawful_has_no_refusal a walls maxes bots e are fine (inr (also, x)) = faultless_has_no_fault (walled_frame a walls maxes) bots e fine x

-- a wall that may stand comes before place 1
fine_before : (a : Extent) (v : Node) (walls : List Node) → is_bad_wall a [] v ≡ false → AreWalls a (v ∷ walls) 1
fine_before a v walls fine zero u lt there = subst (λ (w : Node). is_bad_wall a [] w ≡ false) (same_Some v u there) fine
fine_before a v walls fine (suc j) u lt there = absurd (omega arith)

abbrev walled_small_frame : Config
walled_small_frame = walled_frame eight_by_eight one_wall zeros

bot_before : (b d : Bot) → bot_fault walled_small_frame b ≡ None → IsFaultless walled_small_frame (b ∷ d ∷ []) 1
bot_before b d fine zero x lt there = subst (λ (y : Bot). bot_fault walled_small_frame y ≡ None) (same_Some b x there) fine
bot_before b d fine (suc j) x lt there = absurd (omega arith)

pub small_refusals : SmallRefusals
small_refusals = record {
  twice = inl (1, refl, record { wall = node_by 3 3; there = refl; bad = refl; before = fine_before eight_by_eight (node_by 3 3) (node_by 3 3 ∷ node_by 8 0 ∷ []) refl });
  wall = inr (fine_before eight_by_eight (node_by 2 3) [] refl, record { place = 1; bot = on 3 2; there = refl; fault = refl; before = bot_before (on 5 5) (on 3 2) refl });
  wall_first = inr (fine_before eight_by_eight (node_by 2 3) [] refl, record { place = 1; bot = on 3 2; there = refl; fault = refl; before = bot_before (on 3 3) (on 3 2) refl });
}
