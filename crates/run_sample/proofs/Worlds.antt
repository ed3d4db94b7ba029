-- The world of a sample's amoebots is made.
use Rattle.std.proofs.Common.{◌≡◌, ◌⊎◌, ℕ, List, get_or, true, ap, sym, ◌∙◌, subst, inl, inr, Option, Some, None}
use Rattle.std.specs.Prelude.{IfSome}
use Rattle.std.specs.List.{All}
use Rattle.std.proofs.lemmas.List.{get_or-map}
use Rattle.std.proofs.lemmas.List.Elements.{All-from_get_or}
use Rattle.std.proofs.lemmas.Option.{none-some, slice_get_within}
use Rattle.tri_lattice.specs.Extent.{Extent}
use Rattle.amoebot_state.specs.declared.bot.Bot.{Bot}
use Rattle.amoebot_state.specs.declared.refusal.WorldRefusal.{WorldRefusal}
use Rattle.amoebot_state.specs.declared.refusal.WorldRefusal.TheVariants.{NoMemory}
use Rattle.amoebot_state.specs.Configs.{Config, blank, frame_of, with_these, IsValid}
use Rattle.amoebot_state.specs.Refusals.{IsBotInRange, IsFirstFault}
use Rattle.amoebot_state.proofs.Faults.{valid_is_faultless}
use Rattle.amoebot_state.proofs.Occupants.{bot_in_range}
use Rattle.action_tree.specs.Trees.{Program}
use Rattle.action_tree.specs.Shipped as sample
use Rattle.run_sample.specs.Sample.{sample_area, sample_maxes, sample_frame}

pub are_in_range : (bots : List Bot) → IsValid (with_these sample_frame bots) → All IsBotInRange bots
are_in_range bots valid = All-from_get_or IsBotInRange bots blank (λ i lt. bot_in_range (with_these sample_frame bots) valid i (get_or bots i blank) (get_or-map Some bots i blank None lt))

not_refused : (bots : List Bot) (e : WorldRefusal) → IsValid (with_these sample_frame bots) → IsFirstFault sample_frame bots e → ⊥
not_refused bots e valid fault =
    let lt = slice_get_within bots fault.place fault.bot fault.there in
    none-some e (sym (valid_is_faultless sample_frame bots valid fault.place fault.bot lt fault.there) ∙ fault.fault)

-- so what it is refused for is memory
pub memory_wanted : (a : Extent) (maxes : List ℕ) (bots : List Bot) (e : WorldRefusal) → a ≡ sample_area → maxes ≡ sample_maxes → IsValid (with_these sample_frame bots) → (e ≡ NoMemory) ⊎ IsFirstFault (frame_of a maxes) bots e → e ≡ NoMemory
memory_wanted a maxes bots e area most valid (inl is) = is
memory_wanted a maxes bots e area most valid (inr fault) = absurd (not_refused bots e valid (subst (λ (c : Config). IsFirstFault c bots e) (λ i. frame_of (area i) (most i)) fault))

-- the same program with its guard on
with_guard : Program → Program
with_guard p = record p { guard = true }

pub guarded : (p q : Program) → p ≡ sample.hexagon → q ≡ record p { guard = true } → q ≡ record sample.hexagon { guard = true }
unfolding with_guard
guarded p q is set = set ∙ ap with_guard is

pub world_is : (w : Config) (a : Extent) (maxes : List ℕ) (bots : List Bot) → w ≡ with_these (frame_of a maxes) bots → a ≡ sample_area → maxes ≡ sample_maxes → w ≡ with_these sample_frame bots
world_is w a maxes bots is area most = is ∙ (λ i. with_these (frame_of (area i) (most i)) bots)

pub area_is : (o : Option Extent) (a : Extent) → IfSome o (λ x. x ≡ sample_area) → o ≡ Some a → a ≡ sample_area
area_is o a value is = subst (λ (x : Option Extent). IfSome x (λ y. y ≡ sample_area)) is value
