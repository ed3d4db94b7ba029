-- What a sample is fit for: its amoebots are 150 in a connected shape, and its lists are of them.
use Rattle.std.proofs.Common.{◌≡◌, ◌+◌, ◌<◌, ◌≤◌, ℕ, List, [], ◌∷◌, length, get_or, Some, None, ap, sym, refl, subst, ◌∙◌, arith}
use Rattle.std.specs.Prelude.{◌%◌, ◌==◌, IsSome, IsTrue, is_some, slice_get}
use Rattle.std.proofs.lemmas.Bool.{false≢true}
use Rattle.std.proofs.lemmas.List.Sums.{count_by-le-length, length-filter}
use Rattle.std.specs.List.{All, range_with_len}
use Rattle.std.proofs.lemmas.List.{get_or-map, length-map}
use Rattle.std.proofs.lemmas.List.Elements.{All-cons, All-filter, All-map, All-nil, All-weaker}
use Rattle.std.proofs.lemmas.List.FromFn.{length-range_with_len, get_or-range_with_len}
use Rattle.tri_lattice.specs.Sets.{IsConnected}
use Rattle.tri_lattice.specs.declared.node.Node.{Node}
use Rattle.amoebot_state.specs.declared.bot.Bot.{Bot}
use Rattle.amoebot_state.specs.Configs.{Config, IsValid, bot_at, blank, with_these}
use Rattle.amoebot_state.specs.Occupied.{occupied}
use Rattle.claim_core.specs.Turns.{AreLists, CallerLists, IsList}
use Rattle.run_sample.specs.Sample.{IsInside, sample_frame}
use Rattle.run_sample.specs.Callers.{ids_below, ids_of, sample_lists}
use Rattle.run_sample.specs.Laws.{SampleIsFit}
use Rattle.run_sample.proofs.Laid.{IsLaid, connected, inside, sample_laid}

-- the ids below a number are below it
below : (n c : ℕ) → All (λ id. id < n) (ids_below n c)
unfolding ids_below
below n c = All-filter _ (λ id. id < n) (range_with_len 0 n) (λ k d inside.
    let long = length-range_with_len 0 n in
    let at : get_or (range_with_len 0 n) k d ≡ 0 + k = get_or-range_with_len 0 n k d (omega arith) in
    omega arith)

-- an id below the number of the amoebots is one's
is_there : (bots : List Bot) (id : ℕ) → id < length bots → IsSome (bot_at (with_these sample_frame bots) id)
is_there bots id lt = ap is_some (get_or-map Some bots id blank None lt)

there : (bots : List Bot) → length bots ≡ 150 → All (All (λ id. IsSome (bot_at (with_these sample_frame bots) id))) sample_lists.ids
there bots many = All-map There ids_of (0 ∷ 1 ∷ 2 ∷ 3 ∷ []) (λ k d inside. of (get_or (0 ∷ 1 ∷ 2 ∷ 3 ∷ []) k d))
  where
    There : List ℕ → Type 0
    There = All (λ (id : ℕ). IsSome (bot_at (with_these sample_frame bots) id))

    of : (c : ℕ) → There (ids_of c)
    of c = All-weaker (λ id. id < 150) (λ (id : ℕ). IsSome (bot_at (with_these sample_frame bots) id)) (λ id lt. is_there bots id (omega (arith, many))) (ids_of c) (below 150 c)

all_inside : (bots : List Bot) → length bots ≡ 150 → IsLaid bots → (v : Node) → IsTrue (occupied (with_these sample_frame bots) v) → IsInside v
all_inside bots many l v t = inside bots (omega (arith, many)) l v (sym (l.same v) ∙ t)

-- the lists are such as callers may have
first_within : (ids : List ℕ) → IsSome (slice_get ids 0) → 0 < length ids
first_within [] none = absurd (false≢true none)
first_within (id ∷ ids) some = omega arith

at_most : (n c : ℕ) → length (ids_below n c) ≤ n
unfolding ids_below
at_most n c = omega (arith, length-range_with_len 0 n, length-filter (λ (id : ℕ). id % 4 == c) (range_with_len 0 n), count_by-le-length (λ (id : ℕ). id % 4 == c) (range_with_len 0 n))

a_list : (c : ℕ) → IsSome (slice_get (ids_of c) 0) → IsList (ids_of c)
a_list c some = record { some = first_within (ids_of c) some; few = (let few = at_most 150 c in omega arith) }

first_ids : (slice_get (ids_of 0) 0 ≡ Some 0) × (slice_get (ids_of 1) 0 ≡ Some 1) × (slice_get (ids_of 2) 0 ≡ Some 2) × (slice_get (ids_of 3) 0 ≡ Some 3)
unfolding ids_below
first_ids = (refl, refl, refl, refl)

are_lists : AreLists sample_lists
are_lists = record {
  few = record { at_most_16 = omega arith; in_all = omega arith };
  each = All-cons IsList (ids_of 0) (ids_of 1 ∷ ids_of 2 ∷ ids_of 3 ∷ []) (a_list 0 (ap is_some first_ids.0)) (All-cons IsList (ids_of 1) (ids_of 2 ∷ ids_of 3 ∷ []) (a_list 1 (ap is_some first_ids.1))
      (All-cons IsList (ids_of 2) (ids_of 3 ∷ []) (a_list 2 (ap is_some first_ids.2)) (All-cons IsList (ids_of 3) [] (a_list 3 (ap is_some first_ids.3)) (All-nil IsList))));
}

pub sample_is_fit : SampleIsFit
sample_is_fit seed s is = record {
  valid = subst IsValid (sym is.world) (sample_laid seed is.bots is.come).valid;
  listed = subst AreLists (sym is.lists) are_lists;
  many = ap (λ (c : Config). length c.bots) is.world ∙ length-map is.bots Some ∙ is.come.many;
  connected = subst (λ (c : Config). IsConnected (occupied c)) (sym is.world) (connected is.bots (sample_laid seed is.bots is.come));
  inside = subst (λ (c : Config). (v : Node) → IsTrue (occupied c v) → IsInside v) (sym is.world) (all_inside is.bots is.come.many (sample_laid seed is.bots is.come));
  there = subst (λ (z : Config × CallerLists). All (All (λ id. IsSome (bot_at z.0 id))) z.1.ids) (λ i. (sym is.world i, sym is.lists i)) (there is.bots is.come.many);
}
