-- That amoebots without a fault are those of a valid configuration.
use Rattle.std.proofs.Common.{◌≡◌, ◌<◌, ◌≤◌, ◌*◌, ℕ, zero, suc, List, [], ◌∷◌, length, map, take, get_or, Bool, true, false, not, ◌&&◌, ◌||◌, cond, ap, sym, ◌∙◌, refl, subst, inl, inr, arith, Option, Some, None}
use Rattle.std.specs.Prelude.{is_some}
use Rattle.std.specs.List.{All}
use Rattle.std.specs.List.Sorted.{IsStrictlyIncreasing}
use Rattle.std.proofs.Math.Seq.{take-suc, take-length}
use Rattle.std.proofs.lemmas.Bool.{cases_Bool, and_from, or_from, false≢true}
use Rattle.std.proofs.lemmas.List.{get_or-map, get_or-take, take-map, length-map, length-take-le}
use Rattle.std.proofs.lemmas.List.Elements.{All-get_or}
use Rattle.std.proofs.lemmas.Option.{get_or_from_slice_get, slice_get-get_or, none-some}
use Rattle.tri_lattice.specs.declared.node.Node.{Node}
use Rattle.tri_lattice.specs.Extent.{IsArea, is_in}
use Rattle.amoebot_state.specs.declared.bot.Bot.{Bot}
use Rattle.amoebot_state.specs.Ports.{is_own}
use Rattle.amoebot_state.specs.Configs.{Config, frame, with_these, IsValid, blank, bot_at, is_wall, occupant, covers, is_close, has_values, open_frame, walled_frame}
use Rattle.amoebot_state.specs.Refusals.{bot_fault, IsBotInRange, IsFaultless}
use Rattle.amoebot_state.specs.Laws.{ValidIsFaultless, FaultlessIsValid, WalledFrameIsValid}
use Rattle.amoebot_state.proofs.Added.{MayCome, no_fault, valid_with, these_push}
use Rattle.amoebot_state.proofs.Occupants.{covers_below, occupant_none}
use Rattle.amoebot_state.proofs.Owns.{own_head, own_tail}
use Rattle.amoebot_state.proofs.Walls.{node_numbers_below, node_numbers_rise, numbers_rising}
use Rattle.amoebot_state.specs.Walls.{node_numbers}

pass : {E : Type 0} (x : Bool) (e : E) (r : Option E) → x ≡ true → r ≡ None → cond (not x) (Some e) r ≡ None
pass true e r t none = none
pass false e r t none = absurd (false≢true t)

unblocked : {E : Type 0} (x : Bool) (e : E) (r : Option E) → x ≡ false → r ≡ None → cond x (Some e) r ≡ None
unblocked true e r f none = absurd (false≢true (sym f))
unblocked false e r f none = none

-- an amoebot that may come has no fault
fault_free : (c : Config) (b : Bot) → MayCome c b → bot_fault c b ≡ None
fault_free c b may =
    pass (is_in c.area b.head && is_in c.area b.tail) _ _ (and_from _ _ may.fits.head may.fits.tail)
    (pass (is_close b.head b.tail) _ _ may.fits.close
    (unblocked (is_wall c b.head || is_wall c b.tail) _ _ (or_from _ _ may.fits.head_open may.fits.tail_open)
    (unblocked (is_some (occupant c b.head) || is_some (occupant c b.tail)) _ _ (or_from _ _ (ap is_some may.head_free) (ap is_some may.tail_free))
    (pass (has_values c.maxes b.mem) _ _ may.fits.values refl))))

module _ (c : Config) (bots : List Bot) where
  -- the amoebots before a place have the same ids as in the whole list
  before_at : (j k : ℕ) → k < j → bot_at (with_these c (take j bots)) k ≡ bot_at (with_these c bots) k
  before_at j k lt = ap (λ os. get_or os k None) (sym (take-map Some j bots)) ∙ get_or-take j (map Some bots) k None lt

  -- none of them has a node of the one at that place
  node_free : IsValid (with_these c bots) → (j : ℕ) (b : Bot) (v : Node) → j < length bots → bot_at (with_these c bots) j ≡ Some b → is_own b v ≡ true → occupant (with_these c (take j bots)) v ≡ None
  node_free valid j b v within at own = occupant_none (with_these c (take j bots)) v (λ k. elim (cases_Bool (covers (bot_at (with_these c (take j bots)) k) v)) [
    | inl t ↦
        let below = covers_below (with_these c (take j bots)) k v t in
        let long : length (map Some (take j bots)) ≡ j = length-map (take j bots) Some ∙ length-take-le j bots (omega arith) in
        let lt : k < j = omega arith in
        let same : k ≡ j = valid.apart k j v (ap (λ o. covers o v) (sym (before_at j k lt)) ∙ t) (ap (λ o. covers o v) at ∙ own) in
        absurd (omega arith)
    | inr f ↦ f
  ])

pub valid_is_faultless : ValidIsFaultless
valid_is_faultless c bots valid j b lt there =
    let at : bot_at (with_these c bots) j ≡ Some b = get_or-map Some bots j b None lt ∙ ap Some (get_or_from_slice_get bots j b b there) in
    fault_free (with_these c (take j bots)) b (record {
      fits = valid.each j b at;
      head_free = node_free c bots valid j b b.head lt at (own_head b b.head refl);
      tail_free = node_free c bots valid j b b.tail lt at (own_tail b b.tail refl);
    })

-- a frame of an area, of eight maxima and of walls in order is valid
walled_valid : (c : Config) → IsArea c.area → length c.maxes ≡ 8 → IsStrictlyIncreasing c.walls → All (λ k. k < c.area.w * c.area.h) c.walls → IsValid (frame c)
walled_valid c area eight rising walled = record {
  area = area;
  eight = eight;
  rising = rising;
  walled = walled;
  each = λ i b e. absurd (none-some b e);
  apart = λ i j v one two. absurd (false≢true one);
}

pub walled_frame_is_valid : WalledFrameIsValid
walled_frame_is_valid a walls maxes area eight =
    walled_valid (walled_frame a walls maxes) area eight (numbers_rising (node_numbers a walls) (node_numbers_rise a walls)) (node_numbers_below a walls)

-- without walls too
pub frame_valid : (c : Config) → IsArea c.area → length c.maxes ≡ 8 → IsValid (open_frame c)
frame_valid c area eight = walled_frame_is_valid c.area [] c.maxes area eight

-- one amoebot, and two, of which none has a fault
pub valid_one : (c : Config) → IsValid (frame c) → (b : Bot) → IsBotInRange b → bot_fault (frame c) b ≡ None → IsValid (with_these c (b ∷ []))
valid_one c valid b in_range fine = valid_with (frame c) b valid (no_fault (frame c) b in_range fine)

pub valid_two : (c : Config) → IsValid (frame c) → (b d : Bot) → IsBotInRange b → IsBotInRange d → bot_fault (frame c) b ≡ None → bot_fault (with_these c (b ∷ [])) d ≡ None → IsValid (with_these c (b ∷ d ∷ []))
valid_two c valid b d plain_b plain_d fine apart = valid_with (with_these c (b ∷ [])) d (valid_one c valid b plain_b fine) (no_fault (with_these c (b ∷ [])) d plain_d apart)

-- the amoebots before a place are those of a valid configuration
before_valid : (c : Config) (bots : List Bot) → IsValid (frame c) → All IsBotInRange bots → (n : ℕ) → n ≤ length bots → IsFaultless c bots n → IsValid (with_these c (take n bots))
before_valid c bots valid in_range zero le faultless = valid
before_valid c bots valid in_range (suc n) le faultless =
    let lt : n < length bots = omega arith in
    let b = get_or bots n blank in
    let was = with_these c (take n bots) in
    let may = no_fault was b (All-get_or IsBotInRange bots n blank lt in_range) (faultless n b (omega arith) (slice_get-get_or bots n blank lt)) in
    let before = before_valid c bots valid in_range n (omega arith) (λ j d below at. faultless j d (omega arith) at) in
    subst IsValid (sym (ap (with_these c) (take-suc bots n blank lt) ∙ these_push c (take n bots) b)) (valid_with was b before may)

pub faultless_is_valid : FaultlessIsValid
faultless_is_valid c bots valid in_range faultless =
    subst (λ (bs : List Bot). IsValid (with_these c bs)) (take-length bots) (before_valid c bots valid in_range (length bots) (omega arith) faultless)
