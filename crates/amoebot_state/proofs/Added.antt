-- One more amoebot.
use Rattle.std.proofs.Common.{◌≡◌, ◌<◌, ◌+◌, ℕ, List, [], ◌∷◌, ◌++◌, map, length, take, get_or, Bool, true, false, not, ◌&&◌, ◌||◌, cond, ap, sym, ◌∙◌, refl, subst, inl, inr, arith, Option, Some, None}
use Rattle.std.specs.Prelude.{is_some, slice_get}
use Rattle.std.proofs.lemmas.List.{take_more, length-map, get_or_append_left, get_or_push, get_or_past, length_push, map_push}
use Rattle.std.proofs.lemmas.Bool.{cases_eq, both_ways, cases_lt, or_parts, and_parts}
use Rattle.std.proofs.lemmas.Option.{none-some, same_Some, slice_get-get_or}
use Rattle.tri_lattice.specs.declared.node.Node.{Node}
use Rattle.tri_lattice.specs.Extent.{index_of, is_in}
use Rattle.tri_lattice.proofs.Boxes.{index_below}
use Rattle.amoebot_state.specs.declared.bot.Bot.{Bot}
use Rattle.amoebot_state.specs.Ports.{is_own}
use Rattle.amoebot_state.specs.Configs.{Config, frame, with_these, with_bot, IsBot, IsValid, IsGrid, IsWorld, bot_at, is_wall, occupant, covers, is_close, has_values}
use Rattle.amoebot_state.specs.Storage.{put_at}
use Rattle.amoebot_state.specs.declared.refusal.WorldRefusal.{WorldRefusal}
use Rattle.amoebot_state.specs.Refusals.{bot_fault, IsBotInRange, IsFaultless, IsFirstFault}
use Rattle.tri_lattice.proofs.Nodes.{cases_node}
use Rattle.amoebot_state.proofs.Owns.{own_cases, own_head, own_tail, not_own}
use Rattle.amoebot_state.proofs.Options.{none_if}
use Rattle.amoebot_state.proofs.Occupants.{none_passes, position_push}
use Rattle.amoebot_state.proofs.Patched.{fix_at, keep_at, length_put_at}

passes : {E : Type 0} (x : Bool) (e : E) (r : Option E) → cond (not x) (Some e) r ≡ None → (x ≡ true) × (r ≡ None)
passes true e r h = (refl, h)
passes false e r h = absurd (none-some _ (sym h))

blocks : {E : Type 0} (x : Bool) (e : E) (r : Option E) → cond x (Some e) r ≡ None → (x ≡ false) × (r ≡ None)
blocks true e r h = absurd (none-some _ (sym h))
blocks false e r h = (refl, h)

-- an amoebot without a fault
pub record MayCome (c : Config) (b : Bot) : Type 0 where
  pub fits : IsBot (frame c) b
  pub head_free : occupant c b.head ≡ None
  pub tail_free : occupant c b.tail ≡ None

pub no_fault : (c : Config) (b : Bot) → IsBotInRange b → bot_fault c b ≡ None → MayCome c b
no_fault c b in_range h =
    let one = passes (is_in c.area b.head && is_in c.area b.tail) _ _ h in
    let ins = and_parts _ _ one.0 in
    let two = passes (is_close b.head b.tail) _ _ one.1 in
    let walls = blocks (is_wall c b.head || is_wall c b.tail) _ _ two.1 in
    let open_nodes = or_parts _ _ walls.0 in
    let three = blocks (is_some (occupant c b.head) || is_some (occupant c b.tail)) _ _ walls.1 in
    let free = or_parts _ _ three.0 in
    let four = passes (has_values c.maxes b.mem) _ _ three.1 in
    record {
      fits = record { head = ins.0; tail = ins.1; head_open = open_nodes.0; tail_open = open_nodes.1; close = two.0; rot = in_range.rot; values = four.0; eight = in_range.eight };
      head_free = none_if _ free.0;
      tail_free = none_if _ free.1;
    }

pick : Option ℕ → Bool → ℕ → Option ℕ
pick None own n = cond own (Some n) None
pick (Some i) own n = Some i

occupant_with : (c : Config) (b : Bot) (v : Node) → occupant (with_bot c b) v ≡ pick (occupant c v) (is_own b v) (length c.bots)
unfolding pick
occupant_with c b v = elim (occupant c v) as (λ o. occupant c v ≡ o → occupant (with_bot c b) v ≡ pick o (is_own b v) (length c.bots)) [
  | None ↦ λ e. unfold pick in position_push (λ o. covers o v) c.bots (Some b) None None e
  | Some i ↦ λ e. unfold pick in position_push (λ o. covers o v) c.bots (Some b) None (Some i) e
] refl

own_free : (c : Config) (b : Bot) (v : Node) → MayCome c b → is_own b v ≡ true → occupant c v ≡ None
own_free c b v may own = elim (own_cases b v own) [ inl h ↦ ap (occupant c) (sym h) ∙ may.head_free | inr h ↦ ap (occupant c) (sym h) ∙ may.tail_free ]

-- who covers a node in the longer list
data Who (c : Config) (b : Bot) (v : Node) (i : ℕ) : Type 0 where
  older : i < length c.bots → covers (bot_at c i) v ≡ true → Who c b v i
  newest : i ≡ length c.bots → is_own b v ≡ true → Who c b v i

who : (c : Config) (b : Bot) (v : Node) (i : ℕ) → covers (bot_at (with_bot c b) i) v ≡ true → Who c b v i
who c b v i h = elim (cases_lt i (length c.bots)) [
  | inl lt ↦ older lt (ap (λ o. covers o v) (sym (get_or_append_left c.bots (Some b ∷ []) None i lt)) ∙ h)
  | inr ge ↦ elim (cases_eq i (length c.bots)) [
    | inl e ↦ newest e (ap (λ o. covers o v) (sym (get_or_push c.bots (Some b) None i (sym e))) ∙ h)
    | inr ne ↦ let long = length_push c.bots (Some b) in absurd (both_ways _ (ap (λ o. covers o v) (get_or_past (c.bots ++ Some b ∷ []) i None (omega arith))) h)
  ]
]

meet : (c : Config) (b : Bot) (v : Node) (i j : ℕ) → IsValid c → MayCome c b → Who c b v i → Who c b v j → i ≡ j
meet c b v i j valid may (older lt h) (older lt' h') = valid.apart i j v h h'
meet c b v i j valid may (older lt h) (newest e own) = absurd (both_ways _ (none_passes (λ o. covers o v) c.bots None (own_free c b v may own) i lt) h)
meet c b v i j valid may (newest e own) (older lt h) = absurd (both_ways _ (none_passes (λ o. covers o v) c.bots None (own_free c b v may own) j lt) h)
meet c b v i j valid may (newest e own) (newest e' own') = e ∙ sym e'

each_with : (c : Config) (b : Bot) → IsValid c → MayCome c b → (i : ℕ) (a : Bot) → bot_at (with_bot c b) i ≡ Some a → IsBot (frame c) a
each_with c b valid may i a h = elim (cases_lt i (length c.bots)) [
  | inl lt ↦ valid.each i a (sym (get_or_append_left c.bots (Some b ∷ []) None i lt) ∙ h)
  | inr ge ↦ elim (cases_eq i (length c.bots)) [
    | inl e ↦ let same : b ≡ a = same_Some b a (sym (get_or_push c.bots (Some b) None i (sym e)) ∙ h) in let P : Bot → Type 0 = λ x. IsBot (frame c) x in subst P same may.fits
    | inr ne ↦ let long = length_push c.bots (Some b) in absurd (none-some a (sym (get_or_past (c.bots ++ Some b ∷ []) i None (omega arith)) ∙ h))
  ]
]

-- a valid configuration stays so with an amoebot that may come
pub valid_with : (c : Config) (b : Bot) → IsValid c → MayCome c b → IsValid (with_bot c b)
valid_with c b valid may = record {
  area = valid.area;
  eight = valid.eight;
  rising = valid.rising;
  walled = valid.walled;
  each = each_with c b valid may;
  apart = λ i j v h h'. meet c b v i j valid may (who c b v i h) (who c b v j h');
}

pick_own : (c : Config) (b : Bot) (v : Node) → MayCome c b → is_own b v ≡ true → occupant (with_bot c b) v ≡ Some (length c.bots)
unfolding pick
pick_own c b v may own = occupant_with c b v ∙ ap (λ o. pick o (is_own b v) (length c.bots)) (own_free c b v may own) ∙ ap (λ t. pick None t (length c.bots)) own

pick_other : (o : Option ℕ) (n : ℕ) → pick o false n ≡ o
unfolding pick
pick_other None n = refl
pick_other (Some i) n = refl

-- the grid with the new amoebot on its nodes is that of the longer configuration
pub grid_with : (c : Config) (b : Bot) (g : List (Option ℕ)) → MayCome c b → IsGrid c g → IsGrid (with_bot c b) (put_at (put_at g (index_of c.area b.head) (Some (length c.bots))) (index_of c.area b.tail) (Some (length c.bots)))
grid_with c b g may grid =
    let n = length c.bots in
    let h = index_of c.area b.head in
    let t = index_of c.area b.tail in
    let mid = put_at g h (Some n) in
    let size : length (put_at mid t (Some n)) ≡ length g = length_put_at mid t (Some n) ∙ length_put_at g h (Some n) in
    record {
      size = size ∙ grid.size;
      right = λ v k at.
          let lt : k < length g = let s = grid.size in let w = index_below c.area v k at in omega arith in
          elim (cases_node b.tail v) [
            | inl e ↦ fix_at (Some n) k (length g) t (occupant (with_bot c b) v) mid (ap (index_of c.area) e ∙ at) lt (pick_own c b v may (own_tail b v e)) size
            | inr ne ↦ keep_at c b.tail v (Some n) k t mid refl at ne ∙ elim (cases_node b.head v) [
              | inl e ↦ fix_at (Some n) k (length g) h (occupant (with_bot c b) v) g (ap (index_of c.area) e ∙ at) lt (pick_own c b v may (own_head b v e)) (length_put_at g h (Some n))
              | inr apart ↦ keep_at c b.head v (Some n) k h g refl at apart ∙ grid.right v k at ∙ sym (occupant_with c b v ∙ ap (λ s. pick (occupant c v) s n) (not_own b v apart ne) ∙ pick_other (occupant c v) n)
            ]
          ];
    }

-- a world stays one
pub world_with : (c : Config) (b : Bot) (g : List (Option ℕ)) → length c.bots < 4096 → MayCome c b → IsWorld c g → IsWorld (with_bot c b) (put_at (put_at g (index_of c.area b.head) (Some (length c.bots))) (index_of c.area b.tail) (Some (length c.bots)))
world_with c b g few may world = record {
  valid = valid_with c b world.valid may;
  kept = grid_with c b g may world.kept;
  few = let long = length_push c.bots (Some b) in omega arith;
}

pub these_push : (c : Config) (bs : List Bot) (b : Bot) → with_these c (bs ++ b ∷ []) ≡ with_bot (with_these c bs) b
these_push c bs b = ap (λ (os : List (Option Bot)). let d : Config = record c { bots = os } in d) (map_push Some bs b)

-- the fields with one amoebot more
pub world_made : (c : Config) (bs cs : List Bot) (g h : List (Option ℕ)) (b : Bot) (n : ℕ) → n ≡ length bs → n < 4096 → MayCome (with_these c bs) b → IsWorld (with_these c bs) g → cs ≡ bs ++ b ∷ [] → h ≡ put_at (put_at g (index_of c.area b.head) (Some n)) (index_of c.area b.tail) (Some n) → IsWorld (with_these c cs) h
world_made c bs cs g h b n size few may world longer grid =
    let long : n ≡ length (map Some bs) = size ∙ sym (length-map bs Some) in
    let P : List (Option ℕ) → Type 0 = λ k. IsWorld (with_bot (with_these c bs) b) k in
    let Q : Config → Type 0 = λ d. IsWorld d h in
    let same : with_bot (with_these c bs) b ≡ with_these c cs = sym (these_push c bs b) ∙ ap (with_these c) (sym longer) in
    let to : put_at (put_at g (index_of c.area b.head) (Some (length (map Some bs)))) (index_of c.area b.tail) (Some (length (map Some bs))) ≡ h = ap (λ k. put_at (put_at g (index_of c.area b.head) (Some k)) (index_of c.area b.tail) (Some k)) (sym long) ∙ sym grid in
    subst Q same (subst P to (world_with (with_these c bs) b g (subst (λ k. k < 4096) long few) may world))

-- an amoebot without a fault behind amoebots without one
pub faultless_more : (c : Config) (bots : List Bot) (i : ℕ) (b : Bot) (w : Config) → slice_get bots i ≡ Some b → w ≡ with_these c (take i bots) → IsFaultless c bots i → bot_fault w b ≡ None → IsFaultless c bots (i + 1)
faultless_more c bots i b w at is before none j d lt e = elim (cases_eq j i) [
  | inl same ↦
      let one : d ≡ b = same_Some d b (sym e ∙ ap (slice_get bots) same ∙ at) in
      ap (λ k. bot_fault (with_these c (take k bots)) d) same ∙ ap (bot_fault (with_these c (take i bots))) one ∙ ap (λ f. bot_fault f b) (sym is) ∙ none
  | inr ne ↦ before j d (omega arith) e
]

-- the world with one amoebot more has one amoebot more of the list
pub world_more : (c : Config) (bots : List Bot) (i : ℕ) (d : Bot) (w e : Config) → i < length bots → w ≡ with_these c (take i bots) → e ≡ with_bot w (get_or bots i d) → e ≡ with_these c (take (i + 1) bots)
world_more c bots i d w e lt is more = more ∙ ap (λ f. with_bot f (get_or bots i d)) is ∙ sym (ap (with_these c) (take_more bots i d lt) ∙ these_push c (take i bots) (get_or bots i d))

-- and one with a fault behind amoebots without one is the first
pub first_fault_at : (c : Config) (bots : List Bot) (i : ℕ) (d : Bot) (w : Config) (e : WorldRefusal) → i < length bots → w ≡ with_these c (take i bots) → IsFaultless c bots i → bot_fault w (get_or bots i d) ≡ Some e → IsFirstFault c bots e
first_fault_at c bots i d w e lt is before fault = record {
  place = i;
  bot = get_or bots i d;
  there = slice_get-get_or bots i d lt;
  fault = ap (λ f. bot_fault f (get_or bots i d)) (sym is) ∙ fault;
  before = before;
}
