-- What a world tells of its amoebots and of nodes, from what it stores.
use Rattle.std.proofs.Common.{◌≡◌, ◌<◌, ◌∙◌, ◌++◌, ◌+◌, ◌*◌, ◌≤◌, ℕ, List, [], ◌∷◌, map, length, take, get_or, replicate, subst, Bool, true, false, not, ◌&&◌, ◌||◌, Option, Some, None, ap, sym, arith, length-take}
use Rattle.std.specs.Prelude.{if◌then◌else◌, is_some, slice_get}
use Rattle.std.specs.List.{fold, position}
use Rattle.std.proofs.lemmas.List.{get_or_default, length-map, map-append, take_all, take_more}
use Rattle.std.proofs.lemmas.List.Sums.{fold-append}
use Rattle.tri_lattice.specs.declared.node.Node.{Node}
use Rattle.std.proofs.lemmas.Option.{get_or_from_slice_get}
use Rattle.tri_lattice.specs.Extent.{Extent, index_of, is_in}
use Rattle.tri_lattice.proofs.Boxes.{index_below}
use Rattle.amoebot_state.specs.declared.bot.Bot.{Bot}
use Rattle.amoebot_state.specs.declared.cell.CellName.{CellName}
use Rattle.amoebot_state.specs.declared.cell.Cell.{Cell}
use Rattle.amoebot_state.specs.declared.refusal.WorldRefusal.{WorldRefusal}
use Rattle.amoebot_state.specs.declared.refusal.WorldRefusal.TheVariants.{OutOfBox, NotAdjacent, OnWall, Overlap, BadValue}
use Rattle.amoebot_state.specs.declared.cell.Cell.TheVariants as cell
use Rattle.amoebot_state.specs.Configs.{Config, IsGrid, IsValid, IsWorld, covers, has_values, is_close, is_wall, occupant, with_these}
use Rattle.amoebot_state.specs.Limits.{most_bots}
use Rattle.amoebot_state.specs.Storage.{IsMarked}
use Rattle.amoebot_state.proofs.Members.{more_mapped, one_everywhere}
use Rattle.amoebot_state.specs.Pairs.{CellChange, Pairs, Triples, plain_patch, plain_triple}
use Rattle.amoebot_state.specs.Refusals.{bot_fault}

-- the amoebots that are stored are as many as there are
pub counted : (frame c : Config) (bots : List Bot) (n : ℕ) → n ≡ length bots → with_these frame bots ≡ c → n ≡ length c.bots
counted frame c bots n e is = e ∙ sym (length-map bots Some) ∙ ap (λ (d : Config). length d.bots) is

-- the occupant that is stored for the number of a node is the node's
pub stored_occupant : (w c : Config) (grid : List (Option ℕ)) (v : Node) (k : ℕ) (x : Option ℕ) → IsGrid w grid → w ≡ c → index_of w.area v ≡ Some k → x ≡ get_or grid k x → x ≡ occupant c v
stored_occupant w c grid v k x kept is at e =
    let below = index_below w.area v k at in
    e ∙ get_or_default grid k x None (omega (arith, kept.size, below)) ∙ kept.right v k at ∙ ap (λ d. occupant d v) is

-- ---- the first fault of an amoebot, one test after another

abbrev past_other : Config → Bot → Option WorldRefusal
past_other c b = if not (has_values c.maxes b.mem) then Some (BadValue (length c.bots)) else None

abbrev past_wall : Config → Bot → Option WorldRefusal
past_wall c b =
    if is_some (occupant c b.head) || is_some (occupant c b.tail) then Some (Overlap (length c.bots)) else past_other c b

abbrev past_gap : Config → Bot → Option WorldRefusal
past_gap c b = if is_wall c b.head || is_wall c b.tail then Some (OnWall (length c.bots)) else past_wall c b

abbrev past_box : Config → Bot → Option WorldRefusal
past_box c b = if not (is_close b.head b.tail) then Some (NotAdjacent (length c.bots)) else past_gap c b

module _ (c : Config) (b : Bot) where
  pub in_box : true ≡ (is_in c.area b.head && is_in c.area b.tail) → past_box c b ≡ bot_fault c b
  in_box t = ap (λ x. if not x then Some (OutOfBox (length c.bots)) else past_box c b) t

  pub no_gap : true ≡ is_close b.head b.tail → past_gap c b ≡ past_box c b
  no_gap t = ap (λ x. if not x then Some (NotAdjacent (length c.bots)) else past_gap c b) t

  pub no_wall : false ≡ (is_wall c b.head || is_wall c b.tail) → past_wall c b ≡ past_gap c b
  no_wall f = ap (λ x. if x then Some (OnWall (length c.bots)) else past_wall c b) f

  pub no_other : false ≡ (is_some (occupant c b.head) || is_some (occupant c b.tail)) → past_other c b ≡ past_wall c b
  no_other f = ap (λ x. if x then Some (Overlap (length c.bots)) else past_other c b) f

  pub no_value : true ≡ has_values c.maxes b.mem → None ≡ past_other c b
  no_value t = ap (λ x. if not x then Some (BadValue (length c.bots)) else None) t

  pub out_of_box : (n : ℕ) → n ≡ length c.bots → false ≡ (is_in c.area b.head && is_in c.area b.tail) → Some (OutOfBox n) ≡ bot_fault c b
  out_of_box n e f = ap (λ k. Some (OutOfBox k)) e ∙ ap (λ x. if not x then Some (OutOfBox (length c.bots)) else past_box c b) f

  pub not_adjacent : (n : ℕ) → n ≡ length c.bots → false ≡ is_close b.head b.tail → Some (NotAdjacent n) ≡ past_box c b
  not_adjacent n e f = ap (λ k. Some (NotAdjacent k)) e ∙ ap (λ x. if not x then Some (NotAdjacent (length c.bots)) else past_gap c b) f

  pub on_wall : (n : ℕ) → n ≡ length c.bots → true ≡ (is_wall c b.head || is_wall c b.tail) → Some (OnWall n) ≡ past_gap c b
  on_wall n e t = ap (λ k. Some (OnWall k)) e ∙ ap (λ x. if x then Some (OnWall (length c.bots)) else past_wall c b) t

  pub overlapping : (n : ℕ) → n ≡ length c.bots → true ≡ (is_some (occupant c b.head) || is_some (occupant c b.tail)) → Some (Overlap n) ≡ past_wall c b
  overlapping n e t = ap (λ k. Some (Overlap k)) e ∙ ap (λ x. if x then Some (Overlap (length c.bots)) else past_other c b) t

  pub bad_value : (n : ℕ) → n ≡ length c.bots → false ≡ has_values c.maxes b.mem → Some (BadValue n) ≡ past_other c b
  bad_value n e f = ap (λ k. Some (BadValue k)) e ∙ ap (λ x. if not x then Some (BadValue (length c.bots)) else None) f

-- ---- lists after one more pair of a patch

pub each_more : {B : Type 0} (f : B → CellName → Cell → B) (b : B) (ts : Triples) (i : ℕ) (d : CellChange) → i < length ts → fold (λ c (p : CellName × Cell). f c p.0 p.1) b (plain_patch (take (i + 1) ts)) ≡ f (fold (λ c (p : CellName × Cell). f c p.0 p.1) b (plain_patch (take i ts))) (get_or ts i d).0 (get_or ts i d).2
each_more {B} f b ts i d lt =
    let step = λ (c : B) (p : CellName × Cell). f c p.0 p.1 in
    ap (λ us. fold step b (plain_patch us)) (take_more ts i d lt)
    ∙ ap (fold step b) (map-append plain_triple (take i ts) (get_or ts i d ∷ []))
    ∙ fold-append step b (plain_patch (take i ts)) (plain_triple (get_or ts i d) ∷ [])

pub plain_more : (ts us : Triples) (ps qs : Pairs) (i : ℕ) (d : CellChange) → us ≡ ts → i < length us → ps ≡ plain_patch (take i ts) → qs ≡ ps ++ plain_triple (get_or us i d) ∷ [] → qs ≡ plain_patch (take (i + 1) ts)
plain_more ts us ps qs i d same lt was grew =
    more_mapped plain_triple ts i d [] ps qs (plain_triple (get_or us i d)) (subst (λ (xs : Triples). i < length xs) same lt) was grew (ap (λ xs. plain_triple (get_or xs i d)) same)

-- ---- what nothing was put into yet

filled_with : {A : Type 0} (grid old : List A) (n m k : ℕ) (x : A) → grid ≡ take n old ++ replicate m x → old ≡ [] → get_or grid k x ≡ x
filled_with grid old n m k x filled none =
    ap (λ g. get_or g k x) (filled ∙ ap (λ xs. take n xs ++ replicate m x) none ∙ ap (λ xs. xs ++ replicate m x) (take_all n [] (omega arith)))
    ∙ one_everywhere m k x

pub unmarked : (a : Extent) (grid old : List Bool) (n m : ℕ) → length grid ≡ a.w * a.h → grid ≡ take n old ++ replicate m false → old ≡ [] → IsMarked a [] grid
unmarked a grid old n m size filled none = record { size = size; right = λ v k at. filled_with grid old n m k false filled none }

pub empty_world : (f frame : Config) (bots : List Bot) (grid old : List (Option ℕ)) (n m : ℕ) → IsValid f → with_these f [] ≡ f → f ≡ frame → bots ≡ [] → length grid ≡ frame.area.w * frame.area.h → grid ≡ take n old ++ replicate m None → old ≡ [] → IsWorld (with_these frame bots) grid
empty_world f frame bots grid old n m valid bare is nobody size filled none =
    let same : f ≡ with_these frame bots = sym bare ∙ ap (λ d. with_these d []) is ∙ ap (with_these frame) (sym nobody) in
    record {
      valid = subst IsValid same valid;
      kept = record {
        size = size;
        right = λ v k at. filled_with grid old n m k None filled none ∙ ap (λ bs. position (λ o. covers o v) (map Some bs)) (sym nobody);
      };
      few = subst (λ (bs : List Bot). length (map Some bs) ≤ most_bots) (sym nobody) (omega arith);
    }

-- one more amoebot has room, where the list has more
pub room_left : (frame w : Config) (bots : List Bot) (i : ℕ) → w ≡ with_these frame (take i bots) → i < length bots → length bots ≤ most_bots → length w.bots < most_bots
room_left frame w bots i is lt few =
    let size : length w.bots ≡ length (take i bots) = ap (λ (d : Config). length d.bots) is ∙ length-map (take i bots) Some in
    omega (arith, size, length-take i bots)

-- ---- what is on a node of which a pair tells

pub pair_there : (cells shown : Pairs) (k : ℕ) (d p : CellName × Cell) → cells ≡ shown → slice_get shown k ≡ Some p → get_or cells k d ≡ p
pair_there cells shown k d p same e = get_or_from_slice_get cells k p d (ap (λ xs. slice_get xs k) same ∙ e)

pub spot_same : (o q : Option ℕ) → cell.Spot o ≡ cell.Spot q → o ≡ q
spot_same o q e = cc

pub no_spot : (b : Bot) (o : Option ℕ) → cell.Body b ≡ cell.Spot o → ⊥
no_spot b o e = cc
