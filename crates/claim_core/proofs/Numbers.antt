-- The numbers of cells, and the values by them.
use Rattle.std.proofs.Common.{◌≡◌, ℕ, ◌+◌, ◌-◌, ◌*◌, ◌<◌, List, [], ◌∷◌, ◌++◌, map, length, true, Option, Some, None, inl, inr, ap, sym, refl, subst, ◌∙◌, arith, length-append}
use Rattle.std.specs.Prelude.{slice_get, unwrap_or, if◌then◌else◌}
use Rattle.std.specs.List.{All, range_with_len}
use Rattle.std.specs.Option.{option_map}
use Rattle.std.proofs.lemmas.Bool.{cases_Bool, cases_lt, both_ways, eqb-true, eq-eqb}
use Rattle.std.proofs.lemmas.List.{length-map}
use Rattle.std.proofs.lemmas.List.Elements.{All-nil, All-cons, All-head, All-tail}
use Rattle.std.proofs.lemmas.List.FromFn.{get_or-map-range_with_len, length-map-range_with_len}
use Rattle.std.proofs.lemmas.Option.{same_Some, none-some, slice_get_within, slice_get-get_or, slice_get-map}
use Rattle.tri_lattice.specs.Extent.{Extent, index_of, node_at}
use Rattle.tri_lattice.proofs.Boxes.{index_below, index_once, index_of_node_at, node_at_index_of}
use Rattle.tri_lattice.proofs.Nodes.{node_eq-true, node_eq_same}
use Rattle.amoebot_state.specs.declared.bot.Bot.{Bot}
use Rattle.amoebot_state.specs.declared.cell.CellName.{CellName}
use Rattle.amoebot_state.specs.declared.cell.CellName.TheVariants as name
use Rattle.amoebot_state.specs.declared.cell.Cell.{Cell}
use Rattle.amoebot_state.specs.declared.cell.Cell.TheVariants as cell
use Rattle.amoebot_state.specs.Pairs.{Pairs, cell_of, cell_value}
use Rattle.amoebot_state.specs.Configs.{Config, bot_at, bot_of, blank, occupant, value}
use Rattle.amoebot_state.specs.Patches.{IsPatched, all_cells}
use Rattle.amoebot_state.specs.Storage.{put_at}
use Rattle.amoebot_state.proofs.Patched.{length_put_at}
use Rattle.claim_core.specs.Cells.{number, at, held_by, values_of, name_eq, given, patched}
use Rattle.claim_core.proofs.Places.{at-put_here, at-put_else, get-append_left, get-append_right, same_by_get}

-- the test of names is equality
pub name_eq-true : (n m : CellName) → name_eq n m ≡ true → n ≡ m
name_eq-true (name.Spot u) (name.Spot v) e = ap name.Spot (node_eq-true u v e)
name_eq-true (name.Spot u) (name.Body j) e = absurd (cc)
name_eq-true (name.Body i) (name.Spot v) e = absurd (cc)
name_eq-true (name.Body i) (name.Body j) e = ap name.Body (eqb-true i j e)

pub name_eq_same : (n : CellName) → name_eq n n ≡ true
name_eq_same (name.Spot v) = node_eq_same v
name_eq_same (name.Body i) = eq-eqb i i refl

-- a number is that of one cell
pub number_once : (a : Extent) (n m : CellName) (k : ℕ) → number a n ≡ Some k → number a m ≡ Some k → n ≡ m
number_once a (name.Spot u) (name.Spot v) k e f = ap name.Spot (index_once a u v k e f)
number_once a (name.Spot u) (name.Body j) k e f = absurd (let below = index_below a u k e in let same = same_Some (a.w * a.h + j) k f in omega arith)
number_once a (name.Body i) (name.Spot v) k e f = absurd (let below = index_below a v k f in let same = same_Some (a.w * a.h + i) k e in omega arith)
number_once a (name.Body i) (name.Body j) k e f =
    let one = same_Some (a.w * a.h + i) k e in
    let two = same_Some (a.w * a.h + j) k f in
    let both : i ≡ j = omega arith in
    ap name.Body both

-- so cells of which one has an element in a list have one number only where they are one
pub same_number : {A : Type 0} (a : Extent) (xs : List A) (n m : CellName) (x : A) → at xs (number a n) ≡ Some x → number a m ≡ number a n → m ≡ n
same_number a xs n m x e same = split (number a n) refl
  where
    split : (o : Option ℕ) → number a n ≡ o → m ≡ n
    split None none = absurd (none-some x (sym (ap (at xs) none) ∙ e))
    split (Some k) some = number_once a m n k (same ∙ some) some

pub get-range : {A : Type 0} (f : ℕ → A) (n k : ℕ) → k < n → slice_get (map f (range_with_len 0 n)) k ≡ Some (f k)
get-range f n k lt =
    slice_get-get_or (map f (range_with_len 0 n)) k (f 0) (rw length-map-range_with_len lt) ∙ ap Some (get_or-map-range_with_len f 0 n k k (f 0) lt (omega arith))

module _ (c : Config) where
  abbrev size : ℕ
  size = c.area.w * c.area.h

  abbrev spots : List CellName
  spots = map (λ k. name.Spot (node_at c.area k)) (range_with_len 0 size)

  pub length-all_cells : length (all_cells c) ≡ size + length c.bots
  length-all_cells = length-append spots (map name.Body (range_with_len 0 (length c.bots))) ∙ simp length-map-range_with_len

  pub spot_at : (k : ℕ) → k < size → slice_get (all_cells c) k ≡ Some (name.Spot (node_at c.area k))
  spot_at k lt = get-append_left spots _ k _ (get-range (λ j. name.Spot (node_at c.area j)) size k lt)

  pub body_at : (k i : ℕ) → k ≡ size + i → i < length c.bots → slice_get (all_cells c) k ≡ Some (name.Body i)
  body_at k i e lt = get-append_right spots _ i k (omega (arith, length-map-range_with_len (λ j. name.Spot (node_at c.area j)) 0 size)) ∙ get-range name.Body (length c.bots) i lt

  -- the cell with a number has it
  pub numbered : (k : ℕ) (n : CellName) → slice_get (all_cells c) k ≡ Some n → number c.area n ≡ Some k
  numbered k n e = elim (cases_lt k size) [
    | inl lt ↦ ap (number c.area) (same_Some n _ (sym e ∙ spot_at k lt)) ∙ index_of_node_at c.area k lt
    | inr le ↦
        let inside = slice_get_within (all_cells c) k n e in
        let few : k - size < length c.bots = omega (arith, length-all_cells) in
        let is : k ≡ size + (k - size) = omega arith in
        ap (number c.area) (same_Some n _ (sym e ∙ body_at k (k - size) is few)) ∙ ap Some (sym is)
  ]

  -- and the cell with the number of a cell is that one
  pub cell_at : (n m : CellName) → at (all_cells c) (number c.area n) ≡ Some m → m ≡ n
  cell_at (name.Spot v) m e = split (index_of c.area v) refl
    where
      split : (o : Option ℕ) → index_of c.area v ≡ o → m ≡ name.Spot v
      split None none = absurd (none-some m (sym (ap (at (all_cells c)) none) ∙ e))
      split (Some k) some =
          let there = node_at_index_of c.area v k some in
          same_Some m _ (sym (sym (ap (at (all_cells c)) some) ∙ e) ∙ spot_at k there.0) ∙ ap name.Spot there.1
  cell_at (name.Body i) m e =
      let inside = slice_get_within (all_cells c) (size + i) m e in
      same_Some m _ (sym e ∙ body_at (size + i) i refl (omega (arith, length-all_cells)))

  -- the value with the number of a cell is what it holds
  pub value_at : (n : CellName) (x : Cell) → at (values_of c) (number c.area n) ≡ Some x → x ≡ held_by c n
  value_at n x e = split (number c.area n) refl
    where
      split : (o : Option ℕ) → number c.area n ≡ o → x ≡ held_by c n
      split None none = absurd (none-some x (sym (ap (at (values_of c)) none) ∙ e))
      split (Some k) some = by (slice_get (all_cells c) k) refl
        where
          got : option_map (held_by c) (slice_get (all_cells c) k) ≡ Some x
          got = sym (slice_get-map (held_by c) (all_cells c) k) ∙ (sym (ap (at (values_of c)) some) ∙ e)

          by : (o : Option CellName) → slice_get (all_cells c) k ≡ o → x ≡ held_by c n
          by None none = absurd (none-some x (sym (ap (option_map (held_by c)) none) ∙ got))
          by (Some m) is =
              same_Some x (held_by c m) (sym (sym (ap (option_map (held_by c)) is) ∙ got)) ∙ ap (held_by c) (cell_at n m (ap (at (all_cells c)) some ∙ is))

  -- the value of a body
  pub value_of_body : (i : ℕ) → i < length c.bots → at (values_of c) (number c.area (name.Body i)) ≡ Some (cell.Body (bot_of c i))
  value_of_body i lt = slice_get-map (held_by c) (all_cells c) (size + i) ∙ ap (option_map (held_by c)) (body_at (size + i) i refl lt)

-- a cell that has a value holds it
pub value_held : (c : Config) (n : CellName) (x : Cell) → value c n ≡ Some x → held_by c n ≡ x
value_held c (name.Spot v) x e = same_Some (cell.Spot (occupant c v)) x e
value_held c (name.Body i) x e = split (bot_at c i) refl
  where
    split : (o : Option Bot) → bot_at c i ≡ o → held_by c (name.Body i) ≡ x
    split None none = absurd (none-some x (sym (ap (option_map cell.Body) none) ∙ e))
    split (Some b) some = ap (λ (o : Option Bot). cell.Body (unwrap_or o blank)) some ∙ same_Some (cell.Body b) x (sym (ap (option_map cell.Body) some) ∙ e)

-- cells with one value hold the same
held_same : (c d : Config) (n : CellName) → value c n ≡ value d n → held_by c n ≡ held_by d n
held_same c d (name.Spot v) e = same_Some (cell.Spot (occupant c v)) (cell.Spot (occupant d v)) e
held_same c d (name.Body i) e = split (bot_at c i) (bot_at d i) e
  where
    split : (o p : Option Bot) → option_map cell.Body o ≡ option_map cell.Body p → cell.Body (unwrap_or o blank) ≡ cell.Body (unwrap_or p blank)
    split None None f = refl
    split None (Some b) f = absurd (cc)
    split (Some b) None f = absurd (cc)
    split (Some b) (Some o) f = cc

-- the value that a patch gives is one of its pairs', and where it gives none no pair names the cell
given_is : (ps : Pairs) (n : CellName) (x : Cell) (P : CellName → Cell → Type 0) → All (λ (p : CellName × Cell). P (cell_of p) (cell_value p)) ps → given ps n ≡ Some x → P n x
given_is [] n x P all e = absurd (none-some x e)
given_is (p ∷ ps) n x P all e = elim (cases_Bool (name_eq p.0 n)) [
  | inl t ↦
      let here : Some p.1 ≡ Some x = sym (ap (λ b. if b then Some p.1 else given ps n) t) ∙ e in
      subst (λ (q : CellName × Cell). P q.0 q.1) (λ i. (name_eq-true p.0 n t i, same_Some p.1 x here i)) (All-head (λ (q : CellName × Cell). P q.0 q.1) p ps all)
  | inr f ↦ given_is ps n x P (All-tail (λ (q : CellName × Cell). P q.0 q.1) p ps all) (sym (ap (λ b. if b then Some p.1 else given ps n) f) ∙ e)
]

given_none : (ps : Pairs) (n : CellName) → given ps n ≡ None → All (λ (p : CellName × Cell). cell_of p ≡ n → ⊥) ps
given_none [] n e = All-nil (λ (p : CellName × Cell). cell_of p ≡ n → ⊥)
given_none (p ∷ ps) n e = elim (cases_Bool (name_eq p.0 n)) [
  | inl t ↦ absurd (none-some p.1 (sym (sym (ap (λ b. if b then Some p.1 else given ps n) t) ∙ e)))
  | inr f ↦ All-cons (λ (q : CellName × Cell). cell_of q ≡ n → ⊥) p ps (λ same. both_ways _ f (ap (λ m. name_eq m n) same ∙ name_eq_same n)) (given_none ps n (sym (ap (λ b. if b then Some p.1 else given ps n) f) ∙ e))
]

-- what a cell holds after a patch
pub value_patched : (old new : Config) (ps : Pairs) → IsPatched old ps new → (n : CellName) (x : Cell) → value old n ≡ Some x → value new n ≡ Some (unwrap_or (given ps n) x)
value_patched old new ps is n x e = split (given ps n) refl
  where
    split : (o : Option Cell) → given ps n ≡ o → value new n ≡ Some (unwrap_or (given ps n) x)
    split None none = is.kept n (given_none ps n none) ∙ e ∙ ap (λ (o : Option Cell). Some (unwrap_or o x)) (sym none)
    split (Some y) some = given_is ps n y (λ m z. value new m ≡ Some z) is.given some ∙ ap (λ (o : Option Cell). Some (unwrap_or o x)) (sym some)

held_patched : (old new : Config) (ps : Pairs) → IsPatched old ps new → (n : CellName) → held_by new n ≡ unwrap_or (given ps n) (held_by old n)
held_patched old new ps is n = split (given ps n) refl
  where
    split : (o : Option Cell) → given ps n ≡ o → held_by new n ≡ unwrap_or (given ps n) (held_by old n)
    split None none = held_same new old n (is.kept n (given_none ps n none)) ∙ ap (λ (o : Option Cell). unwrap_or o (held_by old n)) (sym none)
    split (Some y) some = value_held new n y (given_is ps n y (λ m z. value new m ≡ Some z) is.given some) ∙ ap (λ (o : Option Cell). unwrap_or o (held_by old n)) (sym some)

-- the values after a patch
pub length-patched : (a : Extent) (ps : Pairs) (xs : List Cell) → length (patched a ps xs) ≡ length xs
length-patched a [] xs = refl
length-patched a (p ∷ ps) xs = length_put_at (patched a ps xs) (number a p.0) p.1 ∙ length-patched a ps xs

pub at-patched : (a : Extent) (ps : Pairs) (xs : List Cell) (n : CellName) (x : Cell) → at xs (number a n) ≡ Some x → at (patched a ps xs) (number a n) ≡ Some (unwrap_or (given ps n) x)
at-patched a [] xs n x e = e
at-patched a (p ∷ ps) xs n x e =
    let rest = at-patched a ps xs n x e in
    elim (cases_Bool (name_eq p.0 n)) [
      | inl t ↦
          let same = ap (number a) (name_eq-true p.0 n t) in
          ap (λ o. at (put_at (patched a ps xs) o p.1) (number a n)) same ∙ at-put_here (patched a ps xs) (number a n) p.1 _ rest ∙ ap (λ b. Some (unwrap_or (if b then Some p.1 else given ps n) x)) (sym t)
      | inr f ↦
          at-put_else (patched a ps xs) (number a p.0) (number a n) p.1 (λ same. both_ways _ f (ap (λ m. name_eq m n) (same_number a xs n p.0 x e (sym same)) ∙ name_eq_same n))
          ∙ rest ∙ ap (λ b. Some (unwrap_or (if b then Some p.1 else given ps n) x)) (sym f)
    ]

-- the cells of a patched configuration are the old ones
pub same_cells : (old new : Config) → new ≡ record old { bots = new.bots } → length new.bots ≡ length old.bots → all_cells new ≡ all_cells old
same_cells old new rest size =
    let area : new.area ≡ old.area = ap (λ (c : Config). c.area) rest in
    λ i. map (λ k. name.Spot (node_at (area i) k)) (range_with_len 0 ((area i).w * (area i).h)) ++ map name.Body (range_with_len 0 (size i))

-- the patch in the values leads to those of the patched configuration
pub values-patched : (old new : Config) (ps : Pairs) → IsPatched old ps new → patched old.area ps (values_of old) ≡ values_of new
values-patched old new ps is =
    let cells = same_cells old new is.same.rest is.same.size in
    same_by_get (patched old.area ps (values_of old)) (values_of new)
    (length-patched old.area ps (values_of old) ∙ length-map (all_cells old) (held_by old) ∙ ap length (sym cells) ∙ sym (length-map (all_cells new) (held_by new)))
    (λ k y e. by k y (slice_get (all_cells old) k) refl (sym (slice_get-map (held_by new) (all_cells old) k) ∙ ap (λ ns. slice_get (map (held_by new) ns) k) (sym cells) ∙ e))
  where
    by : (k : ℕ) (y : Cell) (o : Option CellName) → slice_get (all_cells old) k ≡ o → option_map (held_by new) (slice_get (all_cells old) k) ≡ Some y → slice_get (patched old.area ps (values_of old)) k ≡ Some y
    by k y None none e = absurd (none-some y (sym (ap (option_map (held_by new)) none) ∙ e))
    by k y (Some n) some e =
        let at_k = numbered old k n some in
        let was : at (values_of old) (number old.area n) ≡ Some (held_by old n) = ap (at (values_of old)) at_k ∙ slice_get-map (held_by old) (all_cells old) k ∙ ap (option_map (held_by old)) some in
        sym (ap (at (patched old.area ps (values_of old))) at_k) ∙ at-patched old.area ps (values_of old) n (held_by old n) was
        ∙ ap Some (sym (held_patched old new ps is n)) ∙ (sym (ap (option_map (held_by new)) some) ∙ e)
