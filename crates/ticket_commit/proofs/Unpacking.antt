-- The entries of heads: one more behind them, and the first one.
use Rattle.std.proofs.Common.{◌≡◌, ℕ, ◌+◌, ◌-◌, ◌<◌, ◌≤◌, List, [], ◌∷◌, ◌++◌, length, take, drop, get_or, nat_eq, Bool, true, false, ◌&&◌, Some, ap, sym, refl, ◌∙◌, arith, eq-eqb}
use Rattle.std.specs.Prelude.{slice_get, slice_range, IsTrue}
use Rattle.std.specs.List.{All, list_all}
use Rattle.std.proofs.lemmas.Bool.{eqb-true, false≢true}
use Rattle.std.proofs.lemmas.List.{map-append, length-map, length-drop, drop_at, drop_all, drop_more, drop-append-le, take_all, take-append-le, take-append-drop, get_or-map}
use Rattle.std.proofs.lemmas.List.Elements.{All-head, All-tail}
use Rattle.std.proofs.lemmas.List.Folds.{list_all-append}
use Rattle.std.proofs.lemmas.Option.{same_Some, none-some}
use Rattle.amoebot_state.specs.declared.verdict.Entry.{Entry}
use Rattle.amoebot_state.specs.Pairs.{CellChange, Triples, is_alike, triples_alike}
use Rattle.ticket_commit.specs.declared.own.Head.{Head}
use Rattle.ticket_commit.specs.OwnLists.{BeginsAt}
use Rattle.ticket_commit.specs.Packed.{entry_of_head, unpacked, HasCells}

-- the entry of a head with these cells
abbrev pub with_cells : Head → Triples → ℕ × Entry
with_cells h cells = (h.place, record { caller = h.caller; turn = h.turn; bot = h.bot; action = h.action; moved = h.moved; patch = cells })

-- cells further behind change no entry
range_stays : (ts cs : Triples) (a b : ℕ) → a ≤ b → b ≤ length ts → slice_range (ts ++ cs) a b ≡ slice_range ts a b
range_stays ts cs a b ordered within =
    ap (take (b - a)) (drop-append-le a ts cs (omega (arith, ordered, within)))
    ∙ take-append-le (b - a) (drop a ts) cs (let n = length-drop a ts in omega (arith, ordered, within, n))

unpacked_stays : (hs : List Head) (ts cs : Triples) → All (HasCells (length ts)) hs → unpacked hs (ts ++ cs) ≡ unpacked hs ts
unpacked_stays [] ts cs all = refl
unpacked_stays (h ∷ hs) ts cs all =
    let here = All-head (HasCells (length ts)) h hs all in
    let same = range_stays ts cs h.start h.end here.ordered here.within in
    let rest = unpacked_stays hs ts cs (All-tail (HasCells (length ts)) h hs all) in
    λ i. with_cells h (same i) ∷ rest i

module _ (hs : List Head) (ts cs : Triples) (all : All (HasCells (length ts)) hs) (h : Head) (start : h.start ≡ length ts) (end : h.end ≡ length ts + length cs) where
  last_range : slice_range (ts ++ cs) h.start h.end ≡ cs
  last_range = ap (take (h.end - h.start)) (drop_at ts cs h.start (sym start)) ∙ take_all (h.end - h.start) cs (omega (arith, start, end))

  -- one entry more, with the cells that were added last
  pub one_more : (taken : ℕ) → taken ≤ length hs → drop taken (unpacked (hs ++ h ∷ []) (ts ++ cs)) ≡ drop taken (unpacked hs ts) ++ with_cells h cs ∷ []
  one_more taken few =
      let stays = unpacked_stays hs ts cs all in
      ap (drop taken) (map-append (λ (x : Head). (x.place, entry_of_head (ts ++ cs) x)) hs (h ∷ []) ∙ (λ i. stays i ++ with_cells h (last_range i) ∷ []))
      ∙ drop-append-le taken (unpacked hs ts) (with_cells h cs ∷ []) (let n = length-map {B = ℕ × Entry} hs (λ (x : Head). (x.place, entry_of_head ts x)) in omega (arith, few, n))

both : (a b : Bool) → (a && b) ≡ true → (a ≡ true) × (b ≡ true)
both true b e = (refl, e)
both false b e = absurd (false≢true e)

abbrev alike : CellChange → Bool
alike t = is_alike t.0 t.1 && is_alike t.0 t.2

parts_alike : (n : ℕ) (ts : Triples) → triples_alike ts → triples_alike (take n ts) × triples_alike (drop n ts)
parts_alike n ts is = both (list_all alike (take n ts)) (list_all alike (drop n ts)) (sym (list_all-append alike (take n ts) (drop n ts)) ∙ ap (list_all alike) (take-append-drop n ts) ∙ is)

pub alike_range : (ts : Triples) (a b : ℕ) → triples_alike ts → triples_alike (slice_range ts a b)
alike_range ts a b is = (parts_alike (b - a) (drop a ts) (parts_alike a ts is).1).0

module _ (hs : List Head) (ts : Triples) (k : ℕ) where
  abbrev entry_at : Head → ℕ × Entry
  entry_at h = (h.place, entry_of_head ts h)

  -- from a head on its entry is the first one,
  first_of : (h : Head) → k < length hs → h ≡ get_or hs k h → drop k (unpacked hs ts) ≡ entry_at h ∷ drop (k + 1) (unpacked hs ts)
  first_of h inside is =
      drop_more (unpacked hs ts) k (entry_at h) (let n = length-map hs entry_at in omega (arith, n, inside))
      ∙ ap (λ p. p ∷ drop (k + 1) (unpacked hs ts)) (get_or-map entry_at hs k h (entry_at h) inside ∙ ap entry_at (sym is))

  pub first_entry : (h : Head) → k < length hs → h ≡ get_or hs k h → slice_get (drop k (unpacked hs ts)) 0 ≡ Some (entry_at h)
  first_entry h inside is = ap (λ ps. slice_get ps 0) (first_of h inside is)

  -- and begins with its place and no other
  pub first_place : (h : Head) (place : ℕ) → k < length hs → h ≡ get_or hs k h → (IsTrue (nat_eq h.place place) → BeginsAt place (drop k (unpacked hs ts))) × (BeginsAt place (drop k (unpacked hs ts)) → IsTrue (nat_eq h.place place))
  first_place h place inside is = (
    λ same. (entry_of_head ts h, first_entry h inside is ∙ ap (λ n. Some (n, entry_of_head ts h)) (eqb-true h.place place same)),
    λ begins. eq-eqb h.place place (ap (λ (p : ℕ × Entry). p.0) (same_Some (entry_at h) (place, begins.0) (sym (first_entry h inside is) ∙ begins.1))),
  )

  -- behind all heads there is none
  pub no_place : (place : ℕ) → length hs ≤ k → BeginsAt place (drop k (unpacked hs ts)) → ⊥
  no_place place past begins =
      let none = drop_all k (unpacked hs ts) (let n = length-map hs entry_at in omega (arith, n, past)) in
      none-some (place, begins.0) (sym (ap (λ ps. slice_get ps 0) none) ∙ begins.1)

  -- a first entry is that of a head
  pub is_head : 0 < length (drop k (unpacked hs ts)) → k < length hs
  is_head some = let n = length-drop k (unpacked hs ts) in let m = length-map hs entry_at in omega (arith, some, n, m)
