-- What the words and the slots hold at the start, while they are made.
use Rattle.std.proofs.Common.{◌≡◌, ℕ, ◌+◌, ◌*◌, ◌<◌, List, [], ◌∷◌, ◌++◌, map, length, Some, ap, sym, refl, ◌∙◌, arith, append_assoc}
use Rattle.std.specs.Prelude.{slice_get}
use Rattle.std.specs.List.{range_with_len}
use Rattle.std.proofs.lemmas.List.FromFn.{length-range_with_len, map-range_with_len_more}
use Rattle.tri_lattice.specs.Extent.{node_at}
use Rattle.amoebot_state.specs.declared.cell.CellName.TheVariants as name
use Rattle.amoebot_state.specs.declared.cell.Cell.TheVariants as cell
use Rattle.amoebot_state.specs.Configs.{Config, bot_of, occupant}
use Rattle.amoebot_state.specs.declared.cell.Cell.{Cell}
use Rattle.claim_core.specs.Cells.{held_by, values_of, cells}
use Rattle.claim_core.proofs.Ranks.{length-values}
use Rattle.claim_core.proofs.Numbers.{spot_at, body_at}
use Rattle.claim_core.proofs.Places.{get-map}
use Rattle.claim_rule.specs.declared.views.Slot.{Slot}
use Rattle.claim_rule.specs.declared.views.Slot.TheVariants as slot
use Rattle.claim_rule.specs.Words.{node_word}
use Rattle.claim_rule.specs.Manners.{by_journal, by_ticket}
use Rattle.claim_rule.specs.Opened.{first_word}

-- the words of so many nodes, and so many words of 0
abbrev pub node_words : Config → ℕ → List ℕ
node_words w n = map (λ k. node_word 0 (occupant w (node_at w.area k)) 0) (range_with_len 0 n)

abbrev pub zeros : ℕ → List ℕ
zeros n = map (λ _. 0) (range_with_len 0 n)

-- the slots of so many amoebots
abbrev pub bodies_so_far : Config → ℕ → List Slot
bodies_so_far w n = map (λ i. slot.Cell (cell.Body (bot_of w i))) (range_with_len 0 n)

pub one_more_node : (w : Config) (n : ℕ) → node_words w (n + 1) ≡ node_words w n ++ node_word 0 (occupant w (node_at w.area n)) 0 ∷ []
one_more_node w n = map-range_with_len_more (λ k. node_word 0 (occupant w (node_at w.area k)) 0) 0 n n (omega arith)

pub one_more_zero : (xs : List ℕ) (n : ℕ) → xs ++ zeros (n + 1) ≡ (xs ++ zeros n) ++ 0 ∷ []
one_more_zero xs n = ap (λ ys. xs ++ ys) (map-range_with_len_more (λ _. 0) 0 n n (omega arith)) ∙ sym (append_assoc xs (zeros n) (0 ∷ []))

pub one_more_body : (w : Config) (n : ℕ) → bodies_so_far w (n + 1) ≡ bodies_so_far w n ++ slot.Cell (cell.Body (bot_of w n)) ∷ []
one_more_body w n = map-range_with_len_more (λ i. slot.Cell (cell.Body (bot_of w i))) 0 n n (omega arith)

word_parts : (w : Config) (ks is : List ℕ) → map (first_word by_journal) (map (held_by w) (map (λ k. name.Spot (node_at w.area k)) ks ++ map name.Body is)) ≡ map (λ k. node_word 0 (occupant w (node_at w.area k)) 0) ks ++ map (λ _. 0) is
word_parts w [] [] = refl
word_parts w [] (i ∷ is) = ap (λ (ys : List ℕ). 0 ∷ ys) (word_parts w [] is)
word_parts w (k ∷ ks) is = ap (λ (ys : List ℕ). node_word 0 (occupant w (node_at w.area k)) 0 ∷ ys) (word_parts w ks is)

-- all of them are those of what the cells hold
pub all_words : (w : Config) → map (first_word by_journal) (values_of w) ≡ node_words w (w.area.w * w.area.h) ++ zeros (length w.bots)
all_words w = word_parts w (range_with_len 0 (w.area.w * w.area.h)) (range_with_len 0 (length w.bots))

-- by tickets each word is 0, and the slots are those of all cells
zero_words : (xs : List Cell) (ys : List ℕ) → length xs ≡ length ys → map (first_word by_ticket) xs ≡ map (λ _. 0) ys
zero_words [] [] e = refl
zero_words [] (y ∷ ys) e = absurd (omega (arith, e))
zero_words (x ∷ xs) [] e = absurd (omega (arith, e))
zero_words (x ∷ xs) (y ∷ ys) e = ap (λ (ns : List ℕ). 0 ∷ ns) (zero_words xs ys (omega (arith, e)))

pub all_zeros : (w : Config) → map (first_word by_ticket) (values_of w) ≡ zeros (cells w)
all_zeros w = zero_words (values_of w) (range_with_len 0 (cells w)) (length-values w ∙ sym (length-range_with_len 0 (cells w)))

abbrev pub node_slots : Config → ℕ → List Slot
node_slots w n = map (λ k. slot.Cell (cell.Spot (occupant w (node_at w.area k)))) (range_with_len 0 n)

pub one_more_slot : (w : Config) (n : ℕ) → node_slots w (n + 1) ≡ node_slots w n ++ slot.Cell (cell.Spot (occupant w (node_at w.area n))) ∷ []
one_more_slot w n = map-range_with_len_more (λ k. slot.Cell (cell.Spot (occupant w (node_at w.area k)))) 0 n n (omega arith)

slot_parts : (w : Config) (ks is : List ℕ) → map (λ x. slot.Cell x) (map (held_by w) (map (λ k. name.Spot (node_at w.area k)) ks ++ map name.Body is)) ≡ map (λ k. slot.Cell (cell.Spot (occupant w (node_at w.area k)))) ks ++ map (λ i. slot.Cell (cell.Body (bot_of w i))) is
slot_parts w [] [] = refl
slot_parts w [] (i ∷ is) = ap (λ (ys : List Slot). slot.Cell (cell.Body (bot_of w i)) ∷ ys) (slot_parts w [] is)
slot_parts w (k ∷ ks) is = ap (λ (ys : List Slot). slot.Cell (cell.Spot (occupant w (node_at w.area k))) ∷ ys) (slot_parts w ks is)

pub all_slots : (w : Config) → map (λ x. slot.Cell x) (values_of w) ≡ node_slots w (w.area.w * w.area.h) ++ bodies_so_far w (length w.bots)
all_slots w = slot_parts w (range_with_len 0 (w.area.w * w.area.h)) (range_with_len 0 (length w.bots))

-- what the cell of a node holds, and that of a body
pub value_of_node : (w : Config) (k : ℕ) → k < w.area.w * w.area.h → slice_get (values_of w) k ≡ Some (cell.Spot (occupant w (node_at w.area k)))
value_of_node w k lt = get-map (held_by w) _ k (name.Spot (node_at w.area k)) (spot_at w k lt)

pub value_of_body : (w : Config) (i : ℕ) → i < length w.bots → slice_get (values_of w) (w.area.w * w.area.h + i) ≡ Some (held_by w (name.Body i))
value_of_body w i lt = get-map (held_by w) _ (w.area.w * w.area.h + i) (name.Body i) (body_at w (w.area.w * w.area.h + i) i refl lt)
