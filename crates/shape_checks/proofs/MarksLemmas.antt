-- One more mark.
use Rattle.std.proofs.Common.{◌≡◌, ◌⊎◌, ◌<◌, ◌≤◌, ℕ, ◌+◌, ◌*◌, List, [], ◌∷◌, ◌++◌, length, set, get_or, Bool, true, false, not, inl, inr, ap, sym, ◌∙◌, refl, subst, arith, Option, Some, None, cond, add-zero}
use Rattle.std.specs.Prelude.{IsTrue, unwrap_or, is_some}
use Rattle.std.specs.Option.{option_map}
use Rattle.std.proofs.lemmas.Bool.{cases_eq, cases_Bool, false≢true, cond-true, cond-false}
use Rattle.std.proofs.lemmas.List.{get_or-set_same, get_or-set_other, length-set, set-get_or, length_push, get_or_append_left, get_or_push}
use Rattle.std.proofs.lemmas.List.Sums.{sum_by-set}
use Rattle.tri_lattice.specs.declared.node.Node.{Node}
use Rattle.tri_lattice.specs.Extent.{Extent, index_of, is_in}
use Rattle.tri_lattice.specs.Lattice.{step}
use Rattle.tri_lattice.specs.Sets.{Joined}
use Rattle.tri_lattice.proofs.Boxes.{index_below, index_once}
use Rattle.amoebot_state.proofs.Options.{there_is}
use Rattle.shape_checks.specs.Marks.{node_mark, unmarked_count, set_at, with_mark, with_met, met, IsSearch}

-- the mark under a number, if there is one
abbrev mark_at : List Bool → Option ℕ → Bool
mark_at marks o = unwrap_or (option_map (λ k. get_or marks k false) o) false

kept : (marks : List Bool) (k : ℕ) → k < length marks → (o : Option ℕ) → IsTrue (mark_at marks o) → IsTrue (mark_at (set marks k true) o)
kept marks k lt None t = t
kept marks k lt (Some j) t = elim (cases_eq j k) [
  | inl e ↦ ap (λ n. get_or (set marks k true) n false) e ∙ get_or-set_same marks k true false lt
  | inr ne ↦ get_or-set_other marks k j true false ne ∙ t
]

old_or_new : (marks : List Bool) (k : ℕ) (o : Option ℕ) → IsTrue (mark_at (set marks k true) o) → IsTrue (mark_at marks o) ⊎ (o ≡ Some k)
old_or_new marks k None t = absurd (false≢true t)
old_or_new marks k (Some j) t = elim (cases_eq j k) [
  | inl e ↦ inr (ap Some e)
  | inr ne ↦ inl (sym (get_or-set_other marks k j true false ne) ∙ t)
]

-- what is known of the node that is marked: its number
record Here (a : Extent) (marks : List Bool) (v : Node) : Type 0 where
  number : ℕ
  at : index_of a v ≡ Some number
  below : number < length marks
  set : with_mark a marks v ≡ set marks number true
  read : node_mark a marks v ≡ get_or marks number false

here : (a : Extent) (marks : List Bool) (v : Node) → length marks ≡ a.w * a.h → IsTrue (is_in a v) → Here a marks v
here a marks v size inside =
    let (k, at) = there_is (index_of a v) inside in
    let below = index_below a v k at in
    record { number = k; at = at; below = omega arith; set = ap (set_at marks) at; read = ap (mark_at marks) at }

pub mark_kept : (a : Extent) (marks : List Bool) (v u : Node) → length marks ≡ a.w * a.h → IsTrue (is_in a v) → IsTrue (node_mark a marks u) → IsTrue (node_mark a (with_mark a marks v) u)
mark_kept a marks v u size inside t =
    let h = here a marks v size inside in
    ap (λ m. node_mark a m u) h.set ∙ kept marks h.number h.below (index_of a u) t

pub mark_made : (a : Extent) (marks : List Bool) (v : Node) → length marks ≡ a.w * a.h → IsTrue (is_in a v) → IsTrue (node_mark a (with_mark a marks v) v)
mark_made a marks v size inside =
    let h = here a marks v size inside in
    ap (λ m. node_mark a m v) h.set ∙ ap (mark_at (set marks h.number true)) h.at ∙ get_or-set_same marks h.number true false h.below

pub mark_old_or_new : (a : Extent) (marks : List Bool) (v u : Node) → length marks ≡ a.w * a.h → IsTrue (is_in a v) → IsTrue (node_mark a (with_mark a marks v) u) → IsTrue (node_mark a marks u) ⊎ (u ≡ v)
mark_old_or_new a marks v u size inside t =
    let h = here a marks v size inside in
    elim (old_or_new marks h.number (index_of a u) (sym (ap (λ m. node_mark a m u) h.set) ∙ t)) [
      | inl old ↦ inl old
      | inr new ↦ inr (index_once a u v h.number new h.at)
    ]

-- what is marked lies in the area
pub marked_in : (a : Extent) (marks : List Bool) (v : Node) → IsTrue (node_mark a marks v) → IsTrue (is_in a v)
marked_in a marks v = inside (index_of a v)
  where
    inside : (o : Option ℕ) → IsTrue (mark_at marks o) → IsTrue (is_some o)
    inside None t = t
    inside (Some k) t = refl

pub mark_size : (a : Extent) (marks : List Bool) (v : Node) → length marks ≡ a.w * a.h → IsTrue (is_in a v) → length (with_mark a marks v) ≡ a.w * a.h
mark_size a marks v size inside =
    let h = here a marks v size inside in
    ap length h.set ∙ length-set marks h.number true ∙ size

-- a node that is marked changes nothing
again : (a : Extent) (marks : List Bool) (v : Node) → length marks ≡ a.w * a.h → IsTrue (is_in a v) → node_mark a marks v ≡ true → with_mark a marks v ≡ marks
again a marks v size inside t =
    let h = here a marks v size inside in
    h.set ∙ ap (set marks h.number) (sym t ∙ h.read) ∙ set-get_or marks h.number false

one_less : (marks : List Bool) (k : ℕ) → k < length marks → get_or marks k false ≡ false → unmarked_count (set marks k true) + 1 ≡ unmarked_count marks
one_less marks k lt f =
    let e : unmarked_count (set marks k true) + cond (not (get_or marks k false)) 1 0 ≡ unmarked_count marks + 0 = sum_by-set (λ x. cond (not x) 1 0) marks k true false lt in
    let one = ap (λ x. unmarked_count (set marks k true) + cond (not x) 1 0) f in
    sym one ∙ e ∙ add-zero (unmarked_count marks)

-- the marks that are missing and the nodes that were met are as many together as before
pub mark_measure : (a : Extent) (marks : List Bool) (order : List Node) (v : Node) → length marks ≡ a.w * a.h → IsTrue (is_in a v) → unmarked_count (with_mark a marks v) + length (with_met a marks order v) ≡ unmarked_count marks + length order
mark_measure a marks order v size inside = elim (cases_Bool (node_mark a marks v)) [
  | inl t ↦
      let old = ap unmarked_count (again a marks v size inside t) in
      let same = ap length (cond-true _ order (order ++ v ∷ []) t) in
      omega arith
  | inr f ↦
      let h = here a marks v size inside in
      let more = ap length (cond-false _ order (order ++ v ∷ []) f) ∙ length_push order v in
      let fewer : unmarked_count (with_mark a marks v) + 1 ≡ unmarked_count marks = ap (λ m. unmarked_count m + 1) h.set ∙ one_less marks h.number h.below (sym h.read ∙ f) in
      omega arith
]

-- what was met before stands
pub met_stays : (a : Extent) (marks : List Bool) (order : List Node) (v : Node) (j : ℕ) → j < length order → met (with_met a marks order v) j ≡ met order j
met_stays a marks order v j lt = elim (cases_Bool (node_mark a marks v)) [
  | inl t ↦ ap (λ vs. met vs j) (cond-true _ order (order ++ v ∷ []) t)
  | inr f ↦ ap (λ vs. met vs j) (cond-false _ order (order ++ v ∷ []) f) ∙ get_or_append_left order (v ∷ []) _ j lt
]

pub met_more : (a : Extent) (marks : List Bool) (order : List Node) (v : Node) → length order ≤ length (with_met a marks order v)
met_more a marks order v = elim (cases_Bool (node_mark a marks v)) [
  | inl t ↦ let e = ap length (cond-true _ order (order ++ v ∷ []) t) in omega arith
  | inr f ↦ let e = ap length (cond-false _ order (order ++ v ∷ []) f) ∙ length_push order v in omega arith
]

-- a search goes on when a node to which a path leads is marked
pub search_marks : (S : Node → Bool) (a : Extent) (marks : List Bool) (order : List Node) (done : ℕ) (v : Node) → IsSearch S a marks order done → IsTrue (is_in a v) → Joined S (met order 0) v → IsSearch S a (with_mark a marks v) (with_met a marks order v) done
search_marks S a marks order done v was inside path = elim (cases_Bool (node_mark a marks v)) [
  | inl t ↦
      let P : List Bool → Type 0 = λ m. IsSearch S a m (with_met a marks order v) done in
      let Q : List Node → Type 0 = λ vs. IsSearch S a marks vs done in
      subst P (sym (again a marks v was.size inside t)) (subst Q (sym (cond-true _ order (order ++ v ∷ []) t)) was)
  | inr f ↦
      let Q : List Node → Type 0 = λ vs. IsSearch S a (with_mark a marks v) vs done in
      subst Q (sym (cond-false _ order (order ++ v ∷ []) f)) (pushed S a marks order done v was inside path)
]
  where
    pushed : (S : Node → Bool) (a : Extent) (marks : List Bool) (order : List Node) (done : ℕ) (v : Node) → IsSearch S a marks order done → IsTrue (is_in a v) → Joined S (met order 0) v → IsSearch S a (with_mark a marks v) (order ++ v ∷ []) done
    pushed S a marks order done v was inside path =
        let long = length_push order v in
        let begun = was.begun in
        let few = was.few in
        let size = was.size in
        let stays : (j : ℕ) → j < length order → met (order ++ v ∷ []) j ≡ met order j = λ j lt. get_or_append_left order (v ∷ []) _ j lt in
        let last : met (order ++ v ∷ []) (length order) ≡ v = get_or_push order v _ (length order) refl in
        record {
          size = mark_size a marks v size inside;
          begun = omega arith;
          reached = λ u t.
              let from = λ (w : Node). subst (λ (x : Node). Joined S x w) (sym (stays 0 begun)) in
              elim (mark_old_or_new a marks v u size inside t) [
                | inl old ↦ from u (was.reached u old)
                | inr new ↦ subst (λ (x : Node). Joined S (met (order ++ v ∷ []) 0) x) (sym new) (from v path)
              ];
          listed = λ j lt. elim (cases_eq j (length order)) [
            | inl e ↦ ap (λ n. node_mark a (with_mark a marks v) (met (order ++ v ∷ []) n)) e ∙ ap (node_mark a (with_mark a marks v)) last ∙ mark_made a marks v size inside
            | inr ne ↦ let below : j < length order = omega arith in ap (node_mark a (with_mark a marks v)) (stays j below) ∙ mark_kept a marks v (met order j) size inside (was.listed j below)
          ];
          found = λ u t. elim (mark_old_or_new a marks v u size inside t) [
            | inl old ↦ let (j, lt, at) = was.found u old in (j, omega arith, stays j lt ∙ at)
            | inr new ↦ (length order, omega arith, last ∙ sym new)
          ];
          closed = λ j lt d six on.
              let same = ap (λ (x : Node). step x d) (stays j (omega arith)) in
              ap (node_mark a (with_mark a marks v)) same ∙ mark_kept a marks v _ size inside (was.closed j lt d six (ap S (sym same) ∙ on));
          few = omega arith;
        }
