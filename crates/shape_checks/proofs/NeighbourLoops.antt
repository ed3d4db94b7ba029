-- The neighbours of one node that was met, one after another.
use Rattle.std.proofs.Common.{◌≡◌, ◌<◌, ◌≤◌, ℕ, ◌+◌, List, length, Bool, false, inl, inr, ap, sym, ◌∙◌, refl, subst, arith, get_or}
use Rattle.std.specs.Prelude.{IsTrue}
use Rattle.std.proofs.lemmas.Bool.{cases_eq, both_ways}
use Rattle.std.proofs.lemmas.List.{get_or_read}
use Rattle.tri_lattice.specs.declared.node.Node.{Node}
use Rattle.tri_lattice.specs.Extent.{Extent, is_in}
use Rattle.tri_lattice.specs.Lattice.{step, ring}
use Rattle.tri_lattice.specs.Sets.{Joined, here, along}
use Rattle.tri_lattice.proofs.Steps.{ring_at}
use Rattle.tri_lattice.proofs.Paths.{Joined-last, Joined-trans}
use Rattle.shape_checks.specs.Marks.{node_mark, unmarked_count, with_mark, with_met, met, IsSearch}
use Rattle.shape_checks.proofs.MarksLemmas.{mark_kept, mark_made, mark_measure, met_stays, met_more, search_marks}

-- the search of before has gone on by the first k neighbours of a node that was met
pub record IsRound (S : Node → Bool) (a : Extent) (was : List Bool) (had : List Node) (marks : List Bool) (order : List Node) (number : ℕ) (k : ℕ) : Type 0 where
  pub search : IsSearch S a marks order number
  pub below : number < length order
  pub start : met order 0 ≡ met had 0
  pub node : met order number ≡ met had number
  pub round : (d : ℕ) → d < k → d < 6 → IsTrue (S (step (met had number) d)) → IsTrue (node_mark a marks (step (met had number) d))
  pub measure : unmarked_count marks + length order ≡ unmarked_count was + length had

pub round_none : (S : Node → Bool) (a : Extent) (marks : List Bool) (order : List Node) (number : ℕ) → IsSearch S a marks order number → number < length order → IsRound S a marks order marks order number 0
round_none S a marks order number search below = record {
  search = search;
  below = below;
  start = refl;
  node = refl;
  round = λ d lt. absurd (omega arith);
  measure = refl;
}

pub round_no : (S : Node → Bool) (a : Extent) (was : List Bool) (had : List Node) (marks : List Bool) (order : List Node) (number k : ℕ) → IsRound S a was had marks order number k → S (step (met had number) k) ≡ false → IsRound S a was had marks order number (k + 1)
round_no S a was had marks order number k r off = record {
  search = r.search;
  below = r.below;
  start = r.start;
  node = r.node;
  round = λ d lt six on. elim (cases_eq d k) [
    | inl e ↦ absurd (both_ways _ off (ap (λ n. S (step (met had number) n)) (sym e) ∙ on))
    | inr ne ↦ r.round d (omega arith) six on
  ];
  measure = r.measure;
}

pub round_yes : (S : Node → Bool) (a : Extent) (was : List Bool) (had : List Node) (marks : List Bool) (order : List Node) (number k : ℕ) → IsRound S a was had marks order number k → k < 6 → IsTrue (S (step (met had number) k)) → IsTrue (is_in a (step (met had number) k)) → IsRound S a was had (with_mark a marks (step (met had number) k)) (with_met a marks order (step (met had number) k)) number (k + 1)
round_yes S a was had marks order number k r six on inside =
    let next = step (met had number) k in
    let size = r.search.size in
    let more = met_more a marks order next in
    let below = r.below in
    let begun = r.search.begun in
    let measure = r.measure in
    let new = mark_measure a marks order next size inside in
    let to_node : Joined S (met order 0) (met had number) = subst (λ (x : Node). Joined S (met order 0) x) r.node (r.search.reached (met order number) (r.search.listed number below)) in
    let path = Joined-trans S to_node (along (Joined-last S to_node) (k, six, refl) (here on)) in
    record {
      search = search_marks S a marks order number next r.search inside path;
      below = omega arith;
      start = met_stays a marks order next 0 begun ∙ r.start;
      node = met_stays a marks order next number below ∙ r.node;
      round = λ d lt six on. elim (cases_eq d k) [
        | inl e ↦ ap (λ n. node_mark a (with_mark a marks next) (step (met had number) n)) e ∙ mark_made a marks next size inside
        | inr ne ↦ mark_kept a marks next _ size inside (r.round d (omega arith) six on)
      ];
      measure = new ∙ measure;
    }

-- after all six the node is done
pub round_all : (S : Node → Bool) (a : Extent) (was : List Bool) (had : List Node) (marks : List Bool) (order : List Node) (number k : ℕ) → IsRound S a was had marks order number k → 6 ≤ k → IsSearch S a marks order (number + 1)
round_all S a was had marks order number k r all =
    let below = r.below in
    record {
      size = r.search.size;
      begun = r.search.begun;
      reached = r.search.reached;
      listed = r.search.listed;
      found = r.search.found;
      closed = λ j lt d six on. elim (cases_eq j number) [
        | inl e ↦
            let same = ap (λ n. step (met order n) d) e ∙ ap (λ (x : Node). step x d) r.node in
            ap (node_mark a marks) same ∙ r.round d (omega arith) six (ap S (sym same) ∙ on)
        | inr ne ↦ r.search.closed j (omega arith) d six on
      ];
      few = omega arith;
    }

-- the same, as the code has it
pub round_made : (S : Node → Bool) (a b : Extent) (was : List Bool) (had : List Node) (marks more : List Bool) (order longer : List Node) (number k : ℕ) (v : Node) → IsRound S a was had marks order number k → k < 6 → v ≡ step (met had number) k → IsTrue (S v) → IsTrue (is_in a v) → b ≡ a → more ≡ with_mark b marks v → longer ≡ with_met b marks order v → IsRound S a was had more longer number (k + 1)
round_made S a b was had marks more order longer number k v r six next on inside same em eo =
    let u = step (met had number) k in
    let P : List Bool → Type 0 = λ m. IsRound S a was had m longer number (k + 1) in
    let Q : List Node → Type 0 = λ vs. IsRound S a was had (with_mark a marks u) vs number (k + 1) in
    let marks_are : more ≡ with_mark a marks u = em ∙ ap (λ (x : Extent). with_mark x marks v) same ∙ ap (with_mark a marks) next in
    let order_is : longer ≡ with_met a marks order u = eo ∙ ap (λ (x : Extent). with_met x marks order v) same ∙ ap (with_met a marks order) next in
    subst P (sym marks_are) (subst Q (sym order_is) (round_yes S a was had marks order number k r six (ap S (sym next) ∙ on) (ap (is_in a) (sym next) ∙ inside)))

-- the next neighbour that a loop over the ring comes to
pub next_is : (vs : List Node) (node u : Node) (order : List Node) (number k : ℕ) → vs ≡ ring node → node ≡ get_or order number node → number < length order → k < 6 → get_or vs k u ≡ step (met order number) k
next_is vs node u order number k ring_is read below six =
    ap (λ (xs : List Node). get_or xs k u) ring_is ∙ ring_at node u k six ∙ ap (λ (x : Node). step x k) (get_or_read order number node below read _)

pub round_left : (S : Node → Bool) (a : Extent) (was : List Bool) (had : List Node) (marks more : List Bool) (order longer : List Node) (number k : ℕ) (v : Node) → IsRound S a was had marks order number k → v ≡ step (met had number) k → S v ≡ false → more ≡ marks → longer ≡ order → IsRound S a was had more longer number (k + 1)
round_left S a was had marks more order longer number k v r next off em eo =
    let P : List Bool → Type 0 = λ m. IsRound S a was had m longer number (k + 1) in
    let Q : List Node → Type 0 = λ vs. IsRound S a was had marks vs number (k + 1) in
    subst P (sym em) (subst Q (sym eo) (round_no S a was had marks order number k r (ap S (sym next) ∙ off)))
