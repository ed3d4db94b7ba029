-- Marks that grow by a node beside them.
use Rattle.std.proofs.Common.{◌≡◌, ◌<◌, ℕ, ◌*◌, List, [], ◌∷◌, ◌++◌, length, Bool, false, inl, inr, ap, sym, ◌∙◌, refl, subst, arith, replicate}
use Rattle.std.specs.Prelude.{IsTrue}
use Rattle.std.proofs.lemmas.Bool.{cases_Bool, cond-false}
use Rattle.tri_lattice.specs.declared.node.Node.{Node}
use Rattle.tri_lattice.specs.Extent.{Extent, is_in, index_of, node_at}
use Rattle.tri_lattice.specs.Lattice.{step, opposite}
use Rattle.tri_lattice.specs.Sets.{Joined, here, along}
use Rattle.tri_lattice.proofs.Nodes.{Adjacent-sym, opposite_leads_back}
use Rattle.tri_lattice.proofs.Boxes.{node_at_index_of}
use Rattle.tri_lattice.proofs.Paths.{Joined-last, Joined-trans}
use Rattle.amoebot_state.proofs.Options.{there_is}
use Rattle.shape_checks.specs.Marks.{node_mark, unmarked_count, with_mark, with_met, IsBeside, IsReach}
use Rattle.shape_checks.proofs.MarksLemmas.{mark_kept, mark_old_or_new, mark_size, mark_measure}
use Rattle.shape_checks.proofs.ReachLemmas.{search_begins, path_marked}

-- the marked nodes are some of those to which a path leads from the start
pub record IsGrown (S : Node → Bool) (a : Extent) (start : Node) (marks : List Bool) : Type 0 where
  pub size : length marks ≡ a.w * a.h
  pub begun : IsTrue (node_mark a marks start)
  pub reached : (v : Node) → IsTrue (node_mark a marks v) → Joined S start v

pub growth_begins : (S : Node → Bool) (a b : Extent) (start : Node) (n : ℕ) (marks more : List Bool) → marks ≡ replicate n false → n ≡ a.w * a.h → b ≡ a → more ≡ with_mark b marks start → IsTrue (is_in a start) → IsTrue (S start) → IsGrown S a start more
growth_begins S a b start n marks more em size same ew inside on =
    let (search, first) = search_begins S a b start n marks more [] (with_met b marks [] start) em size refl same ew refl inside on in
    record {
      size = search.size;
      begun = subst (λ (x : Node). IsTrue (node_mark a more x)) first (search.listed 0 search.begun);
      reached = λ v t. subst (λ (x : Node). Joined S x v) first (search.reached v t);
    }

-- one more mark
pub growth_goes_on : (S : Node → Bool) (a b : Extent) (start : Node) (marks more : List Bool) (v : Node) → IsGrown S a start marks → IsBeside S a marks v → IsTrue (is_in a v) → b ≡ a → more ≡ with_mark b marks v → IsGrown S a start more
growth_goes_on S a b start marks more v was at inside same ew =
    let marks_are : more ≡ with_mark a marks v = ew ∙ ap (λ (x : Extent). with_mark x marks v) same in
    let P : List Bool → Type 0 = λ m. IsGrown S a start m in
    let (d, six, t) = at.neighbour in
    let to_neighbour = was.reached (step v d) t in
    let path = Joined-trans S to_neighbour (along (Joined-last S to_neighbour) (Adjacent-sym v (step v d) (d, six, refl)) (here at.on)) in
    subst P (sym marks_are) (record {
      size = mark_size a marks v was.size inside;
      begun = mark_kept a marks v start was.size inside was.begun;
      reached = λ u t. elim (mark_old_or_new a marks v u was.size inside t) [
        | inl old ↦ was.reached u old
        | inr new ↦ subst (λ (x : Node). Joined S start x) (sym new) path
      ];
    })

-- fewer are not marked
pub growth_is_less : (S : Node → Bool) (a b : Extent) (marks more : List Bool) (v : Node) → length marks ≡ a.w * a.h → IsBeside S a marks v → IsTrue (is_in a v) → b ≡ a → more ≡ with_mark b marks v → unmarked_count more < unmarked_count marks
growth_is_less S a b marks more v size at inside same ew =
    let fewer = ap unmarked_count (ew ∙ ap (λ (x : Extent). with_mark x marks v) same) in
    let measure = mark_measure a marks [] v size inside in
    let one : length (with_met a marks [] v) ≡ 1 = ap length (cond-false _ [] ([] ++ v ∷ []) at.new) in
    let none : length {A = Node} [] ≡ 0 = refl in
    omega arith

-- where no node is beside them, all are marked to which a path leads
pub growth_ends : (S : Node → Bool) (a : Extent) (start : Node) (marks : List Bool) → IsGrown S a start marks → ((v : Node) → ¬ IsBeside S a marks v) → IsReach S a start marks
growth_ends S a start marks was none = record {
  size = was.size;
  reached = was.reached;
  whole = λ v path. path_marked S (node_mark a marks) (λ u d t six on. elim (cases_Bool (node_mark a marks (step u d))) [
    | inl new ↦ new
    | inr off ↦ absurd (none (step u d) (record { on = on; new = off; neighbour = (opposite d, omega arith, ap (node_mark a marks) (opposite_leads_back u d six) ∙ t) }))
  ]) path was.begun;
}

-- what holds of no number of an area holds of no node in it
pub no_node : (a : Extent) (P : Node → Type 0) → ((k : ℕ) → k < a.w * a.h → ¬ P (node_at a k)) → (v : Node) → IsTrue (is_in a v) → ¬ P v
no_node a P none v inside h =
    let (k, at) = there_is (index_of a v) inside in
    let (below, same) = node_at_index_of a v k at in
    none k below (subst P (sym same) h)
