-- From a search that is over to the nodes to which a path leads, and to connected sets.
use Rattle.std.proofs.Common.{◌≡◌, ◌<◌, ◌≤◌, ℕ, ◌*◌, List, [], ◌∷◌, ◌++◌, length, Bool, false, inl, inr, ap, sym, ◌∙◌, subst, arith, get_or, Option, Some, None, replicate}
use Rattle.std.specs.Prelude.{IsTrue, Decides, unwrap_or}
use Rattle.std.specs.Option.{option_map}
use Rattle.std.proofs.lemmas.Bool.{both_ways, false≢true, false_from_ne_true, cond-false}
use Rattle.std.proofs.lemmas.List.{length-replicate}
use Rattle.tri_lattice.specs.declared.node.Node.{Node}
use Rattle.tri_lattice.specs.Extent.{Extent, index_of, is_in}
use Rattle.tri_lattice.specs.Lattice.{step}
use Rattle.tri_lattice.specs.Sets.{Joined, here, along, IsConnected}
use Rattle.tri_lattice.proofs.Paths.{Joined-first, Joined-trans, Joined-sym}
use Rattle.amoebot_state.proofs.Members.{one_everywhere}
use Rattle.shape_checks.specs.Marks.{node_mark, with_mark, with_met, met, IsSearch, IsReach}
use Rattle.shape_checks.proofs.MarksLemmas.{mark_old_or_new, mark_size, mark_made}

-- no node is marked where no mark is set
unmarked_all : (a : Extent) (marks : List Bool) → ((k : ℕ) → get_or marks k false ≡ false) → (v : Node) → IsTrue (node_mark a marks v) → ⊥
unmarked_all a marks none v = at (index_of a v)
  where
    at : (o : Option ℕ) → IsTrue (unwrap_or (option_map (λ k. get_or marks k false) o) false) → ⊥
    at None t = false≢true t
    at (Some k) t = both_ways _ (none k) t

-- a search begins with the mark of an occupied node
pub search_begins : (S : Node → Bool) (a b : Extent) (start : Node) (n : ℕ) (marks more : List Bool) (none order : List Node) → marks ≡ replicate n false → n ≡ a.w * a.h → none ≡ [] → b ≡ a → more ≡ with_mark b marks start → order ≡ with_met b marks none start → IsTrue (is_in a start) → IsTrue (S start) → IsSearch S a more order 0 × (met order 0 ≡ start)
search_begins S a b start n marks more none order em size en same ew eo inside on =
    let empty : length marks ≡ a.w * a.h = ap length em ∙ length-replicate n false ∙ size in
    let unset = unmarked_all a marks (λ k. ap (λ (m : List Bool). get_or m k false) em ∙ one_everywhere n k false) in
    let new : node_mark a marks start ≡ false = false_from_ne_true _ (unset start) in
    let marks_are : more ≡ with_mark a marks start = ew ∙ ap (λ (x : Extent). with_mark x marks start) same in
    let order_is : order ≡ start ∷ [] = eo ∙ ap (λ (x : Extent). with_met x marks none start) same ∙ cond-false _ none (none ++ start ∷ []) new ∙ ap (λ (vs : List Node). vs ++ start ∷ []) en in
    let first : met order 0 ≡ start = ap (λ (vs : List Node). met vs 0) order_is in
    let long = ap length order_is in
    let P : List Bool → Type 0 = λ m. IsSearch S a m order 0 in
    let only : (v : Node) → IsTrue (node_mark a (with_mark a marks start) v) → v ≡ start = λ v t. elim (mark_old_or_new a marks start v empty inside t) [ inl old ↦ absurd (unset v old) | inr e ↦ e ] in (
      subst P (sym marks_are) (record {
        size = mark_size a marks start empty inside;
        begun = omega arith;
        reached = λ v t. subst (λ (x : Node). Joined S x v) (sym first) (subst (λ (x : Node). Joined S start x) (sym (only v t)) (here on));
        listed = λ j lt. let zero_is : j ≡ 0 = omega arith in ap (λ i. node_mark a (with_mark a marks start) (met order i)) zero_is ∙ ap (node_mark a (with_mark a marks start)) first ∙ mark_made a marks start empty inside;
        found = λ v t. (0, omega arith, first ∙ sym (only v t));
        closed = λ j lt. absurd (omega arith);
        few = omega arith;
      }),
      first,
    )

-- a path in a set leads from a node with a mark to a node with a mark, where each neighbour of a marked node is marked
pub path_marked : (S T : Node → Bool) → ((v : Node) (d : ℕ) → IsTrue (T v) → d < 6 → IsTrue (S (step v d)) → IsTrue (T (step v d))) → {a b : Node} → Joined S a b → IsTrue (T a) → IsTrue (T b)
path_marked S T closed (here s) t = t
path_marked S T closed (along {a = a} {b = b} s (d, six, e) p) t =
    path_marked S T closed p (ap T e ∙ closed a d t six (ap S (sym e) ∙ Joined-first S p))

-- a search that has gone through all nodes that it met
pub search_ends : (S : Node → Bool) (a : Extent) (marks : List Bool) (order : List Node) (done : ℕ) (start : Node) → IsSearch S a marks order done → length order ≤ done → met order 0 ≡ start → IsReach S a start marks
search_ends S a marks order done start s over begun =
    let first = subst (λ (x : Node). IsTrue (node_mark a marks x)) begun (s.listed 0 s.begun) in
    record {
      size = s.size;
      reached = λ v t. subst (λ (x : Node). Joined S x v) begun (s.reached v t);
      whole = λ v path. path_marked S (node_mark a marks) (λ u d t six on.
          let (j, lt, at) = s.found u t in
          let same = ap (λ (x : Node). step x d) at in
          ap (node_mark a marks) (sym same) ∙ s.closed j (omega arith) d six (ap S same ∙ on)) path first;
    }

-- the set is connected where all of it is reached from one node of it
connected_if : (S : Node → Bool) (a : Extent) (start : Node) (marks : List Bool) → IsReach S a start marks → ((v : Node) → IsTrue (S v) → IsTrue (node_mark a marks v)) → IsConnected S
connected_if S a start marks r all u v su sv =
    Joined-trans S (Joined-sym S (r.reached u (all u su))) (r.reached v (all v sv))

-- and only there
connected_then : (S : Node → Bool) (a : Extent) (start : Node) (marks : List Bool) → IsReach S a start marks → IsTrue (S start) → IsConnected S → (v : Node) → IsTrue (S v) → IsTrue (node_mark a marks v)
connected_then S a start marks r on connected v sv = r.whole v (connected start v on sv)

-- so whether all of it is marked tells whether it is connected
pub marks_decide : (S : Node → Bool) (a : Extent) (start : Node) (marks seen : List Bool) (b : Bool) → IsReach S a start marks → IsTrue (S start) → seen ≡ marks → Decides b ((v : Node) → IsTrue (S v) → IsTrue (node_mark a seen v)) → Decides b (IsConnected S)
marks_decide S a start marks seen b r on e all =
    let same = λ (v : Node). ap (λ (m : List Bool). node_mark a m v) e in (
      λ t. connected_if S a start marks r (λ v sv. sym (same v) ∙ all.0 t v sv),
      λ connected. all.1 (λ v sv. same v ∙ connected_then S a start marks r on connected v sv),
    )
