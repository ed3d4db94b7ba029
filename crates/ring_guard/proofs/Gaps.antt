-- The two ends of a chain of three nodes are not connected without its middle.
use Rattle.std.proofs.Common.{◌≡◌, ℤ, pos, Bool, false, ◌||◌, true, arith, refl, sym, ap, subst, inl, inr}
use Rattle.std.proofs.lemmas.Bool.{or_cases, false_from_ne_true}
use Rattle.std.specs.Prelude.{IsTrue}
use Rattle.tri_lattice.specs.declared.node.Node.{Node}
use Rattle.tri_lattice.specs.Sets.{Joined, here, along, IsConnected, TakesOut}
use Rattle.tri_lattice.proofs.Nodes.{node_eq-true, each_direction}
use Rattle.tri_lattice.proofs.Paths.{Joined-trans, Joined-sym}
use Rattle.ring_guard.specs.Rings.{HasEmptyRing, ring_entry, ring_in}
use Rattle.ring_guard.specs.Gap.{left_node, middle, right_node, chain, end_pair, GapSplits}
use Rattle.ring_guard.proofs.Arcs.{alone_is_all, taking_keeps}

left_is_alone : HasEmptyRing end_pair left_node
left_is_alone = each_direction (λ i. ring_entry (ring_in end_pair left_node) i ≡ false) refl refl refl refl refl refl

pair_is_split : IsConnected end_pair → ⊥
pair_is_split connected =
    let same : right_node ≡ left_node = alone_is_all end_pair left_node connected refl left_is_alone right_node refl in
    let x : ◌≡◌ {A = ℤ} (pos 2) (pos 0) = ap (λ (a : Node). a.x) same in cc

-- each node of the chain is joined to its middle
to_middle : (a : Node) → IsTrue (chain a) → Joined chain a middle
to_middle a t = elim (or_cases _ _ t) [
  | inl s ↦ elim (or_cases _ _ s) [
    | inl e ↦ subst (λ (x : Node). Joined chain x middle) (node_eq-true left_node a e) (along refl (0, omega arith, refl) (here refl))
    | inr e ↦ subst (λ (x : Node). Joined chain x middle) (node_eq-true middle a e) (here refl)
  ]
  | inr e ↦ subst (λ (x : Node). Joined chain x middle) (node_eq-true right_node a e) (along refl (3, omega arith, refl) (here refl))
]

chain_is_connected : IsConnected chain
chain_is_connected a b sa sb = Joined-trans chain (to_middle a sa) (Joined-sym chain (to_middle b sb))

without : (p q r : Bool) → q ≡ false → (p || r) ≡ (p || q || r)
without true q r e = refl
without false q r e = sym (ap (λ b. b || r) e)

middle_taken : TakesOut chain end_pair middle
middle_taken = record {
  gone = refl;
  others = λ a ne. without _ _ _ (false_from_ne_true _ (λ t. ne (sym (node_eq-true middle a t))));
}

pub gap_splits : GapSplits
gap_splits = record {
  connected = chain_is_connected;
  taken = middle_taken;
  arcs = λ arc. pair_is_split (taking_keeps chain end_pair middle chain_is_connected arc middle_taken);
  split = pair_is_split;
}
