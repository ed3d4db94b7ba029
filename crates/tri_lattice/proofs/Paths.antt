-- Paths joined end to end, and what keeps a set connected.
use Rattle.std.proofs.Common.{Bool, sym, ◌∙◌, ap, subst, inl, inr}
use Rattle.std.specs.Prelude.{IsTrue}
use Rattle.tri_lattice.specs.declared.node.Node.{Node}
use Rattle.tri_lattice.specs.Sets.{Joined, here, along}
use Rattle.tri_lattice.specs.Laws.{SameKeeps, PuttingKeeps, FewAreConnected}
use Rattle.tri_lattice.proofs.Nodes.{Adjacent-sym, cases_node}

module _ (S : Node → Bool) where
  pub Joined-first : {a b : Node} → Joined S a b → IsTrue (S a)
  Joined-first (here s) = s
  Joined-first (along s e p) = s

  pub Joined-last : {a b : Node} → Joined S a b → IsTrue (S b)
  Joined-last (here s) = s
  Joined-last (along s e p) = Joined-last p

  pub Joined-trans : {a b c : Node} → Joined S a b → Joined S b c → Joined S a c
  Joined-trans (here s) q = q
  Joined-trans (along s e p) q = along s e (Joined-trans p q)

  pub Joined-sym : {a b : Node} → Joined S a b → Joined S b a
  Joined-sym (here s) = here s
  Joined-sym (along {a = a} {b = b} s e p) =
      Joined-trans (Joined-sym p) (along (Joined-first p) (Adjacent-sym a b e) (here s))

-- a path in a set is one in each set that has its nodes
pub Joined-within : (S T : Node → Bool) → ((v : Node) → IsTrue (S v) → IsTrue (T v)) → {a b : Node} → Joined S a b → Joined T a b
Joined-within S T h (here {a = a} s) = here (h a s)
Joined-within S T h (along {a = a} s e p) = along (h a s) e (Joined-within S T h p)

pub same_keeps : SameKeeps
same_keeps S T same connected a b ta tb =
    Joined-within S T (λ v s. same v ∙ s) (connected a b (sym (same a) ∙ ta) (sym (same b) ∙ tb))

pub few_are_connected : FewAreConnected
few_are_connected S few a b sa sb = subst (λ (x : Node). Joined S a x) (few a b sa sb) (here sa)

pub putting_keeps : PuttingKeeps
putting_keeps S T v a connected sa near put b c tb tc =
    let into : (x : Node) → IsTrue (S x) → IsTrue (T x) = λ x sx. elim (cases_node x v) [
      | inl e ↦ ap T e ∙ put.there
      | inr ne ↦ put.others x ne ∙ sx
    ] in
    let from_a : (x : Node) → IsTrue (T x) → Joined T a x = λ x tx. elim (cases_node x v) [
      | inl e ↦ subst (λ (y : Node). Joined T a y) (sym e) (along (into a sa) near (here put.there))
      | inr ne ↦ Joined-within S T into (connected a x sa (sym (put.others x ne) ∙ tx))
    ] in
    Joined-trans T (Joined-sym T (from_a b tb)) (from_a c tc)
