-- When nodes are equal, and what the six steps do.
use Rattle.std.proofs.Common.{◌≡◌, ◌≢◌, ◌⊎◌, ◌<◌, ℕ, zero, suc, ℤ, ◌+ℤ◌, ◌-ℤ◌, false, arith, refl, sym, ◌∙◌, ap, subst, inl, inr}
use Rattle.std.proofs.lemmas.Bool.{and_parts, and_from, both_ways, cases_Bool}
use Rattle.std.proofs.lemmas.Bool.Decides.{Decides-int_eq}
use Rattle.std.proofs.lemmas.Int.{ints}
use Rattle.std.specs.Prelude.{IsTrue}
use Rattle.tri_lattice.specs.declared.node.Node.{Node}
use Rattle.tri_lattice.specs.Lattice.{step, turned, opposite, node_eq, Adjacent}
use Rattle.tri_lattice.specs.Laws.{OppositeLeadsBack, NextNeighboursMeet, StepsLeave, AdjacencyIsSymmetric, NodeTestIsEquality}

-- nodes with equal coordinates are equal
pub same_node : (a b : Node) → a.x ≡ b.x → a.y ≡ b.y → a ≡ b
same_node a b x y = λ i. record { x = x i; y = y i }

-- the test of equality, both ways
pub node_eq-true : (a b : Node) → IsTrue (node_eq a b) → a ≡ b
node_eq-true a b t =
    let both = and_parts _ _ t in
    same_node a b ((Decides-int_eq a.x b.x).0 both.0) ((Decides-int_eq a.y b.y).0 both.1)

pub node_eq_same : (a : Node) → IsTrue (node_eq a a)
node_eq_same a = and_from _ _ ((Decides-int_eq a.x a.x).1 refl) ((Decides-int_eq a.y a.y).1 refl)

pub node_eq-false : (a b : Node) → a ≢ b → node_eq a b ≡ false
node_eq-false a b ne = elim (cases_Bool (node_eq a b)) [ inl t ↦ absurd (ne (node_eq-true a b t)) | inr f ↦ f ]

pub eq-node_eq : (a b : Node) → a ≡ b → IsTrue (node_eq a b)
eq-node_eq a b e = subst (λ (x : Node). IsTrue (node_eq a x)) e (node_eq_same a)

pub node_test_is_equality : NodeTestIsEquality
node_test_is_equality a b = (node_eq-true a b, eq-node_eq a b)

-- two nodes are equal or not
pub cases_node : (a b : Node) → (a ≡ b) ⊎ (a ≢ b)
cases_node a b = elim (cases_Bool (node_eq a b)) [
  | inl t ↦ inl (node_eq-true a b t)
  | inr f ↦ inr (λ e. both_ways _ f (eq-node_eq a b e))
]

-- what holds of each of the six directions
pub each_direction : (P : ℕ → Type 0) → P 0 → P 1 → P 2 → P 3 → P 4 → P 5 → (d : ℕ) → d < 6 → P d
each_direction P p0 p1 p2 p3 p4 p5 zero l = p0
each_direction P p0 p1 p2 p3 p4 p5 (suc zero) l = p1
each_direction P p0 p1 p2 p3 p4 p5 (suc (suc zero)) l = p2
each_direction P p0 p1 p2 p3 p4 p5 (suc (suc (suc zero))) l = p3
each_direction P p0 p1 p2 p3 p4 p5 (suc (suc (suc (suc zero)))) l = p4
each_direction P p0 p1 p2 p3 p4 p5 (suc (suc (suc (suc (suc zero))))) l = p5
each_direction P p0 p1 p2 p3 p4 p5 (suc (suc (suc (suc (suc (suc d)))))) l = absurd (omega arith)

-- how far a coordinate and what was added to it are apart
pub stepped : (x z : ℤ) → (x +ℤ z) -ℤ x ≡ z
stepped x z = omega (arith, ints)

pub opposite_leads_back : OppositeLeadsBack
opposite_leads_back v = each_direction (λ d. step (step v d) (opposite d) ≡ v)
    (same_node _ _ (omega (arith, ints)) (omega (arith, ints)))
    (same_node _ _ (omega (arith, ints)) (omega (arith, ints)))
    (same_node _ _ (omega (arith, ints)) (omega (arith, ints)))
    (same_node _ _ (omega (arith, ints)) (omega (arith, ints)))
    (same_node _ _ (omega (arith, ints)) (omega (arith, ints)))
    (same_node _ _ (omega (arith, ints)) (omega (arith, ints)))

pub Adjacent-sym : AdjacencyIsSymmetric
Adjacent-sym a b (d, l, e) =
    (opposite d, omega arith, sym (opposite_leads_back a d l) ∙ ap (λ (n : Node). step n (opposite d)) (sym e))

pub next_neighbours_meet : NextNeighboursMeet
next_neighbours_meet v = each_direction (λ d. Adjacent (step v d) (step v (turned d 1)))
    (2, omega arith, same_node _ _ (omega (arith, ints)) (omega (arith, ints)))
    (3, omega arith, same_node _ _ (omega (arith, ints)) (omega (arith, ints)))
    (4, omega arith, same_node _ _ (omega (arith, ints)) (omega (arith, ints)))
    (5, omega arith, same_node _ _ (omega (arith, ints)) (omega (arith, ints)))
    (0, omega arith, same_node _ _ (omega (arith, ints)) (omega (arith, ints)))
    (1, omega arith, same_node _ _ (omega (arith, ints)) (omega (arith, ints)))

pub step_leaves : StepsLeave
step_leaves v = each_direction (λ d. step v d ≢ v)
    (λ e. let x = ap (λ (n : Node). n.x) e in omega (arith, ints))
    (λ e. let y = ap (λ (n : Node). n.y) e in omega (arith, ints))
    (λ e. let y = ap (λ (n : Node). n.y) e in omega (arith, ints))
    (λ e. let x = ap (λ (n : Node). n.x) e in omega (arith, ints))
    (λ e. let y = ap (λ (n : Node). n.y) e in omega (arith, ints))
    (λ e. let y = ap (λ (n : Node). n.y) e in omega (arith, ints))
