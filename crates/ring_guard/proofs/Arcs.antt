-- One arc keeps a set connected.
use Rattle.std.proofs.Common.{◌≡◌, ◌≢◌, ◌⊎◌, ℕ, zero, suc, ◌+◌, ◌%◌, ◌<◌, Bool, arith, refl, sym, ◌∙◌, ap, subst, inl, inr}
use Rattle.std.proofs.lemmas.Bool.{and_parts, or_cases, both_ways, eqb-true}
use Rattle.std.specs.Prelude.{IsTrue}
use Rattle.tri_lattice.specs.declared.node.Node.{Node}
use Rattle.tri_lattice.specs.Lattice.{step, Adjacent}
use Rattle.tri_lattice.specs.Sets.{Joined, here, along, TakesOut}
use Rattle.tri_lattice.proofs.Nodes.{Adjacent-sym, cases_node, each_direction, next_neighbours_meet, step_leaves}
use Rattle.tri_lattice.proofs.Paths.{Joined-first, Joined-trans, Joined-sym}
use Rattle.ring_guard.specs.Rings.{ring_entry, IsOneArc, ring_in}
use Rattle.ring_guard.specs.Laws.{TakingKeeps, TakingLeaves, AloneIsAll}
use Rattle.ring_guard.proofs.Tables.{reaches, linked}

-- entry d of a ring is the test of the neighbour in direction d
pub entry_in : (S : Node → Bool) (v : Node) (d : ℕ) → d < 6 → ring_entry (ring_in S v) d ≡ S (step v d)
entry_in S v = each_direction (λ d. ring_entry (ring_in S v) d ≡ S (step v d)) refl refl refl refl refl refl

next_below : (i : ℕ) → (i + 1) % 6 < 6
next_below i = omega arith

-- neighbours reached over true entries are joined in each set that keeps the neighbours
reaches_joined : (S T : Node → Bool) (v : Node) → ((d : ℕ) → d < 6 → IsTrue (S (step v d)) → IsTrue (T (step v d)))
    → (n i j : ℕ) → i < 6 → IsTrue (S (step v i)) → IsTrue (reaches (ring_in S v) n i j) → Joined T (step v i) (step v j)
reaches_joined S T v keeps zero i j l t r = subst (λ (k : ℕ). Joined T (step v i) (step v k)) (eqb-true i j r) (here (keeps i l t))
reaches_joined S T v keeps (suc n) i j l t r = elim (or_cases _ _ r) [
  | inl e ↦ subst (λ (k : ℕ). Joined T (step v i) (step v k)) (eqb-true i j e) (here (keeps i l t))
  | inr q ↦ (let (next, rest) = and_parts _ _ q in
      let below = next_below i in
      let u : IsTrue (S (step v ((i + 1) % 6))) = sym (entry_in S v ((i + 1) % 6) below) ∙ next in
      along (keeps i l t) (next_neighbours_meet v i l) (reaches_joined S T v keeps n ((i + 1) % 6) j below u rest))
]

module _ (S T : Node → Bool) (v : Node) (arc : IsOneArc (ring_in S v)) (out : TakesOut S T v) where
  keeps : (a : Node) → a ≢ v → IsTrue (S a) → IsTrue (T a)
  keeps a ne s = out.others a ne ∙ s

  -- neighbours of the node taken out are joined in what is left
  across : (a b : Node) → Adjacent v a → Adjacent v b → IsTrue (S a) → IsTrue (S b) → Joined T a b
  across a b (i, li, ea) (j, lj, eb) sa sb =
      let ti : IsTrue (S (step v i)) = subst (λ (x : Node). IsTrue (S x)) ea sa in
      let tj : IsTrue (S (step v j)) = subst (λ (x : Node). IsTrue (S x)) eb sb in
      let stays : (d : ℕ) → d < 6 → IsTrue (S (step v d)) → IsTrue (T (step v d)) = λ d l. keeps (step v d) (step_leaves v d l) in
      let joined : Joined T (step v i) (step v j) = elim (linked (ring_in S v) arc i j li lj (entry_in S v i li ∙ ti) (entry_in S v j lj ∙ tj)) [
        | inl r ↦ reaches_joined S T v stays 5 i j li ti r
        | inr r ↦ Joined-sym T (reaches_joined S T v stays 5 j i lj tj r)
      ] in
      subst (λ (x : Node). Joined T x b) (sym ea) (subst (λ (x : Node). Joined T (step v i) x) (sym eb) joined)

  -- a path of the set, led round the node: c is where it stands, or, while it stands at the node, the
  -- neighbour from which it came
  detour : {m b : Node} → Joined S m b → b ≢ v → (c : Node) → IsTrue (T c) → IsTrue (S c) → (c ≡ m) ⊎ ((m ≡ v) × Adjacent v c) → Joined T c b
  detour (here {a = m} s) nb c tc sc (inl e) = subst (λ (x : Node). Joined T c x) e (here tc)
  detour (here {a = m} s) nb c tc sc (inr q) = absurd (nb q.0)
  detour (along {a = m} {b = n} {c = b} s near p) nb c tc sc (inl e) =
      let from_c : Adjacent c n = subst (λ (x : Node). Adjacent x n) (sym e) near in
      elim (cases_node n v) [
        | inl nv ↦ detour p nb c tc sc (inr (nv, Adjacent-sym c v (subst (λ (x : Node). Adjacent c x) nv from_c)))
        | inr nn ↦ (let sn = Joined-first S p in along tc from_c (detour p nb n (keeps n nn sn) sn (inl refl)))
      ]
  detour (along {a = m} {b = n} {c = b} s near p) nb c tc sc (inr (mv, beside)) =
      elim (cases_node n v) [
        | inl nv ↦ detour p nb c tc sc (inr (nv, beside))
        | inr nn ↦ (let sn = Joined-first S p in
            let round = across c n beside (subst (λ (x : Node). Adjacent x n) mv near) sc sn in
            Joined-trans T round (detour p nb n (keeps n nn sn) sn (inl refl)))
      ]

  -- a node of what is left is another one
  is_other : (a : Node) → IsTrue (T a) → a ≢ v
  is_other a t e = both_ways (T a) (ap T e ∙ out.gone) t

pub taking_keeps : TakingKeeps
taking_keeps S T v connected arc out a b ta tb =
    let na = is_other S T v arc out a ta in
    let nb = is_other S T v arc out b tb in
    let sa : IsTrue (S a) = sym (out.others a na) ∙ ta in
    let sb : IsTrue (S b) = sym (out.others b nb) ∙ tb in
    detour S T v arc out (connected a b sa sb) nb a ta sa (inl refl)

pub taking_leaves : TakingLeaves
taking_leaves S T v arc out =
    let (i, l, t) = arc.some in
    (step v i, keeps S T v arc out (step v i) (step_leaves v i l) (sym (entry_in S v i l) ∙ t))

-- a path from a node with an empty ring goes nowhere
stays_alone : (S : Node → Bool) (v a : Node) → ((i : ℕ) → i < 6 → IsTrue (S (step v i)) → ⊥) → Joined S v a → a ≡ v
stays_alone S v a none (here s) = refl
stays_alone S v a none (along {b = n} s (d, l, e) p) = absurd (none d l (sym (ap S e) ∙ Joined-first S p))

pub alone_is_all : AloneIsAll
alone_is_all S v connected sv none a sa =
    stays_alone S v a (λ i l t. both_ways _ (none i l) (entry_in S v i l ∙ t)) (connected v a sv sa)
