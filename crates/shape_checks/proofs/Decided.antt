-- Whether a shape is connected and whether it is a hexagon: answers that are computed from its configuration.
use Rattle.std.proofs.Common.{◌≡◌, ◌<◌, ◌≤◌, ◌+◌, ◌-◌, ◌*◌, ◌%◌, ℕ, zero, suc, pos, ◌-ℤ◌, Bool, true, false, List, length, Option, Some, None, inl, inr, refl, subst, arith, replicate}
use Rattle.std.specs.Prelude.{◌↔◌, IsTrue, Decides}
use Rattle.std.proofs.lemmas.Bool.{cases_lt}
use Rattle.std.proofs.lemmas.Int.{ints}
use Rattle.std.proofs.lemmas.Option.{same_Some, none-some}
use Rattle.tri_lattice.specs.declared.node.Node.{Node}
use Rattle.tri_lattice.specs.Lattice.{distance, step}
use Rattle.tri_lattice.specs.Extent.{Extent, is_in}
use Rattle.tri_lattice.specs.Sets.{IsConnected}
use Rattle.tri_lattice.proofs.Boxes.{within_in}
use Rattle.tri_lattice.proofs.Nodes.{cases_node}
use Rattle.amoebot_state.specs.declared.bot.Bot.{Bot}
use Rattle.amoebot_state.specs.Configs.{Config, IsValid, bot_at}
use Rattle.amoebot_state.specs.Occupied.{occupied}
use Rattle.amoebot_state.proofs.Occupants.{id_below}
use Rattle.shape_checks.specs.Arcs.{AreFirst}
use Rattle.shape_checks.specs.Hexagons.{ring_node, IsArc, IsHexagonAt, AreContracted, IsHexagon}
use Rattle.shape_checks.specs.Marks.{node_mark, unmarked_count, with_mark, IsBeside, IsReach}
use Rattle.shape_checks.specs.Laws.{MeasuresAreDecided}
use Rattle.shape_checks.proofs.Known.{Known, answer, known_like, known_true, known_false, known_less, known_both, known_if, known_some, known_each, known_node, known_nodes}
use Rattle.shape_checks.proofs.Bots.{occupied_in}
use Rattle.shape_checks.proofs.Centres.{radius_low}
use Rattle.shape_checks.proofs.Discs.{around}
use Rattle.shape_checks.proofs.GrownMarks.{IsGrown, growth_begins, growth_goes_on, growth_is_less, growth_ends}
use Rattle.shape_checks.proofs.ReachLemmas.{marks_decide}

-- a set whose nodes lie in a box
module _ (S : Node → Bool) (a : Extent) (within : (v : Node) → IsTrue (S v) → IsTrue (is_in a v)) where
  beside : (marks : List Bool) → Known ((v : Node) × IsBeside S a marks v)
  beside marks = known_node a (IsBeside S a marks) (λ v h. within v h.on) (λ v. known_like
      (λ (h : IsTrue (S v) × ((node_mark a marks v ≡ false) × ((d : ℕ) × (d < 6) × IsTrue (node_mark a marks (step v d))))). record { on = h.0; new = h.1.0; neighbour = h.1.1 })
      (λ h. (h.on, (h.new, h.neighbour)))
      (known_both (known_true (S v)) (known_both (known_false (node_mark a marks v)) (known_some (λ d. IsTrue (node_mark a marks (step v d))) (λ d. known_true _) 6))))

  -- the marks that grow from one node until none is beside them
  grown : (start : Node) (n : ℕ) (marks : List Bool) → unmarked_count marks ≤ n → IsGrown S a start marks → (m : List Bool) × IsReach S a start m
  grown start zero marks few g = elim (beside marks) [
    | inl h ↦ let less = growth_is_less S a a marks (with_mark a marks h.0) h.0 g.size h.1 (within h.0 h.1.on) refl refl in absurd (omega arith)
    | inr none ↦ (marks, growth_ends S a start marks g (λ v h. none (v, h)))
  ]
  grown start (suc n) marks few g = elim (beside marks) [
    | inl h ↦
        let more = with_mark a marks h.0 in
        let less = growth_is_less S a a marks more h.0 g.size h.1 (within h.0 h.1.on) refl refl in
        grown start n more (omega arith) (growth_goes_on S a a start marks more h.0 g h.1 (within h.0 h.1.on) refl refl)
    | inr none ↦ (marks, growth_ends S a start marks g (λ v h. none (v, h)))
  ]

  reach : (start : Node) → IsTrue (S start) → (m : List Bool) × IsReach S a start m
  reach start on =
      let none = replicate (a.w * a.h) false in
      let first = with_mark a none start in
      grown start (unmarked_count first) first (omega arith) (growth_begins S a a start (a.w * a.h) none first refl refl refl refl (within start on) on)

  connected_answer : (b : Bool) × Decides b (IsConnected S)
  connected_answer = elim (known_node a (λ v. IsTrue (S v)) within (λ v. known_true (S v))) [
    | inl h ↦
        let r = reach h.0 h.1 in
        let all = answer (known_nodes a (λ v. IsTrue (S v)) (λ v. IsTrue (node_mark a r.0 v)) within (λ v. known_true (S v)) (λ v. known_true (node_mark a r.0 v))) in
        (all.0, marks_decide S a h.0 r.0 r.0 all.0 r.1 h.1 refl all.1)
    | inr none ↦ (true, (λ _ u v su sv. absurd (none (u, su)), λ _. refl))
  ]

-- whether the places of a circle that pass are those of an arc
known_first : (p : ℕ → Bool) (m i n : ℕ) → Known (AreFirst p m i n)
known_first p m i n = known_each (λ j. IsTrue (p ((i + j) % m)) ↔ (j < n)) (λ j. known_both (known_if (known_true _) (known_less j n)) (known_if (known_less j n) (known_true _))) m

known_arc : (p : ℕ → Bool) (m : ℕ) → Known (IsArc p m)
known_arc p m = known_like
    (λ (h : (i : ℕ) × (i < m) × ((n : ℕ) × (n < m + 1) × AreFirst p m i n)). (h.0, h.2.0, h.1, h.2.2))
    (λ h. (
      h.0,
      h.2,
      elim (cases_lt h.1 m) [
        | inl lt ↦ (h.1, omega arith, h.3)
        | inr ge ↦ (m, omega arith, λ j lt. (λ _. lt, λ _. (h.3 j lt).1 (omega arith)))
      ],
    ))
    (known_some (λ i. (n : ℕ) × (n < m + 1) × AreFirst p m i n) (λ i. known_some (AreFirst p m i) (known_first p m i) (m + 1)) m)

-- the box round a disc
disc_box : Node → ℕ → Extent
disc_box c r = record { x0 = c.x -ℤ pos r; y0 = c.y -ℤ pos r; w = 2 * r; h = 2 * r }

in_disc_box : (c v : Node) (r : ℕ) → distance c v < r → IsTrue (is_in (disc_box c r) v)
unfolding disc_box
in_disc_box c v r near =
    let h = around c v (r - 1) (omega arith) in
    let l = h.left in
    let e = h.right in
    let d = h.low in
    let u = h.high in
    within_in (disc_box c r) v (record { x_low = omega (arith, ints); x_high = omega (arith, ints); y_low = omega (arith, ints); y_high = omega (arith, ints) })

module _ (w : Config) (valid : IsValid w) where
  known_hexagon_at : (c : Node) (r : ℕ) → Known (IsHexagonAt (occupied w) c r)
  known_hexagon_at c r =
      let S = occupied w in
      known_like
      (λ (h : (0 < r) × (((v : Node) → distance c v < r → IsTrue (S v)) × (((v : Node) → IsTrue (S v) → distance c v < r + 1) × IsArc (λ k. S (ring_node c r k)) (6 * r)))).
      record { some = let some = h.0 in omega arith; inside = h.1.0; outside = λ v on. let near = h.1.1.0 v on in omega arith; last = h.1.1.1 })
      (λ h. (let some = h.some in omega arith, (h.inside, (λ v on. let near = h.outside v on in omega arith, h.last))))
      (known_both (known_less 0 r) (known_both
      (known_nodes (disc_box c r) (λ v. distance c v < r) (λ v. IsTrue (S v)) (λ v. in_disc_box c v r) (λ v. known_less _ r) (λ v. known_true (S v)))
      (known_both (known_nodes w.area (λ v. IsTrue (S v)) (λ v. distance c v < r + 1) (occupied_in w valid) (λ v. known_true (S v)) (λ v. known_less _ (r + 1)))
      (known_arc (λ k. S (ring_node c r k)) (6 * r)))))

  -- its centre is occupied
  known_centre : Known ((c : Node) × ((r : ℕ) × (r < 65) × IsHexagonAt (occupied w) c r))
  known_centre = known_node w.area (λ c. (r : ℕ) × (r < 65) × IsHexagonAt (occupied w) c r)
      (λ c h. let none : distance c c ≡ 0 = omega (arith, ints) in let some = h.2.some in occupied_in w valid c (h.2.inside c (omega arith)))
      (λ c. known_some (IsHexagonAt (occupied w) c) (known_hexagon_at c) 65)

  known_one : (o : Option Bot) → Known ((b : Bot) → o ≡ Some b → b.head ≡ b.tail)
  known_one None = inl (λ b e. absurd (none-some b e))
  known_one (Some x) = elim (cases_node x.head x.tail) [
    | inl e ↦ inl (λ b same. subst (λ (y : Bot). y.head ≡ y.tail) (same_Some _ _ same) e)
    | inr ne ↦ inr (λ all. ne (all x refl))
  ]

  known_contracted : Known (AreContracted w)
  known_contracted = known_like
      (λ (h : (i : ℕ) → i < length w.bots → (b : Bot) → bot_at w i ≡ Some b → b.head ≡ b.tail) i b at. h i (id_below w i b at) b at)
      (λ h i lt b at. h i b at)
      (known_each (λ i. (b : Bot) → bot_at w i ≡ Some b → b.head ≡ b.tail) (λ i. known_one (bot_at w i)) (length w.bots))

  known_hexagon : Known (IsHexagon w)
  known_hexagon = known_like
      (λ (h : (0 < length w.bots) × (AreContracted w × ((c : Node) × ((r : ℕ) × (r < 65) × IsHexagonAt (occupied w) c r)))).
      record { some = h.0; contracted = h.1.0; centre = h.1.1.0; radius = h.1.1.1.0; shape = h.1.1.1.2 })
      (λ h. (h.some, (h.contracted, (h.centre, (h.radius, let low = radius_low w valid h.centre h.radius h.shape in omega arith, h.shape)))))
      (known_both (known_less 0 (length w.bots)) (known_both known_contracted known_centre))

pub measures_are_decided : MeasuresAreDecided
measures_are_decided c valid = (connected_answer (occupied c) c.area (occupied_in c valid), answer (known_hexagon c valid))
