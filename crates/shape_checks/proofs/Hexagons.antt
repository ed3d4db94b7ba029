-- What holds of each hexagon.
use Rattle.std.proofs.Common.{◌≡◌, ◌<◌, ◌≤◌, ◌+◌, ◌*◌, ℕ, zero, suc, pos, ◌+ℤ◌, ◌≤ℤ◌, ◌<ℤ◌, Bool, false, List, [], ◌∷◌, length, Option, Some, None, refl, sym, ◌∙◌, ap, subst, inl, inr, arith, get_or}
use Rattle.std.specs.Prelude.{IsTrue}
use Rattle.std.proofs.lemmas.Bool.{cases_eq, both_ways, false_from_ne_true, le-ltb}
use Rattle.std.proofs.lemmas.Bool.Decides.{Decides-ltb}
use Rattle.std.proofs.lemmas.Int.{ints, by_lt_z}
use Rattle.std.proofs.lemmas.Nat.{mod_below}
use Rattle.std.proofs.lemmas.Option.{same_Some}
use Rattle.tri_lattice.specs.declared.node.Node.{Node}
use Rattle.tri_lattice.specs.Lattice.{distance, step}
use Rattle.tri_lattice.specs.Sets.{Joined, here, along}
use Rattle.tri_lattice.proofs.Nodes.{same_node}
use Rattle.tri_lattice.proofs.Paths.{Joined-trans, Joined-sym}
use Rattle.amoebot_state.specs.declared.bot.Bot.{Bot}
use Rattle.amoebot_state.specs.Configs.{Config, bot_at}
use Rattle.amoebot_state.specs.Occupied.{occupied}
use Rattle.amoebot_state.proofs.Occupants.{id_below}
use Rattle.shape_checks.specs.Hexagons.{ring_node, IsArc, IsHexagonAt}
use Rattle.shape_checks.specs.Laws.{nearer, FullRingsAreHexagons, RadiiFollow, HexagonsAreConnected, OneAloneIsHexagon}
use Rattle.shape_checks.proofs.Bots.{each_occupied, head_occupied}
use Rattle.shape_checks.proofs.Centres.{aside}
use Rattle.shape_checks.proofs.Discs.{around}
use Rattle.shape_checks.proofs.Rings.{far_of_place}

-- no place of a circle is an arc, and all are
none_is_arc : (p : ℕ → Bool) (m : ℕ) → 0 < m → ((k : ℕ) → k < m → p k ≡ false) → IsArc p m
none_is_arc p m some none = (0, 0, some, λ j lt. (λ t. absurd (both_ways _ (none _ (mod_below (0 + j) m some)) t), λ less. absurd (omega arith)))

all_is_arc : (p : ℕ → Bool) (m : ℕ) → 0 < m → ((k : ℕ) → k < m → IsTrue (p k)) → IsArc p m
all_is_arc p m some all = (0, m, some, λ j lt. (λ _. lt, λ _. all _ (mod_below (0 + j) m some)))

pub full_rings_are_hexagons : FullRingsAreHexagons
full_rings_are_hexagons c r some =
    let far = λ (k : ℕ) (lt : k < 6 * r). far_of_place c (ring_node c r k) r k some lt refl in (
      record {
        some = some;
        inside = λ v near. (Decides-ltb (distance c v) r).1 near;
        outside = λ v t. let near = (Decides-ltb (distance c v) r).0 t in omega arith;
        last = none_is_arc (λ k. nearer c r (ring_node c r k)) (6 * r) (omega arith) (λ k lt. let at = far k lt in le-ltb (distance c (ring_node c r k)) r (omega arith));
      },
      record {
        some = some;
        inside = λ v near. (Decides-ltb (distance c v) (r + 1)).1 (omega arith);
        outside = λ v t. let near = (Decides-ltb (distance c v) (r + 1)).0 t in omega arith;
        last = all_is_arc (λ k. nearer c (r + 1) (ring_node c r k)) (6 * r) (omega arith) (λ k lt. let at = far k lt in (Decides-ltb (distance c (ring_node c r k)) (r + 1)).1 (omega arith));
      },
    )

pub radii_follow : RadiiFollow
radii_follow S c r s small large lt = (
  elim (cases_eq s (r + 1)) [
    | inl e ↦ e
    | inr ne ↦
        let out : Node = record { x = c.x +ℤ pos (r + 1); y = c.y } in
        let most : distance c out ≤ r + 1 = aside c out.x (r + 1) (omega (arith, ints)) in
        let least = (around c out r (small.outside out (large.inside out (omega arith)))).right in
        absurd (omega (arith, ints))
  ],
  λ v. (small.outside v, λ near. large.inside v (omega arith)),
)

-- a neighbour in some direction is nearer to the centre
abbrev HasNearer : Node → Node → Type 0
HasNearer c v = (d : ℕ) × (d < 6) × (distance c (step v d) + 1 ≡ distance c v)

nearer_from_right : (c v : Node) → c.x <ℤ v.x → HasNearer c v
nearer_from_right c v right = by_lt_z v.y c.y
    (λ down. by_lt_z (v.x +ℤ v.y) (c.x +ℤ c.y) (λ below. (1, omega arith, omega (arith, ints))) (λ above. (2, omega arith, omega (arith, ints))))
    (λ up. (3, omega arith, omega (arith, ints)))

nearer_from_left : (c v : Node) → v.x ≤ℤ c.x → 0 < distance c v → HasNearer c v
nearer_from_left c v left away = by_lt_z c.y v.y
    (λ up. by_lt_z (c.x +ℤ c.y) (v.x +ℤ v.y) (λ above. (4, omega arith, omega (arith, ints))) (λ below. (5, omega arith, omega (arith, ints))))
    (λ down. by_lt_z v.x c.x (λ is_left. (0, omega arith, omega (arith, ints))) (λ straight. (1, omega arith, omega (arith, ints))))

has_nearer : (c v : Node) → 0 < distance c v → HasNearer c v
has_nearer c v away = by_lt_z c.x v.x (nearer_from_right c v) (λ left. nearer_from_left c v left away)

at_centre : (c v : Node) → distance c v ≡ 0 → v ≡ c
at_centre c v e = same_node v c (omega (arith, ints)) (omega (arith, ints))

-- so a path leads to the centre
inward : (S : Node → Bool) (c : Node) (r : ℕ) → IsHexagonAt S c r → (n : ℕ) (v : Node) → distance c v ≡ n → n ≤ r → IsTrue (S v) → Joined S v c
inward S c r h zero v e most on = subst (λ (u : Node). Joined S v u) (at_centre c v e) (here on)
inward S c r h (suc n) v e most on =
    let (d, six, near) = has_nearer c v (omega arith) in
    let at : distance c (step v d) ≡ n = omega arith in
    along on (d, six, refl) (inward S c r h n (step v d) at (omega arith) (h.inside (step v d) (omega arith)))

pub hexagons_are_connected : HexagonsAreConnected
hexagons_are_connected S c r h a b sa sb =
    let path = λ (v : Node) (on : IsTrue (S v)). inward S c r h (distance c v) v refl (h.outside v on) on in
    Joined-trans S (path a sa) (Joined-sym S (path b sb))

-- the only amoebot has each id
only : (w : Config) (b o : Bot) (i : ℕ) → w.bots ≡ Some b ∷ [] → bot_at w i ≡ Some o → o ≡ b
only w b o i one at =
    let below = id_below w i o at in
    let long = ap length one in
    let zero_is : i ≡ 0 = omega arith in
    same_Some _ _ (sym at ∙ ap (bot_at w) zero_is ∙ ap (λ (bs : List (Option Bot)). get_or bs 0 None) one)

pub one_alone_is_hexagon : OneAloneIsHexagon
one_alone_is_hexagon w b valid one contracted =
    let c = b.head in
    let on = head_occupied w valid 0 b (ap (λ (bs : List (Option Bot)). get_or bs 0 None) one) in
    let here_only = each_occupied w valid (λ v. v ≡ c) (λ i o lt at. let same = only w b o i one at in (ap (λ (x : Bot). x.head) same, ap (λ (x : Bot). x.tail) same ∙ sym contracted)) in
    let none_away : distance c c ≡ 0 = omega (arith, ints) in
    let long = ap length one in
    record {
      some = omega arith;
      contracted = λ i o at. let same = only w b o i one at in ap (λ (x : Bot). x.head) same ∙ contracted ∙ sym (ap (λ (x : Bot). x.tail) same);
      centre = c;
      radius = 1;
      shape = record {
        some = omega arith;
        inside = λ v near. subst (λ (u : Node). IsTrue (occupied w u)) (sym (at_centre c v (omega arith))) on;
        outside = λ v t. let e = ap (distance c) (here_only v t) in omega arith;
        last = none_is_arc (λ k. occupied w (ring_node c 1 k)) (6 * 1) (omega arith) (λ k lt. false_from_ne_true _ (λ t.
            let e = ap (distance c) (here_only _ t) in
            let far = far_of_place c (ring_node c 1 k) 1 k (omega arith) lt refl in
            omega arith));
      };
    }
