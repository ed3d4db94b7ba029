-- The measures of small shapes.
use Rattle.std.proofs.Common.{◌≡◌, ◌<◌, ℕ, true, false, refl, ◌∙◌, ap, subst, inl, inr, arith}
use Rattle.std.proofs.lemmas.Bool.{false≢true, both_ways, cases_Bool}
use Rattle.std.specs.Prelude.{IsTrue, codes}
use Rattle.std.specs.Fmt.{digits}
use Rattle.tri_lattice.specs.declared.node.Node.{Node}
use Rattle.tri_lattice.specs.Lattice.{step, node_eq}
use Rattle.tri_lattice.specs.Sets.{IsConnected, Joined, here, along}
use Rattle.tri_lattice.proofs.Nodes.{node_eq-true, each_direction}
use Rattle.tri_lattice.proofs.Paths.{Joined-first, Joined-trans, Joined-sym}
use Rattle.amoebot_state.specs.Configs.{IsValid}
use Rattle.amoebot_state.specs.Occupied.{occupied}
use Rattle.amoebot_state.proofs.Faults.{frame_valid, valid_one}
use Rattle.amoebot_state.proofs.Occupants.{in_range_of}
use Rattle.shape_checks.specs.Hexagons.{IsHexagon}
use Rattle.shape_checks.specs.Laws.{HexagonsAreConnected, OneAloneIsHexagon}
use Rattle.small_worlds.specs.Rows.{row_area, row_frame, node, bot_in_row}
use Rattle.small_worlds.proofs.Rows.{is_area}
use Rattle.document_answers.specs.Measure.{IsMeasureText}
use Rattle.commands.specs.WorkExamples.{second_spread, nobody, one_alone, two_apart}

pub nobody_is_measured : IsMeasureText nobody (codes "bots 0\nconnected yes\nhexagon no\n")
unfolding digits
nobody_is_measured = record {
  connected = true;
  hexagon = false;
  is_connected = ((λ e a b one other. absurd (false≢true one)), λ c. refl);
  is_hexagon = ((λ e. absurd (false≢true e)), λ h. let none : 0 < 0 = h.some in absurd (omega arith));
  whole = refl;
}

-- ---- one amoebot alone

one_valid : IsValid one_alone
one_valid = valid_one row_frame (frame_valid row_frame is_area refl) (bot_in_row 1 1) (in_range_of row_area is_area (bot_in_row 1 1) refl refl (omega arith) refl) refl

pub one_is_measured : HexagonsAreConnected → OneAloneIsHexagon → IsMeasureText one_alone (codes "bots 1\nconnected yes\nhexagon yes\n")
unfolding digits
one_is_measured connected one =
    let h : IsHexagon one_alone = one one_alone (bot_in_row 1 1) one_valid refl refl in
    record {
      connected = true;
      hexagon = true;
      is_connected = ((λ e. connected (occupied one_alone) h.centre h.radius h.shape), λ c. refl);
      is_hexagon = ((λ e. h), λ x. refl);
      whole = refl;
    }

-- ---- two with a node between them

no_neighbour : (d : ℕ) → d < 6 → occupied two_apart (step (node 0) d) ≡ false
no_neighbour = each_direction (λ (d : ℕ). occupied two_apart (step (node 0) d) ≡ false) refl refl refl refl refl refl

-- no path leads away from the first one's node
stays : {a b : Node} → Joined (occupied two_apart) a b → a ≡ node 0 → b ≡ node 0
stays (here t) e = e
stays (along {b = n} t (d, six, is) p) e = absurd (both_ways _ (ap (occupied two_apart) (is ∙ ap (λ (v : Node). step v d) e) ∙ no_neighbour d six) (Joined-first (occupied two_apart) p))

not_connected : IsConnected (occupied two_apart) → ⊥
not_connected connected = false≢true (ap (node_eq (node 0)) (stays (connected (node 0) (node 2) refl refl) refl))

pub two_are_measured : HexagonsAreConnected → IsMeasureText two_apart (codes "bots 2\nconnected no\nhexagon no\n")
unfolding digits
two_are_measured connected = record {
  connected = false;
  hexagon = false;
  is_connected = ((λ e. absurd (false≢true e)), λ c. absurd (not_connected c));
  is_hexagon = ((λ e. absurd (false≢true e)), λ h. absurd (not_connected (connected (occupied two_apart) h.centre h.radius h.shape)));
  whole = refl;
}

-- ---- two that fill the row

to_first : (v : Node) → IsTrue (occupied second_spread v) → Joined (occupied second_spread) v (node 0)
to_first v t = elim (cases_Bool (node_eq (node 0) v)) [
  | inl e ↦ subst (λ (x : Node). Joined (occupied second_spread) x (node 0)) (node_eq-true (node 0) v e) (here refl)
  | inr f ↦ elim (cases_Bool (node_eq (node 1) v)) [
    | inl e ↦ subst (λ (x : Node). Joined (occupied second_spread) x (node 0)) (node_eq-true (node 1) v e) (along refl (3, omega arith, refl) (here refl))
    | inr g ↦ elim (cases_Bool (node_eq (node 2) v)) [
      | inl e ↦ subst (λ (x : Node). Joined (occupied second_spread) x (node 0)) (node_eq-true (node 2) v e) (along refl (3, omega arith, refl) (along refl (3, omega arith, refl) (here refl)))
      | inr h ↦
          (let none : occupied second_spread v ≡ false = rw f (rw g (rw h refl)) in
          absurd (both_ways _ none t))
    ]
  ]
]

pub spread_is_connected : IsConnected (occupied second_spread)
spread_is_connected a b s t = Joined-trans (occupied second_spread) (to_first a s) (Joined-sym (occupied second_spread) (to_first b t))
