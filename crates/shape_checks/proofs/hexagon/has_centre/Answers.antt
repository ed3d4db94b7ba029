use Rattle.std.proofs.Common.{◌∙◌, ap, sym, subst, pos, arith, inl, inr, List}
use Rattle.std.specs.Prelude.{slice_index_or}
use Rattle.std.proofs.lemmas.Bool.{cases_eq, both_ways, false≢true}
use Rattle.std.proofs.lemmas.List.{get_or_default}
use Rattle.tri_lattice.specs.declared.node.Node.{Node}
use Rattle.amoebot_state.specs.Occupied.{occupied}
use Rattle.shape_checks.specs.Candidates.{IsCentral, candidates}
use Rattle.shape_checks.specs.Hexagons.{IsHexagonAt}
use Rattle.shape_checks.proofs.Centres.{candidates_central}
use Rattle.shape_checks.proofs.hexagon.has_centre.Goals as goal

abbrev origin : Node
origin = record { x = pos 0; y = pos 0 }

pub is_hexagon_at-requires-clause-central : goal.is_hexagon_at-requires-clause-central
is_hexagon_at-requires-clause-central c =
    subst (λ (vs : List Node). IsCentral (slice_index_or vs c.loop-centre.centre-index origin)) (sym c.candidates-centre-items.ensures)
    (candidates_central c.args.ends.now c.args.radius c.loop-centre.centre-index origin c.requires.central c.requires.few c.loop-centre-test.true)

pub loop-centre-preserved : goal.loop-centre-preserved
loop-centre-preserved c = λ k lt h. elim (cases_eq k c.loop-centre.centre-index) [
  | inl e ↦
      let at = ap (λ i. slice_index_or (candidates c.args.ends.now c.args.radius) i c.args.ends.now.left) e
      ∙ get_or_default (candidates c.args.ends.now c.args.radius) c.loop-centre.centre-index _ origin c.loop-centre-test.true
      ∙ ap (λ (vs : List Node). slice_index_or vs c.loop-centre.centre-index origin) (sym c.candidates-centre-items.ensures) in
      both_ways _ c.if-branch.false (c.in_ok-is_hexagon_at.ensures.1 (subst (λ (v : Node). IsHexagonAt (occupied c.args.world.now) v c.args.radius) at h))
  | inr ne ↦ c.loop-centre.invariant k (omega arith) h
]

pub returns : goal.returns
returns c = (λ e. absurd (false≢true e), λ (k, lt, h). absurd (c.loop-centre.invariant k (omega arith) h))
