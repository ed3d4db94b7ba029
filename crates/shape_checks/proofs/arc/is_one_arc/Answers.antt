use Rattle.std.proofs.Common.{Bool, refl, sym, subst, ◌+◌}
use Rattle.std.proofs.lemmas.Bool.{false≢true}
use Rattle.shape_checks.proofs.Circles.{IsRun, run_true, run_false, run_is_arc, no_arc}
use Rattle.shape_checks.proofs.arc.is_one_arc.Goals as goal
use Rattle.shape_checks.proofs.arc.is_one_arc.Goals.{then-circle-from+else-over, else-circle-from}

pub returns-then-over : goal.returns-then-over
returns-then-over c = (
  λ e. absurd (false≢true e),
  λ arc. absurd (no_arc c.args.circle.now c.args.from c.loop-j.over c.loop-j.j c.requires.start c.loop-j.invariant c.if-over.true c.loop-j-test.true c.if-circle-from.true arc),
)

pub loop-j-preserved : goal.loop-j-preserved
loop-j-preserved c =
    let P : Bool → Type 0 = λ o. IsRun c.args.circle.now c.args.from o (c.loop-j.j + 1) in
    elim c.if-circle-from.branch [
      | then-circle-from+else-over w ↦ subst P (sym w.over-is) (run_true c.args.circle.now c.args.from c.loop-j.over c.loop-j.j c.loop-j.invariant w.if-over.false w.if-circle-from.true)
      | else-circle-from w ↦ subst P (sym w.over-is) (run_false c.args.circle.now c.args.from c.loop-j.over c.loop-j.j c.loop-j.invariant w.if-circle-from.false)
    ]

pub returns : goal.returns
returns c = (λ _. run_is_arc c.args.circle.now c.args.from c.loop-j.over c.loop-j.j c.loop-j.invariant c.requires.start.below c.loop-j-test.false, λ _. refl)
