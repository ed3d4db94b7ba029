use Rattle.std.proofs.Common.{◌≡◌, sym, subst}
use Rattle.std.specs.List.{All}
use Rattle.claim_core.specs.declared.machine.CoreCaller.{CoreCaller}
use Rattle.claim_core.specs.declared.state.Phase.TheVariants as phase
use Rattle.claim_core.specs.Reached.{HaveEnded}
use Rattle.claim_core.proofs.Seats.{seats_ended, callers_ended}
use Rattle.claim_core.proofs.machine.Core.ended.Goals as goal

pub returns : goal.returns
returns g c = (
  λ t. subst (λ r. HaveEnded r.state) c.self.view_is (seats_ended c.self.inside.seats.items c.self.inside.marks.marks c.self.invariant.each (subst (All (λ (s : CoreCaller). s.phase ≡ phase.Ended)) c.as_slice.ensures.value (c.have_ended.ensures.0 t))),
  λ all. c.have_ended.ensures.1 (subst (All (λ (s : CoreCaller). s.phase ≡ phase.Ended)) (sym c.as_slice.ensures.value) (callers_ended c.self.inside.seats.items c.self.inside.marks.marks c.self.invariant.each (subst (λ r. HaveEnded r.state) (sym c.self.view_is) all))),
)
