use Rattle.std.proofs.Common.{refl, subst, arith}
use Rattle.claim_core.specs.Cores.{IsCoreCaller}
use Rattle.claim_core.proofs.MachineLemmas.{there_in, there, its_seat}
use Rattle.claim_core.proofs.machine.Core.seat.Goals as goal

pub index-requires : goal.index-requires
index-requires g c =
    omega (arith, there_in c.self.invariant c.self.view_is refl c.requires, c.from.ensures, c.self.inside.seats.ok.0)

pub returns : goal.returns
returns g c =
    let seat = its_seat c.args.caller c.from.result c.index.result.now c.from.ensures (there_in c.self.invariant c.self.view_is refl c.requires) c.index.ensures in
    subst (λ r. IsCoreCaller r.state.callers c.args.caller c.index.result.now) c.self.view_is (_, there c.self.invariant seat)
