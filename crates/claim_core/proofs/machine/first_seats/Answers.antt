use Rattle.std.proofs.Common.{◌∷◌, [], List, ap, length, sym, subst, arith, length-append}
use Rattle.std.specs.List.{All}
use Rattle.std.proofs.lemmas.List.Elements.{All-push}
use Rattle.claim_core.specs.declared.machine.CoreCaller.{CoreCaller}
use Rattle.claim_core.specs.Cores.{Begins}
use Rattle.claim_core.proofs.machine.first_seats.Goals as goal

pub loop-caller-preserved : goal.loop-caller-preserved
loop-caller-preserved c =
    let seats = c.loop-caller.seats in
    let more = c.in_ok-push.ensures.items in (
      omega (arith, ap (λ (ss : List CoreCaller). length ss) more, length-append seats.items (c.at.result ∷ []), c.push.new.self.ok.0, seats.ok.0, c.loop-caller.invariant.0),
      subst (All (Begins c.args.turns 0)) (sym more) (All-push (Begins c.args.turns 0) seats.items c.at.result c.loop-caller.invariant.1 c.at.ensures),
    )

pub returns-clause-many : goal.returns-clause-many
returns-clause-many c = omega (arith, c.loop-caller.invariant.0, c.loop-caller.seats.ok.0, c.loop-caller-test.false)

pub returns-clause-begin : goal.returns-clause-begin
returns-clause-begin c = c.loop-caller.invariant.1
