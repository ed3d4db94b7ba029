use Rattle.std.proofs.lemmas.Result.{IfOk-weaker}
use Rattle.commands.proofs.ElectLemmas.{of_steps}
use Rattle.commands.proofs.elect.elect.Goals as goal

pub returns : goal.returns
returns g c =
    let steps = c.make_steps-made.ensures in
    IfOk-weaker _ _ _ (λ answer is. of_steps g.E.EntryForm.form c.args.election.program c.args.election.world c.args.entries.now c.args.last.now answer c.make_steps-made.result _ steps.agrees steps.reached steps.differs is) c.tell_election.ensures
