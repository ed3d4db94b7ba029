use Rattle.action_eval.proofs.SharedRunner.{runner_sync}
use Rattle.election_law.proofs.Elected.{step_keeps}
use Rattle.election_law.proofs.election.Election.step_in.Goals as goal

pub make_step_in-requires-sync-D : goal.make_step_in-requires-sync-D
make_step_in-requires-sync-D g c κs outlives = record { shared = runner_sync.shared }

pub invariant_of-self-2 : goal.invariant_of-self-2
invariant_of-self-2 g c =
    let was = c.self.invariant in
    let by = c.if-not-make_step_in.ensures.step in
    (was.0, step_keeps c.self.inside.runner c.self.inside.world by.source c.make_step_in.new.world was.0 was.1 by.holds)
