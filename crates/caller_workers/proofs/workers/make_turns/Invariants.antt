use Rattle.caller_workers.specs.WorkerStates.{HasMade}
use Rattle.caller_workers.proofs.workers.make_turns.Given as goal

abbrev pub invariant-loop-turn : goal.invariant-loop-turn
invariant-loop-turn g l = HasMade g.D.Decider.verdict g.T.TurnMaker.token g.T.TurnMaker.told (g.T.TurnMaker.field l.turning) l.caller l.turn l.own
