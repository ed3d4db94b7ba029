use Rattle.std.proofs.Common.{◌≡◌, length, take}
use Rattle.serial_model.specs.Replays.{RunIn}
use Rattle.action_meaning.specs.Verdicts.{verdict_shown}
use Rattle.commands.proofs.elect.make_steps.Given as goal

abbrev pub invariant-loop-told : goal.invariant-loop-told
invariant-loop-told g l = record {
  run : RunIn g.E.EntryForm.form (verdict_shown l.fn.election.program) l.fn.election.world (take l.told-index l.entries) l.election.world;
  steps : l.election.steps ≡ l.told-index;
  program : l.election.program ≡ l.fn.election.program;
  size : length l.election.world.bots ≡ length l.fn.election.world.bots;
}
