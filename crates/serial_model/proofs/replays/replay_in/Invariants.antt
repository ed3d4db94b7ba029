use Rattle.std.proofs.Common.{◌≡◌, length, take}
use Rattle.serial_model.specs.Replays.{RunIn}
use Rattle.serial_model.proofs.replays.replay_in.Given as goal

abbrev pub invariant-loop-place : goal.invariant-loop-place
invariant-loop-place g l = record {
  run : RunIn g.E.EntryForm.form (g.D.Decider.verdict l.decider) l.fn.start (take l.place l.entries) l.world;
  size : length l.world.bots ≡ length l.fn.start.bots;
}
