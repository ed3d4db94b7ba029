use Rattle.std.proofs.Common.{◌≡◌, length, map, take}
use Rattle.amoebot_state.specs.Steps.{Run}
use Rattle.document_answers.proofs.renew.follow_all.Given as goal

abbrev pub invariant-loop-place : goal.invariant-loop-place
invariant-loop-place g l = record {
  tells : map g.E.EntryForm.form l.followed.items ≡ take l.place l.entries;
  run : Run (g.D.Decider.verdict l.decider) l.fn.start l.followed.items l.serial;
  size : length l.serial.bots ≡ length l.fn.start.bots;
}
