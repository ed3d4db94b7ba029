use Rattle.std.proofs.Common.{◌≡◌, length}
use Rattle.document_answers.proofs.ToldEntries.{MeteredIn}
use Rattle.document_answers.proofs.rounds.count_rounds.Given as goal

abbrev pub invariant-loop-told : goal.invariant-loop-told
invariant-loop-told g l = record {
  metered : MeteredIn g.E.EntryForm.form l.fn.entries (g.D.Decider.verdict l.fn.decider) l.fn.start l.told-index l.meter.state;
  decider : l.meter.decider ≡ l.fn.decider;
  size : length l.meter.state.world.bots ≡ length l.fn.start.bots;
}
