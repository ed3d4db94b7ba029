use Rattle.document_answers.proofs.Replays.{decided}
use Rattle.document_answers.proofs.replay.replay_is_decided.Goals as goal

pub returns : goal.returns
returns g c = decided g.met.E.EntryForm.is_form c.run_has_only_steps.ensures c.plain_run_is_unique.ensures c.first_no_step_is_unique.ensures c.run_or_first_no_step.ensures
