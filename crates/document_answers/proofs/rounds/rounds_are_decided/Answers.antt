use Rattle.document_answers.proofs.RoundsDecided.{rounds_are_decided}
use Rattle.document_answers.proofs.rounds.rounds_are_decided.Goals as goal

pub returns : goal.returns
returns g c = rounds_are_decided g.met.E.EntryForm.is_form c.rounds_are_unique.ensures c.each_run_is_rounded.ensures c.plain_run_is_unique.ensures
