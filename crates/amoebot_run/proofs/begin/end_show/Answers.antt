use Rattle.std.proofs.Common.{None, refl}
use Rattle.commands.specs.Reads.{nothing}
use Rattle.amoebot_run.proofs.Endings.{ending_of, without}
use Rattle.amoebot_run.proofs.WorkingLemmas.{show_none, turns_of, without_turns}
use Rattle.amoebot_run.proofs.begin.end_show.Goals as goal

pub returns-in_default-clause-ending : goal.returns-in_default-clause-ending
returns-in_default-clause-ending g c = without nothing _ c.end_with.ensures refl tt refl

pub returns-in_default-clause-turns : goal.returns-in_default-clause-turns
returns-in_default-clause-turns g c = (without_turns _ _ c.end_with.ensures).turns_there

pub returns-in_default-clause-tickets : goal.returns-in_default-clause-tickets
returns-in_default-clause-tickets g c = (without_turns _ _ c.end_with.ensures).tickets_there

pub returns-clause-ending : goal.returns-clause-ending
returns-clause-ending g c = ending_of nothing c.in-Ok.answer.status c.in-Ok.answer.report None None c.in-Ok.answer.text _ refl c.in-Ok.ensures c.end_with_answer.ensures

pub returns-clause-turns : goal.returns-clause-turns
returns-clause-turns g c = (turns_of _ c.in-Ok.answer.status c.in-Ok.answer.report None None c.in-Ok.answer.text _ (show_none _ c.in-Ok.answer.status c.in-Ok.answer.report) c.end_with_answer.ensures).turns_there

pub returns-clause-tickets : goal.returns-clause-tickets
returns-clause-tickets g c = (turns_of _ c.in-Ok.answer.status c.in-Ok.answer.report None None c.in-Ok.answer.text _ (show_none _ c.in-Ok.answer.status c.in-Ok.answer.report) c.end_with_answer.ensures).tickets_there
