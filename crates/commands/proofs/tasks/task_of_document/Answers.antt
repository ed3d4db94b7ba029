use Rattle.std.proofs.Common.{refl, sym, subst}
use Rattle.shape_files.specs.Views.{contents}
use Rattle.commands.specs.declared.tasks.Task.TheVariants as task
use Rattle.commands.specs.declared.words.DocumentCommand.{DocumentCommand}
use Rattle.commands.specs.Tasks.{IsTaskTo}
use Rattle.commands.specs.declared.words.DocumentCommand.TheVariants.{Interleave, Replay, Check, Measure, Renew, Rewind, Rounds, Elect}
use Rattle.commands.proofs.OwedTexts.{serves}
use Rattle.commands.proofs.tasks.task_of_document.Goals as goal

pub returns-in-Run : goal.returns-in-Run
returns-in-Run c = subst (λ (d : DocumentCommand). IsTaskTo d (contents c.args.parts) (task.Run c.prepare.result)) (sym c.in-Run.is) c.prepare.ensures

pub returns-in-Tickets : goal.returns-in-Tickets
returns-in-Tickets c = subst (λ (d : DocumentCommand). IsTaskTo d (contents c.args.parts) (task.Run c.prepare_tickets.result)) (sym c.in-Tickets.is) c.prepare_tickets.ensures

pub returns-in_ok-answer_interleave-in-Interleave : goal.returns-in_ok-answer_interleave-in-Interleave
returns-in_ok-answer_interleave-in-Interleave c = serves Interleave _ _ c.in_ok-answer_interleave-in-Interleave.field-0 c.in-Interleave.is refl c.in_ok-answer_interleave-in-Interleave.ensures

pub returns-in_ok-answer_replay-in-Replay : goal.returns-in_ok-answer_replay-in-Replay
returns-in_ok-answer_replay-in-Replay c = serves Replay _ _ c.in_ok-answer_replay-in-Replay.field-0 c.in-Replay.is refl c.in_ok-answer_replay-in-Replay.ensures

pub returns-in_ok-answer_check-in-Check : goal.returns-in_ok-answer_check-in-Check
returns-in_ok-answer_check-in-Check c = serves Check _ _ c.in_ok-answer_check-in-Check.field-0 c.in-Check.is refl c.in_ok-answer_check-in-Check.ensures

pub returns-in_ok-answer_measure-in-Measure : goal.returns-in_ok-answer_measure-in-Measure
returns-in_ok-answer_measure-in-Measure c = serves Measure _ _ c.in_ok-answer_measure-in-Measure.field-0 c.in-Measure.is refl c.in_ok-answer_measure-in-Measure.ensures

pub returns-in_ok-answer_renew-in-Renew : goal.returns-in_ok-answer_renew-in-Renew
returns-in_ok-answer_renew-in-Renew c = serves Renew _ _ c.in_ok-answer_renew-in-Renew.field-0 c.in-Renew.is refl c.in_ok-answer_renew-in-Renew.ensures

pub returns-in_ok-answer_rewind-in-Rewind : goal.returns-in_ok-answer_rewind-in-Rewind
returns-in_ok-answer_rewind-in-Rewind c = serves (Rewind c.in-Rewind.place) _ _ c.in_ok-answer_rewind-in-Rewind.field-0 c.in-Rewind.is refl c.in_ok-answer_rewind-in-Rewind.ensures

pub returns-in_ok-answer_rounds-in-Rounds : goal.returns-in_ok-answer_rounds-in-Rounds
returns-in_ok-answer_rounds-in-Rounds c = serves Rounds _ _ c.in_ok-answer_rounds-in-Rounds.field-0 c.in-Rounds.is refl c.in_ok-answer_rounds-in-Rounds.ensures

pub returns-in_ok-answer_elect-in-Elect : goal.returns-in_ok-answer_elect-in-Elect
returns-in_ok-answer_elect-in-Elect c = serves Elect _ _ c.in_ok-answer_elect-in-Elect.field-0 c.in-Elect.is refl c.in_ok-answer_elect-in-Elect.ensures
