use Rattle.std.proofs.Common.{refl}
use Rattle.amoebot_run.proofs.Parts.{told_by, untold_by}
use Rattle.amoebot_run.proofs.finish.finish.Goals as goal

pub returns-in-Journal : goal.returns-in-Journal
returns-in-Journal g c = told_by _ _ _ _ _ c.in-Ok.answer _ c.in-Journal.is c.in-Ok.ensures c.end_with_answer.ensures

pub returns-in-Tickets : goal.returns-in-Tickets
returns-in-Tickets g c = told_by _ _ _ _ _ c.in-Ok.answer _ c.in-Tickets.is c.in-Ok.ensures c.end_with_answer-in-Tickets.ensures

pub returns-in-Err : goal.returns-in-Err
returns-in-Err g c = untold_by _ _ _ refl c.end_with.ensures
