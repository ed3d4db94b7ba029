use Rattle.std.proofs.Common.{refl}
use Rattle.amoebot_run.proofs.Endings.{is_written, is_cut}
use Rattle.amoebot_run.proofs.ended.end_with_answer.Goals as goal

pub returns-in-Ok : goal.returns-in-Ok
returns-in-Ok g c = is_written g.K.Sink _ _ _ _ _ _ _ c.bytes.ensures c.in-Ok.ensures.all refl

pub returns-in-Err : goal.returns-in-Err
returns-in-Err g c = is_cut g.K.Sink _ _ _ _ _ _ _ c.bytes.ensures (c.in-Err.ensures.fault, c.in-Err.ensures.front) c.end_with.ensures
