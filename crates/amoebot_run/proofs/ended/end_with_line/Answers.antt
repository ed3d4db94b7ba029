use Rattle.amoebot_run.proofs.Endings.{is_written, is_cut}
use Rattle.amoebot_run.proofs.ended.end_with_line.Goals as goal

pub returns-in-Ok-clause-written : goal.returns-in-Ok-clause-written
returns-in-Ok-clause-written g c = is_written g.K.Sink _ _ _ _ _ _ _ c.as_bytes.ensures.value c.in-Ok.ensures.all c.end_with.ensures

pub returns-in-Err-clause-written : goal.returns-in-Err-clause-written
returns-in-Err-clause-written g c = is_cut g.K.Sink _ _ _ _ _ _ _ c.as_bytes.ensures.value (c.in-Err.ensures.fault, c.in-Err.ensures.front) c.end_with-in-Err.ensures
