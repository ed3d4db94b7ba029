use Rattle.text_tokens.proofs.ExactReaders.{tells_of, reads_of}
use Rattle.std.proofs.Common.{ℕ, List}
use Rattle.schedule_text.specs.Schedules.{IsSchedule}
use Rattle.schedule_text.specs.Readers.{a_schedule}
use Rattle.schedule_text.proofs.ScheduleLaws.{exact_schedule}
use Rattle.schedule_text.proofs.schedule.read_schedule.Goals as goal

pub returns-clause-tells : goal.returns-clause-tells
returns-clause-tells c = tells_of (IsSchedule c.args.callers) (λ (a : List ℕ). a) (a_schedule c.args.callers) (exact_schedule c.args.callers) c.args.tokens.now c.read_whole.result c.read_whole.new.tokens c.read_whole.ensures.reads

pub returns-clause-reads : goal.returns-clause-reads
returns-clause-reads c = reads_of (IsSchedule c.args.callers) (λ (a : List ℕ). a) (a_schedule c.args.callers) (exact_schedule c.args.callers) c.args.tokens.now c.read_whole.result c.read_whole.new.tokens c.read_whole.ensures.reads
