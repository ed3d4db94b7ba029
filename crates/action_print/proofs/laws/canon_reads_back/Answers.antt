use Rattle.action_print.proofs.ProgramsRead.{canon_reads_back, canon_is_read}
use Rattle.action_print.proofs.laws.canon_reads_back.Goals as goal

pub returns-clause-text : goal.returns-clause-text
returns-clause-text c = canon_reads_back

pub returns-clause-reader : goal.returns-clause-reader
returns-clause-reader c = canon_is_read
