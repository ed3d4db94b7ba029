use Rattle.std.proofs.lemmas.Result.{on_ok_weaker}
use Rattle.action_print.proofs.ProgramsRead.{canon_reads_back}
use Rattle.action_print.proofs.program.put_program.Goals as goal

pub returns-clause-reads_back : goal.returns-clause-reads_back
returns-clause-reads_back c = on_ok_weaker c.close_section.result (λ end. canon_reads_back c.args.program.now c.actions.ensures.writable) c.close_section.ensures
