-- What the canonical text of a program means.
use Rattle.std.proofs.Common.{sym}
use Rattle.action_print.proofs.ProgramsRead.{canon_reads_back}
use Rattle.action_check.proofs.Lineless.{rules_ignore_lines}
use Rattle.action_meaning.proofs.Lineless.{verdict_ignores_lines}
use Rattle.document_answers.specs.AnswerLaws.{CanonMeansTheSame}

pub canon_means_the_same : CanonMeansTheSame
canon_means_the_same p ts last writable kept are =
    let read = canon_reads_back p writable ts last are in
    (read, rules_ignore_lines p read.program (sym read.same) kept, verdict_ignores_lines read.program p read.same)
