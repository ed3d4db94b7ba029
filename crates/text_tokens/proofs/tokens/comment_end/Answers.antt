use Rattle.std.proofs.Common.{◌+◌, arith, add_assoc, sym, ◌∙◌}
use Rattle.text_tokens.proofs.ScanLemmas.{inside_at, outside_at, outside_end}
use Rattle.text_tokens.proofs.tokens.comment_end.Goals as goal

pub loop-at-preserved : goal.loop-at-preserved
loop-at-preserved c = record {
  rest = λ start line. rw (← add_assoc start c.loop-at.at 1) (sym (inside_at (start + c.loop-at.at) line c.args.bytes.now c.loop-at.at c.loop-at-test.true c.if-bytes-at-ne10.true) ∙ c.loop-at.invariant.rest start line);
  behind = omega arith;
  within = omega arith;
}

pub returns-else-bytes-at-ne10-clause-skipped : goal.returns-else-bytes-at-ne10-clause-skipped
returns-else-bytes-at-ne10-clause-skipped c = λ at line. sym (c.loop-at.invariant.rest at line) ∙ outside_at (at + c.loop-at.at) line c.args.bytes.now c.loop-at.at c.loop-at-test.true c.if-bytes-at-ne10.false

pub returns-after-loop-at-clause-skipped : goal.returns-after-loop-at-clause-skipped
returns-after-loop-at-clause-skipped c = λ at line. sym (c.loop-at.invariant.rest at line) ∙ outside_end (at + c.loop-at.at) line c.args.bytes.now c.loop-at.at c.loop-at-test.false
