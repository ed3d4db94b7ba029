use Rattle.std.proofs.Common.{◌<◌, [], length, arith}
use Rattle.std.proofs.lemmas.Option.{slice_get-get_or}
use Rattle.claim_core.specs.Turns.{marks_of}
use Rattle.journal_text.specs.Texts.{caller_lines}
use Rattle.text_tokens.proofs.LineLemmas.{lines_more}
use Rattle.text_tokens.proofs.NextLines.{lines_next}
use Rattle.journal_text.proofs.printed.put_callers.Goals as goal

pub loop-caller-preserved : goal.loop-caller-preserved
loop-caller-preserved c =
    let inside : c.loop-caller.caller < length c.args.marks.now.marks = omega arith in
    let marks = marks_of c.args.marks.now c.loop-caller.caller in
    lines_more _ _ _ _ (caller_lines (c.loop-caller.caller, marks)) _ c.loop-caller.invariant c.in_ok-put_caller.ensures (lines_next caller_lines c.args.marks.now.marks c.loop-caller.caller marks (slice_get-get_or _ _ [] inside))
