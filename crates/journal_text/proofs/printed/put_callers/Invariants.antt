use Rattle.std.proofs.Common.{◌≡◌, ◌++◌, take, flat_map}
use Rattle.std.specs.List.{enumerate_from}
use Rattle.text_tokens.specs.Lines.{lines_text}
use Rattle.journal_text.specs.Texts.{caller_lines}
use Rattle.journal_text.proofs.printed.put_callers.Given as goal

abbrev pub invariant-loop-caller : goal.invariant-loop-caller
invariant-loop-caller l = l.lines ≡ l.fn.lines ++ lines_text (flat_map caller_lines (enumerate_from 0 (take l.caller l.marks.marks)))
