use Rattle.std.proofs.Common.{◌≡◌, ◌++◌, take}
use Rattle.claim_core.specs.Turns.{marks_of}
use Rattle.text_tokens.specs.Lines.{lines_text}
use Rattle.journal_text.specs.Texts.{caller_lines}
use Rattle.journal_text.proofs.printed.put_caller.Given as goal

abbrev pub invariant-loop-turn : goal.invariant-loop-turn
invariant-loop-turn l = l.lines ≡ l.fn.lines ++ lines_text (caller_lines (l.caller, take l.turn (marks_of l.marks l.caller)))
