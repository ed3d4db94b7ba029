use Rattle.std.proofs.Common.{◌≡◌, ◌++◌, map, take}
use Rattle.text_tokens.specs.Lines.{lines_text}
use Rattle.journal_text.specs.Texts.{written_lines, written_by}
use Rattle.journal_text.proofs.printed.put_entries.Given as goal

abbrev pub invariant-loop-place : goal.invariant-loop-place
invariant-loop-place l = l.lines ≡ l.fn.lines ++ lines_text (written_lines l.vars (map (written_by l.old) (take l.place l.entries)))
