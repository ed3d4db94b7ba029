use Rattle.std.proofs.Common.{◌≡◌, ◌++◌, take, map, flat_map}
use Rattle.text_tokens.specs.Lines.{spaced}
use Rattle.journal_text.specs.Texts.{change_words, change_by}
use Rattle.journal_text.proofs.printed.put_changes.Given as goal

abbrev pub invariant-loop-name : goal.invariant-loop-name
invariant-loop-name l = l.lines ≡ l.fn.lines ++ spaced (flat_map (change_words l.vars) (map (change_by l.old) (take l.name-index l.changes)))
