use Rattle.std.proofs.Common.{◌≡◌, ◌++◌, take}
use Rattle.text_tokens.specs.Lines.{spaced}
use Rattle.action_tree.specs.Views.{stmts_of}
use Rattle.action_print.specs.Canon.{stmts_words}
use Rattle.action_print.proofs.statement.+statement.Given as goal

abbrev pub invariant-put_stmts-loop-place : goal.invariant-put_stmts-loop-place
invariant-put_stmts-loop-place l = l.lines ≡ l.fn.lines ++ spaced (stmts_words (stmts_of (take l.place l.stmts)))
