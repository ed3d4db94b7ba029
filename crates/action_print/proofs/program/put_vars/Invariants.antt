use Rattle.std.proofs.Common.{◌≡◌, ◌++◌, take, map}
use Rattle.text_tokens.specs.Lines.{lines_text}
use Rattle.action_tree.specs.Views.{var_of}
use Rattle.action_print.specs.Canon.{var_line}
use Rattle.action_print.proofs.program.put_vars.Given as goal

abbrev pub invariant-loop-var : goal.invariant-loop-var
invariant-loop-var l = l.lines ≡ l.fn.lines ++ lines_text (map var_line (map var_of (take l.var-index l.vars)))
