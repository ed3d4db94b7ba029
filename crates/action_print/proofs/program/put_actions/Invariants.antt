use Rattle.std.proofs.Common.{◌≡◌, ◌++◌, take, map}
use Rattle.std.specs.List.{flat_map}
use Rattle.text_tokens.specs.Lines.{lines_text}
use Rattle.action_tree.specs.Views.{action_of}
use Rattle.action_print.specs.Canon.{action_lines}
use Rattle.action_print.proofs.program.put_actions.Given as goal

abbrev pub invariant-loop-action : goal.invariant-loop-action
invariant-loop-action l = l.lines ≡ l.fn.lines ++ lines_text (flat_map action_lines (map action_of (take l.action-index l.actions)))
