-- The tree of a program's parts.
use Rattle.action_tree.specs.Trees as tree
use Rattle.action_tree.specs.Views.{program_of}
use Rattle.action_parser.specs.declared.program.Parts.{Parts}

abbrev pub parts_of : Parts → tree.Program
parts_of p = program_of p.guard p.vars.items p.actions.items
