-- What a selection stands for.
use Rattle.action_tree.specs.Views.{name_of, guard_of}
use Rattle.action_tree.specs.Expressions as grammar
use Rattle.action_parser.specs.declared.selection.Selection.{Selection}

abbrev pub selection_of : Selection → grammar.Selection
selection_of c = record { name = name_of c.name; set = c.set; guard = guard_of c.guard.value }
