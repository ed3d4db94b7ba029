use Rattle.std.proofs.Common.{[], map}
use Rattle.action_tree.specs.Places.{action_placed}
use Rattle.action_tree.specs.Scopes.{names_of_vars}
use Rattle.action_tree.specs.Views.{var_of, action_of}
use Rattle.action_tree.proofs.PlacesLemmas.{IsPassed}
use Rattle.action_tree.proofs.placed_actions.place_actions.Given as goal

abbrev pub invariant-loop-action : goal.invariant-loop-action
invariant-loop-action l = IsPassed action_of action_placed (record { vars = names_of_vars (map var_of l.vars); bound = [] }) l.fn.actions l.actions l.action-index
