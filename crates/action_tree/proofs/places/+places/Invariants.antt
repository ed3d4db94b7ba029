use Rattle.action_tree.specs.Places.{guard_placed, part_placed}
use Rattle.action_tree.specs.PlacedScope.{placed_scope}
use Rattle.action_tree.specs.Views.{guard_of, part_of}
use Rattle.action_tree.proofs.PlacesLemmas.{IsPassed}
use Rattle.action_tree.proofs.places.+places.Given as goal

abbrev pub invariant-place_guards-loop-guard : goal.invariant-place_guards-loop-guard
invariant-place_guards-loop-guard l = record {
  unvisited : goal.unvisited-place_guards-loop-guard l;
  passed : IsPassed guard_of guard_placed (placed_scope l.scope) l.fn.guards l.guards l.guard-index;
}

abbrev pub invariant-place_parts-loop-part : goal.invariant-place_parts-loop-part
invariant-place_parts-loop-part l = record {
  unvisited : goal.unvisited-place_parts-loop-part l;
  passed : IsPassed part_of part_placed (placed_scope l.scope) l.fn.parts l.parts l.part-index;
}
