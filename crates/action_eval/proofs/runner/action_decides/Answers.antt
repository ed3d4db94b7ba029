use Rattle.action_tree.proofs.Conditions.{left_of, right_of}
use Rattle.action_eval.proofs.runner.action_decides.Goals as goal

pub run_action-requires-clause-body_counted : goal.run_action-requires-clause-body_counted
run_action-requires-clause-body_counted c = right_of _ _ (left_of _ _ (left_of _ _ (left_of _ _ c.requires.counted)))

pub run_action-requires-clause-moved_counted : goal.run_action-requires-clause-moved_counted
run_action-requires-clause-moved_counted c = right_of _ _ (left_of _ _ (left_of _ _ c.requires.counted))

pub run_action-requires-clause-body_placed : goal.run_action-requires-clause-body_placed
run_action-requires-clause-body_placed c = left_of _ _ (right_of _ _ c.requires.placed)

pub run_action-requires-clause-moved_placed : goal.run_action-requires-clause-moved_placed
run_action-requires-clause-moved_placed c = right_of _ _ (right_of _ _ c.requires.placed)
