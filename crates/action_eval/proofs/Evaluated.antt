-- The lemmas by which the functions of a cycle evaluate a tree.
use Rattle.action_tree.proofs.Conditions.{right_of}
use Rattle.action_tree.proofs.Viewed.{guard_any, guard_all, term_count, port_first}
use Rattle.action_eval.proofs.Thens.{then_fails, then_goes}

pub ruleset value_steps = (then_fails, then_goes, guard_any, guard_all, term_count, port_first, right_of)
