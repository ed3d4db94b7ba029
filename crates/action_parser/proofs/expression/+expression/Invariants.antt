use Rattle.std.proofs.Common.{◌+◌, ◌*◌, ◌≤◌, length, map}
use Rattle.text_tokens.proofs.LoopLemmas.{StillReads}
use Rattle.action_tree.specs.Views.{guard_of, part_of}
use Rattle.action_parser.proofs.Lists.{more_units, more_conjs, more_parts, all_units, all_conjs, all_parts}
use Rattle.action_parser.proofs.expression.+expression.Given as goal

-- by levels, and on one level by which function calls which
abbrev pub decreases-read_selection : goal.decreases-read_selection
decreases-read_selection l = 10 * l.levels

abbrev pub decreases-read_port : goal.decreases-read_port
decreases-read_port l = 10 * l.levels + 1

abbrev pub decreases-read_term : goal.decreases-read_term
decreases-read_term l = 10 * l.levels + 2

abbrev pub decreases-more_part : goal.decreases-more_part
decreases-more_part l = 10 * l.levels + 3

abbrev pub decreases-read_sum : goal.decreases-read_sum
decreases-read_sum l = 10 * l.levels + 4

abbrev pub decreases-read_unit : goal.decreases-read_unit
decreases-read_unit l = 10 * l.levels + 5

abbrev pub decreases-more_unit : goal.decreases-more_unit
decreases-more_unit l = 10 * l.levels + 6

abbrev pub decreases-read_conj : goal.decreases-read_conj
decreases-read_conj l = 10 * l.levels + 7

abbrev pub decreases-more_conj : goal.decreases-more_conj
decreases-more_conj l = 10 * l.levels + 8

abbrev pub decreases-read_guard : goal.decreases-read_guard
decreases-read_guard l = 10 * l.levels + 9

abbrev pub invariant-read_conj-loop-found : goal.invariant-read_conj-loop-found
invariant-read_conj-loop-found l = record {
  reads : StillReads (all_units l.levels l.names) l.fn.tokens (map guard_of l.found.items) (more_units l.levels l.names l.room) l.tokens;
  two : 2 ≤ length l.found.items;
}

abbrev pub decreases-read_conj-loop-found : goal.decreases-read_conj-loop-found
decreases-read_conj-loop-found l = l.room

abbrev pub invariant-read_guard-loop-found : goal.invariant-read_guard-loop-found
invariant-read_guard-loop-found l = record {
  reads : StillReads (all_conjs l.levels l.names) l.fn.tokens (map guard_of l.found.items) (more_conjs l.levels l.names l.room) l.tokens;
  two : 2 ≤ length l.found.items;
}

abbrev pub decreases-read_guard-loop-found : goal.decreases-read_guard-loop-found
decreases-read_guard-loop-found l = l.room

abbrev pub invariant-read_sum-loop-parts : goal.invariant-read_sum-loop-parts
invariant-read_sum-loop-parts l = StillReads (all_parts l.levels l.names) l.fn.tokens (map part_of l.parts.items) (more_parts l.levels l.names l.room) l.tokens

abbrev pub decreases-read_sum-loop-parts : goal.decreases-read_sum-loop-parts
decreases-read_sum-loop-parts l = l.room
