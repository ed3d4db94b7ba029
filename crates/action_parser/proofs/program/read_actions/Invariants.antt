use Rattle.std.proofs.Common.{map}
use Rattle.text_tokens.specs.Reading.{no_limit, limited, less, repeated, at_most}
use Rattle.text_tokens.proofs.LoopLemmas.{StillReads}
use Rattle.action_tree.specs.Limits.{most_levels, most_names, most_actions}
use Rattle.action_tree.specs.Views.{action_of}
use Rattle.action_tree.specs.declared.role.Role.TheVariants.{ActionWord}
use Rattle.action_tree.specs.Roles.{is_a}
use Rattle.action_tree.specs.ProgramReaders.{an_action}
use Rattle.action_parser.proofs.program.read_actions.Given as goal

abbrev pub invariant-loop-found : goal.invariant-loop-found
invariant-loop-found l = StillReads (at_most (is_a ActionWord) no_limit most_actions (an_action most_levels most_names)) l.fn.tokens (map action_of l.found.items) (repeated (is_a ActionWord) (λ room. limited (is_a ActionWord) no_limit room (an_action most_levels most_names)) (λ room a. less room) l.room) l.tokens

abbrev pub decreases-loop-found : goal.decreases-loop-found
decreases-loop-found l = l.room
