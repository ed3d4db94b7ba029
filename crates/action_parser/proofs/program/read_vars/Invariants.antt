use Rattle.std.proofs.Common.{map}
use Rattle.text_tokens.specs.Reading.{no_limit, limited, less, repeated, at_most}
use Rattle.text_tokens.proofs.LoopLemmas.{StillReads}
use Rattle.amoebot_state.specs.Limits.{most_vars}
use Rattle.action_tree.specs.Views.{var_of}
use Rattle.action_tree.specs.declared.role.Role.TheVariants.{VarWord}
use Rattle.action_tree.specs.Roles.{is_a}
use Rattle.action_tree.specs.ProgramReaders.{a_var}
use Rattle.action_parser.proofs.program.read_vars.Given as goal

abbrev pub invariant-loop-found : goal.invariant-loop-found
invariant-loop-found l = StillReads (at_most (is_a VarWord) no_limit most_vars a_var) l.fn.tokens (map var_of l.found.items) (repeated (is_a VarWord) (λ room. limited (is_a VarWord) no_limit room a_var) (λ room a. less room) l.room) l.tokens

abbrev pub decreases-loop-found : goal.decreases-loop-found
decreases-loop-found l = l.room
