use Rattle.std.proofs.Common.{◌+◌, ◌*◌, map}
use Rattle.text_tokens.proofs.LoopLemmas.{StillReads}
use Rattle.action_tree.specs.Views.{stmt_of}
use Rattle.action_parser.proofs.Lists.{more_stmts, all_listed}
use Rattle.action_parser.proofs.statement.+statement.Given as goal

abbrev pub decreases-read_if : goal.decreases-read_if
decreases-read_if l = 5 * l.levels

abbrev pub decreases-read_for : goal.decreases-read_for
decreases-read_for l = 5 * l.levels

abbrev pub decreases-read_stmt : goal.decreases-read_stmt
decreases-read_stmt l = 5 * l.levels + 1

abbrev pub decreases-more_stmt : goal.decreases-more_stmt
decreases-more_stmt l = 5 * l.levels + 2

abbrev pub decreases-read_stmts : goal.decreases-read_stmts
decreases-read_stmts l = 5 * l.levels + 3

abbrev pub decreases-read_else : goal.decreases-read_else
decreases-read_else l = 5 * l.levels + 4

abbrev pub invariant-read_stmts-loop-found : goal.invariant-read_stmts-loop-found
invariant-read_stmts-loop-found l = StillReads (all_listed l.levels l.names) l.fn.tokens (map stmt_of l.found.items) (more_stmts l.levels (record { room = l.room; left = l.left })) l.tokens

abbrev pub decreases-read_stmts-loop-found : goal.decreases-read_stmts-loop-found
decreases-read_stmts-loop-found l = l.room
