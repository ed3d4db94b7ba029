use Rattle.std.proofs.Common.{arith}
use Rattle.election_law.proofs.Lengths.{other_stmts}
use Rattle.election_law.proofs.erosion.is_only_put.Goals as goal

pub returns-in_default-2 : goal.returns-in_default-2
returns-in_default-2 c = other_stmts c.args.body.now _ (λ e. omega (arith, e, c.in_default.len_at_least))
