use Rattle.std.proofs.Common.{arith}
use Rattle.election_law.proofs.Lengths.{other_guards}
use Rattle.election_law.proofs.erosion.are_last_elements.Goals as goal

pub returns-in_default : goal.returns-in_default
returns-in_default c = other_guards c.args.elements.now _ (λ e. omega (arith, e, c.in_default.len_below))

pub returns-in_default-2 : goal.returns-in_default-2
returns-in_default-2 c = other_guards c.args.elements.now _ (λ e. omega (arith, e, c.in_default.len_at_least))
