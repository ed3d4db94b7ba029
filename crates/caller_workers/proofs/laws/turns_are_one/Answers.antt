use Rattle.caller_workers.proofs.Fixed.{turns_are_one, small_example}
use Rattle.caller_workers.proofs.laws.turns_are_one.Goals as goal

-- src/laws.rt
pub returns-clause-one : goal.returns-clause-one
returns-clause-one g c = turns_are_one

pub returns-clause-example : goal.returns-clause-example
returns-clause-example g c = small_example
