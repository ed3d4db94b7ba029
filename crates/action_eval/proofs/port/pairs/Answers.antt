use Rattle.std.proofs.Common.{sym}
use Rattle.action_eval.specs.Known.{sight_of}
use Rattle.action_eval.proofs.PortsOf.{all_in_set}
use Rattle.action_eval.proofs.port.pairs.Goals as goal

pub returns-else-is_contracted-clause-whole : goal.returns-else-is_contracted-clause-whole
returns-else-is_contracted-clause-whole c = λ set. sym (all_in_set (sight_of c.args.site.now) set)
