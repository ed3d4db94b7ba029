use Rattle.amoebot_state.specs.Pairs.{plain_triple}
use Rattle.serial_model.specs.SameChanges.{by_value, by_name}
use Rattle.serial_model.proofs.forms.same_pair.Goals as goal

pub returns-then-eq : goal.returns-then-eq
returns-then-eq c = by_value c.args.pair.now (plain_triple c.args.triple.now) _ _ c.eq.ensures c.eq-then-eq.ensures c.if-eq.true

pub returns-else-eq : goal.returns-else-eq
returns-else-eq c = by_name c.args.pair.now (plain_triple c.args.triple.now) _ c.eq.ensures c.if-eq.false
