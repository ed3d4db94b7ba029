use Rattle.std.proofs.Common.{ap, sym, ◌∙◌}
use Rattle.amoebot_state.specs.Ways.{reading}
use Rattle.claim_rule.proofs.activation.Room.begin.Goals as goal

pub returns-clause-knows : goal.returns-clause-knows
returns-clause-knows c =
    let area = c.args.self.now.area in
    record { tag = c.tag-self.ensures; zone = c.begin.ensures area ∙ ap (reading area c.args.bot) (sym c.clear.ensures) }
