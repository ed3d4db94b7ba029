use Rattle.std.proofs.Common.{◌≡◌, ◌∙◌, ap, sym, subst}
use Rattle.amoebot_state.specs.Pairs.{body_in}
use Rattle.amoebot_state.specs.Zones.{Shown, IsShown, shown_alone}
use Rattle.std.specs.Option.{option_copied}
use Rattle.amoebot_state.specs.Configs.{bot_at}
use Rattle.amoebot_state.proofs.ShownAlone.{spread_at}
use Rattle.amoebot_state.proofs.Shows.{in_range_if}
use Rattle.amoebot_state.proofs.found.Found.body.Goals as goal

value : (c : goal.After-body_in) → option_copied c.body_in.result ≡ bot_at (shown_alone c.args.self.now) c.args.id
value c =
    c.body_in.ensures
    ∙ ap (λ cells. body_in cells c.args.id) c.as_slice.ensures.value
    ∙ sym (spread_at c.self.inside.cells.items c.args.id)
    ∙ ap (λ (s : Shown). bot_at (shown_alone s) c.args.id) c.self.view_is

pub returns-clause-value : goal.returns-clause-value
returns-clause-value c = value c

pub returns-clause-in_range : goal.returns-clause-in_range
returns-clause-in_range c = in_range_if c.args.self.now (subst IsShown c.self.view_is c.self.invariant.shown) c.body_in.result c.args.id (value c)
