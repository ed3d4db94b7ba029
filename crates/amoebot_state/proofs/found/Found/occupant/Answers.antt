use Rattle.std.proofs.Common.{◌∙◌, ap, subst, None}
use Rattle.std.specs.Prelude.{unwrap_or}
use Rattle.amoebot_state.specs.Pairs.{spot_in}
use Rattle.amoebot_state.specs.Zones.{Shown, IsShown}
use Rattle.amoebot_state.proofs.Shows.{spot_told}
use Rattle.amoebot_state.proofs.found.Found.occupant.Goals as goal

pub returns : goal.returns
returns c =
    c.unwrap_or.ensures
    ∙ ap (λ o. unwrap_or o None) (c.spot_in.ensures ∙ ap (λ cells. spot_in cells c.args.node) c.as_slice.ensures.value ∙ ap (λ (s : Shown). spot_in s.cells c.args.node) c.self.view_is)
    ∙ spot_told c.args.self.now (subst IsShown c.self.view_is c.self.invariant.shown) c.args.node c.requires
