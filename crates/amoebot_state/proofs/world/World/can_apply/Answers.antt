use Rattle.std.proofs.Common.{◌≡◌, ◌∙◌, ap, sym, subst, Decides, Bool}
use Rattle.amoebot_state.specs.Pairs.{plain_patch}
use Rattle.amoebot_state.specs.Patches.{HasPatched}
use Rattle.amoebot_state.specs.Fitting.{all_fit}
use Rattle.amoebot_state.proofs.Fits.{fits_decide}
use Rattle.amoebot_state.proofs.world.World.can_apply.Goals as goal

pub returns : goal.returns
returns c =
    let ps = plain_patch c.args.patch.now in
    let is : all_fit c.args.self.now ps ≡ c.all_fit.result = sym (c.all_fit.ensures ∙ ap (all_fit c.args.self.now) (c.pairs.ensures.value ∙ c.plain-plain.ensures)) in
    subst (λ (t : Bool). Decides t (HasPatched c.args.self.now ps)) is (fits_decide c.args.self.now ps c.keeps.ensures.valid)
