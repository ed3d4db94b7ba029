use Rattle.std.proofs.Common.{◌≡◌, ◌∙◌, sym, subst}
use Rattle.std.specs.Bool.{Decides}
use Rattle.amoebot_state.proofs.Values.{same_configs}
use Rattle.amoebot_state.proofs.world.World.same.Goals as goal

pub returns-then-same : goal.returns-then-same
returns-then-same c =
    let mine = c.self.inside in
    let other = c.other.inside in
    let bots : Decides c.same_bots.result (mine.amoebots.items ≡ other.amoebots.items) = subst (λ ys. Decides c.same_bots.result (mine.amoebots.items ≡ ys)) c.as_slice-then-same.ensures.value (subst (λ xs. Decides c.same_bots.result (xs ≡ c.as_slice-then-same.result.now)) c.as_slice.ensures.value c.same_bots.ensures) in
    let whole = same_configs mine.frame other.frame mine.amoebots.items other.amoebots.items c.same_bots.result (c.same.ensures.0 c.if-same.true) bots in
    (λ t. sym c.self.view_is ∙ whole.0 t ∙ c.other.view_is, λ e. whole.1 (c.self.view_is ∙ e ∙ sym c.other.view_is))
