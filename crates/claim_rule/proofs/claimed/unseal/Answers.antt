use Rattle.std.proofs.Common.{ap, ◌∙◌}
use Rattle.claim_rule.specs.Tokens.{Token, doing}
use Rattle.claim_rule.proofs.ActivationLemmas.{unsealed}
use Rattle.claim_rule.proofs.claimed.unseal.Goals as goal

pub invariant_of-result : goal.invariant_of-result
invariant_of-result g c = (
  c.claimed.invariant.0,
  (unsealed g.D.Decider.verdict g.W.Manner.way c.claimed.inside.activation.seat.me _ _ _ _ _ _ _ c.claimed.invariant.0 c.claimed.invariant.1.told _ c.claimed.invariant.1.whole (ap (λ (t : Token _). (doing t).phase) c.claimed.view_is ∙ c.requires.looked)).0,
)
