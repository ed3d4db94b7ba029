-- What is decided on what a claim found.
use Rattle.std.proofs.Common.{◌≡◌, ap, sym, ◌∙◌}
use Rattle.amoebot_state.specs.declared.verdict.Verdict.{Verdict}
use Rattle.amoebot_state.specs.Zones.{Shown}
use Rattle.claim_core.specs.Machine.{found, phase_of_verdict}
use Rattle.claim_rule.specs.Views.{setup_at}
use Rattle.claim_rule.specs.Plays.{about, bot_in}
use Rattle.claim_rule.specs.Tokens.{FieldOf, Token, IsOf, doing, found_in}
use Rattle.node_claims.specs.Claims.{IsClaimed}

module _ {D : Type 0} (verdict : D → Shown → Verdict) (f : FieldOf D) (seat claimed : Token D) (of : IsOf f seat) (is : IsClaimed verdict seat claimed) (d : D) (told : Shown) (v : Verdict) (decider : d ≡ f.terms.decider) (shown : told ≡ found_in verdict claimed) (decides : v ≡ verdict d told) where
  -- the verdict on what was found is the decider's
  pub verdict_is : (about verdict seat.view).verdict (found (about verdict seat.view) (bot_in verdict seat.view) is.held) ≡ v
  verdict_is = (λ i. (setup_at verdict (of.terms i)).verdict (sym (shown ∙ ap (found_in verdict) is.now) i)) ∙ (λ i. verdict (sym decider i) told) ∙ sym decides

  -- and the caller goes on by it
  pub phase_is : (doing claimed).phase ≡ phase_of_verdict v
  phase_is = ap (λ (t : Token D). (doing t).phase) is.now ∙ ap phase_of_verdict verdict_is
