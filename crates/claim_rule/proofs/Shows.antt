-- What a caller has found that holds its whole zone.
use Rattle.std.proofs.Common.{◌≡◌, ℕ, reverse, Some, ap, sym, ◌∙◌}
use Rattle.std.specs.Prelude.{slice_get}
use Rattle.amoebot_state.specs.declared.verdict.Verdict.{Verdict}
use Rattle.amoebot_state.specs.Configs.{Config}
use Rattle.amoebot_state.specs.Zones.{Shown, shown, shown_with, zone}
use Rattle.claim_core.specs.declared.state.Caller.{Caller}
use Rattle.claim_core.specs.declared.state.Phase.{Phase}
use Rattle.claim_core.specs.declared.state.Phase.TheVariants.{Claim, Refusing, Looking, Taking, Committing, Releasing, Ended}
use Rattle.claim_core.specs.Machine.{Setup, State, bot, found}
use Rattle.claim_core.specs.Soundness.{IsSetup, HasFront, CallerOk, Sound, names}
use Rattle.claim_core.proofs.Fronts.{whole_shown}
use Rattle.claim_core.proofs.HolderLemmas.{framed, valued}
use Rattle.claim_rule.specs.Views.{setup_of_terms}
use Rattle.claim_rule.specs.Manners.{CommitWay, after_by}
use Rattle.claim_rule.specs.Plays.{HoldsZone}
use Rattle.claim_rule.specs.Laws.{FoundIsShown}
use Rattle.claim_rule.proofs.WayLemmas.{sound_by}

module _ (g : Setup) (ok : IsSetup g) (s : State) (sound : Sound g s) (c : ℕ) (k : Caller) (there : slice_get s.callers c ≡ Some k) where
  abbrev b : ℕ
  b = bot g c k.turn

  -- in such a phase all names of the zone are held
  whole : (p : Phase) → HasFront g s sound.last c k p → HoldsZone p → names k.held ≡ zone sound.last b
  whole Claim front holds = absurd holds
  whole (Refusing n t) front holds = absurd holds
  whole (Looking l) front holds = front.whole
  whole (Taking change) front holds = front.whole
  whole (Committing change) front holds = front.whole
  whole Releasing front holds = absurd holds
  whole Ended front holds = absurd holds

  pub shows : HoldsZone k.phase → found g b k.held ≡ shown sound.last b
  shows holds =
      let is : CallerOk g s sound.last c k = sound.each c k there in
      ap (λ (x : Config). shown_with x b (reverse k.held)) (sym (framed g ok s sound).same.rest)
      ∙ sym (whole_shown sound.last b k.held (valued g ok s sound c k is) (whole k.phase is.front holds))

pub found_is_shown : {D : Type 0} (way : CommitWay) (verdict : D → Shown → Verdict) → FoundIsShown way verdict
found_is_shown way verdict z s steps seat place r ok st has holds =
    let g = setup_of_terms verdict z in
    let sound = sound_by g way ok steps in
    (sound.last, sound.run, shows g ok (after_by way g steps) sound r.number r.caller (st.views.each seat place r has).caller holds)
