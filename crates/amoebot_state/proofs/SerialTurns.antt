-- A turn has one answer and one result.
use Rattle.std.proofs.Common.{◌≡◌, ℕ, ap, sym, ◌∙◌, refl, subst}
use Rattle.amoebot_state.specs.declared.verdict.Change.{Change}
use Rattle.amoebot_state.specs.declared.verdict.Entry.{Entry}
use Rattle.amoebot_state.specs.declared.verdict.Verdict.{Verdict}
use Rattle.amoebot_state.specs.declared.verdict.Verdict.TheVariants as verdict
use Rattle.amoebot_state.specs.Configs.{Config}
use Rattle.amoebot_state.specs.Zones.{Shown, shown}
use Rattle.amoebot_state.specs.Steps.{Step, change_of}
use Rattle.amoebot_state.proofs.Patched.{step_has_one_result}
use Rattle.amoebot_state.specs.declared.verdict.Turned.TheVariants as turned
use Rattle.amoebot_state.specs.SerialTurns.{IsOfTurn, SerialTurn}
use Rattle.amoebot_state.specs.Laws.{SerialTurnIsUnique}

-- entries of one turn with the same change are one
same_entry : (caller turn bot : ℕ) (one two : Entry) → IsOfTurn caller turn bot one → IsOfTurn caller turn bot two → change_of one ≡ change_of two → one ≡ two
same_entry caller turn bot one two x y same = λ i. record {
  caller = (x.by ∙ sym y.by) i;
  turn = (x.at ∙ sym y.at) i;
  bot = (x.of ∙ sym y.of) i;
  action = ap (λ (c : Change). c.action) same i;
  moved = ap (λ (c : Change). c.moved) same i;
  patch = ap (λ (c : Change). c.patch) same i;
}

module _ (f : Shown → Verdict) (caller turn bot : ℕ) (old : Config) where
  -- the verdict on what the turn's amoebot is shown
  decided : (e : Entry) (new : Config) → SerialTurn f caller turn bot old (turned.Done e) new → f (shown old bot) ≡ verdict.Change (change_of e)
  decided e new x = ap (λ (b : ℕ). f (shown old b)) (sym x.1.of) ∙ x.0.decided

  both_done : (one two : Entry) (new other : Config) → SerialTurn f caller turn bot old (turned.Done one) new → SerialTurn f caller turn bot old (turned.Done two) other → (turned.Done one ≡ turned.Done two) × (new ≡ other)
  both_done one two new other x y =
      let verdicts : verdict.Change (change_of one) ≡ verdict.Change (change_of two) = sym (decided one new x) ∙ decided two other y in
      let change : change_of one ≡ change_of two = cc in
      let entry = same_entry caller turn bot one two x.1 y.1 change in
      (ap turned.Done entry, step_has_one_result f old two new other (subst (λ e. Step f old e new) entry x.0) y.0)

pub serial_turn_is_unique : SerialTurnIsUnique
serial_turn_is_unique f caller turn bot old (turned.Done e) (turned.Done d) new other x y = both_done f caller turn bot old e d new other x y
serial_turn_is_unique f caller turn bot old (turned.Done e) turned.Idle new other x y = absurd (let same = sym (decided f caller turn bot old e new x) ∙ y.0 in cc)
serial_turn_is_unique f caller turn bot old (turned.Done e) (turned.Failed why) new other x y = absurd (let same = sym (decided f caller turn bot old e new x) ∙ y.0 in cc)
serial_turn_is_unique f caller turn bot old turned.Idle (turned.Done e) new other x y = absurd (let same = sym x.0 ∙ decided f caller turn bot old e other y in cc)
serial_turn_is_unique f caller turn bot old turned.Idle turned.Idle new other x y = (refl, x.1 ∙ sym y.1)
serial_turn_is_unique f caller turn bot old turned.Idle (turned.Failed why) new other x y = absurd (let same = sym x.0 ∙ y.0 in cc)
serial_turn_is_unique f caller turn bot old (turned.Failed why) (turned.Done e) new other x y = absurd (let same = sym x.0 ∙ decided f caller turn bot old e other y in cc)
serial_turn_is_unique f caller turn bot old (turned.Failed why) turned.Idle new other x y = absurd (let same = sym x.0 ∙ y.0 in cc)
serial_turn_is_unique f caller turn bot old (turned.Failed why) (turned.Failed other_why) new other x y =
    let same : verdict.Failed why ≡ verdict.Failed other_why = sym x.0 ∙ y.0 in
    let failure : why ≡ other_why = cc in
    (ap turned.Failed failure, x.1 ∙ sym y.1)
