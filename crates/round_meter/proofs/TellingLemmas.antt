-- Meters that stand for one run tell the same, and a meter goes on in one way.
use Rattle.std.proofs.Common.{◌≡◌, ◌∙◌, ◌<◌, ◌++◌, ℕ, List, [], ◌∷◌, length, Bool, true, false, not, ap, sym, subst, refl, arith}
use Rattle.std.specs.Prelude.{Decides}
use Rattle.std.proofs.lemmas.Bool.Decides.{same_from_decides}
use Rattle.amoebot_state.specs.declared.verdict.Change.{Change}
use Rattle.amoebot_state.specs.declared.verdict.Entry.{Entry}
use Rattle.amoebot_state.specs.declared.verdict.Verdict.{Verdict}
use Rattle.amoebot_state.specs.Configs.{Config}
use Rattle.amoebot_state.specs.Zones.{Shown}
use Rattle.amoebot_state.proofs.Patched.{run_has_one_last}
use Rattle.serial_model.specs.Forms.{IsForm}
use Rattle.serial_model.specs.Laws.{PlainStepIsUnique}
use Rattle.round_meter.specs.Rounds.{IsSettled, enabled_in}
use Rattle.round_meter.specs.Meters.{Metered, IsMetered, GoesOnWith, TellTheSame, standing_of, this_round, waiting_of, waits_in}
use Rattle.round_meter.specs.Laws.{MetersTellTheSame, GoesOnWithIsUnique, GoesOnInIsUnique}
use Rattle.round_meter.proofs.RoundsLemmas.{rounds_are_unique, same_end}
use Rattle.round_meter.proofs.MeterLemmas.{meter_tells_rounds}

same_not : (a b : Bool) → not a ≡ not b → a ≡ b
same_not true true e = refl
same_not false false e = refl
same_not true false e = sym e
same_not false true e = sym e

module _ (f : Shown → Verdict) (first : Config) (es : List Entry) (one two : Metered) (a : IsMetered f first es one) (b : IsMetered f first es two) where
  same_world : one.world ≡ two.world
  same_world = run_has_one_last f first es one.world two.world a.run b.run

  same_numbers : (one.rounds ≡ two.rounds) × (waiting_of one ≡ waiting_of two)
  same_numbers = rounds_are_unique f first es one.rounds (waiting_of one) two.rounds (waiting_of two) (meter_tells_rounds f first es one a) (meter_tells_rounds f first es two b)

  -- so the last round was started at one place
  same_start : a.start ≡ b.start
  same_start = same_end f first es one.rounds two.rounds a.start b.start a.ended b.ended same_numbers.0

  same_wait : (i : ℕ) → i < length first.bots → waits_in (this_round one) (standing_of one.standings i) ≡ waits_in (this_round two) (standing_of two.standings i)
  same_wait i lt =
      let x = waits_in (this_round one) (standing_of one.standings i) in
      let y = waits_in (this_round two) (standing_of two.standings i) in
      same_not x y (same_from_decides (not x) (not y) (subst (λ k. Decides (not x) (IsSettled f first es i k (length es))) same_start (a.settled i lt)) (b.settled i lt))

  tell_the_same : TellTheSame one two
  tell_the_same = record {
    world = same_world;
    fed = a.fed ∙ sym b.fed;
    rounds = same_numbers.0;
    waiting = same_numbers.1;
    size = a.size ∙ sym b.size;
    able = λ i lt. (let below : i < length first.bots = omega (arith, lt, a.size) in a.right i below ∙ ap (λ c. enabled_in f c i) same_world ∙ sym (b.right i below));
    waits = λ i lt. same_wait i (omega (arith, lt, a.size));
  }

pub meters_tell_the_same : MetersTellTheSame
meters_tell_the_same f first es one two a b = tell_the_same f first es one two a b

pub goes_on_with_is_unique : GoesOnWithIsUnique
goes_on_with_is_unique f e old new other one two =
    let run = one.stands in
    meters_tell_the_same f run.0 (run.1 ++ e ∷ []) new other (one.metered run.0 run.1 run.2) (two.metered run.0 run.1 run.2)

pub goes_on_in_is_unique : {E : Type 0} {form : Entry → E} {bot : E → ℕ} {entry : E → Change → Entry} → PlainStepIsUnique → IsForm form bot entry → GoesOnInIsUnique form
goes_on_in_is_unique law is f told old new other one two =
    let same = law f old.world one.source two.source new.world other.world one.holds.step two.holds.step (is.keeps one.source two.source (one.tells ∙ sym two.tells)) in
    (same.0, goes_on_with_is_unique f two.source old new other (subst (λ e. GoesOnWith f e old new) same.0 one.holds) two.holds)
