-- What one turn does where turns are made one after another.
-- That one activation after another is a run is the paper's;
-- turns and callers are this project's profile.
use Rattle.std.specs.Prelude.{◌≡◌, ℕ}
use Rattle.amoebot_state.specs.declared.verdict.Verdict.{Verdict}
use Rattle.amoebot_state.specs.declared.verdict.Verdict.TheVariants as verdict
use Rattle.amoebot_state.specs.declared.verdict.Entry.{Entry}
use Rattle.amoebot_state.specs.Configs.{Config}
use Rattle.amoebot_state.specs.Zones.{Shown, shown}
use Rattle.amoebot_state.specs.Steps.{Step}
use Rattle.amoebot_state.specs.declared.verdict.Turned.{Turned}
use Rattle.amoebot_state.specs.declared.verdict.Turned.TheVariants as turned

-- the entry of a turn of a caller on an amoebot
pub record IsOfTurn (caller turn bot : ℕ) (e : Entry) : Type 0 where
  pub by : e.caller ≡ caller
  pub at : e.turn ≡ turn
  pub of : e.bot ≡ bot

-- a serial turn is a step of the model, whose entry is the turn's; or the verdict is no change,
-- and the configuration stays
abbrev pub SerialTurn : (Shown → Verdict) → ℕ → ℕ → ℕ → Config → Turned → Config → Type 0
SerialTurn f caller turn bot old (turned.Done e) new = Step f old e new × IsOfTurn caller turn bot e
SerialTurn f caller turn bot old turned.Idle new = (f (shown old bot) ≡ verdict.Idle) × (new ≡ old)
SerialTurn f caller turn bot old (turned.Failed why) new =
    (f (shown old bot) ≡ verdict.Failed why) × (new ≡ old)
