-- Rounds: one step of each caller, in rising number.
use Rattle.std.specs.Prelude.{ℕ, zero, suc, ◌*◌, length}
use Rattle.claim_core.specs.Turns.{CallerLists}
use Rattle.claim_core.specs.Machine.{Setup, State, next}

module _ (g : Setup) where
  -- a step of each caller below a number
  abbrev pub steps_below : ℕ → State → State
  steps_below zero s = s
  steps_below (suc n) s = next g n (steps_below n s)

  -- a step of each caller
  abbrev pub step_round : State → State
  step_round s = steps_below (length g.lists.ids) s

  abbrev pub step_rounds : ℕ → State → State
  step_rounds zero s = s
  step_rounds (suc n) s = step_round (step_rounds n s)

-- the greatest number of rounds that the turns of these lists take:
-- 40 for each turn of all callers together
abbrev pub most_step_rounds : CallerLists → ℕ
most_step_rounds lists = 40 * (length lists.ids * lists.turns)
