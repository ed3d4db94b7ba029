-- What a meter keeps of a run, and when that is right: for each amoebot whether it is enabled,
-- and in which round it was last settled.
use Rattle.std.specs.Prelude.{◌≡◌, ℕ, ◌+◌, ◌<◌, ◌≤◌, List, [], ◌∷◌, ◌++◌, length, slice_index_or, Bool, false, not, ◌&&◌, nat_eq, Decides, IsSome, OnOk, IfErr}
use Rattle.std.specs.List.{All, count_by}
use Rattle.amoebot_state.specs.declared.verdict.Entry.{Entry}
use Rattle.amoebot_state.specs.declared.verdict.Verdict.{Verdict}
use Rattle.amoebot_state.specs.Configs.{Config, IsValid, bot_at}
use Rattle.amoebot_state.specs.Zones.{Shown}
use Rattle.amoebot_state.specs.Steps.{Run, Step}
use Rattle.serial_model.specs.Forms.{InForm}
use Rattle.serial_model.specs.declared.replays.Differs.{Differs}
use Rattle.std.specs.declared.result.Result.{Result}
use Rattle.round_meter.specs.declared.standing.Standing.{Standing}
use Rattle.round_meter.specs.Rounds.{IsSettled, AllSettled, RoundsTo, enabled_in}

-- the world that was reached, how each amoebot stands, by its id, how many entries were fed,
-- and how many rounds have ended
pub record Metered : Type 0 where
  pub world : Config
  pub standings : List Standing
  pub fed : ℕ
  pub rounds : ℕ

-- what a meter has beside them: the decider that it asks
pub record MeterOf (D : Type 0) : Type 0 where
  pub decider : D
  pub state : Metered

-- the round that goes on, where the rounds are counted from 1
abbrev pub this_round : Metered → ℕ
this_round m = m.rounds + 1

-- an amoebot that is not enabled and was never settled, so that the word is total
abbrev pub unsettled : Standing
unsettled = record { enabled = false; settled_in = 0 }

-- how an amoebot stands
abbrev pub standing_of : List Standing → ℕ → Standing
standing_of standings b = slice_index_or standings b unsettled

-- the amoebot is enabled
abbrev pub is_able : Standing → Bool
is_able s = s.enabled

-- it is enabled, and not settled in the round
abbrev pub waits_in : ℕ → Standing → Bool
waits_in round s = s.enabled && not (nat_eq s.settled_in round)

-- how many amoebots wait in the round that goes on
abbrev pub waiting_of : Metered → ℕ
waiting_of m = count_by (waits_in (this_round m)) m.standings

-- no amoebot was settled in a later round
abbrev pub AreStamped : ℕ → List Standing → Type 0
AreStamped round standings = All (λ (s : Standing). s.settled_in ≤ round) standings

-- a meter stands for a run and its rounds: the last round was started at a place of the journal,
-- each amoebot's flag is right, and it waits exactly where it is not settled in that round
pub record IsMetered (f : Shown → Verdict) (first : Config)
    (entries : List Entry) (m : Metered) : Type 0 where
  pub valid : IsValid first
  pub no_gaps : (b : ℕ) → b < length first.bots → IsSome (bot_at first b)
  pub run : Run f first entries m.world
  pub fed : m.fed ≡ length entries
  pub size : length m.standings ≡ length first.bots
  pub stamped : AreStamped (this_round m) m.standings
  pub start : ℕ
  pub began : start ≤ length entries
  pub ended : RoundsTo f first entries m.rounds start
  pub going : start < length entries → ¬ AllSettled f first entries start (length entries)
  pub right : (b : ℕ) → b < length first.bots → (standing_of m.standings b).enabled ≡ enabled_in f m.world b
  pub settled : (b : ℕ)
      → b < length first.bots
      → Decides (not (waits_in (this_round m) (standing_of m.standings b)))
      (IsSettled f first entries b start (length entries))

-- it stands for some run
abbrev pub StandsForRun : (Shown → Verdict) → Metered → Type 0
StandsForRun f m = (first : Config) × (entries : List Entry) × IsMetered f first entries m

-- A meter that stands for a run goes on with an entry: that is a step,
-- and for each run that the meter stood for, it stands with the entry behind.
pub record GoesOnWith (f : Shown → Verdict) (e : Entry) (old new : Metered) : Type 0 where
  pub stands : StandsForRun f old
  pub step : Step f old.world e new.world
  pub metered : (first : Config) (entries : List Entry)
      → IsMetered f first entries old
      → IsMetered f first (entries ++ e ∷ []) new

-- it goes on with an entry that is told in a form
abbrev pub GoesOnIn : {E : Type 0} → (Entry → E) → (Shown → Verdict) → E → Metered → Metered → Type 0
GoesOnIn form f told old new = InForm form (λ (e : Entry). GoesOnWith f e old new) told

-- What a call leaves that feeds a meter with an entry.
-- The meter goes on, and has been fed one entry more.
-- Or its world has no such step: the call tells the place of the entry, and the meter stays.
pub record IsFed {A D : Type 0} (GoesOn : Metered → Metered → Type 0) (HasNoStep : Config → Type 0)
    (old new : MeterOf D) (result : Result A Differs) : Type 0 where
  pub goes_on : OnOk result (GoesOn old.state new.state)
  pub fed : OnOk result (new.state.fed ≡ old.state.fed + 1)
  pub size : length new.state.world.bots ≡ length old.state.world.bots
  pub differs : IfErr result (λ (e : Differs).
      (e.place ≡ old.state.fed) × HasNoStep old.state.world × (new ≡ old))
  pub decider : new.decider ≡ old.decider

-- Two meters tell the same of a run and its rounds, and of each amoebot whether it is enabled,
-- and whether it waits.
-- All else that they keep is the round in which an amoebot was settled last that is not enabled,
-- or that waits.
-- No later round depends on that.
pub record TellTheSame (one two : Metered) : Type 0 where
  pub world : one.world ≡ two.world
  pub fed : one.fed ≡ two.fed
  pub rounds : one.rounds ≡ two.rounds
  pub waiting : waiting_of one ≡ waiting_of two
  pub size : length one.standings ≡ length two.standings
  pub able : (b : ℕ)
      → b < length one.standings
      → (standing_of one.standings b).enabled ≡ (standing_of two.standings b).enabled
  pub waits : (b : ℕ)
      → b < length one.standings
      → waits_in (this_round one) (standing_of one.standings b)
      ≡ waits_in (this_round two) (standing_of two.standings b)
