-- How amoebots stand in the rounds of a run, with counts that are kept,
-- and what a meter is made of.
-- No public clause cites these.
use Rattle.std.specs.Prelude.{◌≡◌, ℕ, ◌+◌, ◌≤◌, List, length, if◌then◌else◌, nat_eq}
use Rattle.std.specs.List.{count_by}
use Rattle.amoebot_state.specs.Limits.{most_bots}
use Rattle.amoebot_state.specs.Configs.{Config}
use Rattle.round_meter.specs.declared.standing.Standing.{Standing}
use Rattle.round_meter.specs.Meters.{AreStamped, Metered, is_able, waits_in}

-- how each amoebot stands, by its id, and how many rounds have ended
pub record Tallied : Type 0 where
  pub standings : List Standing
  pub rounds : ℕ

-- the same with other standings
abbrev pub with_standings : Tallied → List Standing → Tallied
with_standings t standings = record t { standings = standings }

-- how many amoebots wait in the round that goes on
abbrev pub waiting_in : Tallied → ℕ
waiting_in t = count_by (waits_in (t.rounds + 1)) t.standings

-- the round ends where nobody waits
abbrev pub with_round_ended : Tallied → Tallied
with_round_ended t = if nat_eq (waiting_in t) 0 then record t { rounds = t.rounds + 1 } else t

-- so many of these amoebots are enabled, and so many wait; and none was settled in a later round
pub record IsTally (standings : List Standing) (rounds able_count waiting_count : ℕ) : Type 0 where
  pub few : length standings ≤ most_bots
  pub stamped : AreStamped (rounds + 1) standings
  pub able : able_count ≡ count_by is_able standings
  pub waiting : waiting_count ≡ count_by (waits_in (rounds + 1)) standings

-- what a meter keeps, by its parts
abbrev pub metered : Config → Tallied → ℕ → Metered
metered world t fed = record { world = world; standings = t.standings; fed = fed; rounds = t.rounds }

-- these parts are of one run: each amoebot of the world has its standing,
-- and no more rounds have ended than entries were fed
pub record IsInStep (world : Config) (t : Tallied) (fed : ℕ) : Type 0 where
  pub size : length t.standings ≡ length world.bots
  pub ended : t.rounds ≤ fed
