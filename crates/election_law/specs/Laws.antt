-- What holds of elections.
use Rattle.std.specs.Prelude.{◌≡◌, ◌↔◌, ◌⊎◌, ℕ, List, IsTrue}
use Rattle.std.specs.declared.option.Option.TheVariants.{Some}
use Rattle.amoebot_state.specs.declared.verdict.Entry.{Entry}
use Rattle.amoebot_state.specs.Configs.{Config, IsValid}
use Rattle.amoebot_state.specs.Steps.{IsWorldAt}
use Rattle.action_tree.specs.Trees.{Program}
use Rattle.action_tree.specs.Shipped.{erosion}
use Rattle.action_meaning.specs.Verdicts.{verdict_on, verdict_shown}
use Rattle.election_law.specs.declared.refusal.ElectRefusal.{ElectRefusal}
use Rattle.election_law.specs.Elections.{IsErosion, IsReadyStart, IsElected, is_leader, leader_of}
use Rattle.election_law.specs.Starts.{IsFirstUnready}

-- the guard and the lines of `erosion` decide nothing
abbrev pub GuardIsAside : Type 0
GuardIsAside = (p : Program) → IsErosion p → (c : Config) (i : ℕ) → verdict_on p c i ≡ verdict_on erosion c i

-- each world of each run of `erosion` from a valid ready start is elected.
-- The world at a place of entries is the one that so many of them are a run to,
-- so the last world of a run is among them
abbrev pub ErosionElects : Type 0
ErosionElects =
    (p : Program) (first : Config) (es : List Entry) (place : ℕ) (world : Config)
    → IsErosion p
    → IsValid first
    → IsReadyStart first
    → IsWorldAt (verdict_shown p) first es place world
    → IsElected world

-- in an elected world the leader that is found is the one
abbrev pub LeaderIsElected : Type 0
LeaderIsElected = (c : Config) (i : ℕ) → IsElected c → (leader_of c ≡ Some i) ↔ IsTrue (is_leader c i)

-- at most one refusal is the first
abbrev pub FirstUnreadyIsUnique : Type 0
FirstUnreadyIsUnique =
    (c : Config) (one two : ElectRefusal) → IsFirstUnready c one → IsFirstUnready c two → one ≡ two

-- a ready start has none
abbrev pub ReadyHasNone : Type 0
ReadyHasNone = (c : Config) (e : ElectRefusal) → IsReadyStart c → ¬ IsFirstUnready c e

-- each valid configuration is a ready start, or has one
abbrev pub ReadyOrUnready : Type 0
ReadyOrUnready = (c : Config) → IsValid c → IsReadyStart c ⊎ ((e : ElectRefusal) × IsFirstUnready c e)

-- a program is `erosion`, or it is not
abbrev pub ErosionOrNot : Type 0
ErosionOrNot = (p : Program) → IsErosion p ⊎ ¬ IsErosion p
