-- The core as contracts see it: the decider, the first world, the lists, and the state.
use Rattle.std.specs.Prelude.{◌≡◌, ℕ, ◌+◌, ◌-◌, ◌<◌, ◌≤◌, List, [], ◌∷◌, length, reverse, nat_lt, if◌then◌else◌, slice_get}
use Rattle.std.specs.declared.option.Option.{Option}
use Rattle.std.specs.declared.option.Option.TheVariants.{Some, None}
use Rattle.tri_lattice.specs.Extent.{Extent}
use Rattle.amoebot_state.specs.declared.cell.CellName.{CellName}
use Rattle.amoebot_state.specs.declared.cell.CellName.TheVariants as name
use Rattle.amoebot_state.specs.declared.verdict.Verdict.{Verdict}
use Rattle.amoebot_state.specs.Configs.{Config}
use Rattle.amoebot_state.specs.Pairs.{Pairs}
use Rattle.amoebot_state.specs.Zones.{Shown}
use Rattle.amoebot_state.specs.Ways.{reading}
use Rattle.amoebot_state.specs.Steps.{Run}
use Rattle.claim_core.specs.declared.marks.Mark.{Mark}
use Rattle.claim_core.specs.declared.machine.CoreCaller.{CoreCaller}
use Rattle.claim_core.specs.declared.state.Caller.{Caller}
use Rattle.claim_core.specs.declared.state.Phase.{Phase}
use Rattle.claim_core.specs.declared.state.Phase.TheVariants as phase
use Rattle.claim_core.specs.Limits.{most_turns}
use Rattle.claim_core.specs.Turns.{CallerLists, MarkLists, Kept, bot_of_turn}
use Rattle.claim_core.specs.Cells.{values_of}
use Rattle.claim_core.specs.Machine.{Setup, State, phase_of_verdict, looks, next, opening, setup, after}
use Rattle.claim_core.specs.Soundness.{IsSetup}
use Rattle.claim_core.specs.Reached.{HaveEnded}
use Rattle.claim_core.specs.StepRounds.{step_rounds, most_step_rounds}

pub record Running (D : Type 0) : Type 0 where
  pub decider : D
  pub first : Config
  pub lists : CallerLists
  pub state : State

-- what the run is about
abbrev pub setup_of : {D : Type 0} → (D → Shown → Verdict) → Running D → Setup
setup_of verdict r = setup (verdict r.decider) r.first r.lists

-- the core after a step of a caller
abbrev pub stepped : {D : Type 0} → (D → Shown → Verdict) → ℕ → Running D → Running D
stepped verdict c r = record r { state = next (setup_of verdict r) c r.state }

-- the core before the first step
abbrev pub opening_core : {D : Type 0} → (D → Shown → Verdict) → D → Config → CallerLists → Running D
opening_core verdict decider first lists =
    record {
      decider = decider;
      first = first;
      lists = lists;
      state = opening (setup (verdict decider) first lists);
    }

-- the core after so many rounds, of which the last one is the first by which all callers have ended
pub record IsFinished {D : Type 0} (verdict : D → Shown → Verdict) (old new : Running D) : Type 0 where
  pub count : ℕ
  pub few : count ≤ most_step_rounds old.lists
  pub state : new ≡ record old { state = step_rounds (setup_of verdict old) count old.state }
  pub ended : HaveEnded new.state
  pub first : (n : ℕ) → n < count → HaveEnded (step_rounds (setup_of verdict old) n old.state) → ⊥

-- a caller is in this phase
abbrev pub HasPhase : List Caller → ℕ → Phase → Type 0
HasPhase callers c p = (k : Caller) × (slice_get callers c ≡ Some k) × (k.phase ≡ p)

-- a caller is in this turn
abbrev pub HasTurn : List Caller → ℕ → ℕ → Type 0
HasTurn callers c t = (k : Caller) × (slice_get callers c ≡ Some k) × (k.turn ≡ t)

-- a caller holds these cells, the one won first at the front
abbrev pub HoldsCells : List Caller → ℕ → Pairs → Type 0
HoldsCells callers c held = (k : Caller) × (slice_get callers c ≡ Some k) × (k.held ≡ reverse held)

-- a caller in a turn, of so many, that has no mark yet
pub record IsUnmarked (turns : ℕ) (callers : List Caller) (c : ℕ) : Type 0 where
  pub record_of : Caller
  pub there : slice_get callers c ≡ Some record_of
  pub turn : record_of.turn < turns
  pub counted : length record_of.marks ≡ record_of.turn

-- the state after a look of a caller, which gives it this mark
abbrev pub looks_at : Setup → ℕ → State → Option Caller → Mark → State
looks_at g c s None m = s
looks_at g c s (Some k) m = looks g c s k m

-- a caller with its marks
abbrev pub caller_with : CoreCaller → List Mark → Caller
caller_with s marks = record { turn = s.turn; phase = s.phase; held = reverse s.held.items; marks = marks }

-- the seat of a caller
abbrev pub IsCoreCaller : List Caller → ℕ → CoreCaller → Type 0
IsCoreCaller callers c s = (marks : List Mark) × (slice_get callers c ≡ Some (caller_with s marks))

abbrev pub callers_with : List CoreCaller → List (List Mark) → List Caller
callers_with [] ms = []
callers_with (s ∷ ss) [] = []
callers_with (s ∷ ss) (m ∷ ms) = caller_with s m ∷ callers_with ss ms

-- the phase in which a turn begins, of so many
abbrev pub opens_by : ℕ → ℕ → Phase
opens_by turns t = if nat_lt t turns then phase.Claim else phase.Ended

-- the phase after a cell was won, where this is what was read and this is the next cell
abbrev pub phase_after : (Shown → Verdict) → Shown → Option CellName → Phase
phase_after verdict found None = phase_of_verdict (verdict found)
phase_after verdict found (Some n) = phase.Claim

-- a cell of a configuration with so many ids
abbrev pub IsCell : ℕ → CellName → Type 0
IsCell ids (name.Spot v) = Unit {0}
IsCell ids (name.Body i) = i < ids

-- a caller at the beginning of a turn, of so many
pub record Begins (turns t : ℕ) (s : CoreCaller) : Type 0 where
  pub turn : s.turn ≡ t
  pub phase : s.phase ≡ opens_by turns t
  pub held : s.held.items ≡ []

-- a caller that goes on to free its cells
pub record StaysReleasing (old new : CoreCaller) : Type 0 where
  pub turn : new.turn ≡ old.turn
  pub phase : new.phase ≡ phase.Releasing
  pub held : new.held.items ≡ old.held.items

abbrev pub Frees : ℕ → CoreCaller → CoreCaller → Type 0
Frees turns old new = (old.held.items ≡ [] → Begins turns (old.turn + 1) new)
    × (0 < length old.held.items → StaysReleasing old new)

-- a caller that claims and holds some cells keeps what is known of its zone, in this area
abbrev pub KeepsZone : Extent → CallerLists → ℕ → CoreCaller → Type 0
KeepsZone a lists c s = s.phase ≡ phase.Claim → 0 < length s.held.items
    → s.zone ≡ reading a (bot_of_turn lists c s.turn) s.held.items

-- and so does each
abbrev pub KeepZones : Extent → CallerLists → List CoreCaller → Type 0
KeepZones a lists seats = (c : ℕ) (s : CoreCaller) → slice_get seats c ≡ Some s → KeepsZone a lists c s

-- the turns that have no mark yet
abbrev pub unmarked : ℕ → List (List Mark) → ℕ
unmarked turns [] = 0
unmarked turns (m ∷ ms) = (turns - length m) + unmarked turns ms

abbrev pub state_of : List ℕ → Config → Kept → Option ℕ → List CoreCaller → MarkLists → State
state_of tags world journal holder seats marks =
    record {
      tags = tags;
      values = values_of world;
      journal = journal.entries;
      holder = holder;
      callers = callers_with seats marks.marks;
    }

-- what a core keeps: some steps led to its state, its world is the last one of the run,
-- there is room in the journal for all turns that have no mark yet,
-- and the callers keep what is known of their zones
pub record IsCore (verdict : Shown → Verdict) (lists : CallerLists) (tags : List ℕ) (world : Config)
    (journal : Kept) (holder : Option ℕ) (seats : List CoreCaller) (marks : MarkLists) : Type 0 where
  pub setup : let g : Setup = record { verdict = verdict; world = journal.first; lists = lists } in IsSetup g
  pub steps : List ℕ
  pub reached : state_of tags world journal holder seats marks
      ≡ after (record { verdict = verdict; world = journal.first; lists = lists }) steps
  pub run : Run verdict journal.first journal.entries world
  pub turns : marks.turns ≡ lists.turns
  pub each : length marks.marks ≡ length seats
  pub room : unmarked lists.turns marks.marks ≤ journal.spare
  pub few : length journal.entries + unmarked lists.turns marks.marks ≤ most_turns
  pub zones : KeepZones journal.first.area lists seats
