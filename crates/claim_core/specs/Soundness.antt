-- What holds of each state that steps lead to.
-- In Claim and Refusing a front of the zone is held, in Looking,
-- Taking and Committing the whole zone, in Releasing a front of the zone at the turn's mark.
use Rattle.std.specs.Prelude.{◌≡◌, ◌≢◌, ◌⊎◌, ℕ, ◌+◌, ◌<◌, ◌≤◌, List, [], ◌∷◌, ◌++◌, map, length, reverse, slice_get, IsSome}
use Rattle.std.specs.List.{All, AllPairs, Contains}
use Rattle.std.specs.declared.option.Option.TheVariants.{Some}
use Rattle.amoebot_state.specs.declared.cell.CellName.{CellName}
use Rattle.amoebot_state.specs.declared.cell.Cell.{Cell}
use Rattle.amoebot_state.specs.declared.verdict.Entry.{Entry}
use Rattle.amoebot_state.specs.declared.verdict.Verdict.{Verdict}
use Rattle.amoebot_state.specs.declared.verdict.Verdict.TheVariants as verdict
use Rattle.amoebot_state.specs.Limits.{most_bots}
use Rattle.amoebot_state.specs.Pairs.{Pairs, cell_of, cell_value}
use Rattle.amoebot_state.specs.Configs.{Config, IsValid, bot_at, value}
use Rattle.amoebot_state.specs.Zones.{shown, zone}
use Rattle.amoebot_state.specs.Steps.{Run, TouchesZone, HasPatchedWorld, IsWorldAt}
use Rattle.claim_core.specs.declared.marks.Mark.{Mark}
use Rattle.claim_core.specs.declared.marks.Mark.TheVariants as mark
use Rattle.claim_core.specs.declared.state.Look.{Look}
use Rattle.claim_core.specs.declared.state.Look.TheVariants as look
use Rattle.claim_core.specs.declared.state.Phase.{Phase}
use Rattle.claim_core.specs.declared.state.Phase.TheVariants.{Claim, Refusing, Looking, Taking, Committing, Releasing, Ended}
use Rattle.claim_core.specs.declared.state.Caller.{Caller}
use Rattle.claim_core.specs.Turns.{MarkLists, AreLists}
use Rattle.claim_core.specs.Good.{HasVerdict, HasInZone, Order, mark_of_turn, place_of, place_after}
use Rattle.claim_core.specs.Tags.{tag_caller, tag_turn, tag_bot}
use Rattle.claim_core.specs.Cells.{number, at, values_of}
use Rattle.claim_core.specs.Machine.{Setup, State, bot, own_tag}

-- the cells, in the order in which they were won
abbrev pub names : Pairs → List CellName
names held = map cell_of (reverse held)

-- the verdict of a decision that changes nothing
abbrev pub verdict_of : Look → Verdict
verdict_of look.Idle = verdict.Idle
verdict_of (look.Failed why) = verdict.Failed why

-- the caller holds the journal
abbrev pub IsCommitting : Phase → Type 0
IsCommitting Claim = ⊥
IsCommitting (Refusing n t) = ⊥
IsCommitting (Looking l) = ⊥
IsCommitting (Taking change) = ⊥
IsCommitting (Committing change) = Unit {0}
IsCommitting Releasing = ⊥
IsCommitting Ended = ⊥

-- the number of marks that a caller has in a turn
abbrev pub marked : Phase → ℕ → ℕ
marked Claim t = t
marked (Refusing n u) t = t
marked (Looking l) t = t
marked (Taking change) t = t
marked (Committing change) t = t
marked Releasing t = t + 1
marked Ended t = t

-- a turn of a list with so many; a caller that has ended has made all
abbrev pub IsTurn : ℕ → Phase → ℕ → Type 0
IsTurn turns Claim t = t < turns
IsTurn turns (Refusing n u) t = t < turns
IsTurn turns (Looking l) t = t < turns
IsTurn turns (Taking change) t = t < turns
IsTurn turns (Committing change) t = t < turns
IsTurn turns Releasing t = t < turns
IsTurn turns Ended t = t ≡ turns

-- the cells are a front of the zone that has this cell next
abbrev pub AreBefore : Config → ℕ → Pairs → CellName → Type 0
AreBefore world b held n = (rest : List CellName) × (names held ++ n ∷ rest ≡ zone world b)

-- what a run may be about: a valid world of at most 4,096 amoebots, lists of ids of amoebots of it,
-- and a decider that keeps its laws
pub record IsSetup (g : Setup) : Type 0 where
  pub valid : IsValid g.world
  pub few : length g.world.bots ≤ most_bots
  pub lists : AreLists g.lists
  pub bots : All (All (λ id. IsSome (bot_at g.world id))) g.lists.ids
  pub touches : TouchesZone g.verdict
  pub leads : HasPatchedWorld g.verdict

module _ (g : Setup) where
  -- the marks of all callers so far
  abbrev pub marks_so_far : State → MarkLists
  marks_so_far s = record { turns = g.lists.turns; marks = map (λ (k : Caller). k.marks) s.callers }

  -- a caller is still in this turn, has no mark for it, and holds the cell
  pub record Holds (s : State) (caller turn : ℕ) (cell : CellName) : Type 0 where
    pub record_of : Caller
    pub there : slice_get s.callers caller ≡ Some record_of
    pub now : record_of.turn ≡ turn
    pub unmarked : length record_of.marks ≡ turn
    pub held : Contains (names record_of.held) cell

  -- the turn has its mark, and the cell is in the zone of its amoebot at the mark's place
  pub record HasHeld (s : State) (caller turn bot : ℕ) (cell : CellName) : Type 0 where
    pub told : Mark
    pub marked : mark_of_turn (marks_so_far s) caller turn ≡ Some told
    pub in_zone : HasInZone g.verdict g.world s.journal (place_of told) bot cell

  -- a turn of another caller, on its amoebot, that holds the cell; or that has its mark,
  -- at whose place the cell was in its zone
  pub record IsHolder (s : State) (c : ℕ) (cell : CellName) (by_caller by_turn by_bot : ℕ) : Type 0 where
    pub listed : by_caller < length g.lists.ids
    pub other : by_caller ≢ c
    pub turn : by_turn < g.lists.turns
    pub of : by_bot ≡ bot g by_caller by_turn
    pub holds : Holds s by_caller by_turn cell ⊎ HasHeld s by_caller by_turn by_bot cell

  -- what a mark says is so, as far as the other turn has come
  abbrev pub TurnOkSoFar : State → ℕ → ℕ → Mark → Type 0
  TurnOkSoFar s c t (mark.Done place) =
      (e : Entry) × (slice_get s.journal place ≡ Some e) × (e.caller ≡ c) × (e.turn ≡ t)
  TurnOkSoFar s c t (mark.Idle place) = HasVerdict g.verdict g.world s.journal place (bot g c t) verdict.Idle
  TurnOkSoFar s c t (mark.Failed why place) =
      HasVerdict g.verdict g.world s.journal place (bot g c t) (verdict.Failed why)
  TurnOkSoFar s c t (mark.Busy n by_caller by_turn by_bot place) =
      HasInZone g.verdict g.world s.journal place (bot g c t) n × IsHolder s c n by_caller by_turn by_bot

  -- the tag that was found is one, and names such a turn
  abbrev pub IsRefusedPhase : State → ℕ → Phase → Type 0
  IsRefusedPhase s c Claim = Unit {0}
  IsRefusedPhase s c (Refusing n t) = (t ≢ 0) × IsHolder s c n (tag_caller t) (tag_turn t) (tag_bot t)
  IsRefusedPhase s c (Looking l) = Unit {0}
  IsRefusedPhase s c (Taking change) = Unit {0}
  IsRefusedPhase s c (Committing change) = Unit {0}
  IsRefusedPhase s c Releasing = Unit {0}
  IsRefusedPhase s c Ended = Unit {0}

  -- the cells are the whole zone, and this is the verdict on it
  pub record HasDecision (world : Config) (b : ℕ) (held : Pairs) (v : Verdict) : Type 0 where
    pub whole : names held ≡ zone world b
    pub verdict : g.verdict (shown world b) ≡ v

  -- at least one cell is held, and those that are were a front of the zone
  -- at the place of the turn's mark
  pub record IsReleasingCaller (s : State) (c t : ℕ) (held : Pairs) (marks : List Mark) : Type 0 where
    pub told : Mark
    pub marked : slice_get marks t ≡ Some told
    pub world : Config
    pub at : IsWorldAt g.verdict g.world s.journal (place_of told) world
    pub rest : List CellName
    pub front : names held ++ rest ≡ zone world (bot g c t)
    pub some : 0 < length held

  -- what is held in a phase, in a state with this last world
  abbrev pub HasFront : State → Config → ℕ → Caller → Phase → Type 0
  HasFront s last c k Claim = (n : CellName) × AreBefore last (bot g c k.turn) k.held n
  HasFront s last c k (Refusing n t) = AreBefore last (bot g c k.turn) k.held n
  HasFront s last c k (Looking l) = HasDecision last (bot g c k.turn) k.held (verdict_of l)
  HasFront s last c k (Taking change) = HasDecision last (bot g c k.turn) k.held (verdict.Change change)
  HasFront s last c k (Committing change) = HasDecision last (bot g c k.turn) k.held (verdict.Change change)
  HasFront s last c k Releasing = IsReleasingCaller s c k.turn k.held k.marks
  HasFront s last c k Ended = k.held ≡ []

  -- a held cell has the tag of its caller's turn, and its recorded value
  -- is what it holds in the last world
  pub record IsHeld (s : State) (last : Config) (c t : ℕ) (p : CellName × Cell) : Type 0 where
    pub tag : at s.tags (number g.world.area (cell_of p)) ≡ Some (own_tag g c t)
    pub value : value last (cell_of p) ≡ Some (cell_value p)

  -- what holds of a caller
  pub record CallerOk (s : State) (last : Config) (c : ℕ) (k : Caller) : Type 0 where
    pub turn : IsTurn g.lists.turns k.phase k.turn
    pub held : All (IsHeld s last c k.turn) k.held
    pub front : HasFront s last c k k.phase
    pub holder : IsCommitting k.phase → s.holder ≡ Some c
    pub counted : length k.marks ≡ marked k.phase k.turn
    pub right : (t : ℕ) (m : Mark) → slice_get k.marks t ≡ Some m → TurnOkSoFar s c t m
    pub refused : IsRefusedPhase s c k.phase
    pub rising : AllPairs (λ one later. place_after one ≤ place_of later) k.marks
    pub within : All (λ m. place_after m ≤ length s.journal) k.marks

  -- a sound state: the journal is a run of the model to a last world,
  -- the values are what the cells hold there, and each cell with a tag is held by one caller.
  -- Along the marks of one caller places never fall, and after a Done they are above it
  pub record Sound (s : State) : Type 0 where
    pub valid : IsValid g.world
    pub last : Config
    pub run : Run g.verdict g.world s.journal last
    pub values : s.values ≡ values_of last
    pub tagged : length s.tags ≡ length s.values
    pub order : Order g.lists s.journal
    pub committed : (place : ℕ) (e : Entry)
        → slice_get s.journal place ≡ Some e
        → mark_of_turn (marks_so_far s) e.caller e.turn ≡ Some (mark.Done place)
    pub callers : length s.callers ≡ length g.lists.ids
    pub each : (c : ℕ) (k : Caller) → slice_get s.callers c ≡ Some k → CallerOk s last c k
    pub owned : (n : CellName) (t : ℕ)
        → at s.tags (number g.world.area n) ≡ Some t
        → t ≢ 0
        → (c : ℕ) × (k : Caller) × (slice_get s.callers c ≡ Some k) × Contains (names k.held) n
    pub holder : (c : ℕ) → s.holder ≡ Some c
        → (k : Caller) × (slice_get s.callers c ≡ Some k) × IsCommitting k.phase
