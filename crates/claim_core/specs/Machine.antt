-- The claim protocol as a machine: the states of all callers together, and one step of a caller.
use Rattle.std.specs.Prelude.{ℕ, ◌+◌, List, [], ◌∷◌, ◌++◌, map, length, reverse, nat_eq, nat_lt, if◌then◌else◌, slice_get, slice_set, unwrap_or}
use Rattle.std.specs.declared.option.Option.{Option}
use Rattle.std.specs.declared.option.Option.TheVariants.{Some, None}
use Rattle.amoebot_state.specs.declared.cell.CellName.{CellName}
use Rattle.amoebot_state.specs.declared.cell.Cell.{Cell}
use Rattle.amoebot_state.specs.declared.verdict.Change.{Change}
use Rattle.amoebot_state.specs.declared.verdict.Entry.{Entry}
use Rattle.amoebot_state.specs.declared.verdict.Verdict.{Verdict}
use Rattle.amoebot_state.specs.declared.verdict.Verdict.TheVariants as verdict
use Rattle.amoebot_state.specs.Pairs.{Pairs, cell_of, cell_value, plain_patch}
use Rattle.amoebot_state.specs.Configs.{Config}
use Rattle.amoebot_state.specs.Zones.{Shown, shown_with}
use Rattle.amoebot_state.specs.Known.{next_cell}
use Rattle.amoebot_state.specs.Steps.{entry_of}
use Rattle.amoebot_state.specs.Storage.{put_at}
use Rattle.claim_core.specs.declared.marks.Mark.{Mark}
use Rattle.claim_core.specs.declared.marks.Mark.TheVariants as mark
use Rattle.claim_core.specs.declared.state.Look.{Look}
use Rattle.claim_core.specs.declared.state.Look.TheVariants as look
use Rattle.claim_core.specs.declared.state.Phase.{Phase}
use Rattle.claim_core.specs.declared.state.Phase.TheVariants.{Claim, Refusing, Looking, Taking, Committing, Releasing, Ended}
use Rattle.claim_core.specs.declared.state.Caller.{Caller}
use Rattle.claim_core.specs.declared.state.Committed.{Committed}
use Rattle.claim_core.specs.Turns.{CallerLists, bot_of_turn}
use Rattle.claim_core.specs.Tags.{tag, tag_caller, tag_turn, tag_bot}
use Rattle.claim_core.specs.Cells.{number, at, values_of, given, patched}

-- what a run is about: the decider's meaning, the world that it begins with, and the callers' lists
pub record Setup : Type 0 where
  pub verdict : Shown → Verdict
  pub world : Config
  pub lists : CallerLists

-- what callers with these lists do from a world
abbrev pub setup : (Shown → Verdict) → Config → CallerLists → Setup
setup verdict world lists = record { verdict = verdict; world = world; lists = lists }

-- the tag and the value of each cell, by the cells' numbers; the journal,
-- and the caller that holds it, if one does; the callers
pub record State : Type 0 where
  pub tags : List ℕ
  pub values : List Cell
  pub journal : List Entry
  pub holder : Option ℕ
  pub callers : List Caller

abbrev pub caller : ℕ → Phase → Pairs → List Mark → Caller
caller t p h m = record { turn = t; phase = p; held = h; marks = m }

-- the value of a held cell once a patch is committed
abbrev pub patched_pair : Pairs → CellName × Cell → CellName × Cell
patched_pair patch p = (cell_of p, unwrap_or (given patch (cell_of p)) (cell_value p))

-- the phase of a caller with its decision
abbrev pub phase_of_verdict : Verdict → Phase
phase_of_verdict verdict.Idle = Looking look.Idle
phase_of_verdict (verdict.Failed why) = Looking (look.Failed why)
phase_of_verdict (verdict.Change change) = Taking change

-- the mark of a turn that changes nothing
abbrev pub mark_of_look : Look → ℕ → Mark
mark_of_look look.Idle place = mark.Idle place
mark_of_look (look.Failed why) place = mark.Failed why place

-- the mark of a turn that found a tag at a cell
abbrev pub busy_mark : CellName → ℕ → ℕ → Mark
busy_mark n t place = mark.Busy n (tag_caller t) (tag_turn t) (tag_bot t) place

module _ (g : Setup) where
  -- the amoebot of a caller's turn, and its tag
  abbrev pub bot : ℕ → ℕ → ℕ
  bot c t = bot_of_turn g.lists c t

  abbrev pub own_tag : ℕ → ℕ → ℕ
  own_tag c t = tag c t (bot c t)

  -- what an amoebot was shown, where the cells were read in the zone's order;
  -- the last one stands first
  abbrev pub found : ℕ → Pairs → Shown
  found b held = shown_with g.world b (reverse held)

  -- the next cell of the zone of an amoebot, by what is known of those that are held
  abbrev pub next_of : ℕ → Pairs → Option CellName
  next_of b held = next_cell g.world.area b (reverse held)

  -- the phase after a cell was won: with the last one of the zone comes the decision
  abbrev pub after_win : ℕ → Pairs → Option CellName → Phase
  after_win b held (Some n) = Claim
  after_win b held None = phase_of_verdict (g.verdict (found b held))

  abbrev pub caller_with_cell : ℕ → Caller → CellName → Cell → Caller
  caller_with_cell c k n x =
      let held : Pairs = (n, x) ∷ k.held in
      record k { phase = after_win (bot c k.turn) held (next_of (bot c k.turn) held); held = held }

  -- the phase in which a turn begins
  abbrev pub opening_phase : ℕ → Phase
  opening_phase t = if nat_lt t g.lists.turns then Claim else Ended

  -- a caller that goes on to free its cells, of which there may be none: then its next turn begins
  abbrev pub freeing_caller : ℕ → Pairs → List Mark → Caller
  freeing_caller t [] m = caller (t + 1) (opening_phase (t + 1)) [] m
  freeing_caller t (p ∷ held) m = caller t Releasing (p ∷ held) m

  -- the state with another record of a caller
  abbrev pub with_caller : State → ℕ → Caller → State
  with_caller s c k = record s { callers = slice_set s.callers c k }

  -- a claim: the cell is free and is won, or it has another's tag
  abbrev pub wins : ℕ → State → Caller → CellName → Option Cell → State
  wins c s k n None = s
  wins c s k n (Some x) =
      record s {
        tags = put_at s.tags (number g.world.area n) (own_tag c k.turn);
        callers = slice_set s.callers c (caller_with_cell c k n x);
      }

  abbrev pub claims : ℕ → State → Caller → CellName → ℕ → State
  claims c s k n t =
      if nat_eq t 0
      then wins c s k n (at s.values (number g.world.area n))
      else with_caller s c (record k { phase = Refusing n t })

  abbrev pub finds : ℕ → State → Caller → CellName → Option ℕ → State
  finds c s k n None = s
  finds c s k n (Some t) = claims c s k n t

  abbrev pub tries : ℕ → State → Caller → Option CellName → State
  tries c s k None = s
  tries c s k (Some n) = finds c s k n (at s.tags (number g.world.area n))

  -- a look at the journal's length: it is the place in the turn's mark
  abbrev pub looks : ℕ → State → Caller → Mark → State
  looks c s k m = with_caller s c (freeing_caller k.turn k.held (k.marks ++ m ∷ []))

  -- a try to take the journal, which another may hold
  abbrev pub takes : ℕ → State → Caller → Change → Option ℕ → State
  takes c s k change (Some d) = s
  takes c s k change None =
      record s { holder = Some c; callers = slice_set s.callers c (record k { phase = Committing change }) }

  -- the entry of a turn
  abbrev pub entry : ℕ → ℕ → Change → Entry
  entry c t change = entry_of c t (bot c t) change

  -- a commit, all in one step
  abbrev pub commits : ℕ → State → Caller → Change → State
  commits c s k change = record {
    tags = s.tags;
    values = patched g.world.area (plain_patch change.patch) s.values;
    journal = s.journal ++ entry c k.turn change ∷ [];
    holder = None;
    callers =
        slice_set s.callers c
        (freeing_caller k.turn (map (patched_pair (plain_patch change.patch)) k.held)
        (k.marks ++ mark.Done (length s.journal) ∷ []));
  }

  -- the release of the cell that was won last
  abbrev pub releases : ℕ → State → Caller → Pairs → State
  releases c s k [] = s
  releases c s k (p ∷ held) =
      record s {
        tags = put_at s.tags (number g.world.area (cell_of p)) 0;
        callers = slice_set s.callers c (freeing_caller k.turn held k.marks);
      }

  -- the step of a caller in each phase
  abbrev pub by_phase : ℕ → State → Caller → Phase → State
  by_phase c s k Claim = tries c s k (next_of (bot c k.turn) k.held)
  by_phase c s k (Refusing n t) = looks c s k (busy_mark n t (length s.journal))
  by_phase c s k (Looking l) = looks c s k (mark_of_look l (length s.journal))
  by_phase c s k (Taking change) = takes c s k change s.holder
  by_phase c s k (Committing change) = commits c s k change
  by_phase c s k Releasing = releases c s k k.held
  by_phase c s k Ended = s

  abbrev pub acts : ℕ → State → Option Caller → State
  acts c s None = s
  acts c s (Some k) = by_phase c s k k.phase

  -- one step of a caller
  abbrev pub next : ℕ → State → State
  next c s = acts c s (slice_get s.callers c)

  -- the callers before their first turn
  abbrev pub fresh : Caller
  fresh = caller 0 (opening_phase 0) [] []

  -- the state in which a run begins
  abbrev pub opening : State
  opening =
      record {
        tags = map (λ _. 0) (values_of g.world);
        values = values_of g.world;
        journal = [];
        holder = None;
        callers = map (λ _. fresh) g.lists.ids;
      }

  -- the state after steps of these callers, of which the last one stands first
  abbrev pub after : List ℕ → State
  after [] = opening
  after (c ∷ steps) = next c (after steps)

  -- what the next step of a caller commits, with what was found for it
  abbrev pub commit_of : ℕ → State → Caller → Phase → List Committed
  commit_of c s k (Committing change) =
      record { place = length s.journal; entry = entry c k.turn change; found = found (bot c k.turn) k.held }
      ∷ []
  commit_of c s k phase = []

  abbrev pub commit_by : ℕ → State → Option Caller → List Committed
  commit_by c s None = []
  commit_by c s (Some k) = commit_of c s k k.phase

  -- beside the state: the entries that a caller committed in these steps,
  -- each with its place and what was found for it
  abbrev pub committed : ℕ → List ℕ → List Committed
  committed c [] = []
  committed c (d ∷ steps) =
      if nat_eq d c
      then committed c steps ++ commit_by c (after steps) (slice_get (after steps).callers c)
      else committed c steps
