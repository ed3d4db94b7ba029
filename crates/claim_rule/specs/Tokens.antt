-- What contracts see of a field, of its seats, and of what is made of a seat.
use Rattle.std.specs.Prelude.{◌≡◌, ◌⊎◌, ℕ, ◌+◌, ◌<◌, ◌≤◌, List, [], ◌∷◌, map, reverse, length, slice_get, Bool, false}
use Rattle.std.specs.List.{All}
use Rattle.std.specs.declared.option.Option.{Option}
use Rattle.std.specs.declared.option.Option.TheVariants.{Some, None}
use Rattle.atomic_table.specs.Seated.{TableId}
use Rattle.tri_lattice.specs.declared.node.Node.{Node}
use Rattle.tri_lattice.specs.Extent.{Extent}
use Rattle.amoebot_state.specs.declared.cell.CellName.{CellName}
use Rattle.amoebot_state.specs.declared.cell.CellName.TheVariants as name
use Rattle.amoebot_state.specs.declared.cell.Cell.{Cell}
use Rattle.amoebot_state.specs.declared.verdict.Verdict.{Verdict}
use Rattle.amoebot_state.specs.Pairs.{Pairs, cell_of}
use Rattle.amoebot_state.specs.Configs.{Config, open_frame}
pub use Rattle.amoebot_state.specs.Configs.{frame_of}
use Rattle.amoebot_state.specs.Known.{walls_read}
use Rattle.amoebot_state.specs.Ways.{reading}
use Rattle.amoebot_state.specs.Zones.{Shown}
use Rattle.claim_core.specs.declared.marks.Mark.{Mark}
use Rattle.claim_core.specs.declared.state.Caller.{Caller}
use Rattle.claim_core.specs.declared.state.Look.{Look}
use Rattle.claim_core.specs.declared.state.Phase.TheVariants.{Refusing, Looking, Releasing}
use Rattle.claim_core.specs.Cells.{cells}
use Rattle.claim_core.specs.Good.{place_after}
use Rattle.claim_core.specs.Limits.{most_turns}
use Rattle.claim_core.specs.Tags.{tag, tag_caller, tag_turn, tag_bot}
use Rattle.claim_core.specs.Machine.{bot, found, next_of, phase_of_verdict, after_win, opening_phase, freeing_caller, caller}
use Rattle.claim_core.specs.Soundness.{IsSetup}
use Rattle.claim_rule.specs.declared.activation.Activation.{Activation}
use Rattle.claim_rule.specs.declared.activation.Room.{Room}
use Rattle.claim_rule.specs.declared.views.Slot.{Slot}
use Rattle.claim_rule.specs.declared.views.Slot.TheVariants as slot
use Rattle.claim_rule.specs.declared.views.Note.{Note}
use Rattle.claim_rule.specs.declared.views.Record.{Record}
use Rattle.claim_rule.specs.declared.views.Terms.{Terms}
use Rattle.claim_rule.specs.declared.views.View.{View}
use Rattle.claim_rule.specs.Words.{word_tag, word_stamp}
use Rattle.claim_rule.specs.Views.{Seated, own, like, with_note, seen, goes_on, setup_of_terms, setup_at}
use Rattle.claim_rule.specs.Manners.{CommitWay, by_journal, by_ticket, slot_of, slot_count, noted_nodes}
use Rattle.claim_rule.specs.Plays.{IsPlaced, IsKnown, IsOthers, note_of, about, bot_in}

-- which table a field has, and what it is about
pub record FieldOf (D : Type 0) : Type 0 where
  pub table : TableId
  pub terms : Terms D

-- which table a seat is of, and what it knows
pub record Token (D : Type 0) : Type 0 where
  pub table : TableId
  pub view : View D

-- what a seat knows that has noted a free word: the seat, without the note; the node;
-- and the occupant and the stamp in its word
pub record NotedOf (D : Type 0) : Type 0 where
  pub claim : Token D
  pub node : Node
  pub occ : Option ℕ
  pub stamp : ℕ

-- a turn's mark that a cell of its zone was held, as the call that was refused tells it
pub record RefusedOf : Type 0 where
  pub caller : ℕ
  pub turn : ℕ
  pub cell : CellName
  pub by_caller : ℕ
  pub by_turn : ℕ
  pub by_bot : ℕ
  pub place : ℕ

-- a turn and a place in the journal: that of the entry which it committed,
-- or the length that it saw when it looked
pub record PlacedTurn : Type 0 where
  pub caller : ℕ
  pub turn : ℕ
  pub place : ℕ

abbrev pub refused_of : ℕ → ℕ → CellName → ℕ → ℕ → RefusedOf
refused_of c t n by place = record {
  caller = c;
  turn = t;
  cell = n;
  by_caller = tag_caller by;
  by_turn = tag_turn by;
  by_bot = tag_bot by;
  place = place;
}

abbrev pub placed_turn : ℕ → ℕ → ℕ → PlacedTurn
placed_turn c t place = record { caller = c; turn = t; place = place }

-- the slots of the slotted cells that are held are out, each with the value that is held,
-- except where they are stale
abbrev pub AreOut : CommitWay → Extent → Bool → Pairs → List (ℕ × Slot) → Type 0
AreOut way a stale [] outs = outs ≡ []
AreOut by_journal a stale ((name.Spot v, x) ∷ held) outs = AreOut by_journal a stale held outs
AreOut by_journal a stale ((name.Body i, x) ∷ held) outs =
    (y : Cell) × (more : List (ℕ × Slot)) × (outs ≡ (i, slot.Cell y) ∷ more) × (stale ≡ false → y ≡ x)
    × AreOut by_journal a stale held more
AreOut by_ticket a stale ((n, x) ∷ held) outs =
    (y : Cell) × (more : List (ℕ × Slot))
    × (outs ≡ (slot_of by_ticket a n, slot.Cell y) ∷ more) × (stale ≡ false → y ≡ x)
    × AreOut by_ticket a stale held more

-- what a caller knows of its turn while it claims: its tag,
-- and the zone as far as the cells tell it that are held
pub record KnowsTurn (r : Room) : Type 0 where
  pub tag : r.tag ≡ tag r.caller r.turn r.bot
  pub zone : r.zone ≡ reading r.area r.bot r.cells

-- what it knows of walls then: those of the world among the nodes that it holds
abbrev pub KnowsWalls : Config → Room → Type 0
KnowsWalls w r = r.walls.items ≡ walls_read w r.cells

module _ {D : Type 0} where
  -- the record of the seat's caller, the caller's number, and where it stands
  abbrev pub record_in : Token D → Record
  record_in t = own t.view

  abbrev pub number_in : Token D → ℕ
  number_in t = (own t.view).number

  abbrev pub doing : Token D → Caller
  doing t = (own t.view).caller

  -- the seat where its caller has come on
  abbrev pub goes : Token D → Caller → Token D
  goes t k = record t { view = goes_on t.view k }

  -- an activation as its seat's token, and the cells that it holds, the one won last at the front
  abbrev pub token_in : {W : Type 0} → Activation D W → Token D
  token_in a = record { table = a.seat.table_id; view = seen a.seat.me.0 }

  abbrev pub cells_in : {W : Type 0} → Activation D W → Pairs
  cells_in a = reverse a.room.value.cells

  abbrev pub notes_in : {W : Type 0} → Activation D W → List Note
  notes_in a = reverse a.room.value.notes

  -- the seat without its note
  abbrev pub unnoted : Seated D → Seated D
  unnoted m = (like m.0 (with_note (own m.0) None ∷ []), m.1)

  -- the whole zone is held, the verdict on it is Idle or Failed,
  -- and the journal's length was not looked at
  abbrev pub IsToLook : Token D → Type 0
  IsToLook t = (l : Look) × ((doing t).phase ≡ Looking l)

  -- the turn has its mark
  abbrev pub IsMarked : Token D → Type 0
  IsMarked t = (doing t).phase ≡ Releasing

  -- this turn has its mark, and this is the stamp of a node that its commit has changed
  pub record HasMark (m : Seated D) (t after : ℕ) : Type 0 where
    pub mark : Mark
    pub counted : length (own m.0).caller.marks ≡ t + 1
    pub there : slice_get (own m.0).caller.marks t ≡ Some mark
    pub stamp : after ≡ place_after mark
    pub few : after ≤ most_turns

  -- the seat is of this field
  pub record IsOf (f : FieldOf D) (t : Token D) : Type 0 where
    pub table : t.table ≡ f.table
    pub terms : t.view.terms ≡ Some f.terms

  module _ (verdict : D → Shown → Verdict) where
    -- what a field keeps: it is about something that may be run,
    -- and has a word for each cell and for the journal, and a slot for each slotted cell
    -- and for the journal, if it has one
    pub record IsField (way : CommitWay) (f : FieldOf D) (d : D) (w : Config) : Type 0 where
      pub run : IsSetup (setup_of_terms verdict f.terms)
      pub words : f.table.words ≡ cells f.terms.world + 1
      pub slots : f.table.slots ≡ slot_count way f.terms.world
      pub decider : f.terms.decider ≡ d
      pub world : f.terms.world ≡ w

    -- what a seat between two turns keeps: it has the record of one caller,
    -- which is to begin this turn or has ended, and no slot
    pub record IsSeat (m : Seated D) (c t : ℕ) (w : Config) : Type 0 where
      pub alone : m.0.records ≡ own m.0 ∷ []
      pub run : IsSetup (setup_at verdict m.0.terms)
      pub number : (own m.0).number ≡ c
      pub listed : c < length (setup_at verdict m.0.terms).lists.ids
      pub counted : length (own m.0).caller.marks ≡ t
      pub rests : (own m.0).caller
          ≡ caller t (opening_phase (setup_at verdict m.0.terms) t) [] (own m.0).caller.marks
      pub taken : (own m.0).taken ≡ None
      pub won : (own m.0).won ≡ []
      pub note : (own m.0).note ≡ None
      pub out : m.1 ≡ []
      pub world : w ≡ open_frame (setup_at verdict m.0.terms).world

    -- the next cell of the zone by the values that were recorded,
    -- what was found in the cells that are held, and the decision on it
    abbrev pub next_in : Token D → Option CellName
    next_in t = next_of (about verdict t.view) (bot_in verdict t.view) (doing t).held

    abbrev pub found_in : Token D → Shown
    found_in t = found (about verdict t.view) (bot_in verdict t.view) (doing t).held

    abbrev pub verdict_in : Token D → Verdict
    verdict_in t = (about verdict t.view).verdict (found_in t)

    -- what every activation keeps: the seat has the record of one caller in this turn of its list,
    -- which holds these cells, with their values, and won the nodes among them that have words
    -- with what these notes say; the slots of the cells with one are out, and stale or not
    pub record IsActivation (way : CommitWay) (m : Seated D)
        (c t b : ℕ) (stale : Bool) (w : Config) (pairs : Pairs)
        (notes : List Note) : Type 0 where
      pub alone : m.0.records ≡ own m.0 ∷ []
      pub run : IsSetup (about verdict m.0)
      pub number : (own m.0).number ≡ c
      pub listed : c < length (about verdict m.0).lists.ids
      pub turn : t < (about verdict m.0).lists.turns
      pub bot : b ≡ bot (about verdict m.0) c t
      pub taken : (own m.0).taken ≡ None
      pub world : w ≡ open_frame (about verdict m.0).world
      pub held : (own m.0).caller.held ≡ pairs
      pub placed : All (λ (p : CellName × Cell). (i : ℕ) × IsPlaced (about verdict m.0) (cell_of p) i) pairs
      pub won : (own m.0).won ≡ notes
      pub note : (own m.0).note ≡ None
      pub nodes : map (λ (n : Note). n.node) notes ≡ noted_nodes way pairs
      pub few : All (λ (n : Note). n.stamp ≤ most_turns) notes
      pub out : AreOut way w.area stale pairs m.1

    -- the same of the parts of an activation: what its seat knows and has out, and its room
    abbrev pub KeepsRoom : CommitWay → Seated D → Room → Type 0
    KeepsRoom way m r = IsActivation way m r.caller r.turn r.bot r.stale
        (frame_of r.area r.maxes) (reverse r.cells) (reverse r.notes)

    abbrev pub KeepsActivation : {W : Type 0} → CommitWay → Activation D W → Type 0
    KeepsActivation way a = KeepsRoom way a.seat.me a.room.value

    -- it claims, or holds its whole zone
    pub record IsClaiming (m : Seated D) (t b : ℕ) (held : Pairs) : Type 0 where
      pub turn : (own m.0).caller.turn ≡ t
      pub counted : length (own m.0).caller.marks ≡ t
      pub phase : (own m.0).caller.phase
          ≡ after_win (about verdict m.0) b held (next_of (about verdict m.0) b held)
      pub known : IsKnown (about verdict m.0) b held

    -- it claims, and has noted this free word of this node, which is the next cell;
    -- except for the note it is as it was
    pub record IsNoting (m : Seated D) (c t b : ℕ) (stale : Bool)
        (w : Config) (pairs : Pairs) (notes : List Note)
        (v : Node) (word : ℕ) : Type 0 where
      pub alone : m.0.records ≡ own m.0 ∷ []
      pub activation : IsActivation by_journal (unnoted m) c t b stale w pairs notes
      pub claiming : IsClaiming (unnoted m) t b pairs
      pub note : (own m.0).note ≡ Some (note_of v word)
      pub next : next_of (about verdict m.0) b pairs ≡ Some (name.Spot v)
      pub free : word_tag word ≡ 0
      pub few : word_stamp word ≤ most_turns

    -- in this turn it found the tag of another caller's turn at the next cell
    pub record IsStopped (m : Seated D) (c t b : ℕ) (held : Pairs) : Type 0 where
      pub turn : (own m.0).caller.turn ≡ t
      pub counted : length (own m.0).caller.marks ≡ t
      pub cell : CellName
      pub next : next_of (about verdict m.0) b held ≡ Some cell
      pub tag : ℕ
      pub other : IsOthers (about verdict m.0) c tag
      pub phase : (own m.0).caller.phase ≡ Refusing cell tag

    -- it holds its whole zone, and has this verdict on it or its mark
    pub record HoldsWholeZone (m : Seated D) (t b : ℕ)
        (held : Pairs) (told : Shown) (after : ℕ) : Type 0 where
      pub turn : (own m.0).caller.turn ≡ t
      pub whole : next_of (about verdict m.0) b held ≡ None
      pub shown : told ≡ found (about verdict m.0) b held
      pub phase : (((own m.0).caller.phase ≡ phase_of_verdict ((about verdict m.0).verdict told))
          × (length (own m.0).caller.marks ≡ t))
          ⊎ (((own m.0).caller.phase ≡ Releasing) × HasMark m t after)

    -- so it is of what its room keeps as found
    pub record KeepsFound (m : Seated D) (r : Room) : Type 0 where
      pub told : Shown
      pub kept : r.found ≡ Some told
      pub whole : HoldsWholeZone m r.turn r.bot (reverse r.cells) told r.after

    -- it has its mark and frees what it holds; with nothing held its next turn begins
    pub record IsFreeing (m : Seated D) (t : ℕ) (held : Pairs) (after : ℕ) : Type 0 where
      pub caller : (own m.0).caller ≡ freeing_caller (about verdict m.0) t held (own m.0).caller.marks
      pub marked : HasMark m t after
