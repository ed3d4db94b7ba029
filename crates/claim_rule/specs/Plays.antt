-- What each step tells the seat that makes it: how its record changes, and nothing else.
use Rattle.std.specs.Prelude.{◌≡◌, ◌≢◌, ℕ, ◌+◌, ◌<◌, ◌≤◌, List, [], ◌∷◌, ◌++◌, reverse, length, slice_get, unwrap_or}
use Rattle.std.specs.declared.option.Option.{Option}
use Rattle.std.specs.declared.option.Option.TheVariants.{Some, None}
use Rattle.atomic_table.specs.Table.{Step, rest}
use Rattle.tri_lattice.specs.declared.node.Node.{Node}
use Rattle.amoebot_state.specs.declared.cell.CellName.{CellName}
use Rattle.amoebot_state.specs.declared.cell.CellName.TheVariants as name
use Rattle.amoebot_state.specs.declared.cell.Cell.{Cell}
use Rattle.amoebot_state.specs.declared.cell.Cell.TheVariants as cell
use Rattle.amoebot_state.specs.declared.verdict.Verdict.{Verdict}
use Rattle.amoebot_state.specs.Known.{AreReadInOrder}
use Rattle.amoebot_state.specs.Limits.{most_cells}
use Rattle.amoebot_state.specs.Pairs.{Pairs}
use Rattle.amoebot_state.specs.Zones.{Shown, IsShown}
use Rattle.claim_core.specs.declared.marks.Mark.{Mark}
use Rattle.claim_core.specs.declared.marks.Mark.TheVariants as mark
use Rattle.claim_core.specs.declared.state.Caller.{Caller}
use Rattle.claim_core.specs.declared.state.Phase.{Phase}
use Rattle.claim_core.specs.declared.state.Phase.TheVariants.{Claim, Refusing, Looking, Taking, Committing, Releasing, Ended}
use Rattle.claim_core.specs.Limits.{most_turns}
use Rattle.claim_core.specs.Tags.{tag_caller, tag_turn, tag_bot}
use Rattle.claim_core.specs.Cells.{number, cells}
use Rattle.claim_core.specs.Good.{place_after}
use Rattle.claim_core.specs.Machine.{Setup, bot, own_tag, found, next_of, caller_with_cell, freeing_caller, mark_of_look, busy_mark}
use Rattle.claim_rule.specs.declared.views.Slot.{Slot}
use Rattle.claim_rule.specs.declared.views.Slot.TheVariants as slot
use Rattle.claim_rule.specs.declared.views.View.{View}
use Rattle.claim_rule.specs.declared.views.Note.{Note}
use Rattle.claim_rule.specs.declared.views.Record.{Record}
use Rattle.claim_rule.specs.Words.{node_word, word_tag, word_occ, word_stamp}
use Rattle.claim_rule.specs.Views.{Seated, own, like, with_note, goes_on, setup_at}
use Rattle.claim_rule.specs.Manners.{CommitWay, length_in, first_slotted, slot_of}

-- a cell of the area or of an amoebot that is there, by its number
abbrev pub IsPlaced : Setup → CellName → ℕ → Type 0
IsPlaced g n i = (number g.world.area n ≡ Some i) × (i < cells g.world)

-- what is known of a zone of which these cells are held: they were read in zone order;
-- they tell the next cell, and, if it is the whole zone, what its amoebot is shown
pub record IsKnown (g : Setup) (b : ℕ) (held : Pairs) : Type 0 where
  pub order : AreReadInOrder g.world.area b (reverse held)
  pub few : length held ≤ most_cells
  pub placed : (n : CellName) → next_of g b held ≡ Some n → (i : ℕ) × IsPlaced g n i
  pub shown : next_of g b held ≡ None → IsShown (found g b held)

-- the tag of a turn of another caller, on its amoebot
pub record IsOthers (g : Setup) (c t : ℕ) : Type 0 where
  pub some : t ≢ 0
  pub listed : tag_caller t < length g.lists.ids
  pub other : tag_caller t ≢ c
  pub turn : tag_turn t < g.lists.turns
  pub of : tag_bot t ≡ bot g (tag_caller t) (tag_turn t)

-- a caller in this phase reads the journal's length, for its turn's mark
abbrev pub IsToRead : Phase → Type 0
IsToRead Claim = ⊥
IsToRead (Refusing n t) = Unit {0}
IsToRead (Looking l) = Unit {0}
IsToRead (Taking change) = ⊥
IsToRead (Committing change) = ⊥
IsToRead Releasing = ⊥
IsToRead Ended = ⊥

-- a caller in this phase holds its whole zone, and its turn has no mark
abbrev pub HoldsZone : Phase → Type 0
HoldsZone Claim = ⊥
HoldsZone (Refusing n t) = ⊥
HoldsZone (Looking l) = Unit {0}
HoldsZone (Taking change) = Unit {0}
HoldsZone (Committing change) = Unit {0}
HoldsZone Releasing = ⊥
HoldsZone Ended = ⊥

-- the mark that it gets, at the place that is read
abbrev pub mark_of_phase : Phase → ℕ → Mark
mark_of_phase Claim place = mark.Idle place
mark_of_phase (Refusing n t) place = busy_mark n t place
mark_of_phase (Looking l) place = mark_of_look l place
mark_of_phase (Taking change) place = mark.Idle place
mark_of_phase (Committing change) place = mark.Idle place
mark_of_phase Releasing place = mark.Idle place
mark_of_phase Ended place = mark.Idle place

-- the cells but the one that was won last
abbrev pub but_last : Pairs → Pairs
but_last [] = []
but_last (p ∷ held) = held

-- the occupant in the value of a node
abbrev pub occ_in : Cell → Option ℕ
occ_in (cell.Spot o) = o
occ_in (cell.Body b) = None

abbrev pub but_first : List Note → List Note
but_first [] = []
but_first (w ∷ ws) = ws

-- what a word of a node says
abbrev pub note_of : Node → ℕ → Note
note_of v w = record { node = v; occ = word_occ w; stamp = word_stamp w }

-- the record of a caller that wins the node which it noted,
-- and that of one which finds another's tag at a node
abbrev pub with_node : Setup → Record → Note → Record
with_node g r w = record r {
  caller = caller_with_cell g r.number r.caller (name.Spot w.node) (cell.Spot w.occ);
  won = w ∷ r.won;
  note = None;
}

abbrev pub refused_at : Record → Node → ℕ → Record
refused_at r v t = record r { caller = record r.caller { phase = Refusing (name.Spot v) t }; note = None }

-- the stamp with which a node is freed: one more than the place of this turn's commit
-- where its occupant has changed, and else the one with which it was won
pub record IsLeft (r : Record) (o : Option ℕ) (w : Note) (stamp : ℕ) : Type 0 where
  pub same : o ≡ w.occ → stamp ≡ w.stamp
  pub changed : o ≢ w.occ
      → (m : Mark) × (slice_get r.caller.marks r.caller.turn ≡ Some m) × (stamp ≡ place_after m)

-- the caller with its turn's mark, at a place
abbrev pub marked_at : Setup → Caller → ℕ → Caller
marked_at g k place = freeing_caller g k.turn k.held (k.marks ++ mark_of_phase k.phase place ∷ [])

-- the caller without the cell that it won last
abbrev pub released_caller : Setup → Caller → Caller
released_caller g k = freeing_caller g k.turn (but_last k.held) k.marks

module _ {D : Type 0} (verdict : D → Shown → Verdict) where
  abbrev pub about : View D → Setup
  about v = setup_at verdict v.terms

  -- the amoebot of the caller's turn
  abbrev pub bot_in : View D → ℕ
  bot_in v = bot (about v) (own v).number (own v).caller.turn

  -- the cell that the caller tries next
  abbrev pub tried : View D → CellName
  tried v = unwrap_or (next_of (about v) (bot_in v) (own v).caller.held) (name.Body 0)

  -- the caller tries the slotted cell with this number next, for its turn's tag
  pub record IsToTry (way : CommitWay) (i t : ℕ) (v : View D) : Type 0 where
    pub phase : (own v).caller.phase ≡ Claim
    pub next : next_of (about v) (bot_in v) (own v).caller.held ≡ Some (tried v)
    pub placed : IsPlaced (about v) (tried v) i
    pub slotted : first_slotted way (about v).world ≤ i
    pub tag : t ≡ own_tag (about v) (own v).number (own v).caller.turn

  -- the slotted cell that the caller tried is won with its value, and its slot is out
  pub record Wins (way : CommitWay) (m m' : Seated D) : Type 0 where
    pub value : Cell
    pub now : m'.0
        ≡ goes_on m.0 (caller_with_cell (about m.0) (own m.0).number (own m.0).caller (tried m.0) value)
    pub out : m'.1 ≡ (slot_of way (about m.0).world.area (tried m.0), slot.Cell value) ∷ m.1
    pub known : IsKnown (about m.0) (bot_in m.0) ((tried m.0, value) ∷ (own m.0).caller.held)

  -- the claim is refused by this tag of another caller
  pub record IsRefusedAt (t : ℕ) (m m' : Seated D) : Type 0 where
    pub now : m'.0 ≡ goes_on m.0 (record (own m.0).caller { phase = Refusing (tried m.0) t })
    pub out : m'.1 ≡ m.1
    pub other : IsOthers (about m.0) (own m.0).number t

  -- a tag of 0 was found, and the cell is won with its value; or another's was,
  -- and the claim is refused
  abbrev pub Claims : CommitWay → Step Slot → Seated D → ℕ → Seated D → Type 0
  Claims way st m t m' = (t ≡ 0 → Wins way m m') × (t ≢ 0 → IsRefusedAt t m m')

  -- the caller tries this node next, whose word has this number
  pub record IsToTryNode (i : ℕ) (v : View D) : Type 0 where
    pub phase : (own v).caller.phase ≡ Claim
    pub node : Node
    pub next : next_of (about v) (bot_in v) (own v).caller.held ≡ Some (name.Spot node)
    pub placed : IsPlaced (about v) (name.Spot node) i

  -- and it noted a free word of the node, into which it puts its tag
  pub record IsToWin (i old new : ℕ) (v : View D) : Type 0 where
    pub tries : IsToTryNode i v
    pub note : Note
    pub noted : (own v).note ≡ Some note
    pub of : note.node ≡ tries.node
    pub found : (word_tag old ≡ 0) × (word_occ old ≡ note.occ) × (word_stamp old ≡ note.stamp)
    pub put : new ≡ old + own_tag (about v) (own v).number (own v).caller.turn

  -- the node that was noted is won, with the occupant that was noted
  pub record WinsNode (m m' : Seated D) : Type 0 where
    pub note : Note
    pub noted : (own m.0).note ≡ Some note
    pub now : m'.0 ≡ like m.0 (with_node (about m.0) (own m.0) note ∷ [])
    pub out : m'.1 ≡ m.1
    pub known : IsKnown (about m.0) (bot_in m.0)
        ((name.Spot note.node, cell.Spot note.occ) ∷ (own m.0).caller.held)

  -- another's tag was found at the node: the claim is refused
  pub record StopsAt (m : Seated D) (t : ℕ) (m' : Seated D) : Type 0 where
    pub node : Node
    pub next : next_of (about m.0) (bot_in m.0) (own m.0).caller.held ≡ Some (name.Spot node)
    pub now : m'.0 ≡ like m.0 (refused_at (own m.0) node (word_tag t) ∷ [])
    pub out : m'.1 ≡ m.1
    pub other : IsOthers (about m.0) (own m.0).number (word_tag t)

  -- a free word of the node was found, and noted
  pub record NotesWord (m : Seated D) (t : ℕ) (m' : Seated D) : Type 0 where
    pub node : Node
    pub next : next_of (about m.0) (bot_in m.0) (own m.0).caller.held ≡ Some (name.Spot node)
    pub now : m'.0 ≡ like m.0 (with_note (own m.0) (Some (note_of node t)) ∷ [])
    pub out : m'.1 ≡ m.1
    pub few : word_stamp t ≤ most_turns

  -- a load of a node's word: it is free, or has another's tag
  abbrev pub LooksAt : Step Slot → Seated D → ℕ → Seated D → Type 0
  LooksAt st m t m' = (word_tag t ≡ 0 → NotesWord m t m') × (word_tag t ≢ 0 → StopsAt m t m')

  -- a try to put the tag into the noted word: the node is won; or another's tag was found;
  -- or another free word, which has a greater stamp
  abbrev pub TriesNode : Step Slot → Seated D → ℕ → Seated D → Type 0
  TriesNode st m t m' =
      (t ≡ st.first → WinsNode m m')
      × (word_tag t ≢ 0 → StopsAt m t m')
      × (word_tag t ≡ 0 → t ≢ st.first → NotesWord m t m' × (word_stamp st.first < word_stamp t))

  -- the node with this number was won last, and its word is to be this
  pub record IsToFreeNode (i x : ℕ) (v : View D) : Type 0 where
    pub phase : (own v).caller.phase ≡ Releasing
    pub node : Node
    pub value : Cell
    pub held : Pairs
    pub last : (own v).caller.held ≡ (name.Spot node, value) ∷ held
    pub placed : IsPlaced (about v) (name.Spot node) i
    pub note : Note
    pub more : List Note
    pub won : (own v).won ≡ note ∷ more
    pub stamp : ℕ
    pub left : IsLeft (own v) (occ_in value) note stamp
    pub word : x ≡ node_word 0 (occ_in value) stamp

  -- the node is free
  abbrev pub ReleasesNode : Step Slot → Seated D → ℕ → Seated D → Type 0
  ReleasesNode st m t m' =
      (m'.0 ≡ like m.0 (record (own m.0) {
        caller = released_caller (about m.0) (own m.0).caller;
        won = but_first (own m.0).won;
      } ∷ []))
      × (m'.1 ≡ m.1)

  -- the slotted cell with this number was won last, and the seat has its value to put home
  pub record IsToFree (way : CommitWay) (i : ℕ) (m : Seated D) : Type 0 where
    pub phase : (own m.0).caller.phase ≡ Releasing
    pub inside : i < cells (about m.0).world
    pub slotted : first_slotted way (about m.0).world ≤ i
    pub last : (n : CellName) × (x : Cell) × (held : Pairs) × (more : List (ℕ × Slot))
        × ((own m.0).caller.held ≡ (n, x) ∷ held)
        × (number (about m.0).world.area n ≡ Some i)
        × (m.1 ≡ (slot_of way (about m.0).world.area n, slot.Cell x) ∷ more)

  -- the cell is free
  abbrev pub Releases : Step Slot → Seated D → ℕ → Seated D → Type 0
  Releases st m t m' = (m'.0 ≡ goes_on m.0 (released_caller (about m.0) (own m.0).caller)) × (m'.1 ≡ rest m.1)

  -- the journal's length is what its word tells, and at most 65,536: the turn has its mark
  abbrev pub ReadsLength : CommitWay → Step Slot → Seated D → ℕ → Seated D → Type 0
  ReadsLength way st m t m' =
      (m'.0 ≡ goes_on m.0 (marked_at (about m.0) (own m.0).caller (length_in way t)))
      × (m'.1 ≡ m.1)
      × (length_in way t ≤ most_turns)
