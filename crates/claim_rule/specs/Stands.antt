-- For which words, values at home and views a state of the machine stands, and the rule.
use Rattle.std.specs.Prelude.{◌≡◌, ◌≢◌, ◌⊎◌, ℕ, ◌+◌, ◌<◌, ◌≤◌, List, [], ◌∷◌, map, length, slice_get, slice_index}
use Rattle.std.specs.List.{All, Contains}
use Rattle.std.specs.declared.option.Option.{Option}
use Rattle.std.specs.declared.option.Option.TheVariants.{Some, None}
use mathlib.Core.Option as home
use lib.ListN.{get_elem?}
use Rattle.tri_lattice.specs.declared.node.Node.{Node}
use Rattle.amoebot_state.specs.declared.cell.CellName.{CellName}
use Rattle.amoebot_state.specs.declared.cell.CellName.TheVariants as name
use Rattle.amoebot_state.specs.declared.cell.Cell.{Cell}
use Rattle.amoebot_state.specs.declared.cell.Cell.TheVariants as cell
use Rattle.amoebot_state.specs.declared.verdict.Verdict.{Verdict}
use Rattle.amoebot_state.specs.Configs.{Config}
use Rattle.amoebot_state.specs.Pairs.{Pairs}
use Rattle.amoebot_state.specs.Zones.{Shown}
use Rattle.claim_core.specs.declared.marks.Mark.{Mark}
use Rattle.claim_core.specs.declared.marks.Mark.TheVariants as mark
use Rattle.claim_core.specs.declared.state.Caller.{Caller}
use Rattle.claim_core.specs.declared.state.Committed.{Committed}
use Rattle.claim_core.specs.Limits.{most_turns}
use Rattle.claim_core.specs.Turns.{Kept}
use Rattle.claim_core.specs.Cells.{number, at, cells}
use Rattle.claim_core.specs.Good.{place_of}
use Rattle.claim_core.specs.Machine.{Setup, State, fresh}
use Rattle.claim_core.specs.Reached.{entries_of, placed, IsShownAt}
use Rattle.claim_core.specs.Cores.{unmarked}
use Rattle.claim_rule.specs.declared.views.Slot.{Slot}
use Rattle.claim_rule.specs.declared.views.Slot.TheVariants as slot
use Rattle.claim_rule.specs.declared.views.Record.{Record}
use Rattle.claim_rule.specs.declared.views.Note.{Note}
use Rattle.claim_rule.specs.declared.views.Terms.{Terms}
use Rattle.claim_rule.specs.declared.views.View.{View}
use Rattle.claim_rule.specs.Words.{word_tag, word_occ, word_stamp}
use Rattle.claim_rule.specs.Views.{Content, record_of, view_of, setup_of_terms}
use Rattle.claim_rule.specs.Manners.{CommitWay, by_journal, by_ticket, after_by, last_word, first_slotted, slot_count}

-- the tag of the cell with this number
abbrev pub cell_tag : State → ℕ → ℕ
cell_tag core k = slice_index core.tags k

-- the turns of all callers that have no mark yet
abbrev pub turns_left : Setup → State → ℕ
turns_left g core = unmarked g.lists.turns (map (λ (k : Caller). k.marks) core.callers)

-- the first world with the entries, and room for those of all turns that have no mark yet
pub record IsCoreJournal (g : Setup) (core : State) (j : Kept) : Type 0 where
  pub first : j.first ≡ g.world
  pub entries : j.entries ≡ core.journal
  pub room : turns_left g core ≤ j.spare

-- a caller has the journal as it was taken exactly where it is the holder
abbrev pub HasTaken : Setup → State → ℕ → Option Kept → Type 0
HasTaken g core c None = core.holder ≢ Some c
HasTaken g core c (Some j) = (core.holder ≡ Some c) × IsCoreJournal g core j

-- the entries that a caller committed are those of the journal that are its own,
-- each with its place and what was found for it
pub record HasCommitted (g : Setup) (core : State) (c : ℕ)
    (ps : List Committed) (j : Option Kept) : Type 0 where
  pub entries : map placed ps ≡ entries_of c 0 core.journal
  pub found : All (IsShownAt g core.journal) ps
  pub taken : HasTaken g core c j

-- what a record says is so
pub record IsRecord (g : Setup) (core : State) (r : Record) : Type 0 where
  pub caller : slice_get core.callers r.number ≡ Some r.caller
  pub committed : HasCommitted g core r.number r.committed r.taken

-- the number of the journal's slot, behind those of the cells
abbrev pub journal_slot : Config → ℕ
journal_slot c = length c.bots

-- the word of the node with this number: its tag; where that is 0, its occupant; and its stamp,
-- at most the journal's length
pub record IsNodeWord (core : State) (k w : ℕ) : Type 0 where
  pub tag : word_tag w ≡ cell_tag core k
  pub free : cell_tag core k ≡ 0 → slice_get core.values k ≡ Some (cell.Spot (word_occ w))
  pub stamp : word_stamp w ≤ length core.journal

-- the words of the cells by their numbers, and that of the journal behind them
pub record AreWords (way : CommitWay) (g : Setup) (core : State) (words : List ℕ) : Type 0 where
  pub count : length words ≡ cells g.world + 1
  pub node : (k : ℕ) → k < first_slotted way g.world → IsNodeWord core k (slice_index words k)
  pub slotted : (k : ℕ) → first_slotted way g.world ≤ k
      → k < cells g.world → slice_index words k ≡ cell_tag core k
  pub journal : slice_index words (cells g.world) ≡ last_word way core

-- the journal's slot is at home where it has no holder; by tickets it has no slot,
-- and nobody ever holds it
abbrev pub IsJournalHome : CommitWay → Setup → State → List (home.Option Slot) → Type 0
IsJournalHome by_journal g core homes =
    core.holder ≡ None
    → (j : Kept) × (get_elem? homes (journal_slot g.world) ≡ home.some (home.some (slot.Journal j)))
    × IsCoreJournal g core j
IsJournalHome by_ticket g core homes = core.holder ≡ None

-- the slots of the slotted cells, and that of the journal behind them:
-- a free cell's is at home with its value
pub record AreHomes (way : CommitWay) (g : Setup) (core : State)
    (homes : List (home.Option Slot)) : Type 0 where
  pub count : length homes ≡ slot_count way g.world
  pub cell : (i : ℕ) (x : Cell) → slice_get core.tags (first_slotted way g.world + i) ≡ Some 0
      → slice_get core.values (first_slotted way g.world + i) ≡ Some x
      → get_elem? homes i ≡ home.some (home.some (slot.Cell x))
  pub journal : IsJournalHome way g core homes

-- the node's word says what it said when the node was won;
-- its stamp is at most the place in this turn's mark; and the node has the value with which it was
-- won, except for a commit of this turn
pub record IsWon (g : Setup) (words : List ℕ) (t : ℕ)
    (marks : List Mark) (v : Node) (x : Cell) (w : Note) : Type 0 where
  pub node : w.node ≡ v
  pub occ : (i : ℕ) → number g.world.area (name.Spot v) ≡ Some i → word_occ (slice_index words i) ≡ w.occ
  pub stamp : (i : ℕ) → number g.world.area (name.Spot v) ≡ Some i
      → word_stamp (slice_index words i) ≡ w.stamp
  pub settled : (m : Mark) → slice_get marks t ≡ Some m → w.stamp ≤ place_of m
  pub value : (x ≡ cell.Spot w.occ) ⊎ ((place : ℕ) × (slice_get marks t ≡ Some (mark.Done place)))

-- so it is of each node that is held, in the order of the cells that are held
abbrev pub AreWon : (Node → Cell → Note → Type 0) → Pairs → List Note → Type 0
AreWon Is [] ws = ws ≡ []
AreWon Is ((name.Spot v, x) ∷ held) ws =
    (w : Note) × (more : List Note) × (ws ≡ w ∷ more) × Is v x w × AreWon Is held more
AreWon Is ((name.Body i, x) ∷ held) ws = AreWon Is held ws

-- the node's stamp is at least the noted one, and where it is that one, so is the occupant
pub record IsNoted (g : Setup) (words : List ℕ) (m : Note) : Type 0 where
  pub least : (i : ℕ) → number g.world.area (name.Spot m.node) ≡ Some i
      → m.stamp ≤ word_stamp (slice_index words i)
  pub same : (i : ℕ) → number g.world.area (name.Spot m.node) ≡ Some i
      → word_stamp (slice_index words i) ≡ m.stamp
      → word_occ (slice_index words i) ≡ m.occ

-- what a record says of nodes' words is so
pub record IsStamped (g : Setup) (words : List ℕ) (r : Record) : Type 0 where
  pub won : AreWon (IsWon g words r.caller.turn r.caller.marks) r.caller.held r.won
  pub noted : (m : Note) → r.note ≡ Some m → IsNoted g words m

-- so it is where nodes have words; by tickets they have none, and each cell is slotted
abbrev pub IsStampedBy : CommitWay → Setup → List ℕ → Record → Type 0
IsStampedBy by_journal g words r = IsStamped g words r
IsStampedBy by_ticket g words r = Unit {0}

module _ {D : Type 0} where
  -- the view of a seat has this record at a place
  abbrev pub HasRecord : List (View D) → ℕ → ℕ → Record → Type 0
  HasRecord views seat place r =
      (v : View D) × (get_elem? views seat ≡ home.some v) × (slice_get v.records place ≡ Some r)

  module _ (verdict : D → Shown → Verdict) (z : Terms D) where
    -- each caller has exactly one record in one view, and this says what is so;
    -- a view with a record carries the terms; and a cell with a tag has
    -- the value that its holder recorded
    pub record AreViews (core : State) (views : List (View D)) : Type 0 where
      pub terms : (seat place : ℕ) (v : View D) (r : Record)
          → get_elem? views seat ≡ home.some v
          → slice_get v.records place ≡ Some r
          → v.terms ≡ Some z
      pub each : (seat place : ℕ) (r : Record) → HasRecord views seat place r
          → IsRecord (setup_of_terms verdict z) core r
      pub some : (c : ℕ) → c < length z.lists.ids
          → (seat place : ℕ) × (r : Record) × HasRecord views seat place r × (r.number ≡ c)
      pub one : (seat place other_seat other_place : ℕ) (r q : Record)
          → HasRecord views seat place r
          → HasRecord views other_seat other_place q
          → r.number ≡ q.number
          → (seat ≡ other_seat) × (place ≡ other_place)
      pub held : (n : CellName) (t : ℕ) → at core.tags (number z.world.area n) ≡ Some t → t ≢ 0 →
          (seat place : ℕ) × (r : Record) × HasRecord views seat place r
          × ((x : Cell) × Contains r.caller.held (n, x) × (at core.values (number z.world.area n) ≡ Some x))

    -- the table stands for the state; the entries and the turns without a mark are few
    pub record Stands (way : CommitWay) (s : Content D) (core : State) : Type 0 where
      pub words : AreWords way (setup_of_terms verdict z) core s.words
      pub homes : AreHomes way (setup_of_terms verdict z) core s.homes
      pub views : AreViews core s.views
      pub stamps : (seat place : ℕ) (r : Record) → HasRecord s.views seat place r
          → IsStampedBy way (setup_of_terms verdict z) s.words r
      pub few : length core.journal + turns_left (setup_of_terms verdict z) core ≤ most_turns

    -- the rule: it stands for a state that steps of the callers, the last one first,
    -- lead to from the opening
    abbrev pub KeepsRule : CommitWay → Content D → Type 0
    KeepsRule way s = (steps : List ℕ) × Stands way s (after_by way (setup_of_terms verdict z) steps)

    abbrev pub records_from : ℕ → List Caller → List Record
    records_from c [] = []
    records_from c (k ∷ ks) = record_of c k ∷ records_from (c + 1) ks

    -- the first seat knows all callers before their first turn
    abbrev pub first_view : View D
    first_view =
        view_of z (records_from 0 (map (λ (_ : List ℕ). fresh (setup_of_terms verdict z)) z.lists.ids))
