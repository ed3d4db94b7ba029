-- The two ways in which a change is committed: the caller takes the journal before,
-- and frees it with the commit; or the commit draws its place, in one step.
-- Here stands all that depends on the way.
use Rattle.std.specs.Prelude.{ℕ, ◌+◌, ◌*◌, ◌/◌, List, [], length, unwrap_or, Bool, true, false}
use Rattle.std.specs.declared.option.Option.{Option}
use Rattle.std.specs.Option.{option_len}
use Rattle.tri_lattice.specs.declared.node.Node.{Node}
use Rattle.tri_lattice.specs.Extent.{Extent}
use Rattle.amoebot_state.specs.declared.cell.CellName.{CellName}
use Rattle.amoebot_state.specs.declared.cell.CellName.TheVariants as name
use Rattle.amoebot_state.specs.Configs.{Config}
use Rattle.amoebot_state.specs.Pairs.{Pairs, nodes_in}
use Rattle.claim_core.specs.Cells.{number, cells}
use Rattle.claim_core.specs.Machine.{Setup, State, next, after}
use Rattle.claim_core.specs.Tickets.{ticket_next, ticket_after}

pub data CommitWay : Type 0 where
  by_journal : CommitWay
  by_ticket : CommitWay

-- one step of a caller, and the state after some, of which the last one stands first
abbrev pub next_by : CommitWay → Setup → ℕ → State → State
next_by by_journal g = next g
next_by by_ticket g = ticket_next g

abbrev pub after_by : CommitWay → Setup → List ℕ → State
after_by by_journal g = after g
after_by by_ticket g = ticket_after g

-- the word behind those of the cells: twice the journal's length,
-- plus one exactly where it has a holder; or the length
abbrev pub length_word : CommitWay → ℕ → Option ℕ → ℕ
length_word by_journal n holder = 2 * n + option_len holder
length_word by_ticket n holder = n

abbrev pub last_word : CommitWay → State → ℕ
last_word way core = length_word way (length core.journal) core.holder

-- the length that it tells
abbrev pub length_in : CommitWay → ℕ → ℕ
length_in by_journal t = t / 2
length_in by_ticket t = t

-- the number of the first slotted cell, whose word is its tag and whose value has a slot:
-- the cells from it on are slotted, and those before it are nodes
abbrev pub first_slotted : CommitWay → Config → ℕ
first_slotted by_journal c = c.area.w * c.area.h
first_slotted by_ticket c = 0

-- a cell is slotted
abbrev pub has_slot : CommitWay → CellName → Bool
has_slot by_journal (name.Spot v) = false
has_slot by_journal (name.Body i) = true
has_slot by_ticket n = true

-- the number of a slotted cell's slot: that of the cell, counted from the first slotted one on
abbrev pub slot_of : CommitWay → Extent → CellName → ℕ
slot_of by_journal a (name.Spot v) = 0
slot_of by_journal a (name.Body i) = i
slot_of by_ticket a n = unwrap_or (number a n) 0

-- the number of slots: those of the slotted cells, and that of the journal, if it has one
abbrev pub slot_count : CommitWay → Config → ℕ
slot_count by_journal c = length c.bots + 1
slot_count by_ticket c = cells c

-- the held nodes whose words were noted
abbrev pub noted_nodes : CommitWay → Pairs → List Node
noted_nodes by_journal held = nodes_in held
noted_nodes by_ticket held = []
