-- How a field begins: what its slots hold, and its seats.
use Rattle.std.specs.Prelude.{◌≡◌, ◌≤◌, ◌*◌, ℕ, List, [], ◌∷◌, ◌++◌, map, length}
use Rattle.std.specs.List.{range_with_len}
use Rattle.std.specs.declared.option.Option.TheVariants.{Some}
use Rattle.amoebot_state.specs.declared.cell.CellName.TheVariants as name
use Rattle.amoebot_state.specs.declared.cell.Cell.{Cell}
use Rattle.amoebot_state.specs.declared.cell.Cell.TheVariants as cell
use Rattle.amoebot_state.specs.declared.verdict.Verdict.{Verdict}
use Rattle.amoebot_state.specs.Configs.{Config}
use Rattle.amoebot_state.specs.Zones.{Shown}
use Rattle.claim_core.specs.Turns.{CallerLists, Kept}
use Rattle.claim_core.specs.Cells.{held_by, values_of}
use Rattle.claim_core.specs.Machine.{fresh}
use Rattle.claim_rule.specs.declared.views.Slot.{Slot}
use Rattle.claim_rule.specs.declared.views.Slot.TheVariants as slot
use Rattle.claim_rule.specs.declared.views.Record.{Record}
use Rattle.claim_rule.specs.declared.views.Terms.{Terms}
use Rattle.claim_rule.specs.Words.{node_word}
use Rattle.claim_rule.specs.Views.{setup_of_terms, view_of}
use Rattle.claim_rule.specs.Tokens.{FieldOf, Token}
use Rattle.claim_rule.specs.Manners.{CommitWay, by_journal, by_ticket}
use Rattle.claim_rule.specs.Stands.{records_from}
use Rattle.claim_rule.specs.Seating.{SeatsOf}

-- the words at the start: each that nodes have has the occupant, no tag and stamp 0,
-- and those of the slotted cells and of the journal are 0
abbrev pub first_word : CommitWay → Cell → ℕ
first_word by_journal (cell.Spot o) = node_word 0 o 0
first_word by_journal (cell.Body b) = 0
first_word by_ticket x = 0

abbrev pub first_words : CommitWay → Config → List ℕ
first_words way world = map (first_word way) (values_of world) ++ 0 ∷ []

-- the slots at the start: what each body's cell holds, by the ids,
-- and then a journal with no entry and room for all turns
pub record AreFirstSlots (world : Config) (lists : CallerLists) (slots : List Slot) : Type 0 where
  pub journal : Kept
  pub are : slots
      ≡ map (λ i. slot.Cell (held_by world (name.Body i))) (range_with_len 0 (length world.bots))
      ++ slot.Journal journal ∷ []
  pub first : journal.first ≡ world
  pub entries : journal.entries ≡ []
  pub room : length lists.ids * lists.turns ≤ journal.spare

-- so they are by journal; and by tickets what each cell holds, by the numbers
abbrev pub AreSlotsAtFirst : CommitWay → Config → CallerLists → List Slot → Type 0
AreSlotsAtFirst by_journal world lists slots = AreFirstSlots world lists slots
AreSlotsAtFirst by_ticket world lists slots = slots ≡ map (λ x. slot.Cell x) (values_of world)

module _ {D : Type 0} where
  -- the seat of a field that has one record
  abbrev pub seat_with : FieldOf D → Record → Token D
  seat_with f r = record { table = f.table; view = view_of f.terms (r ∷ []) }

module _ {D : Type 0} (verdict : D → Shown → Verdict) where
  -- the records of all callers before their first turn, by their numbers
  abbrev pub first_records : Terms D → List Record
  first_records z =
      records_from verdict z 0 (map (λ (_ : List ℕ). fresh (setup_of_terms verdict z)) z.lists.ids)

  -- a seat for each caller, each before its first turn
  abbrev pub first_seats : FieldOf D → SeatsOf D
  first_seats f = record {
    table = f.table;
    terms = Some f.terms;
    seats = map (λ r. Some (seat_with f r)) (first_records f.terms);
  }
