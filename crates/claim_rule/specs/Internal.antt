-- Definitions that serve private functions alone. No clause of a public call cites them.
use Rattle.std.specs.Prelude.{◌≡◌, ℕ, List, [], ◌∷◌, ◌++◌, take, drop, slice_get}
use Rattle.std.specs.declared.option.Option.{Option}
use Rattle.std.specs.declared.option.Option.TheVariants.{Some, None}
use Rattle.atomic_table.specs.declared.shared.Seat.{Seat}
use Rattle.amoebot_state.specs.Walls.{node_numbers}
use Rattle.amoebot_state.specs.Zones.{Shown, shown_by}
use Rattle.claim_rule.specs.declared.activation.Room.{Room}
use Rattle.claim_rule.specs.declared.views.Slot.{Slot}
use Rattle.claim_rule.specs.declared.views.Record.{Record}
use Rattle.claim_rule.specs.declared.views.View.{View}
use Rattle.claim_rule.specs.Views.{own, like, view_of}
use Rattle.claim_rule.specs.Tokens.{FieldOf, Token, record_in, doing}

-- what a room has of a zone: the cells that it holds, and the walls among them
abbrev pub shown_in : Room → Shown
shown_in r = shown_by r.area r.maxes r.bot (node_numbers r.area r.walls.items) r.cells

module _ {D : Type 0} where
  -- the seat may step on this field: it is of the field's table, and has the record of one caller
  pub record MayStep (f : FieldOf D) (s : Seat Slot (View D)) : Type 0 where
    pub table : s.table_id ≡ f.table
    pub alone : s.me.0 ≡ view_of f.terms (own s.me.0 ∷ [])

  -- after the step it is the same seat of the same table
  pub record IsSameSeat (old new : Seat Slot (View D)) : Type 0 where
    pub table : new.table_id ≡ old.table_id
    pub id : new.id ≡ old.id

  -- a split gives the first record to the new seat, and leaves the others
  abbrev pub dealt : View D → View D
  dealt v = like v (take 1 v.records)

  abbrev pub left_view : View D → View D
  left_view v = like v (drop 1 v.records)

  -- a join takes the records of the other seat in, behind the own
  abbrev pub joined_view : View D → View D → View D
  joined_view v w = like w (v.records ++ w.records)

  -- the records of all seats that are there are among these,
  -- and none of them has the journal taken or holds a cell
  abbrev pub HaveAll : List (Option (Token D)) → List Record → Type 0
  HaveAll seats rs =
      (c : ℕ) (t : Token D) → slice_get seats c ≡ Some (Some t)
      → (place : ℕ) × (slice_get rs place ≡ Some (record_in t))
      × ((record_in t).taken ≡ None) × ((doing t).held ≡ [])
