-- How the records of callers are dealt to seats, and gathered again.
use Rattle.std.specs.Prelude.{◌≡◌, ℕ, ◌<◌, List, [], length, slice_get}
use Rattle.std.specs.declared.option.Option.{Option}
use Rattle.std.specs.declared.option.Option.TheVariants.{Some, None}
use Rattle.atomic_table.specs.Seated.{TableId}
use Rattle.claim_rule.specs.declared.views.Terms.{Terms}
use Rattle.claim_rule.specs.declared.views.View.{View}
use Rattle.claim_rule.specs.Views.{Seated, view_of}
use Rattle.claim_rule.specs.Tokens.{FieldOf, Token, number_in}

-- the view of a seat that has no record
abbrev pub spent : {D : Type 0} → View D
spent {D} = record { terms = None; records = [] }

-- the seats of a field: its table, what it is about, and the callers' seats by their numbers,
-- each there or given out
pub record SeatsOf (D : Type 0) : Type 0 where
  pub table : TableId
  pub terms : Option (Terms D)
  pub seats : List (Option (Token D))

module _ {D : Type 0} where
  -- they are all seats of this field
  pub record AreOf (f : FieldOf D) (s : SeatsOf D) : Type 0 where
    pub table : s.table ≡ f.table
    pub terms : s.terms ≡ Some f.terms

  -- this is the seat of the least number that is there
  pub record IsFirst (seats : List (Option (Token D))) (t : Token D) : Type 0 where
    pub there : slice_get seats (number_in t) ≡ Some (Some t)
    pub least : (c : ℕ) → c < number_in t → slice_get seats c ≡ Some None

  -- what they keep: the seats that are there are of one table, with the same terms,
  -- by their callers' numbers; and the first seat has dealt all its records
  pub record AreSeats (rest : Seated D) (table : TableId) (seats : List (Option (Token D))) : Type 0 where
    pub terms : Terms D
    pub dealt : rest ≡ (view_of terms [], [])
    pub count : length seats ≡ length terms.lists.ids
    pub each : (c : ℕ) (t : Token D) → slice_get seats c ≡ Some (Some t)
        → (t.table ≡ table) × (t.view.terms ≡ Some terms) × (number_in t ≡ c)
