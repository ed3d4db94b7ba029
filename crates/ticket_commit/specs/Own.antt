-- The own list of entries that lies beside a caller's seat.
use Rattle.std.specs.Prelude.{◌≡◌, ℕ, ◌-◌, ◌≤◌, List, [], map, length, slice_get}
use Rattle.std.specs.declared.option.Option.{Option}
use Rattle.std.specs.declared.option.Option.TheVariants.{Some, None}
use Rattle.amoebot_state.specs.declared.verdict.Entry.{Entry}
use Rattle.amoebot_state.specs.declared.verdict.Verdict.{Verdict}
use Rattle.amoebot_state.specs.Zones.{Shown}
use Rattle.claim_core.specs.Turns.{Kept}
use Rattle.claim_core.specs.Reached.{placed}
use Rattle.claim_core.specs.SerialRuns.{all_turns}
use Rattle.claim_rule.specs.declared.views.Terms.{Terms}
use Rattle.claim_rule.specs.Plays.{about}
use Rattle.claim_rule.specs.Tokens.{FieldOf, Token, record_in, doing}
use Rattle.claim_rule.specs.Seating.{SeatsOf}
use Rattle.ticket_commit.specs.OwnLists.{OwnEntries}

-- the own list of a caller: the entries that its record has, each with the place that it drew;
-- and room for one more of each turn that has no mark yet
pub record IsOwnList {D : Type 0} (t : Token D) (turns : ℕ)
    (own : List (ℕ × Entry)) (spare : ℕ) : Type 0 where
  pub entries : own ≡ map placed (record_in t).committed
  pub counted : length (doing t).marks ≡ (doing t).turn
  pub room : turns - length (doing t).marks ≤ spare

-- the own list of a place of the seats: that of the seat there,
-- and an empty one where the seat was given out
abbrev pub own_at_seat : {D : Type 0} → Option (Token D) → List (ℕ × Entry)
own_at_seat (Some t) = map placed (record_in t).committed
own_at_seat None = []

module _ {D : Type 0} (verdict : D → Shown → Verdict) where
  -- so it is of a seat, where each caller has the turns that the seat knows of
  abbrev pub KeepsOwn : Token D → List (ℕ × Entry) → ℕ → Type 0
  KeepsOwn t own spare = IsOwnList t (about verdict t.view).lists.turns own spare

  -- there are as many seats as the field has callers, and beside each seat that is there lies
  -- its own list, by the callers' numbers
  pub record AreOwnLists (seats : SeatsOf D) (lists : List OwnEntries) : Type 0 where
    pub count : length lists ≡ length seats.seats
    pub listed : (z : Terms D) → seats.terms ≡ Some z → length seats.seats ≡ length z.lists.ids
    pub each : (c : ℕ) (t : Token D) (own : OwnEntries)
        → slice_get seats.seats c ≡ Some (Some t)
        → slice_get lists c ≡ Some own
        → KeepsOwn t own.entries own.room

-- what a field has for its end: a journal with its first world,
-- no entry and room for those of all turns
pub record HasMergeRoom {D : Type 0} (f : FieldOf D) (journal : Kept) : Type 0 where
  pub first : journal.first ≡ f.terms.world
  pub none : journal.entries ≡ []
  pub room : all_turns f.terms.lists ≤ journal.spare
