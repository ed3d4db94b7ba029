-- What contracts see of a caller that has the journal, and of one that has committed.
use Rattle.std.specs.Prelude.{◌≡◌, ℕ, ◌<◌, List, [], ◌∷◌, length, Bool}
use Rattle.std.specs.declared.option.Option.TheVariants.{Some, None}
use Rattle.atomic_table.specs.Table.{rest}
use Rattle.amoebot_state.specs.declared.verdict.Change.{Change}
use Rattle.amoebot_state.specs.declared.verdict.Entry.{Entry}
use Rattle.amoebot_state.specs.declared.verdict.Verdict.{Verdict}
use Rattle.amoebot_state.specs.Configs.{Config}
use Rattle.amoebot_state.specs.Pairs.{Pairs, plain_patch}
use Rattle.amoebot_state.specs.Steps.{change_of, entry_of}
use Rattle.amoebot_state.specs.Zones.{Shown}
use Rattle.claim_core.specs.declared.state.Phase.TheVariants.{Taking, Committing}
use Rattle.claim_core.specs.Limits.{most_turns}
use Rattle.claim_core.specs.Turns.{Kept}
use Rattle.claim_core.specs.Machine.{next_of}
use Rattle.claim_rule.specs.declared.activation.Room.{Room}
use Rattle.claim_rule.specs.declared.views.Slot.TheVariants as slot
use Rattle.claim_rule.specs.declared.views.Note.{Note}
use Rattle.claim_rule.specs.declared.views.Record.{Record}
use Rattle.claim_rule.specs.Views.{Seated, own, like}
use Rattle.claim_rule.specs.Manners.{by_journal}
use Rattle.claim_rule.specs.Stands.{journal_slot}
use Rattle.claim_rule.specs.Plays.{about}
use Rattle.claim_rule.specs.Tokens.{Token, PlacedTurn, IsActivation, placed_turn, record_in, number_in, doing}
use Rattle.claim_rule.specs.Commits.{HasRoomForEntry, with_journal, with_commit}

-- the entry is that of the room's turn, and the room has its patch without the values before
pub record IsReadyEntry (r : Room) (e : Entry) : Type 0 where
  pub entry : e ≡ entry_of r.caller r.turn r.bot (change_of e)
  pub changes : r.changes.items ≡ plain_patch e.patch

module _ {D : Type 0} where
  -- the seat where its caller's record has changed
  abbrev pub with_record : Token D → Record → Token D
  with_record t r = record t { view = like t.view (r ∷ []) }

  -- the whole zone is held, the verdict on it is this change,
  -- and the caller does not have the journal
  abbrev pub IsToTake : Token D → Change → Type 0
  IsToTake t change = (doing t).phase ≡ Taking change

  -- the caller has got the journal, for this change
  abbrev pub HasGot : Token D → Token D → Change → Type 0
  HasGot old new change = (j : Kept) × (new ≡ with_record old (with_journal (record_in old) change j))

  -- the seat without the journal and its slot
  abbrev pub untaken : Seated D → Seated D
  untaken m = (like m.0 (record (own m.0) { taken = None } ∷ []), rest m.1)

  module _ (verdict : D → Shown → Verdict) where
    -- it has committed this change: its record has gained the entry with the place in the receipt
    -- and what was found, and the turn its mark
    pub record HasStored (old new : Token D) (change : Change) (receipt : PlacedTurn) : Type 0 where
      pub now : new
          ≡ with_record old (with_commit (about verdict old.view) (record_in old) change receipt.place)
      pub told : receipt ≡ placed_turn (number_in old) (doing old).turn receipt.place
      pub few : receipt.place < most_turns

    -- it holds its whole zone, and the journal's slot is out, with the journal as it was taken;
    -- except for the journal it is as it was
    pub record IsTaken (m : Seated D) (c t b : ℕ) (stale : Bool)
        (w : Config) (pairs : Pairs) (notes : List Note)
        (change : Change) : Type 0 where
      pub alone : m.0.records ≡ own m.0 ∷ []
      pub activation : IsActivation verdict by_journal (untaken m) c t b stale w pairs notes
      pub turn : (own m.0).caller.turn ≡ t
      pub counted : length (own m.0).caller.marks ≡ t
      pub whole : next_of (about verdict m.0) b pairs ≡ None
      pub phase : (own m.0).caller.phase ≡ Committing change
      pub journal : Kept
      pub taken : (own m.0).taken ≡ Some journal
      pub room : HasRoomForEntry journal
      pub out : m.1 ≡ (journal_slot (about verdict m.0).world, slot.Journal journal) ∷ rest m.1
