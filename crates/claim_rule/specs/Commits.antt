-- What a try to take the journal and a commit tell the seat that makes them:
-- how its record changes, and nothing else.
use Rattle.std.specs.Prelude.{◌≡◌, ◌≢◌, ℕ, ◌+◌, ◌*◌, ◌%◌, ◌<◌, List, [], ◌∷◌, ◌++◌, map, length, slice_get}
use Rattle.std.specs.declared.option.Option.TheVariants.{Some, None}
use Rattle.atomic_table.specs.Table.{Step, rest}
use Rattle.amoebot_state.specs.declared.verdict.Change.{Change}
use Rattle.amoebot_state.specs.declared.verdict.Entry.{Entry}
use Rattle.amoebot_state.specs.declared.verdict.Verdict.{Verdict}
use Rattle.amoebot_state.specs.Pairs.{plain_patch}
use Rattle.amoebot_state.specs.Zones.{Shown}
use Rattle.claim_core.specs.declared.marks.Mark.TheVariants as mark
use Rattle.claim_core.specs.declared.state.Committed.{Committed}
use Rattle.claim_core.specs.declared.state.Phase.{Phase}
use Rattle.claim_core.specs.declared.state.Phase.TheVariants.{Taking, Committing}
use Rattle.claim_core.specs.Limits.{most_turns}
use Rattle.claim_core.specs.Turns.{Kept}
use Rattle.claim_core.specs.Machine.{Setup, State, bot, found, entry, freeing_caller, patched_pair}
use Rattle.claim_core.specs.Soundness.{Sound}
use Rattle.claim_rule.specs.declared.views.Slot.{Slot}
use Rattle.claim_rule.specs.declared.views.Slot.TheVariants as slot
use Rattle.claim_rule.specs.declared.views.Record.{Record}
use Rattle.claim_rule.specs.declared.views.View.{View}
use Rattle.claim_rule.specs.Views.{Seated, own, like}
use Rattle.claim_rule.specs.Stands.{journal_slot}
use Rattle.claim_rule.specs.Plays.{about}

-- a caller in this phase tries to take the journal
abbrev pub Takes : Phase → Type 0
Takes p = (change : Change) × (p ≡ Taking change)

-- the entry of a caller's change at a place, with what was found for it
abbrev pub commit_at : Setup → Record → Change → ℕ → Committed
commit_at g r change place = record {
  place = place;
  entry = entry g r.number r.caller.turn change;
  found = found g (bot g r.number r.caller.turn) r.caller.held;
}

-- the record of a caller that has the journal, as it was taken, and commits this change next
abbrev pub with_journal : Record → Change → Kept → Record
with_journal r change j = record r { caller = record r.caller { phase = Committing change }; taken = Some j }

-- the record of a caller that has committed this change at a place: the entry joins its own,
-- its cells have the new values of the patch, the turn has its mark, and the journal is gone
abbrev pub with_commit : Setup → Record → Change → ℕ → Record
with_commit g r change place = record {
  number = r.number;
  won = r.won;
  note = r.note;
  caller =
      freeing_caller g r.caller.turn (map (patched_pair (plain_patch change.patch)) r.caller.held)
      (r.caller.marks ++ mark.Done place ∷ []);
  committed = r.committed ++ commit_at g r change place ∷ [];
  taken = None;
}

-- there is room for one entry more, at a place below 65,536
pub record HasRoomForEntry (j : Kept) : Type 0 where
  pub some : 0 < j.spare
  pub few : length j.entries < most_turns

-- the journal with one entry more, in the room that it had
pub record IsPushed (old : Kept) (e : Entry) (new : Kept) : Type 0 where
  pub first : new.first ≡ old.first
  pub entries : new.entries ≡ old.entries ++ e ∷ []
  pub spare : new.spare + 1 ≡ old.spare

module _ {D : Type 0} where
  -- the seat has got the journal, with the slot of this number
  pub record GotJournal (i : ℕ) (m m' : Seated D) : Type 0 where
    pub change : Change
    pub phase : (own m.0).caller.phase ≡ Taking change
    pub journal : Kept
    pub room : HasRoomForEntry journal
    pub now : m'.0 ≡ like m.0 (with_journal (own m.0) change journal ∷ [])
    pub out : m'.1 ≡ (i, slot.Journal journal) ∷ m.1

module _ {D : Type 0} (verdict : D → Shown → Verdict) where
  -- another caller has the journal, in a sound state of the machine
  -- in which this caller is as its record says
  pub record IsTakenElsewhere (v : View D) : Type 0 where
    pub core : State
    pub sound : Sound (about verdict v) core
    pub mine : slice_get core.callers (own v).number ≡ Some (own v).caller
    pub holder : ℕ
    pub has : core.holder ≡ Some holder
    pub other : holder ≢ (own v).number

  -- a try to take the journal found an even word, and the seat has the journal;
  -- or it found an odd one, and nothing changed, since another caller has it
  pub data TriesJournal : Step Slot → Seated D → ℕ → Seated D → Type 0 where
    takes_it : {st : Step Slot} {m m' : Seated D} {t : ℕ}
        → t % 2 ≡ 0
        → GotJournal (journal_slot (about verdict m.0).world) m m'
        → TriesJournal st m t m'
    leaves_it : {st : Step Slot} {m m' : Seated D} {t : ℕ}
        → t % 2 ≢ 0
        → m' ≡ m
        → IsTakenElsewhere m.0
        → TriesJournal st m t m'

  -- the caller's change is to be committed: the seat has the journal to put home with the slot
  -- of this number, with the change's entry in it, and the word to store is twice its length
  pub record IsToCommit (i x : ℕ) (m : Seated D) : Type 0 where
    pub change : Change
    pub phase : (own m.0).caller.phase ≡ Committing change
    pub journal : Kept
    pub taken : (own m.0).taken ≡ Some journal
    pub next : Kept
    pub pushed : IsPushed journal
        (entry (about verdict m.0) (own m.0).number (own m.0).caller.turn change) next
    pub more : List (ℕ × Slot)
    pub out : m.1 ≡ (i, slot.Journal next) ∷ more
    pub word : x ≡ 2 * length next.entries

  -- the caller's change is committed, at the place behind the journal as it was taken
  pub record Commits (v w : View D) (place : ℕ) : Type 0 where
    pub change : Change
    pub phase : (own v).caller.phase ≡ Committing change
    pub journal : Kept
    pub taken : (own v).taken ≡ Some journal
    pub behind : place ≡ length journal.entries
    pub now : w ≡ like v (with_commit (about verdict v) (own v) change place ∷ [])

  abbrev pub stored : Step Slot → Seated D → ℕ → Seated D → Type 0
  stored st m t m' = ((place : ℕ) × Commits m.0 m'.0 place) × (m'.1 ≡ rest m.1)

  -- the caller's change is committed at this place, and nothing was taken for it
  pub record Draws (v w : View D) (place : ℕ) : Type 0 where
    pub change : Change
    pub phase : (own v).caller.phase ≡ Taking change
    pub now : w ≡ like v (with_commit (about verdict v) (own v) change place ∷ [])

  -- the word that was found is the place, and is below 65,536
  abbrev pub drew : Step Slot → Seated D → ℕ → Seated D → Type 0
  drew st m t m' = Draws m.0 m'.0 t × (m'.1 ≡ m.1) × (t < most_turns)
