-- The forms in which a journal has its entries. They are this project's profile.
use Rattle.std.specs.Prelude.{◌≡◌, ◌⊎◌, ℕ}
use Rattle.amoebot_state.specs.declared.verdict.Change.{Change}
use Rattle.amoebot_state.specs.declared.verdict.Entry.{Entry}
use Rattle.amoebot_state.specs.Steps.{change_of, plain_entry}

-- A form is what a journal has of an entry.
-- That is all of it, or all but the old values of its patch (`plain_entry`).
abbrev pub full_entry : Entry → Entry
full_entry e = e

-- A form tells which amoebot's entry it was.
-- Of the entry's caller, turn and amoebot, and of a change, it makes an entry.
pub record IsForm {E : Type 0} (form : Entry → E) (bot : E → ℕ) (entry : E → Change → Entry) : Type 0 where
  -- entries that are told alike are the same, their old values aside
  pub keeps : (e d : Entry) → form e ≡ form d → plain_entry e ≡ plain_entry d
  -- the entry that it makes has that amoebot and that change,
  -- and the change of an entry makes that entry
  pub its_bot : (told : E) (change : Change) → (entry told change).bot ≡ bot told
  pub its_change : (told : E) (change : Change) → change_of (entry told change) ≡ change
  pub again : (e : Entry) → entry (form e) (change_of e) ≡ e
  -- a change is the one that was told, or is another
  pub decided : (told : E) (change : Change)
      → (form (entry told change) ≡ told) ⊎ (form (entry told change) ≡ told → ⊥)

-- Something is told in a form, and `Holds` is true of what it tells:
-- an entry has that form, or entries have it one by one, and `Holds` is true of these.
pub record InForm {A E : Type 0} (form : A → E) (Holds : A → Type 0) (told : E) : Type 0 where
  pub source : A
  pub tells : form source ≡ told
  pub holds : Holds source
