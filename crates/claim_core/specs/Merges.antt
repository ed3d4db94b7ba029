-- How callers' own lists of entries, each with its place, make one journal.
use Rattle.std.specs.Prelude.{◌≡◌, ℕ, ◌+◌, ◌<◌, List, [], ◌∷◌, length, drop, slice_get, slice_index_or, slice_set}
use Rattle.std.specs.List.{All}
use Rattle.std.specs.declared.option.Option.TheVariants.{Some}
use Rattle.amoebot_state.specs.declared.verdict.Entry.{Entry}
use Rattle.amoebot_state.specs.declared.verdict.Moved.TheVariants as moved
use Rattle.claim_core.specs.Reached.{entries_of}

-- the own list of a caller
abbrev pub own_of : List (List (ℕ × Entry)) → ℕ → List (ℕ × Entry)
own_of lists c = slice_index_or lists c []

-- these entries, of which the first one has this place, are left in the lists:
-- each list has those of its caller, and each entry is of a caller with a list
pub record AreLeft (lists : List (List (ℕ × Entry))) (place : ℕ) (es : List Entry) : Type 0 where
  pub own : (c : ℕ) → c < length lists → own_of lists c ≡ entries_of c place es
  pub listed : All (λ (e : Entry). e.caller < length lists) es

-- the journal is the merge of the lists by place
abbrev pub IsMerge : List (List (ℕ × Entry)) → List Entry → Type 0
IsMerge lists journal = AreLeft lists 0 journal

-- the entry stands first in its caller's list, with this place,
-- which stands first in no other list; and these are left behind it
pub record IsNextEntry (lists : List (List (ℕ × Entry)))
    (place : ℕ) (e : Entry) (es : List Entry) : Type 0 where
  pub first : slice_get (own_of lists e.caller) 0 ≡ Some (place, e)
  pub only : (c : ℕ) (p : ℕ × Entry) → slice_get (own_of lists c) 0 ≡ Some p → p.0 ≡ place → c ≡ e.caller
  pub rest : AreLeft (slice_set lists e.caller (drop 1 (own_of lists e.caller))) (place + 1) es

-- three callers' lists, of which the second is empty, and their journal
abbrev pub small_entry : ℕ → ℕ → Entry
small_entry c t = record { caller = c; turn = t; bot = 0; action = 0; moved = moved.None; patch = [] }

abbrev pub small_lists : List (List (ℕ × Entry))
small_lists = ((0, small_entry 0 0) ∷ (2, small_entry 0 1) ∷ []) ∷ [] ∷ ((1, small_entry 2 0) ∷ []) ∷ []

abbrev pub small_merge : List Entry
small_merge = small_entry 0 0 ∷ small_entry 2 0 ∷ small_entry 0 1 ∷ []
