-- The entries of lists: what one of them has, and what is left once its first entry is taken.
use Rattle.std.proofs.Common.{◌≡◌, ℕ, ◌<◌, List, [], length, drop, set, get_or, ap, sym, ◌∙◌}
use Rattle.std.proofs.lemmas.List.{get_or-map, map-set}
use Rattle.amoebot_state.specs.declared.verdict.Entry.{Entry}
use Rattle.claim_core.specs.Merges.{own_of}
use Rattle.ticket_commit.specs.OwnLists.{OwnEntries, entry_lists}

abbrev entries : OwnEntries → List (ℕ × Entry)
entries own = own.entries

module _ (lists : List OwnEntries) (c : ℕ) (own : OwnEntries) (inside : c < length lists) (is : own ≡ get_or lists c own) where
  pub own_is : own_of (entry_lists lists) c ≡ own.entries
  own_is = get_or-map entries lists c own [] inside ∙ ap entries (sym is)

  pub own_less : (new : OwnEntries) → new.entries ≡ drop 1 own.entries → entry_lists (set lists c new) ≡ set (entry_lists lists) c (drop 1 (own_of (entry_lists lists) c))
  own_less new less = map-set entries lists c new ∙ ap (set (entry_lists lists) c) (less ∙ ap (drop 1) (sym own_is))
