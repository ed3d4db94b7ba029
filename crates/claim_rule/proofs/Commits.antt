-- A commit keeps the rule: what other callers have recorded stays true.
use Rattle.std.proofs.Common.{◌≡◌, ◌≢◌, ℕ, ◌+◌, ◌*◌, ◌<◌, inr, List, [], ◌∷◌, ◌++◌, map, length, set, length-set, Some, None, inl, ap, sym, refl, subst, ◌∙◌, arith}
use Rattle.std.specs.Prelude.{slice_get, slice_index}
use Rattle.std.proofs.lemmas.List.Elements.{All-weaker, All-push}
use Rattle.std.proofs.lemmas.Option.{none-some, same_Some, slice_get_within}
use mathlib.Core.Option as home
use Rattle.atomic_table.specs.Table.{step, gives, put_back, Allows}
use Rattle.atomic_table.proofs.Lists.{set_else, set_here}
use Rattle.amoebot_state.specs.declared.verdict.Change.{Change}
use Rattle.amoebot_state.specs.declared.verdict.Entry.{Entry}
use Rattle.amoebot_state.specs.declared.verdict.Verdict.{Verdict}
use Rattle.amoebot_state.specs.declared.verdict.Verdict.TheVariants as decision
use Rattle.amoebot_state.specs.Pairs.{plain_patch}
use Rattle.amoebot_state.specs.Zones.{Shown}
use Rattle.claim_core.specs.declared.marks.Mark.TheVariants as mark
use Rattle.claim_core.specs.Cells.{cells}
use Rattle.claim_core.specs.Machine.{Setup, State, bot, entry, patched_pair, commits, by_phase, acts, next}
use Rattle.claim_core.specs.Reached.{IsShownAt}
use Rattle.claim_core.specs.Soundness.{IsSetup, IsTurn, IsHeld, HasDecision, HasFront, marked}
use Rattle.claim_rule.specs.declared.views.Slot.{Slot}
use Rattle.claim_rule.specs.declared.views.Slot.TheVariants as slot
use Rattle.claim_rule.specs.declared.views.Record.{Record}
use Rattle.claim_rule.specs.declared.views.Terms.{Terms}
use Rattle.claim_rule.specs.Views.{Content, Seated, view_of, own, setup_of_terms}
use Rattle.claim_rule.specs.Manners.{by_journal, first_slotted}
use Rattle.claim_rule.specs.Stands.{journal_slot, IsWon, IsStamped, turns_left, IsCoreJournal, HasTaken, HasCommitted, AreWords, AreHomes, KeepsRule}
use Rattle.claim_rule.specs.Plays.{HoldsZone}
use Rattle.claim_rule.specs.Commits.{commit_at, with_commit, IsToCommit, stored}
use Rattle.claim_rule.specs.Nexts.{GoesTo, IsAt}
use Rattle.claim_rule.proofs.Tables.{journal_written, journal_else, stamped_alike}
use Rattle.claim_rule.proofs.Settles.{won_renewed, settled_now}
use Rattle.claim_rule.proofs.NodeReleases.{frees_won}
use Rattle.amoebot_state.proofs.Fronts.{slice_get_behind}
use Rattle.claim_rule.specs.Words.{word_occ, word_stamp}
use Rattle.claim_rule.proofs.Moves.{sound, on, mine, caller_at, counts, my_stamps, moved, taken_else}
use Rattle.claim_rule.proofs.NextsLemmas.{allowed}
use Rattle.claim_rule.proofs.CommitLemmas as state

module _ {D : Type 0} {verdict : D → Shown → Verdict} {z : Terms D} {s : Content D} {core : State} {seat : ℕ} {r : Record} (table : IsAt verdict z by_journal s core seat r) where
  abbrev g : Setup
  g = setup_of_terms verdict z

  abbrev last : ℕ
  last = cells z.world

  module _ (x : ℕ) (carried : List (ℕ × Slot)) (to : IsToCommit verdict (journal_slot z.world) x (view_of z (r ∷ []), carried)) where
    abbrev change : Change
    change = to.change

    abbrev e : Entry
    e = entry g r.number r.caller.turn change

    abbrev place : ℕ
    place = length to.journal.entries

    -- what was taken is the journal still
    has_taken : (core.holder ≡ Some r.number) × IsCoreJournal g core to.journal
    has_taken = subst (HasTaken g core r.number) to.taken (mine table).committed.taken

    place_is : place ≡ length core.journal
    place_is = ap (λ (es : List Entry). length es) has_taken.1.entries

    abbrev new : State
    new = commits g r.number core r.caller change

    leads : new ≡ next g r.number core
    leads = sym (ap (acts g r.number core) (caller_at table) ∙ ap (by_phase g r.number core r.caller) to.phase)

    -- one turn more has its mark
    counted : length r.caller.marks < g.lists.turns
    counted =
        let is = (sound table).each r.number r.caller (caller_at table) in
        let turn = subst (λ q. IsTurn g.lists.turns q r.caller.turn) to.phase is.turn in
        let counts = is.counted ∙ ap (λ q. marked q r.caller.turn) to.phase in
        omega (arith, turn, counts)

    decided : HasDecision g (sound table).last (bot g r.number r.caller.turn) r.caller.held (decision.Change change)
    decided = subst (HasFront g core (sound table).last r.number r.caller) to.phase ((sound table).each r.number r.caller (caller_at table)).front

    fewer : turns_left g new + 1 ≡ turns_left g core
    fewer = state.fewer table change place place_is decided counted

    longer : length new.journal ≡ length core.journal + 1
    longer = state.longer table change place place_is decided

    next_is : to.next.entries ≡ new.journal
    next_is = to.pushed.entries ∙ ap (λ (es : List Entry). es ++ e ∷ []) has_taken.1.entries

    words : AreWords by_journal g new (set s.words last x)
    words = journal_written by_journal g core new s.words x table.stands.words refl (state.free_value table change place place_is decided) (omega (arith, longer)) (to.word ∙ ap (λ (es : List Entry). 2 * length es) next_is ∙ (let q : 2 * length new.journal ≡ 2 * length new.journal + 0 = omega arith in q))

    journal_is : IsCoreJournal g new to.next
    journal_is = record { first = to.pushed.first ∙ has_taken.1.first; entries = next_is; room = omega (arith, fewer, to.pushed.spare, has_taken.1.room) }

    homes : AreHomes by_journal g new (put_back s.homes carried)
    homes = subst (AreHomes by_journal g new) (sym (ap (put_back s.homes) to.out)) (record {
      count = length-set s.homes (journal_slot z.world) (home.some (slot.Journal to.next)) ∙ table.stands.homes.count;
      cell = λ i y free value. set_else s.homes (journal_slot z.world) i (home.some (slot.Journal to.next)) (λ q. let lt = slice_get_within core.tags (first_slotted by_journal z.world + i) 0 free in omega (arith, q, lt, (counts table).0)) ∙ table.stands.homes.cell i y free (sym (state.free_stays table change place place_is decided (first_slotted by_journal z.world + i) free) ∙ value);
      journal = λ none. (to.next, set_here s.homes (journal_slot z.world) (home.some (slot.Journal to.next)) (omega (arith, table.stands.homes.count)), journal_is);
    })

    others : (q : Record) → q.number ≢ r.number → HasCommitted g core q.number q.committed q.taken → HasCommitted g new q.number q.committed q.taken
    others q apart is = record {
      entries = is.entries ∙ sym (state.other_entries table change place place_is decided q.number apart);
      found = All-weaker (IsShownAt g core.journal) (IsShownAt g new.journal) (state.still table change place place_is decided) q.committed is.found;
      taken = taken_else g core new q.number q.taken (λ h. apart (same_Some q.number r.number (sym h ∙ has_taken.0))) (λ h. none-some q.number h) is.taken;
    }

    mine_is : HasCommitted g new r.number (r.committed ++ commit_at g r change place ∷ []) None
    mine_is = record {
      entries = state.own_entries table change place place_is decided;
      found = All-push (IsShownAt g new.journal) r.committed (commit_at g r change place) (All-weaker (IsShownAt g core.journal) (IsShownAt g new.journal) (state.still table change place place_is decided) r.committed (mine table).committed.found) (state.own_found table change place place_is decided (subst HoldsZone (sym to.phase) tt));
      taken = λ h. none-some r.number h;
    }

    same : (k : ℕ) → k < first_slotted by_journal z.world → slice_index (set s.words last x) k ≡ slice_index s.words k
    same = journal_else by_journal g s.words x

    stamps_stay : (q : Record) → IsStamped g s.words q → IsStamped g (set s.words last x) q
    stamps_stay = stamped_alike g s.words (set s.words last x) (λ k lt. (ap word_occ (same k lt), ap word_stamp (same k lt)))

    count : length r.caller.marks ≡ r.caller.turn
    count = ((sound table).each r.number r.caller (caller_at table)).counted ∙ ap (λ q. marked q r.caller.turn) to.phase

    -- the turn has committed: each node that it holds has a stamp of at most the place
    stamped : IsStamped g (set s.words last x) (with_commit g r change place)
    stamped = record {
      won = frees_won g (set s.words last x) r.caller.turn (map (patched_pair (plain_patch change.patch)) r.caller.held) (r.caller.marks ++ mark.Done place ∷ []) r.won
          (won_renewed (plain_patch change.patch) (IsHeld g core (sound table).last r.number r.caller.turn) (IsWon g s.words r.caller.turn r.caller.marks) (IsWon g (set s.words last x) r.caller.turn (r.caller.marks ++ mark.Done place ∷ []))
          (λ v y y' w held is. settled_now g core s.words (set s.words last x) table.stands.words same (sound table).last r.number r.caller.turn r.caller.marks count (mark.Done place) place_is v y y' w (λ _. inr (place, ap (slice_get (r.caller.marks ++ mark.Done place ∷ [])) (sym count) ∙ slice_get_behind r.caller.marks (mark.Done place) [])) held is)
          r.caller.held r.won ((sound table).each r.number r.caller (caller_at table)).held (my_stamps table).won);
      noted = λ m q. (stamps_stay r (my_stamps table)).noted m q;
    }

    pub commit_goes : (slots : ℕ) → GoesTo verdict z by_journal s (next g r.number core) last seat (view_of z (r ∷ []), carried) (λ _. stored verdict (step slots last x 0 home.none) (view_of z (r ∷ []), carried) x) x
    commit_goes slots = (
      view_of z (with_commit g r change place ∷ []),
      gives,
      tt,
      moved table new (next g r.number core) (on table) (with_commit g r change place) (set s.words last x) (put_back s.homes carried) leads refl (state.callers table change place place_is decided) words homes others mine_is (λ q apart rec st. stamps_stay q st) stamped (omega (arith, fewer, longer, table.stands.few)),
      ((place, record { change = change; phase = to.phase; journal = to.journal; taken = to.taken; behind = refl; now = refl }), refl),
    )

module _ {D : Type 0} (verdict : D → Shown → Verdict) (z : Terms D) (ok : IsSetup (setup_of_terms verdict z)) where
  pub commit_allowed : (slots seat : ℕ) (me : Seated D) (x : ℕ) → me.0 ≡ view_of z (own me.0 ∷ []) → IsToCommit verdict (journal_slot z.world) x me → Allows (KeepsRule verdict z by_journal) slots seat me (cells z.world) (λ _. x) (λ _. stored verdict (step slots (cells z.world) x 0 home.none) me x)
  commit_allowed slots seat me x one to =
      allowed verdict z by_journal ok slots seat me (cells z.world) (λ _. x) (IsToCommit verdict (journal_slot z.world) x) (λ m _. stored verdict (step slots (cells z.world) x 0 home.none) m x) one to
      (λ s core r table fact. inl (commit_goes table x me.1 fact slots))
