-- A try to take the journal keeps the rule, and tells whether it was got.
use Rattle.std.proofs.Common.{◌≡◌, ◌≢◌, ℕ, ◌+◌, ◌*◌, ◌%◌, ◌^◌, ◌<◌, ◌≤◌, List, [], ◌∷◌, length, set, length-set, bit_or, Option, Some, None, inl, ap, sym, refl, subst, ◌∙◌, arith, suc-ne-zero}
use Rattle.std.specs.Prelude.{slice_get, slice_index}
use Rattle.std.specs.Int.Bits.{or_zero_r}
use Rattle.std.proofs.lemmas.Nat.{or_block}
use Rattle.std.proofs.lemmas.List.{set-set}
use Rattle.std.proofs.lemmas.Option.{none-some, same_Some, slice_get_within}
use Rattle.std.specs.Option.{option_len}
use mathlib.Core.Option as home
use lib.ListN.{get_elem?}
use Rattle.atomic_table.specs.Table.{Step, step, keeps, takes, Allows}
use Rattle.atomic_table.proofs.Lists.{set_else}
use Rattle.amoebot_state.specs.declared.verdict.Change.{Change}
use Rattle.amoebot_state.specs.declared.verdict.Verdict.{Verdict}
use Rattle.amoebot_state.specs.Zones.{Shown}
use Rattle.claim_core.specs.declared.state.Caller.{Caller}
use Rattle.claim_core.specs.declared.state.Phase.TheVariants.{Taking, Committing}
use Rattle.claim_core.specs.Cells.{cells}
use Rattle.claim_core.specs.Limits.{most_turns}
use Rattle.claim_core.specs.Turns.{Kept}
use Rattle.claim_core.specs.Machine.{Setup, State, by_phase, acts, next}
use Rattle.claim_core.specs.Machine as machine
use Rattle.claim_core.specs.Soundness.{IsSetup, IsTurn, IsCommitting, marked}
use Rattle.claim_rule.specs.declared.views.Slot.{Slot}
use Rattle.claim_rule.specs.declared.views.Slot.TheVariants as slot
use Rattle.claim_rule.specs.declared.views.Record.{Record}
use Rattle.claim_rule.specs.declared.views.Terms.{Terms}
use Rattle.claim_rule.specs.Views.{Content, Seated, view_of, own, setup_of_terms}
use Rattle.claim_rule.specs.Manners.{by_journal, first_slotted}
use Rattle.claim_rule.specs.Stands.{journal_slot, turns_left, IsCoreJournal, HasCommitted, AreWords, AreHomes, KeepsRule}
use Rattle.claim_rule.specs.Plays.{about}
use Rattle.claim_rule.specs.Commits.{Takes, HasRoomForEntry, IsTakenElsewhere, GotJournal, with_journal, TriesJournal, takes_it, leaves_it}
use Rattle.claim_rule.specs.Nexts.{GoesTo, IsAt}
use Rattle.claim_rule.proofs.Tables.{journal_written, journal_else, stamped_alike}
use Rattle.claim_rule.proofs.Moves.{sound, on, counts, mine, caller_at, my_stamps, moved, moves, taken_else, journal_stays}
use Rattle.claim_rule.proofs.NextsLemmas.{turns_same, allowed}
use Rattle.claim_rule.proofs.SeatsLemmas.{set_back}
use Rattle.claim_rule.specs.Words.{word_occ, word_stamp}
use Rattle.claim_rule.specs.Stands.{IsStamped}
use Rattle.claim_rule.proofs.MarkLemmas.{some_left}

-- the journal's word is odd exactly where it has a holder, and is odd after the try
odd : (n : ℕ) (o : Option ℕ) → (2 * n + option_len o) % 2 ≡ option_len o
odd n None = omega arith
odd n (Some c) = omega arith

made_odd : (n : ℕ) (o : Option ℕ) → bit_or (2 * n + option_len o) 1 ≡ 2 * n + 1
made_odd n o = by o (or_block 1 n 0 (option_len o) 1 (small o) (omega arith))
  where
    small : (o : Option ℕ) → option_len o < 2 ^ 1
    small None = omega arith
    small (Some c) = omega arith

    by : (o : Option ℕ) → bit_or (n * 2 ^ 1 + option_len o) (0 * 2 ^ 1 + 1) ≡ bit_or n 0 * 2 ^ 1 + bit_or (option_len o) 1 → bit_or (2 * n + option_len o) 1 ≡ 2 * n + 1
    by None e = ap (λ (x : ℕ). bit_or x 1) (let q : 2 * n + 0 ≡ n * 2 ^ 1 + 0 = omega arith in q) ∙ (e ∙ (ap (λ (m : ℕ). m * 2 ^ 1 + 1) (or_zero_r n) ∙ (let q : n * 2 ^ 1 + 1 ≡ 2 * n + 1 = omega arith in q)))
    by (Some c) e = ap (λ (x : ℕ). bit_or x 1) (let q : 2 * n + 1 ≡ n * 2 ^ 1 + 1 = omega arith in q) ∙ (e ∙ (ap (λ (m : ℕ). m * 2 ^ 1 + 1) (or_zero_r n) ∙ (let q : n * 2 ^ 1 + 1 ≡ 2 * n + 1 = omega arith in q)))

module _ {D : Type 0} {verdict : D → Shown → Verdict} {st : Step Slot} {m m' : Seated D} {t : ℕ} where
  -- where the word was even, the seat has the journal
  pub taken_of : TriesJournal verdict st m t m' → t % 2 ≡ 0 → GotJournal (journal_slot (about verdict m.0).world) m m'
  taken_of (takes_it _ got) _ = got
  taken_of (leaves_it odd _ _) even = absurd (odd even)

  -- where it was odd, nothing changed, and another caller has it
  pub left_of : TriesJournal verdict st m t m' → t % 2 ≢ 0 → (m' ≡ m) × IsTakenElsewhere verdict m.0
  left_of (takes_it even _) odd = absurd (odd even)
  left_of (leaves_it _ same elsewhere) _ = (same, elsewhere)

module _ {D : Type 0} {verdict : D → Shown → Verdict} {z : Terms D} {s : Content D} {core : State} {seat : ℕ} {r : Record} (table : IsAt verdict z by_journal s core seat r) where
  abbrev g : Setup
  g = setup_of_terms verdict z

  abbrev last : ℕ
  last = cells z.world

  abbrev old : ℕ
  old = slice_index s.words last

  abbrev Goes : Type 0
  Goes = (slots : ℕ) (carried : List (ℕ × Slot)) → GoesTo verdict z by_journal s (next g r.number core) last seat (view_of z (r ∷ []), carried) (TriesJournal verdict (step slots last 1 0 home.none) (view_of z (r ∷ []), carried)) (bit_or old 1)

  still : (x : ℕ) (q : Record) → IsStamped g s.words q → IsStamped g (set s.words last x) q
  still x q = stamped_alike g s.words (set s.words last x) (λ k lt. (ap word_occ (journal_else by_journal g s.words x k lt), ap word_stamp (journal_else by_journal g s.words x k lt))) q

  module _ (change : Change) (p : r.caller.phase ≡ Taking change) where
    leads_by : (o : Option ℕ) → core.holder ≡ o → next g r.number core ≡ machine.takes g r.number core r.caller change o
    leads_by o e = ap (acts g r.number core) (caller_at table) ∙ ap (by_phase g r.number core r.caller) p ∙ ap (machine.takes g r.number core r.caller change) e

    word_is : (o : Option ℕ) → core.holder ≡ o → old ≡ 2 * length core.journal + option_len o
    word_is o e = table.stands.words.journal ∙ ap (λ (x : Option ℕ). 2 * length core.journal + option_len x) e

    -- another caller has it
    misses : (d : ℕ) → core.holder ≡ Some d → Goes
    misses d e slots carried = (
      view_of z (r ∷ []),
      keeps,
      tt,
      moves table core (next g r.number core) (on table) r.caller r.won r.note (set s.words last (bit_or old 1)) s.homes (sym (leads_by (Some d) e)) same_callers refl refl (omega arith) words table.stands.homes (λ q apart rec st. still (bit_or old 1) q st) (still (bit_or old 1) r (my_stamps table)),
      leaves_it (λ even. suc-ne-zero 0 (sym (ap (λ x. x % 2) (word_is (Some d) e) ∙ odd (length core.journal) (Some d)) ∙ even)) refl elsewhere,
    )
      where
        is_not_mine : d ≢ r.number
        is_not_mine same =
            let has = (sound table).holder d e in
            let it : has.0 ≡ r.caller = same_Some has.0 r.caller (sym has.1 ∙ ap (slice_get core.callers) same ∙ caller_at table) in
            subst IsCommitting (ap (λ (k : Caller). k.phase) it ∙ p) has.2

        elsewhere : IsTakenElsewhere verdict (view_of z (r ∷ []))
        elsewhere = record { core = core; sound = sound table; mine = caller_at table; holder = d; has = e; other = is_not_mine }

        same_callers : core.callers ≡ set core.callers r.number r.caller
        same_callers = sym (set_back core.callers r.number r.caller r.caller (caller_at table)) ∙ set-set core.callers r.number r.caller r.caller

        word_stays : bit_or old 1 ≡ old
        word_stays = ap (λ x. bit_or x 1) (word_is (Some d) e) ∙ made_odd (length core.journal) (Some d) ∙ sym (word_is (Some d) e)

        words : AreWords by_journal g core (set s.words last (bit_or old 1))
        words = journal_written by_journal g core core s.words (bit_or old 1) table.stands.words refl (λ k none. refl) (omega arith) (word_stays ∙ table.stands.words.journal)

    -- nobody has it
    hits : core.holder ≡ None → Goes
    hits e slots carried = (
      view_of z (with_journal r change j ∷ []),
      takes (journal_slot z.world) (slot.Journal j),
      has.1,
      moved table new (next g r.number core) (on table) (with_journal r change j) (set s.words last (bit_or old 1)) (set s.homes (journal_slot z.world) home.none) (sym (leads_by None e)) refl refl words homes others mine_is (λ q apart rec st. still (bit_or old 1) q st) (let st = still (bit_or old 1) r (my_stamps table) in record { won = st.won; noted = st.noted }) few,
      takes_it (ap (λ x. x % 2) (word_is None e) ∙ odd (length core.journal) None) (record { change = change; phase = p; journal = j; room = room; now = refl; out = refl }),
    )
      where
        has : (v : Kept) × (get_elem? s.homes (journal_slot z.world) ≡ home.some (home.some (slot.Journal v))) × IsCoreJournal g core v
        has = table.stands.homes.journal e

        j : Kept
        j = has.0

        new : State
        new = machine.takes g r.number core r.caller change None

        fewer : turns_left g new ≤ turns_left g core
        fewer = turns_same g core new r.number r.caller (record r.caller { phase = Committing change }) (caller_at table) refl refl

        left : 0 < turns_left g core
        left =
            let is = (sound table).each r.number r.caller (caller_at table) in
            let turn = subst (λ q. IsTurn g.lists.turns q r.caller.turn) p is.turn in
            let counted = is.counted ∙ ap (λ q. marked q r.caller.turn) p in
            some_left g.lists.turns core.callers r.number r.caller (caller_at table) (omega (arith, turn, counted))

        room : HasRoomForEntry j
        room = record { some = omega (arith, left, has.2.room); few = omega (arith, left, table.stands.few, ap (λ (es : List _). length es) has.2.entries) }

        words : AreWords by_journal g new (set s.words last (bit_or old 1))
        words = journal_written by_journal g core new s.words (bit_or old 1) table.stands.words refl (λ k none. refl) (omega arith) (ap (λ x. bit_or x 1) (word_is None e) ∙ made_odd (length core.journal) None)

        homes : AreHomes by_journal g new (set s.homes (journal_slot z.world) home.none)
        homes = record {
          count = length-set s.homes (journal_slot z.world) home.none ∙ table.stands.homes.count;
          cell = λ i x free value.
              set_else s.homes (journal_slot z.world) i home.none (λ q. let lt = slice_get_within core.tags (first_slotted by_journal z.world + i) 0 free in omega (arith, q, lt, (counts table).0)) ∙ table.stands.homes.cell i x free value;
          journal = λ none. absurd (none-some r.number (sym none));
        }

        others : (q : Record) → q.number ≢ r.number → HasCommitted g core q.number q.committed q.taken → HasCommitted g new q.number q.committed q.taken
        others q apart is = record { entries = is.entries; found = is.found; taken = taken_else g core new q.number q.taken (λ h. none-some q.number (sym e ∙ h)) (λ h. apart (sym (same_Some r.number q.number h))) is.taken }

        mine_is : HasCommitted g new r.number r.committed (Some j)
        mine_is = record { entries = (mine table).committed.entries; found = (mine table).committed.found; taken = (refl, journal_stays g core new refl fewer j has.2) }

        few : length new.journal + turns_left g new ≤ most_turns
        few = omega (arith, fewer, table.stands.few)

    by_holder : (o : Option ℕ) → core.holder ≡ o → Goes
    by_holder None e = hits e
    by_holder (Some d) e = misses d e

  pub take_goes : Takes r.caller.phase → Goes
  take_goes to = by_holder to.0 to.1 core.holder refl

module _ {D : Type 0} (verdict : D → Shown → Verdict) (z : Terms D) (ok : IsSetup (setup_of_terms verdict z)) where
  pub take_allowed : (slots seat : ℕ) (me : Seated D) → me.0 ≡ view_of z (own me.0 ∷ []) → Takes (own me.0).caller.phase → Allows (KeepsRule verdict z by_journal) slots seat me (cells z.world) (λ x. bit_or x 1) (TriesJournal verdict (step slots (cells z.world) 1 0 home.none) me)
  take_allowed slots seat me one to =
      allowed verdict z by_journal ok slots seat me (cells z.world) (λ x. bit_or x 1) (λ m. Takes (own m.0).caller.phase) (TriesJournal verdict (step slots (cells z.world) 1 0 home.none)) one to
      (λ s core r table fact. inl (take_goes table fact slots me.1))
