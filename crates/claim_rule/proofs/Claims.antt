-- A try to claim a cell keeps the rule, and tells what was found.
use Rattle.std.proofs.Common.{◌≡◌, ◌≢◌, ℕ, ◌+◌, ◌<◌, ◌≤◌, List, [], ◌∷◌, length, set, get_or, length-set, eqb, Some, None, inl, inr, ap, sym, refl, subst, ◌∙◌, arith, eq-eqb, ne_eqb}
use Rattle.std.specs.Prelude.{slice_get, slice_index, if◌then◌else◌}
use Rattle.std.proofs.lemmas.Option.{slice_get-get_or, slice_get_within}
use mathlib.Core.Option as home
use prog.Atomic.{either}
use Rattle.atomic_table.specs.Table.{step, keeps, takes, Allows}
use Rattle.atomic_table.proofs.Lists.{set_else, exchanged}
use Rattle.amoebot_state.specs.declared.cell.CellName.{CellName}
use Rattle.amoebot_state.specs.declared.cell.Cell.{Cell}
use Rattle.amoebot_state.specs.declared.cell.Cell.TheVariants as cell
use Rattle.amoebot_state.specs.declared.verdict.Verdict.{Verdict}
use Rattle.amoebot_state.specs.Zones.{Shown}
use Rattle.amoebot_state.specs.Storage.{put_at}
use Rattle.claim_core.specs.declared.state.Caller.{Caller}
use Rattle.claim_core.specs.declared.state.Phase.{Phase}
use Rattle.claim_core.specs.declared.state.Phase.TheVariants.{Claim, Refusing}
use Rattle.claim_core.specs.Cells.{number, at, cells}
use Rattle.claim_core.specs.Machine.{Setup, State, bot, next_of, after_win, caller_with_cell, wins, claims, finds, tries}
use Rattle.claim_core.specs.Soundness.{IsSetup, Sound}
use Rattle.claim_core.proofs.Tags.{tag-positive}
use Rattle.claim_core.proofs.Places.{get-set_here, get-set_cases}
use Rattle.claim_core.proofs.HolderLemmas.{before, refused_by}
use Rattle.claim_core.proofs.ClaimLemmas.{won_in_order, won_shown}
use Rattle.claim_core.proofs.Ranks.{few}
use Rattle.claim_rule.specs.declared.views.Slot.{Slot}
use Rattle.claim_rule.specs.declared.views.Slot.TheVariants as slot
use Rattle.claim_rule.specs.declared.views.Record.{Record}
use Rattle.claim_rule.specs.declared.views.Terms.{Terms}
use Rattle.claim_rule.specs.Views.{Content, Seated, view_of, own, setup_of_terms}
use Rattle.claim_rule.specs.Manners.{CommitWay, by_journal, by_ticket, next_by, first_slotted, slot_of}
use Rattle.claim_rule.specs.Stands.{IsWon, IsStampedBy, turns_left, AreWords, AreHomes, KeepsRule}
use Rattle.claim_rule.specs.Plays.{IsKnown, IsOthers, tried, IsToTry, Claims}
use Rattle.claim_rule.specs.Nexts.{GoesTo, IsAt}
use Rattle.claim_rule.proofs.Tables.{won_past, word_again, slotted_written, home_else, homes_same, stamped_stays}
use Rattle.claim_rule.proofs.WayLemmas.{shared_by, slot_is}
use Rattle.claim_rule.proofs.NodeClaims.{is_placed}
use Rattle.claim_rule.specs.Words.{word_occ, word_stamp}
use Rattle.std.proofs.lemmas.List.{get_or-set_other}
use Rattle.claim_rule.proofs.Moves.{sound, on, caller_at, counts, moves, my_stamps, journal_stays}
use Rattle.claim_rule.proofs.NextsLemmas.{turns_same, allowed}

-- what a record says of nodes' words is so with a slotted cell more, and in another phase
won_stamped : (way : CommitWay) (g : Setup) (words : List ℕ) (r : Record) (n : CellName) (x : Cell) (i : ℕ) → number g.world.area n ≡ Some i → first_slotted way g.world ≤ i → IsStampedBy way g words r → IsStampedBy way g words (record r { caller = caller_with_cell g r.number r.caller n x })
won_stamped by_journal g words r n x i e le is = record { won = won_past g (IsWon g words r.caller.turn r.caller.marks) n x r.caller.held r.won i e le is.won; noted = is.noted }
won_stamped by_ticket g words r n x i e le is = tt

phase_stamped : (way : CommitWay) (g : Setup) (words : List ℕ) (r : Record) (p : Phase) → IsStampedBy way g words r → IsStampedBy way g words (record r { caller = record r.caller { phase = p } })
phase_stamped by_journal g words r p is = record { won = is.won; noted = is.noted }
phase_stamped by_ticket g words r p is = tt

module _ {D : Type 0} {verdict : D → Shown → Verdict} {z : Terms D} {way : CommitWay} {s : Content D} {core : State} {seat : ℕ} {r : Record} (table : IsAt verdict z way s core seat r) where
  abbrev g : Setup
  g = setup_of_terms verdict z

  module _ (i t slots : ℕ) (carried : List (ℕ × Slot)) (to : IsToTry verdict way i t (view_of z (r ∷ []))) where
    abbrev n : CellName
    n = tried verdict (view_of z (r ∷ []))

    abbrev at_slot : ℕ
    at_slot = slot_of way z.world.area n

    abbrev b : ℕ
    b = bot g r.number r.caller.turn

    abbrev old : ℕ
    old = slice_index s.words i

    -- the word stands behind those of the nodes
    is_i : first_slotted way z.world + at_slot ≡ i
    is_i = slot_is way z.world n i to.placed.0 to.slotted

    few_slots : first_slotted way z.world + at_slot < cells z.world
    few_slots = let e = is_i in omega (arith, e, to.placed.1)

    inside : i < length core.tags
    inside = omega (arith, to.placed.1, (counts table).0)

    found_tag : at core.tags (number z.world.area n) ≡ Some old
    found_tag = ap (at core.tags) to.placed.0 ∙ slice_get-get_or core.tags i 0 inside ∙ ap (λ (m : ℕ). Some m) (sym (table.stands.words.slotted i to.slotted to.placed.1))

    claims_it : next_by way g r.number core ≡ claims g r.number core r.caller n old
    claims_it = shared_by g way r.number core r.caller Claim (caller_at table) to.phase tt ∙ ap (tries g r.number core r.caller) to.next ∙ ap (finds g r.number core r.caller n) found_tag

    still : (y : ℕ) (q : Record) → IsStampedBy way g s.words q → IsStampedBy way g (set s.words i y) q
    still y q = stamped_stays way g s.words (set s.words i y) (λ k lt. let e = get_or-set_other s.words i k y 0 (λ c. omega (arith, c, to.slotted, lt)) in (ap word_occ e, ap word_stamp e)) q

    -- the cell was free
    hits : old ≡ 0 → GoesTo verdict z way s (next_by way g r.number core) i seat (view_of z (r ∷ []), carried) (Claims verdict way (step slots i 0 t home.none) (view_of z (r ∷ []), carried)) t
    hits free = (
      view_of z (record r { caller = caller_with_cell g r.number r.caller n x } ∷ []),
      takes at_slot (slot.Cell x),
      table.stands.homes.cell at_slot x (ap (slice_get core.tags) is_i ∙ ap (at core.tags) (sym to.placed.0) ∙ found_free) (ap (slice_get core.values) is_i ∙ ap (at core.values) (sym to.placed.0) ∙ value),
      moves table new (next_by way g r.number core) (on table) (caller_with_cell g r.number r.caller n x) r.won r.note (set s.words i t) (set s.homes at_slot home.none) leads refl refl refl fewer words homes (λ q apart rec st. still t q st) (won_stamped way g (set s.words i t) r n x i to.placed.0 to.slotted (still t r (my_stamps table))),
      ((λ _. record { value = x; now = refl; out = refl; known = known }), λ held. absurd (held free)),
    )
      where
        x : Cell
        x = get_or core.values i (cell.Spot None)

        found_free : at core.tags (number z.world.area n) ≡ Some 0
        found_free = found_tag ∙ ap (λ (m : ℕ). Some m) free

        value : at core.values (number z.world.area n) ≡ Some x
        value = ap (at core.values) to.placed.0 ∙ slice_get-get_or core.values i (cell.Spot None) (omega (arith, to.placed.1, (counts table).1))

        new : State
        new = wins g r.number core r.caller n (Some x)

        leads : new ≡ next_by way g r.number core
        leads = sym (claims_it ∙ ap (λ e. if e then wins g r.number core r.caller n (at core.values (number z.world.area n)) else Rattle.claim_core.specs.Machine.with_caller g core r.number (record r.caller { phase = Refusing n old })) (eq-eqb old 0 free) ∙ ap (wins g r.number core r.caller n) value)

        tags : new.tags ≡ set core.tags i t
        tags = λ j. put_at core.tags (to.placed.0 j) (sym to.tag j)

        fewer : turns_left g new ≤ turns_left g core
        fewer = turns_same g core new r.number r.caller (caller_with_cell g r.number r.caller n x) (caller_at table) refl refl

        words : AreWords way g new (set s.words i t)
        words = slotted_written way g core new s.words i t table.stands.words to.slotted to.placed.1 inside tags refl refl refl

        homes : AreHomes way g new (set s.homes at_slot home.none)
        homes = record {
          count = length-set s.homes at_slot home.none ∙ table.stands.homes.count;
          cell = λ j y e v. elim (get-set_cases core.tags i (first_slotted way z.world + j) t 0 (ap (λ ts. slice_get ts (first_slotted way z.world + j)) (sym tags) ∙ e)) [
            | inl mine ↦ absurd (tag-positive r.number r.caller.turn b (sym to.tag ∙ mine.1))
            | inr was ↦ set_else s.homes at_slot j home.none (λ q. was.0 (ap (λ m. first_slotted way z.world + m) q ∙ is_i)) ∙ table.stands.homes.cell j y was.1 v
          ];
          journal = home_else g way core new s.homes at_slot home.none few_slots refl (journal_stays g core new refl fewer) table.stands.homes.journal;
        }

        now_sound : Sound g new
        now_sound = subst (Sound g) (sym leads) (on table)

        now_there : slice_get new.callers r.number ≡ Some (caller_with_cell g r.number r.caller n x)
        now_there = get-set_here core.callers r.number (caller_with_cell g r.number r.caller n x) (slice_get_within core.callers r.number r.caller (caller_at table))

        known : IsKnown g b ((n, x) ∷ r.caller.held)
        known = record {
          order = won_in_order g table.run core (sound table) r.number r.caller (caller_at table) n x to.phase to.next found_free value;
          few = omega (arith, few g table.run core (sound table) r.number r.caller (caller_at table) to.phase);
          placed = λ m e. is_placed g table.run new now_sound r.number (caller_with_cell g r.number r.caller n x) now_there (ap (after_win g b ((n, x) ∷ r.caller.held)) e) m e;
          shown = won_shown g table.run core (sound table) r.number r.caller (caller_at table) n x to.phase to.next found_free value;
        }

    -- another's tag was found
    misses : old ≢ 0 → GoesTo verdict z way s (next_by way g r.number core) i seat (view_of z (r ∷ []), carried) (Claims verdict way (step slots i 0 t home.none) (view_of z (r ∷ []), carried)) old
    misses held = (
      view_of z (record r { caller = k' } ∷ []),
      keeps,
      tt,
      moves table new (next_by way g r.number core) (on table) k' r.won r.note (set s.words i old) s.homes leads refl refl refl fewer words homes (λ q apart rec st. still old q st) (phase_stamped way g (set s.words i old) r (Refusing n old) (still old r (my_stamps table))),
      ((λ free. absurd (held free)), λ _. record { now = refl; out = refl; other = others }),
    )
      where
        k' : Caller
        k' = record r.caller { phase = Refusing n old }

        new : State
        new = Rattle.claim_core.specs.Machine.with_caller g core r.number k'

        leads : new ≡ next_by way g r.number core
        leads = sym (claims_it ∙ ap (λ e. if e then wins g r.number core r.caller n (at core.values (number z.world.area n)) else new) (ne_eqb old 0 held))

        fewer : turns_left g new ≤ turns_left g core
        fewer = turns_same g core new r.number r.caller k' (caller_at table) refl refl

        words : AreWords way g new (set s.words i old)
        words = word_again way g core new s.words i table.stands.words (omega (arith, to.placed.1)) refl refl refl refl

        homes : AreHomes way g new s.homes
        homes = homes_same way g core new s.homes table.stands.homes (λ k le. refl) refl refl (journal_stays g core new refl fewer)

        others : IsOthers g r.number old
        others =
            let by = refused_by g table.run core (sound table) r.number r.caller (caller_at table) n old (before g table.run core (sound table) r.number r.caller (caller_at table) n to.phase to.next) found_tag held in
            record { some = held; listed = by.listed; other = by.other; turn = by.turn; of = by.of }

    pub claim_goes : GoesTo verdict z way s (next_by way g r.number core) i seat (view_of z (r ∷ []), carried) (Claims verdict way (step slots i 0 t home.none) (view_of z (r ∷ []), carried)) (either (eqb old 0) t old)
    claim_goes = exchanged old 0 t (GoesTo verdict z way s (next_by way g r.number core) i seat (view_of z (r ∷ []), carried) (Claims verdict way (step slots i 0 t home.none) (view_of z (r ∷ []), carried))) hits misses

module _ {D : Type 0} (verdict : D → Shown → Verdict) (z : Terms D) (way : CommitWay) (ok : IsSetup (setup_of_terms verdict z)) where
  pub claim_allowed : (slots seat : ℕ) (me : Seated D) (i t : ℕ) → me.0 ≡ view_of z (own me.0 ∷ []) → IsToTry verdict way i t me.0 → Allows (KeepsRule verdict z way) slots seat me i (λ x. either (eqb x 0) t x) (Claims verdict way (step slots i 0 t home.none) me)
  claim_allowed slots seat me i t one to =
      allowed verdict z way ok slots seat me i (λ x. either (eqb x 0) t x) (λ m. IsToTry verdict way i t m.0) (Claims verdict way (step slots i 0 t home.none)) one to
      (λ s core r table fact. inl (claim_goes table i t slots me.1 fact))
