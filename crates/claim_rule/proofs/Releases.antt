-- The release of the cell that was won last keeps the rule.
use Rattle.std.proofs.Common.{◌≡◌, ℕ, ◌+◌, ◌<◌, ◌≤◌, List, [], ◌∷◌, length, set, length-set, Some, inl, inr, ap, sym, refl, subst, ◌∙◌, arith}
use Rattle.std.specs.Prelude.{slice_get}
use Rattle.std.specs.List.{All}
use Rattle.std.proofs.lemmas.List.Elements.{All-head}
use mathlib.Core.Option as home
use lib.ListN.{get_elem?}
use Rattle.atomic_table.specs.Table.{step, gives, Allows, put_back}
use Rattle.atomic_table.proofs.Lists.{set_else, set_here}
use Rattle.amoebot_state.specs.declared.cell.CellName.{CellName}
use Rattle.amoebot_state.specs.declared.cell.Cell.{Cell}
use Rattle.amoebot_state.specs.declared.verdict.Verdict.{Verdict}
use Rattle.amoebot_state.specs.Pairs.{Pairs}
use Rattle.amoebot_state.specs.Zones.{Shown}
use Rattle.amoebot_state.specs.Storage.{put_at}
use Rattle.claim_core.specs.declared.state.Phase.TheVariants.{Releasing}
use Rattle.claim_core.specs.Cells.{number, at, values_of, cells}
use Rattle.claim_core.specs.Machine.{Setup, State, freeing_caller, releases}
use Rattle.claim_core.specs.Soundness.{IsSetup, IsHeld}
use Rattle.claim_core.proofs.Nexts.{frees-marks}
use Rattle.claim_core.proofs.Numbers.{value_at, value_held}
use Rattle.claim_core.proofs.Places.{get-set_cases}
use Rattle.claim_core.proofs.HolderLemmas.{same_area}
use Rattle.claim_rule.specs.declared.views.Slot.{Slot}
use Rattle.claim_rule.specs.declared.views.Slot.TheVariants as slot
use Rattle.claim_rule.specs.declared.views.Record.{Record}
use Rattle.claim_rule.specs.declared.views.Terms.{Terms}
use Rattle.claim_rule.specs.Views.{Content, Seated, view_of, own, setup_of_terms}
use Rattle.claim_rule.specs.Manners.{CommitWay, by_journal, by_ticket, next_by, first_slotted, slot_of}
use Rattle.claim_rule.specs.Stands.{IsWon, AreWon, IsStampedBy, turns_left, AreWords, AreHomes, KeepsRule}
use Rattle.claim_rule.specs.Plays.{but_last, released_caller, IsToFree, Releases}
use Rattle.claim_rule.specs.Nexts.{GoesTo, IsAt}
use Rattle.claim_rule.proofs.Tables.{won_behind, slotted_written, home_else, stamped_stays}
use Rattle.claim_rule.proofs.WayLemmas.{shared_by, slot_is, slot_few}
use Rattle.claim_rule.proofs.NodeReleases.{frees_won}
use Rattle.claim_rule.specs.Words.{word_occ, word_stamp}
use Rattle.std.proofs.lemmas.List.{get_or-set_other}
use Rattle.claim_core.specs.declared.state.Caller.{Caller}
use Rattle.claim_rule.proofs.Moves.{sound, on, caller_at, counts, moves, my_stamps, journal_stays}
use Rattle.claim_rule.proofs.NextsLemmas.{turns_same, allowed}

-- what a record says of nodes' words is so without a slotted cell
released_stamped : (way : CommitWay) (g : Setup) (words : List ℕ) (r : Record) (n : CellName) (x : Cell) (held : Pairs) (i : ℕ) → number g.world.area n ≡ Some i → first_slotted way g.world ≤ i → r.caller.held ≡ (n, x) ∷ held → released_caller g r.caller ≡ freeing_caller g r.caller.turn held r.caller.marks
    → IsStampedBy way g words r → IsStampedBy way g words (record r { caller = released_caller g r.caller })
released_stamped by_journal g words r n x held i e le is_held same is = record {
  won = subst (λ (k : Caller). AreWon (IsWon g words k.turn k.marks) k.held r.won) (sym same) (frees_won g words r.caller.turn held r.caller.marks r.won
      (won_behind g (IsWon g words r.caller.turn r.caller.marks) n x held r.won i e le (subst (λ (ps : Pairs). AreWon (IsWon g words r.caller.turn r.caller.marks) ps r.won) is_held is.won)));
  noted = is.noted;
}
released_stamped by_ticket g words r n x held i e le is_held same is = tt

module _ {D : Type 0} {verdict : D → Shown → Verdict} {z : Terms D} {way : CommitWay} {s : Content D} {core : State} {seat : ℕ} {r : Record} (table : IsAt verdict z way s core seat r) where
  abbrev g : Setup
  g = setup_of_terms verdict z

  pub release_goes : (i slots : ℕ) (carried : List (ℕ × Slot)) → IsToFree verdict way i (view_of z (r ∷ []), carried) → GoesTo verdict z way s (next_by way g r.number core) i seat (view_of z (r ∷ []), carried) (λ _. Releases verdict (step slots i 0 0 home.none) (view_of z (r ∷ []), carried) 0) 0
  release_goes i slots carried to = (
    view_of z (record r { caller = released_caller g r.caller } ∷ []),
    gives,
    tt,
    moves table new (next_by way g r.number core) (on table) (released_caller g r.caller) r.won r.note (set s.words i 0) (put_back s.homes carried) leads callers refl refl fewer words homes (λ q apart rec st. still q st) mine,
    (refl, refl),
  )
    where
      n : CellName
      n = to.last.0

      x : Cell
      x = to.last.1

      held : Pairs
      held = to.last.2

      is_held : r.caller.held ≡ (n, x) ∷ held
      is_held = to.last.4

      numbered : number z.world.area n ≡ Some i
      numbered = to.last.5

      at_slot : ℕ
      at_slot = slot_of way z.world.area n

      is_i : first_slotted way z.world + at_slot ≡ i
      is_i = slot_is way z.world n i numbered to.slotted

      few_slots : first_slotted way z.world + at_slot < cells z.world
      few_slots = let e = is_i in omega (arith, e, to.inside)

      still : (q : Record) → IsStampedBy way g s.words q → IsStampedBy way g (set s.words i 0) q
      still q = stamped_stays way g s.words (set s.words i 0) (λ k lt. let e = get_or-set_other s.words i k 0 0 (λ c. omega (arith, c, to.slotted, lt)) in (ap word_occ e, ap word_stamp e)) q

      inside : i < length core.tags
      inside = omega (arith, to.inside, (counts table).0)

      new : State
      new = releases g r.number core r.caller ((n, x) ∷ held)

      leads : new ≡ next_by way g r.number core
      leads = sym (shared_by g way r.number core r.caller Releasing (caller_at table) to.phase tt ∙ ap (releases g r.number core r.caller) is_held)

      same : released_caller g r.caller ≡ freeing_caller g r.caller.turn held r.caller.marks
      same = ap (λ h. freeing_caller g r.caller.turn (but_last h) r.caller.marks) is_held

      mine : IsStampedBy way g (set s.words i 0) (record r { caller = released_caller g r.caller; won = r.won; note = r.note })
      mine = released_stamped way g (set s.words i 0) r n x held i numbered to.slotted is_held same (still r (my_stamps table))

      callers : new.callers ≡ set core.callers r.number (released_caller g r.caller)
      callers = ap (set core.callers r.number) (sym same)

      fewer : turns_left g new ≤ turns_left g core
      fewer = turns_same g core new r.number r.caller (freeing_caller g r.caller.turn held r.caller.marks) (caller_at table) refl (frees-marks g r.caller.turn held r.caller.marks)

      tags : new.tags ≡ set core.tags i 0
      tags = ap (λ o. put_at core.tags o 0) numbered

      words : AreWords way g new (set s.words i 0)
      words = slotted_written way g core new s.words i 0 table.stands.words to.slotted to.inside inside tags refl refl refl

      -- the value that the cell has in the state is the one that was recorded
      value : (y : Cell) → at core.values (number z.world.area n) ≡ Some y → x ≡ y
      value y e =
          let is = All-head (IsHeld g core (sound table).last r.number r.caller.turn) (n, x) held (subst (All (IsHeld g core (sound table).last r.number r.caller.turn)) is_held ((sound table).each r.number r.caller (caller_at table)).held) in
          let has = value_at (sound table).last n y (ap (λ a. at (values_of (sound table).last) (number a n)) (same_area g table.run core (sound table)) ∙ ap (λ xs. at xs (number z.world.area n)) (sym (sound table).values) ∙ e) in
          sym (has ∙ value_held (sound table).last n x is.value)

      put_is : put_back s.homes carried ≡ set s.homes at_slot (home.some (slot.Cell x))
      put_is = ap (put_back s.homes) to.last.6

      homes : AreHomes way g new (put_back s.homes carried)
      homes = subst (AreHomes way g new) (sym put_is) (record {
        count = length-set s.homes at_slot (home.some (slot.Cell x)) ∙ table.stands.homes.count;
        cell = λ j y e v. elim (get-set_cases core.tags i (first_slotted way z.world + j) 0 0 (ap (λ ts. slice_get ts (first_slotted way z.world + j)) (sym tags) ∙ e)) [
          | inl here ↦
              let same_j : at_slot ≡ j = (let p = here.0 in let q = is_i in omega (arith, p, q)) in
              subst (λ (q : ℕ × Cell). get_elem? (set s.homes at_slot (home.some (slot.Cell x))) q.0 ≡ home.some (home.some (slot.Cell q.1))) (λ l. (same_j l, value y (ap (at core.values) numbered ∙ ap (slice_get core.values) (sym here.0) ∙ v) l))
              (set_here s.homes at_slot (home.some (slot.Cell x)) (let few = slot_few way z.world at_slot few_slots in omega (arith, few, table.stands.homes.count)))
          | inr was ↦ set_else s.homes at_slot j (home.some (slot.Cell x)) (λ q. was.0 (ap (λ m. first_slotted way z.world + m) q ∙ is_i)) ∙ table.stands.homes.cell j y was.1 v
        ];
        journal = home_else g way core new s.homes at_slot (home.some (slot.Cell x)) few_slots refl (journal_stays g core new refl fewer) table.stands.homes.journal;
      })

module _ {D : Type 0} (verdict : D → Shown → Verdict) (z : Terms D) (way : CommitWay) (ok : IsSetup (setup_of_terms verdict z)) where
  pub release_allowed : (slots seat : ℕ) (me : Seated D) (i : ℕ) → me.0 ≡ view_of z (own me.0 ∷ []) → IsToFree verdict way i me → Allows (KeepsRule verdict z way) slots seat me i (λ _. 0) (λ _. Releases verdict (step slots i 0 0 home.none) me 0)
  release_allowed slots seat me i one to =
      allowed verdict z way ok slots seat me i (λ _. 0) (IsToFree verdict way i) (λ m _. Releases verdict (step slots i 0 0 home.none) m 0) one to
      (λ s core r table fact. inl (release_goes table i slots me.1 fact))
