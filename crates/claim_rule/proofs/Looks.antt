-- A look at the journal's length, for the mark of a turn that is refused or changes nothing, keeps the rule.
use Rattle.std.proofs.Common.{◌≡◌, ℕ, zero, suc, ◌<◌, ◌≤◌, ◌⊎◌, inl, inr, List, [], ◌∷◌, ◌++◌, map, length, set, Some, ap, sym, refl, ◌∙◌, arith, length-append}
use Rattle.std.specs.Prelude.{slice_get, slice_index}
use Rattle.std.proofs.lemmas.Option.{none-some, same_Some, slice_get_within}
use mathlib.Core.Option as home
use Rattle.atomic_table.specs.Table.{step, keeps, Allows}
use Rattle.amoebot_state.specs.declared.verdict.Verdict.{Verdict}
use Rattle.amoebot_state.specs.Zones.{Shown}
use Rattle.claim_core.specs.declared.marks.Mark.{Mark}
use Rattle.claim_core.specs.declared.state.Caller.{Caller}
use Rattle.claim_core.specs.declared.state.Phase.{Phase}
use Rattle.claim_core.specs.declared.state.Phase.TheVariants.{Claim, Refusing, Looking, Taking, Committing, Releasing, Ended}
use Rattle.std.specs.List.{All}
use Rattle.amoebot_state.specs.Configs.{Config}
use Rattle.claim_core.specs.Cells.{cells}
use Rattle.claim_core.specs.Cores.{unmarked}
use Rattle.claim_core.specs.Machine.{Setup, State, looks, by_phase}
use Rattle.claim_core.specs.Soundness.{IsSetup, IsHeld, marked}
use Rattle.claim_core.specs.Good.{place_of}
use Rattle.claim_core.specs.declared.state.Look.TheVariants as look
use Rattle.tri_lattice.specs.declared.node.Node.{Node}
use Rattle.amoebot_state.specs.declared.cell.Cell.{Cell}
use Rattle.amoebot_state.specs.declared.cell.Cell.TheVariants as cell
use Rattle.claim_core.proofs.Nexts.{frees-marks}
use Rattle.claim_rule.specs.declared.views.Slot.{Slot}
use Rattle.claim_rule.specs.declared.views.Record.{Record}
use Rattle.claim_rule.specs.declared.views.Terms.{Terms}
use Rattle.claim_rule.specs.Views.{Content, Seated, view_of, own, setup_of_terms}
use Rattle.claim_rule.specs.declared.views.Note.{Note}
use Rattle.claim_rule.specs.Words.{word_occ, word_stamp}
use Rattle.claim_rule.specs.Manners.{CommitWay, by_journal, by_ticket, next_by, length_in, first_slotted}
use Rattle.claim_rule.specs.Stands.{turns_left, IsWon, IsStampedBy, AreWords, AreHomes, KeepsRule}
use Rattle.claim_rule.specs.Plays.{IsToRead, mark_of_phase, marked_at, ReadsLength}
use Rattle.claim_rule.specs.Nexts.{GoesTo, IsAt}
use Rattle.claim_rule.proofs.Tables.{Alike, journal_written, journal_else, homes_same, won_weaker, stamped_stays}
use Rattle.claim_rule.proofs.WayLemmas.{IsShared, shared_by, length_is}
use Rattle.claim_rule.proofs.Settles.{settled_now}
use Rattle.claim_rule.proofs.NodeReleases.{frees_won}
use Rattle.claim_rule.proofs.Moves.{sound, on, caller_at, moves, my_stamps, journal_stays}
use Rattle.claim_rule.proofs.NextsLemmas.{allowed}

-- a caller with more marks leaves fewer turns without one
turns_fewer : (turns : ℕ) (ks : List Caller) (c : ℕ) (k k' : Caller) → slice_get ks c ≡ Some k → length k.marks ≤ length k'.marks → unmarked turns (map (λ (j : Caller). j.marks) (set ks c k')) ≤ unmarked turns (map (λ (j : Caller). j.marks) ks)
turns_fewer turns [] c k k' e more = absurd (none-some k e)
turns_fewer turns (x ∷ ks) zero k k' e more = let same = ap (λ (j : Caller). length j.marks) (same_Some x k e) in omega (arith, same, more)
turns_fewer turns (x ∷ ks) (suc c) k k' e more = let ih = turns_fewer turns ks c k k' e more in omega (arith, ih)

-- the step of a caller in these phases
looks_so : (g : Setup) (s : State) (c : ℕ) (k : Caller) (p : Phase) → IsToRead p → by_phase g c s k p ≡ looks g c s k (mark_of_phase p (length s.journal))
looks_so g s c k Claim reads = absurd reads
looks_so g s c k (Refusing n t) reads = refl
looks_so g s c k (Looking l) reads = refl
looks_so g s c k (Taking change) reads = absurd reads
looks_so g s c k (Committing change) reads = absurd reads
looks_so g s c k Releasing reads = absurd reads
looks_so g s c k Ended reads = absurd reads

-- both ways make it alike
reads_shared : (p : Phase) → IsToRead p → IsShared p
reads_shared Claim reads = absurd reads
reads_shared (Refusing n t) reads = tt
reads_shared (Looking l) reads = tt
reads_shared (Taking change) reads = absurd reads
reads_shared (Committing change) reads = absurd reads
reads_shared Releasing reads = absurd reads
reads_shared Ended reads = absurd reads

-- the place in its mark is the one that was read
place_read : (p : Phase) (n : ℕ) → place_of (mark_of_phase p n) ≡ n
place_read Claim n = refl
place_read (Refusing m t) n = refl
place_read (Looking look.Idle) n = refl
place_read (Looking (look.Failed why)) n = refl
place_read (Taking change) n = refl
place_read (Committing change) n = refl
place_read Releasing n = refl
place_read Ended n = refl

-- what a record says of nodes' words is so with the mark
marked_stamped : (way : CommitWay) (g : Setup) (core : State) (words later : List ℕ) → AreWords way g core words → ((k : ℕ) → k < first_slotted way g.world → slice_index later k ≡ slice_index words k) → (last : Config) (r : Record) → length r.caller.marks ≡ r.caller.turn
    → All (IsHeld g core last r.number r.caller.turn) r.caller.held → IsStampedBy way g words r → IsStampedBy way g later r → IsStampedBy way g later (record r { caller = marked_at g r.caller (length core.journal) })
marked_stamped by_ticket g core words later are same last r count held was is = tt
marked_stamped by_journal g core words later are same last r count held was is = record {
  won = frees_won g later r.caller.turn r.caller.held (r.caller.marks ++ m ∷ []) r.won
      (won_weaker (IsHeld g core last r.number r.caller.turn) (IsWon g words r.caller.turn r.caller.marks) (IsWon g later r.caller.turn (r.caller.marks ++ m ∷ []))
      (λ v x w there won. settled_now g core words later are same last r.number r.caller.turn r.caller.marks count m (place_read r.caller.phase (length core.journal)) v x x w (value v x w won) there won)
      r.caller.held r.won held was.won);
  noted = is.noted;
}
  where
    m : Mark
    m = mark_of_phase r.caller.phase (length core.journal)

    value : (v : Node) (x : Cell) (w : Note) → IsWon g words r.caller.turn r.caller.marks v x w → IsWon g words r.caller.turn r.caller.marks v x w → (x ≡ cell.Spot w.occ) ⊎ ((p : ℕ) × (slice_get (r.caller.marks ++ m ∷ []) r.caller.turn ≡ Some (Rattle.claim_core.specs.declared.marks.Mark.TheVariants.Done p)))
    value v x w won _ = elim won.value [
      | inl e ↦ inl e
      | inr done ↦ (let lt = slice_get_within r.caller.marks r.caller.turn _ done.1 in absurd (omega (arith, lt, count)))
    ]

module _ {D : Type 0} {verdict : D → Shown → Verdict} {z : Terms D} {way : CommitWay} {s : Content D} {core : State} {seat : ℕ} {r : Record} (table : IsAt verdict z way s core seat r) where
  abbrev g : Setup
  g = setup_of_terms verdict z

  abbrev last : ℕ
  last = cells z.world

  pub look_goes : (slots : ℕ) (carried : List (ℕ × Slot)) → IsToRead r.caller.phase → GoesTo verdict z way s (next_by way g r.number core) last seat (view_of z (r ∷ []), carried) (ReadsLength verdict way (step slots last 0 0 home.none) (view_of z (r ∷ []), carried)) (slice_index s.words last)
  look_goes slots carried reads = (
    view_of z (record r { caller = k' } ∷ []),
    keeps,
    tt,
    moves table new (next_by way g r.number core) (on table) k' r.won r.note (set s.words last (slice_index s.words last)) s.homes leads refl refl refl fewer words homes (λ q apart rec st. still q st) stamped,
    (ap (λ n. view_of z (record r { caller = marked_at g r.caller n } ∷ [])) (sym its_length), refl, (let e = its_length in omega (arith, table.stands.few, e))),
  )
    where
      its_length : length_in way (slice_index s.words last) ≡ length core.journal
      its_length = ap (length_in way) table.stands.words.journal ∙ length_is way (length core.journal) core.holder

      k' : Caller
      k' = marked_at g r.caller (length core.journal)

      new : State
      new = looks g r.number core r.caller (mark_of_phase r.caller.phase (length core.journal))

      leads : new ≡ next_by way g r.number core
      leads = sym (shared_by g way r.number core r.caller r.caller.phase (caller_at table) refl (reads_shared r.caller.phase reads) ∙ looks_so g core r.number r.caller r.caller.phase reads)

      more : length r.caller.marks ≤ length k'.marks
      more = let one = length-append r.caller.marks (mark_of_phase r.caller.phase (length core.journal) ∷ []) in let same = ap (λ (ms : List Mark). length ms) (frees-marks g r.caller.turn r.caller.held (r.caller.marks ++ mark_of_phase r.caller.phase (length core.journal) ∷ [])) in omega (arith, one, same)

      fewer : turns_left g new ≤ turns_left g core
      fewer = turns_fewer g.lists.turns core.callers r.number r.caller k' (caller_at table) more

      words : AreWords way g new (set s.words last (slice_index s.words last))
      words = journal_written way g core new s.words (slice_index s.words last) table.stands.words refl (λ k none. refl) (omega arith) table.stands.words.journal

      homes : AreHomes way g new s.homes
      homes = homes_same way g core new s.homes table.stands.homes (λ k le. refl) refl refl (journal_stays g core new refl fewer)

      same : (k : ℕ) → k < first_slotted way z.world → slice_index (set s.words last (slice_index s.words last)) k ≡ slice_index s.words k
      same = journal_else way g s.words (slice_index s.words last)

      alike : (k : ℕ) → k < first_slotted way z.world → Alike (slice_index s.words k) (slice_index (set s.words last (slice_index s.words last)) k)
      alike k lt = (ap word_occ (same k lt), ap word_stamp (same k lt))

      still : (q : Record) → IsStampedBy way g s.words q → IsStampedBy way g (set s.words last (slice_index s.words last)) q
      still q = stamped_stays way g s.words (set s.words last (slice_index s.words last)) alike q

      -- the turn has no mark before
      count : length r.caller.marks ≡ r.caller.turn
      count = by r.caller.phase reads ((sound table).each r.number r.caller (caller_at table)).counted
        where
          by : (p : Phase) → IsToRead p → length r.caller.marks ≡ marked p r.caller.turn → length r.caller.marks ≡ r.caller.turn
          by Claim reads e = absurd reads
          by (Refusing n t) reads e = e
          by (Looking l) reads e = e
          by (Taking change) reads e = absurd reads
          by (Committing change) reads e = absurd reads
          by Releasing reads e = absurd reads
          by Ended reads e = absurd reads

      stamped : IsStampedBy way g (set s.words last (slice_index s.words last)) (record r { caller = k'; won = r.won; note = r.note })
      stamped = marked_stamped way g core s.words (set s.words last (slice_index s.words last)) table.stands.words same (sound table).last r count ((sound table).each r.number r.caller (caller_at table)).held (my_stamps table) (still r (my_stamps table))

module _ {D : Type 0} (verdict : D → Shown → Verdict) (z : Terms D) (way : CommitWay) (ok : IsSetup (setup_of_terms verdict z)) where
  pub look_allowed : (slots seat : ℕ) (me : Seated D) → me.0 ≡ view_of z (own me.0 ∷ []) → IsToRead (own me.0).caller.phase → Allows (KeepsRule verdict z way) slots seat me (cells z.world) (λ x. x) (ReadsLength verdict way (step slots (cells z.world) 0 0 home.none) me)
  look_allowed slots seat me one reads =
      allowed verdict z way ok slots seat me (cells z.world) (λ x. x) (λ m. IsToRead (own m.0).caller.phase) (ReadsLength verdict way (step slots (cells z.world) 0 0 home.none)) one reads
      (λ s core r table fact. inl (look_goes table slots me.1 fact))
