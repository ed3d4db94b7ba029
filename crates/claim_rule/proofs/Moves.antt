-- What the table stands for after a step of a seat that has one record.
use Rattle.std.proofs.Common.{◌≡◌, ◌≢◌, ℕ, zero, ◌+◌, ◌<◌, ◌≤◌, List, [], ◌∷◌, length, set, Option, Some, None, inl, inr, ap, sym, refl, subst, ◌∙◌, arith}
use Rattle.std.specs.Prelude.{slice_get}
use Rattle.std.specs.List.{Contains}
use Rattle.std.proofs.lemmas.List.Elements.{All-contains, All-weaker}
use Rattle.std.proofs.lemmas.Option.{none-some, same_Some, slice_get_within, slice_get-get_or}
use mathlib.Core.Option as home
use Rattle.amoebot_state.specs.declared.cell.CellName.{CellName}
use Rattle.amoebot_state.specs.declared.cell.Cell.{Cell}
use Rattle.amoebot_state.specs.declared.cell.Cell.TheVariants as cell
use Rattle.amoebot_state.specs.declared.verdict.Verdict.{Verdict}
use Rattle.amoebot_state.specs.Zones.{Shown}
use Rattle.amoebot_state.proofs.Members.{Has-from_Contains, Contains-from_Has}
use Rattle.claim_core.specs.declared.state.Caller.{Caller}
use Rattle.claim_core.specs.declared.state.Committed.{Committed}
use Rattle.claim_core.specs.Limits.{most_turns}
use Rattle.claim_core.specs.Turns.{Kept}
use Rattle.claim_core.specs.Cells.{number, at, cells}
use Rattle.claim_core.specs.Machine.{Setup, State}
use Rattle.claim_core.specs.Soundness.{IsHeld, names, Sound}
use Rattle.claim_core.specs.Reached.{IsShownAt}
use Rattle.claim_core.proofs.Places.{get-set_here, get-set_else}
use Rattle.claim_core.proofs.Numbers.{value_at, value_held}
use Rattle.claim_core.proofs.Fronts.{name_of_held}
use Rattle.claim_core.proofs.HolderLemmas.{is_known, same_area}
use Rattle.claim_rule.specs.declared.views.Slot.{Slot}
use Rattle.claim_rule.specs.declared.views.Record.{Record}
use Rattle.claim_rule.specs.declared.views.Terms.{Terms}
use Rattle.claim_rule.specs.declared.views.View.{View}
use Rattle.claim_rule.specs.Views.{Content, view_of, setup_of_terms}
use Rattle.claim_rule.specs.declared.views.Note.{Note}
use Rattle.claim_rule.specs.Manners.{CommitWay, by_journal, by_ticket, next_by}
use Rattle.claim_rule.specs.Stands.{IsStampedBy, turns_left, IsCoreJournal, IsJournalHome, HasTaken, HasCommitted, IsRecord, AreWords, AreHomes, HasRecord, Stands}
use Rattle.claim_rule.specs.Nexts.{IsAt}
use Rattle.claim_rule.proofs.Tables.{later, cases, back, forth}
use Rattle.claim_rule.proofs.NextsLemmas.{tags_count}
use Rattle.claim_rule.proofs.WayLemmas.{NobodyHolds, on_by}

-- the same number, where the state is sound, has the cell's value
at_there : (xs : List Cell) (ts : List ℕ) (o : Option ℕ) (t : ℕ) → length ts ≡ length xs → at ts o ≡ Some t → (x : Cell) × (at xs o ≡ Some x)
at_there xs ts None t e f = absurd (none-some t f)
at_there xs ts (Some k) t e f = (_, slice_get-get_or xs k (cell.Spot None) (let inside = slice_get_within ts k t f in omega (arith, e)))

-- what a caller committed, and the journal as it was taken, are as before in a state with the same journal, holder and marks
pub committed_stays : (g : Setup) (old new : State) (c : ℕ) (ps : List Committed) (j : Option Kept) → new.journal ≡ old.journal → new.holder ≡ old.holder → turns_left g new ≤ turns_left g old → HasCommitted g old c ps j → HasCommitted g new c ps j
committed_stays g old new c ps j journal holder fewer is = record {
  entries = is.entries ∙ ap (Rattle.claim_core.specs.Reached.entries_of c 0) (sym journal);
  found = All-weaker (IsShownAt g old.journal) (IsShownAt g new.journal) (λ p f. (f.0, subst (λ es. Rattle.amoebot_state.specs.Steps.IsWorldAt g.verdict g.world es p.place f.0) (sym journal) f.1, f.2)) ps is.found;
  taken = by j is.taken;
}
  where
    by : (o : Option Kept) → HasTaken g old c o → HasTaken g new c o
    by None t = λ e. t (sym holder ∙ e)
    by (Some k) t = (holder ∙ t.0, record { first = t.1.first; entries = t.1.entries ∙ sym journal; room = omega (arith, fewer, t.1.room) })

-- a caller that is not the holder, before and after, has not taken the journal
pub taken_else : (g : Setup) (old new : State) (c : ℕ) (j : Option Kept) → old.holder ≢ Some c → new.holder ≢ Some c → HasTaken g old c j → HasTaken g new c j
taken_else g old new c None was now t = now
taken_else g old new c (Some v) was now t = absurd (was t.0)

pub journal_stays : (g : Setup) (old new : State) → new.journal ≡ old.journal → turns_left g new ≤ turns_left g old → (j : Kept) → IsCoreJournal g old j → IsCoreJournal g new j
journal_stays g old new journal fewer j is = record { first = is.first; entries = is.entries ∙ sym journal; room = omega (arith, fewer, is.room) }

-- by tickets nobody holds the journal
nobody : (way : CommitWay) (g : Setup) (core : State) (homes : List (home.Option Slot)) → IsJournalHome way g core homes → NobodyHolds way core
nobody by_journal g core homes is = tt
nobody by_ticket g core homes is = is

-- a step of a seat's caller, at a table that stands for a state
module _ {D : Type 0} {verdict : D → Shown → Verdict} {z : Terms D} {way : CommitWay} {s : Content D} {core : State} {seat : ℕ} {r : Record} (table : IsAt verdict z way s core seat r) where
  abbrev pub g : Setup
  g = setup_of_terms verdict z

  -- a cell with a tag has the value that its holder recorded
  held_by_record : (core : State) → Sound g core → (views : List (View D)) → ((c : ℕ) → c < length z.lists.ids → (seat place : ℕ) × (r : Record) × HasRecord views seat place r × (r.number ≡ c))
      → ((seat place : ℕ) (r : Record) → HasRecord views seat place r → IsRecord g core r) → (n : CellName) (t : ℕ) → at core.tags (number z.world.area n) ≡ Some t → t ≢ 0
      → (seat place : ℕ) × (r : Record) × HasRecord views seat place r × ((x : Cell) × Contains r.caller.held (n, x) × (at core.values (number z.world.area n) ≡ Some x))
  held_by_record core sound views some each n t there tagged =
      let by = sound.owned n t there tagged in
      let r = some by.0 (is_known g table.run core sound by.0 by.1 by.2) in
      let same : by.1 ≡ r.2.caller = same_Some by.1 r.2.caller (sym by.2 ∙ ap (slice_get core.callers) (sym r.4) ∙ (each r.0 r.1 r.2 r.3).caller) in
      let p = name_of_held n by.1.held (Has-from_Contains (names by.1.held) by.3) in
      let there_p = Contains-from_Has by.1.held p.1 in
      let is = All-contains (IsHeld g core sound.last by.0 by.1.turn) by.1.held p.0 (sound.each by.0 by.1 by.2).held there_p in
      let read = at_there core.values core.tags (number z.world.area n) t sound.tagged there in
      let value : read.0 ≡ p.0.1 =
      value_at sound.last n read.0 (ap (λ a. at (Rattle.claim_core.specs.Cells.values_of sound.last) (number a n)) (same_area g table.run core sound) ∙ ap (λ xs. at xs (number z.world.area n)) (sym sound.values) ∙ read.1)
      ∙ value_held sound.last n p.0.1 (ap (Rattle.amoebot_state.specs.Configs.value sound.last) p.2 ∙ is.value) in
      (r.0, r.1, r.2, r.3, (p.0.1, subst (λ (q : Caller × CellName). Contains q.0.held (q.1, p.0.1)) (λ i. (same i, sym p.2 i)) there_p, read.1 ∙ ap (λ (x : Cell). Some x) value))

  pub sound : Sound g core
  sound = table.sound

  -- and so is the state after the caller's next step
  pub on : Sound g (next_by way g r.number core)
  on = on_by g way table.run r.number core (nobody way g core s.homes table.stands.homes.journal) table.sound

  -- what the record says is so
  pub mine : IsRecord g core r
  mine = table.stands.views.each seat zero r (view_of z (r ∷ []), table.there, refl)

  pub caller_at : slice_get core.callers r.number ≡ Some r.caller
  caller_at = mine.caller

  -- each cell has a tag and a value, and none of them has the journal's number
  pub counts : (length core.tags ≡ cells z.world) × (length core.values ≡ cells z.world)
  counts = tags_count g table.run core sound

  pub not_last : (i t : ℕ) → slice_get core.tags i ≡ Some t → i ≢ cells z.world
  not_last i t tagged = λ e. omega (arith, e, slice_get_within core.tags i t tagged, counts.0)

  -- the table stands for the state at the end of a step of the seat; the premises say what the step leaves of the core, of the other
  -- records and of the nodes' words
  pub moved : (new end : State) → Sound g end → (r' : Record) (words : List ℕ) (homes : List (home.Option Slot)) → new ≡ end → r'.number ≡ r.number → new.callers ≡ set core.callers r.number r'.caller
      → AreWords way g new words → AreHomes way g new homes → ((q : Record) → q.number ≢ r.number → HasCommitted g core q.number q.committed q.taken → HasCommitted g new q.number q.committed q.taken)
      → HasCommitted g new r.number r'.committed r'.taken → ((q : Record) → q.number ≢ r.number → IsRecord g core q → IsStampedBy way g s.words q → IsStampedBy way g words q) → IsStampedBy way g words r'
      → length new.journal + turns_left g new ≤ most_turns
      → Stands verdict z way (record { words = words; homes = homes; views = set s.views seat (view_of z (r' ∷ [])) }) end
  moved new end end_sound r' words homes step same callers words_are homes_are others own others_stamped own_stamped few = subst (Stands verdict z way _) step stands
    where
      views : List (View D)
      views = later z s.views seat r r' table.there

      inside : r.number < length core.callers
      inside = slice_get_within core.callers r.number r.caller mine.caller

      is_new : IsRecord g new r'
      is_new = record {
        caller = ap (λ c. slice_get new.callers c) same ∙ ap (λ l. slice_get l r.number) callers ∙ get-set_here core.callers r.number r'.caller inside;
        committed = subst (λ c. HasCommitted g new c r'.committed r'.taken) (sym same) own;
      }

      each : (d j : ℕ) (q : Record) → HasRecord views d j q → IsRecord g new q × IsStampedBy way g words q
      each d j q has = elim (cases z s.views seat r r' table.there d j q has) [
        | inl is ↦ (subst (IsRecord g new) is.2 is_new, subst (IsStampedBy way g words) is.2 own_stamped)
        | inr is ↦
            let was = table.stands.views.each d j q is.1 in
            let apart : q.number ≢ r.number = λ e. is.0 (table.stands.views.one d j seat zero q r is.1 (view_of z (r ∷ []), table.there, refl) e).0 in
            (record { caller = ap (λ l. slice_get l q.number) callers ∙ get-set_else core.callers r.number q.number r'.caller apart ∙ was.caller; committed = others q apart was.committed }, others_stamped q apart was (table.stands.stamps d j q is.1))
      ]

      some : (c : ℕ) → c < length z.lists.ids → (d j : ℕ) × (q : Record) × HasRecord views d j q × (q.number ≡ c)
      some c lt = let was = table.stands.views.some c lt in let now = forth z s.views seat r r' table.there same was.0 was.1 was.2 was.3 in (was.0, was.1, now.0, now.1, now.2 ∙ was.4)

      stands : Stands verdict z way (record { words = words; homes = homes; views = views }) new
      stands = record {
        words = words_are;
        homes = homes_are;
        views = record {
          terms = λ d j v q at_d at_j. elim (Rattle.atomic_table.proofs.Lists.at_set s.views seat d (view_of z (r' ∷ [])) v at_d) [
            | inl is ↦ sym (ap (λ (w : View D). w.terms) is.1)
            | inr is ↦ table.stands.views.terms d j v q is.1 at_j
          ];
          each = λ d j q has. (each d j q has).0;
          some = some;
          one = λ d j d' j' q p has has' e. let a = back z s.views seat r r' table.there same d j q has in let b = back z s.views seat r r' table.there same d' j' p has' in table.stands.views.one d j d' j' a.0 b.0 a.1 b.1 (a.2 ∙ e ∙ sym b.2);
          held = subst (λ (c : State). (n : CellName) (t : ℕ) → at c.tags (number z.world.area n) ≡ Some t → t ≢ 0 → (d j : ℕ) × (q : Record) × HasRecord views d j q × ((x : Cell) × Contains q.caller.held (n, x) × (at c.values (number z.world.area n) ≡ Some x))) (sym step)
              (held_by_record end end_sound views some (λ d j q has. subst (λ c. IsRecord g c q) step (each d j q has).0));
        };
        stamps = λ d j q has. (each d j q has).1;
        few = few;
      }

  pub my_stamps : IsStampedBy way g s.words r
  my_stamps = table.stands.stamps seat zero r (view_of z (r ∷ []), table.there, refl)

  -- the same where the journal and its holder are as before, and no mark goes
  pub moves : (new end : State) → Sound g end → (k : Caller) (won : List Note) (note : Option Note) (words : List ℕ) (homes : List (home.Option Slot)) → new ≡ end → new.callers ≡ set core.callers r.number k → new.journal ≡ core.journal → new.holder ≡ core.holder → turns_left g new ≤ turns_left g core
      → AreWords way g new words → AreHomes way g new homes → ((q : Record) → q.number ≢ r.number → IsRecord g core q → IsStampedBy way g s.words q → IsStampedBy way g words q) → IsStampedBy way g words (record r { caller = k; won = won; note = note })
      → Stands verdict z way (record { words = words; homes = homes; views = set s.views seat (view_of z (record r { caller = k; won = won; note = note } ∷ [])) }) end
  moves new end end_sound k won note words homes step callers journal holder fewer words_are homes_are others own = moved new end end_sound (record r { caller = k; won = won; note = note }) words homes step refl callers words_are homes_are
      (λ q apart. committed_stays g core new q.number q.committed q.taken journal holder fewer) (committed_stays g core new r.number r.committed r.taken journal holder fewer mine.committed) others own
      (omega (arith, fewer, table.stands.few, ap (λ (es : List _). length es) journal))
