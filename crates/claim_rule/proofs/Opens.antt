-- The table at the start stands for the opening of the machine.
use Rattle.std.proofs.Common.{◌≡◌, ℕ, zero, suc, ◌+◌, ◌-◌, ◌*◌, ◌<◌, ◌≤◌, List, [], ◌∷◌, map, length, get_or, Option, Some, None, ap, sym, refl, subst, ◌∙◌, arith, length-append, suc-mul}
use Rattle.std.specs.Prelude.{slice_get, slice_index}
use Rattle.std.specs.List.{range_with_len}
use Rattle.std.proofs.lemmas.List.{length-map}
use Rattle.std.proofs.lemmas.List.FromFn.{length-map-range_with_len}
use Rattle.std.proofs.lemmas.List.Elements.{All-nil}
use Rattle.std.proofs.lemmas.Option.{none-some, same_Some, slice_get_within, get_or_from_slice_get, slice_get-get_or}
use mathlib.Core.Option as home
use lib.ListN.{get_elem?}
use Rattle.atomic_table.specs.Table.{opening}
use Rattle.atomic_table.proofs.Lists.{at_map, at_longer, at_last}
use Rattle.tri_lattice.specs.Extent.{node_at}
use Rattle.amoebot_state.specs.declared.cell.CellName.TheVariants as name
use Rattle.amoebot_state.specs.declared.cell.Cell.{Cell}
use Rattle.amoebot_state.specs.declared.cell.Cell.TheVariants as cell
use Rattle.amoebot_state.specs.Configs.{Config, occupant}
use Rattle.amoebot_state.specs.declared.verdict.Verdict.{Verdict}
use Rattle.amoebot_state.specs.Zones.{Shown}
use Rattle.claim_core.specs.declared.state.Caller.{Caller}
use Rattle.claim_core.specs.declared.state.Committed.{Committed}
use Rattle.claim_core.specs.Limits.{most_turns}
use Rattle.claim_core.specs.Turns.{Kept}
use Rattle.claim_core.specs.Cells.{at, held_by, values_of, cells}
use Rattle.claim_core.specs.Machine as machine
use Rattle.claim_core.specs.Soundness.{IsSetup}
use Rattle.claim_core.specs.Reached.{IsShownAt}
use Rattle.claim_core.specs.Cores.{unmarked}
use Rattle.claim_core.proofs.Numbers.{get-range}
use Rattle.claim_core.proofs.Places.{get-map, get-append_left, get-append_right}
use Rattle.claim_core.proofs.Ranks.{length-values}
use Rattle.claim_rule.specs.declared.views.Slot.{Slot}
use Rattle.claim_rule.specs.declared.views.Slot.TheVariants as slot
use Rattle.claim_rule.specs.declared.views.Note.{Note}
use Rattle.claim_rule.specs.declared.views.Record.{Record}
use Rattle.claim_rule.specs.declared.views.Terms.{Terms}
use Rattle.claim_rule.specs.declared.views.View.{View}
use Rattle.claim_rule.specs.Views.{record_of, setup_of_terms}
use Rattle.claim_rule.specs.Manners.{CommitWay, by_journal, by_ticket, first_slotted, slot_count}
use Rattle.claim_rule.specs.Stands.{journal_slot, IsNodeWord, IsWon, AreWon, IsStamped, HasCommitted, IsRecord, HasRecord, turns_left, AreViews, Stands, KeepsRule, records_from, first_view}
use Rattle.claim_rule.specs.Tokens.{FieldOf, IsField}
use Rattle.claim_rule.specs.Opened.{AreSlotsAtFirst, first_word, first_words}
use Rattle.claim_rule.specs.Laws.{OpeningStands}
use Rattle.claim_rule.proofs.Stamping.{made_of, small_occ}
use Rattle.claim_rule.proofs.FirstSlots.{value_of_node, value_of_body}
use Rattle.claim_rule.proofs.WayLemmas.{after_none}

zero_of : {A : Type 0} (xs : List A) (k : ℕ) → ◌≡◌ {A = ℕ} (get_or (map (λ (_ : A). 0) xs) k 0) 0
zero_of [] k = refl
zero_of (x ∷ xs) zero = refl
zero_of (x ∷ xs) (suc k) = zero_of xs k

zero_there : {A : Type 0} (xs : List A) (k t : ℕ) → slice_get (map (λ (_ : A). 0) xs) k ≡ Some t → t ≡ 0
zero_there [] k t e = absurd (none-some t e)
zero_there (x ∷ xs) zero t e = sym (same_Some 0 t e)
zero_there (x ∷ xs) (suc k) t e = zero_there xs k t e

-- the same element, by either way of reading a list
pub by_either : {A : Type 0} (xs : List A) (k : ℕ) (x : A) → slice_get xs k ≡ Some x → get_elem? xs k ≡ home.some x
by_either [] k x e = absurd (none-some x e)
by_either (y ∷ ys) zero x e = ap home.some (same_Some y x e)
by_either (y ∷ ys) (suc k) x e = by_either ys k x e

-- there is a word for each cell, and one more
pub words_count : (way : CommitWay) (w : Config) → length (first_words way w) ≡ cells w + 1
words_count way w = length-append (map (first_word way) (values_of w)) (0 ∷ []) ∙ (let n = length-map (values_of w) (first_word way) in let m = length-values w in omega (arith, n, m))

module _ {D : Type 0} (verdict : D → Shown → Verdict) (z : Terms D) where
  abbrev g : machine.Setup
  g = setup_of_terms verdict z

  abbrev start : machine.State
  start = machine.opening g

  -- a record of all, by its place
  pub from : (b j : ℕ) (ks : List Caller) (r : Record) → slice_get (records_from verdict z b ks) j ≡ Some r → (r.number ≡ b + j) × (slice_get ks j ≡ Some r.caller) × (r.committed ≡ []) × (r.taken ≡ None) × (r.won ≡ []) × (r.note ≡ None)
  from b j [] r e = absurd (none-some r e)
  from b zero (k ∷ ks) r e =
      let is = same_Some (record_of b k) r e in
      (sym (ap (λ (q : Record). q.number) is) ∙ (omega arith), ap (λ (q : Record). Some q.caller) is, sym (ap (λ (q : Record). q.committed) is), sym (ap (λ (q : Record). q.taken) is), sym (ap (λ (q : Record). q.won) is), sym (ap (λ (q : Record). q.note) is))
  from b (suc j) (k ∷ ks) r e = let rest = from (b + 1) j ks r e in (let n = rest.0 in omega (arith, n), rest.1, rest.2, rest.3, rest.4, rest.5)

  pub there : (b j : ℕ) (ks : List Caller) (k : Caller) → slice_get ks j ≡ Some k → slice_get (records_from verdict z b ks) j ≡ Some (record_of (b + j) k)
  there b j [] k e = absurd (none-some k e)
  there b zero (x ∷ ks) k e = ap (λ (y : Caller). Some (record_of b y)) (same_Some x k e) ∙ ap (λ n. Some (record_of n k)) (let n : b ≡ b + 0 = omega arith in n)
  there b (suc j) (x ∷ ks) k e = there (b + 1) j ks k e ∙ ap (λ n. Some (record_of n k)) (let n : b + 1 + j ≡ b + suc j = omega arith in n)

  pub fresh_there : (ids : List (List ℕ)) (c : ℕ) → c < length ids → slice_get (map (λ (_ : List ℕ). machine.fresh g) ids) c ≡ Some (machine.fresh g)
  fresh_there [] c lt = absurd (omega (arith, lt))
  fresh_there (x ∷ xs) zero lt = refl
  fresh_there (x ∷ xs) (suc c) lt = fresh_there xs c (omega (arith, lt))

  fresh_at : (ids : List (List ℕ)) (c : ℕ) (k : Caller) → slice_get (map (λ (_ : List ℕ). machine.fresh g) ids) c ≡ Some k → machine.fresh g ≡ k
  fresh_at [] c k e = absurd (none-some k e)
  fresh_at (x ∷ xs) zero k e = same_Some (machine.fresh g) k e
  fresh_at (x ∷ xs) (suc c) k e = fresh_at xs c k e

  all_left : (ids : List (List ℕ)) → unmarked z.lists.turns (map (λ (k : Caller). k.marks) (map (λ (_ : List ℕ). machine.fresh g) ids)) ≡ length ids * z.lists.turns
  all_left [] = omega arith
  all_left (x ∷ xs) = let rest = all_left xs in let one : z.lists.turns - 0 ≡ z.lists.turns = omega arith in let more = suc-mul (length xs) z.lists.turns in omega (arith, rest, one, more)

  is_record : (j : ℕ) (r : Record) → slice_get (first_view verdict z).records j ≡ Some r → IsRecord g start r
  is_record j r e =
      let is = from 0 j start.callers r e in
      record {
        caller = ap (λ n. slice_get start.callers n) (is.0 ∙ (omega arith)) ∙ is.1;
        committed = subst (λ (q : List Committed × Option Kept). HasCommitted g start r.number q.0 q.1) (λ i. (sym is.2 i, sym is.3 i)) (record { entries = refl; found = All-nil (IsShownAt g start.journal); taken = λ holds. none-some r.number holds });
      }

  -- which holds nothing and has noted nothing
  is_stamped : (words : List ℕ) (j : ℕ) (r : Record) → slice_get (first_view verdict z).records j ≡ Some r → IsStamped g words r
  is_stamped words j r e =
      let is = from 0 j start.callers r e in
      let first = fresh_at z.lists.ids j r.caller is.1 in
      record {
        won = subst (λ (q : Caller × List Note). AreWon (IsWon g words q.0.turn q.0.marks) q.0.held q.1) (λ i. (first i, sym is.4 i)) refl;
        noted = λ m q. absurd (none-some m (sym is.5 ∙ q));
      }

  one_view : (seat : ℕ) (v : View D) → get_elem? (first_view verdict z ∷ []) seat ≡ home.some v → (seat ≡ 0) × (first_view verdict z ≡ v)
  one_view zero v e = (refl, home.some-injective (first_view verdict z) v e)
  one_view (suc seat) v e = absurd (home.some-ne-none v (sym e))

  in_first : (seat place : ℕ) (r : Record) → HasRecord (first_view verdict z ∷ []) seat place r → (seat ≡ 0) × (slice_get (first_view verdict z).records place ≡ Some r)
  in_first seat place r has = let one = one_view seat has.0 has.1 in (one.0, subst (λ (v : View D). slice_get v.records place ≡ Some r) (sym one.1) has.2)

  -- the views know all callers before their first turn
  views_at_first : AreViews verdict z start (first_view verdict z ∷ [])
  views_at_first = record {
    terms = λ seat place v r at_seat at_place. sym (ap (λ (w : View D). w.terms) (one_view seat v at_seat).1);
    each = λ seat place r has. is_record place r (in_first seat place r has).1;
    some = λ c lt. (0, c, record_of (0 + c) (machine.fresh g), (first_view verdict z, refl, there 0 c start.callers (machine.fresh g) (fresh_there z.lists.ids c lt)), omega arith);
    one = λ seat place seat' place' r q has has' same.
        let a = in_first seat place r has in
        let b = in_first seat' place' q has' in
        let m = (from 0 place start.callers r a.1).0 in
        let n = (from 0 place' start.callers q b.1).0 in
        (a.0 ∙ sym b.0, omega (arith, m, n, same));
    held = λ n t at_n some. absurd (some (tagged (Rattle.claim_core.specs.Cells.number z.world.area n) t at_n));
  }
    where
      tagged : (o : Option ℕ) (t : ℕ) → at start.tags o ≡ Some t → t ≡ 0
      tagged None t e = absurd (none-some t e)
      tagged (Some k) t e = zero_there (values_of z.world) k t e

  few_at_first : IsSetup g → length start.journal + turns_left g start ≤ most_turns
  few_at_first ok = let left = all_left z.lists.ids in let few = ok.lists.few.in_all in omega (arith, left, few)

  word_at : (way : CommitWay) (words : List ℕ) → words ≡ first_words way z.world → (k : ℕ) (x : Cell) → slice_get (values_of z.world) k ≡ Some x → slice_index words k ≡ first_word way x
  word_at way words made k x e =
      ap (λ ws. slice_index ws k) made
      ∙ get_or_from_slice_get (first_words way z.world) k (first_word way x) 0 (get-append_left (map (first_word way) (values_of z.world)) (0 ∷ []) k (first_word way x) (get-map (first_word way) (values_of z.world) k x e))

  last_at : (way : CommitWay) (words : List ℕ) → words ≡ first_words way z.world → slice_index words (cells z.world) ≡ 0
  last_at way words made =
      ap (λ ws. slice_index ws (cells z.world)) made
      ∙ get_or_from_slice_get (first_words way z.world) (cells z.world) 0 0 (get-append_right (map (first_word way) (values_of z.world)) (0 ∷ []) 0 (cells z.world) (let n = length-map (values_of z.world) (first_word way) in let m = length-values z.world in omega (arith, n, m)))

  -- a table that begins like this stands for the opening,
  pub opening_stands : (way : CommitWay) → IsSetup g → (words : List ℕ) (slots : List Slot) → words ≡ first_words way z.world → AreSlotsAtFirst way z.world z.lists slots → Stands verdict z way (opening words slots (first_view verdict z)) start
  opening_stands by_ticket ok words slots made first = record {
    words = record {
      count = ap (λ (ws : List ℕ). length ws) made ∙ words_count by_ticket z.world;
      node = λ k lt. absurd (omega (arith, lt));
      slotted = λ k le lt.
          let there : slice_get (values_of z.world) k ≡ Some (get_or (values_of z.world) k (cell.Spot None)) = slice_get-get_or (values_of z.world) k (cell.Spot None) (let n = length-values z.world in omega (arith, n, lt)) in
          word_at by_ticket words made k (get_or (values_of z.world) k (cell.Spot None)) there ∙ sym (zero_of (values_of z.world) k);
      journal = last_at by_ticket words made;
    };
    homes = record {
      count = length-map slots (λ x. home.some x) ∙ ap (λ (xs : List Slot). length xs) first ∙ length-map (values_of z.world) (λ x. slot.Cell x) ∙ length-values z.world;
      cell = λ i x free value.
          let there : slice_get (values_of z.world) i ≡ Some x = ap (slice_get (values_of z.world)) (let e : i ≡ first_slotted by_ticket z.world + i = omega arith in e) ∙ value in
          at_map (λ y. home.some y) slots i (slot.Cell x) (subst (λ (xs : List Slot). get_elem? xs i ≡ home.some (slot.Cell x)) (sym first) (by_either _ i (slot.Cell x) (get-map (λ y. slot.Cell y) (values_of z.world) i x there)));
      journal = refl;
    };
    views = views_at_first;
    stamps = λ seat place r has. tt;
    few = few_at_first ok;
  }
  opening_stands by_journal ok words slots made first = record {
    words = record {
      count = ap (λ (ws : List ℕ). length ws) made ∙ words_count by_journal z.world;
      node = λ k lt.
          let o = occupant z.world (node_at z.world.area k) in
          let says = made_of 0 o 0 (omega arith) (small_occ z.world ok.few (node_at z.world.area k)) in
          subst (IsNodeWord start k) (sym (word_at by_journal words made k (cell.Spot o) (value_of_node z.world k lt))) (record {
            tag = says.0 ∙ sym (zero_of (values_of z.world) k);
            free = λ _. value_of_node z.world k lt ∙ ap (λ q. Some (cell.Spot q)) (sym says.1);
            stamp = (let n = says.2 in omega (arith, n));
          });
      slotted = λ k le lt.
          let few : k - first_slotted by_journal z.world < length z.world.bots = omega (arith, le, lt) in
          let is : k ≡ first_slotted by_journal z.world + (k - first_slotted by_journal z.world) = omega (arith, le) in
          word_at by_journal words made k (held_by z.world (name.Body (k - first_slotted by_journal z.world))) (ap (slice_get (values_of z.world)) is ∙ value_of_body z.world (k - first_slotted by_journal z.world) few) ∙ sym (zero_of (values_of z.world) k);
      journal = last_at by_journal words made;
    };
    homes = record {
      count = length-map slots (λ x. home.some x) ∙ many;
      cell = λ i x free value.
          let within = slice_get_within (values_of z.world) (first_slotted by_journal z.world + i) x value in
          let few : i < length z.world.bots = (let n = length-values z.world in omega (arith, n, within)) in
          let is : held_by z.world (name.Body i) ≡ x = same_Some _ x (sym (value_of_body z.world i few) ∙ value) in
          at_map (λ y. home.some y) slots i (slot.Cell x) (subst (λ (xs : List Slot). get_elem? xs i ≡ home.some (slot.Cell x)) (sym first.are)
          (at_longer _ _ i (slot.Cell x) (by_either _ i (slot.Cell x) (get-range (λ j. slot.Cell (held_by z.world (name.Body j))) (length z.world.bots) i few ∙ ap (λ (y : Cell). Some (slot.Cell y)) is))));
      journal = λ none. (
        first.journal,
        at_map (λ y. home.some y) slots (journal_slot z.world) (slot.Journal first.journal) (subst (λ (xs : List Slot). get_elem? xs (journal_slot z.world) ≡ home.some (slot.Journal first.journal)) (sym first.are) (at_last _ _ (journal_slot z.world) size)),
        record {
          first = first.first;
          entries = first.entries;
          room = let left = all_left z.lists.ids in let room = first.room in omega (arith, left, room);
        },
      );
    };
    views = views_at_first;
    stamps = λ seat place r has. is_stamped words place r (in_first seat place r has).1;
    few = few_at_first ok;
  }
    where
      bodies : List Slot
      bodies = map (λ i. slot.Cell (held_by z.world (name.Body i))) (range_with_len 0 (length z.world.bots))

      size : length bodies ≡ journal_slot z.world
      size = length-map-range_with_len (λ i. slot.Cell (held_by z.world (name.Body i))) 0 (length z.world.bots)

      many : length slots ≡ journal_slot z.world + 1
      many = ap (λ (xs : List Slot). length xs) first.are ∙ length-append bodies (slot.Journal first.journal ∷ []) ∙ (let s = size in omega (arith, s))

  -- to which no step leads
  pub opens : (way : CommitWay) → IsSetup g → (words : List ℕ) (slots : List Slot) → words ≡ first_words way z.world → AreSlotsAtFirst way z.world z.lists slots → KeepsRule verdict z way (opening words slots (first_view verdict z))
  opens way ok words slots made first = ([], subst (Stands verdict z way (opening words slots (first_view verdict z))) (sym (after_none g way)) (opening_stands way ok words slots made first))

  -- a field with these terms keeps what a field keeps
  pub is_field : (way : CommitWay) (f : FieldOf D) → f.terms ≡ z → IsSetup g → f.table.words ≡ cells z.world + 1 → f.table.slots ≡ slot_count way z.world → IsField verdict way f z.decider z.world
  is_field way f same ok words slots = record {
    run = subst (λ t. IsSetup (setup_of_terms verdict t)) (sym same) ok;
    words = words ∙ ap (λ (t : Terms D). cells t.world + 1) (sym same);
    slots = slots ∙ ap (λ (t : Terms D). slot_count way t.world) (sym same);
    decider = ap (λ (t : Terms D). t.decider) same;
    world = ap (λ (t : Terms D). t.world) same;
  }

  -- there are as many slots as that
  pub slots_count : (way : CommitWay) (slots : List Slot) → AreSlotsAtFirst way z.world z.lists slots → length slots ≡ slot_count way z.world
  slots_count by_journal slots first =
      ap (λ (xs : List Slot). length xs) first.are ∙ length-append _ (slot.Journal first.journal ∷ [])
      ∙ (let s = length-map-range_with_len (λ i. slot.Cell (held_by z.world (name.Body i))) 0 (length z.world.bots) in omega (arith, s))
  slots_count by_ticket slots first = ap (λ (xs : List Slot). length xs) first ∙ length-map (values_of z.world) (λ x. slot.Cell x) ∙ length-values z.world

pub opening_is : {D : Type 0} (way : CommitWay) (verdict : D → Shown → Verdict) → OpeningStands way verdict
opening_is way verdict z slots ok first = opening_stands verdict z way ok (first_words way z.world) slots refl first
