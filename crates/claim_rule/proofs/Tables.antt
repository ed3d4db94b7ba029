-- Words, slots and views after one of them has changed.
use Rattle.std.proofs.Common.{◌≡◌, ◌≢◌, ℕ, zero, suc, ◌+◌, ◌<◌, ◌≤◌, ◌⊎◌, List, [], ◌∷◌, length, set, get_or, length-set, Some, inl, inr, ap, sym, refl, subst, ◌∙◌, arith}
use Rattle.std.specs.Prelude.{slice_get, slice_index}
use Rattle.std.proofs.lemmas.Bool.{cases_eq}
use Rattle.std.proofs.lemmas.List.{get_or-set_same, get_or-set_other}
use Rattle.std.proofs.lemmas.Option.{none-some, same_Some}
use mathlib.Core.Option as home
use lib.ListN.{get_elem?}
use Rattle.atomic_table.proofs.Lists.{at_set, set_here, set_else}
use Rattle.std.specs.List.{All}
use Rattle.std.proofs.lemmas.List.Elements.{All-head, All-tail}
use Rattle.tri_lattice.specs.declared.node.Node.{Node}
use Rattle.tri_lattice.proofs.Boxes.{index_below}
use Rattle.amoebot_state.specs.declared.cell.CellName.{CellName}
use Rattle.amoebot_state.specs.declared.cell.CellName.TheVariants as name
use Rattle.amoebot_state.specs.declared.cell.Cell.{Cell}
use Rattle.amoebot_state.specs.Pairs.{Pairs, cell_of}
use Rattle.amoebot_state.proofs.Members.{All-from_Has}
use Rattle.claim_core.specs.Cells.{number}
use Rattle.claim_core.specs.Cells.{cells}
use Rattle.claim_core.specs.Turns.{Kept}
use Rattle.claim_core.specs.Machine.{Setup, State}
use Rattle.claim_rule.specs.declared.views.Slot.{Slot}
use Rattle.claim_rule.specs.declared.views.Record.{Record}
use Rattle.claim_rule.specs.declared.views.Terms.{Terms}
use Rattle.claim_rule.specs.declared.views.View.{View}
use Rattle.claim_rule.specs.Views.{view_of}
use Rattle.claim_rule.specs.declared.views.Note.{Note}
use Rattle.claim_rule.specs.Words.{word_occ, word_stamp}
use Rattle.claim_rule.specs.Manners.{CommitWay, by_journal, by_ticket, last_word, first_slotted}
use Rattle.claim_rule.specs.Stands.{cell_tag, journal_slot, IsCoreJournal, IsNodeWord, IsWon, AreWon, IsNoted, IsStamped, IsStampedBy, AreWords, IsJournalHome, AreHomes, HasRecord}
use Rattle.claim_rule.proofs.WayLemmas.{slotted_few}

-- the only record of a list of one
pub only : {A : Type 0} (x y : A) (j : ℕ) → slice_get (x ∷ []) j ≡ Some y → (j ≡ 0) × (x ≡ y)
only x y zero e = (refl, same_Some x y e)
only x y (suc j) e = absurd (none-some y e)

-- a place that has an element is one of the list's
pub at_home : {A : Type 0} (xs : List A) (i : ℕ) (x : A) → get_elem? xs i ≡ home.some x → i < length xs
at_home [] i x e = absurd (home.some-ne-none x (sym e))
at_home (y ∷ ys) zero x e = omega arith
at_home (y ∷ ys) (suc i) x e = let ih = at_home ys i x e in omega arith

-- a word that says the same of a node's occupant and stamp; and one that has a greater stamp, or says the same
abbrev pub Alike : ℕ → ℕ → Type 0
Alike w v = (word_occ v ≡ word_occ w) × (word_stamp v ≡ word_stamp w)

abbrev pub Grows : ℕ → ℕ → Type 0
Grows w v = (word_stamp w ≤ word_stamp v) × (word_stamp v ≡ word_stamp w → word_occ v ≡ word_occ w)

pub alike_grows : (w v : ℕ) → Alike w v → Grows w v
alike_grows w v is = (let e = is.1 in omega (arith, e), λ _. is.0)

-- nodes that are won stay so, where what is known of each held cell is enough for it
pub won_weaker : (F : CellName × Cell → Type 0) (P Q : Node → Cell → Note → Type 0) → ((v : Node) (x : Cell) (w : Note) → F (name.Spot v, x) → P v x w → Q v x w) → (held : Pairs) (ws : List Note) → All F held → AreWon P held ws → AreWon Q held ws
won_weaker F P Q f [] ws all is = is
won_weaker F P Q f ((name.Spot v, x) ∷ held) ws all is = (is.0, is.1, is.2, f v x is.0 (All-head F (name.Spot v, x) held all) is.3, won_weaker F P Q f held is.1 (All-tail F (name.Spot v, x) held all) is.4)
won_weaker F P Q f ((name.Body i, x) ∷ held) ws all is = won_weaker F P Q f held ws (All-tail F (name.Body i, x) held all) is

module _ (g : Setup) where
  -- a node's number is below that of each slotted cell
  pub node_number : (v : Node) (k : ℕ) → number g.world.area (name.Spot v) ≡ Some k → k < first_slotted by_journal g.world
  node_number v k e = index_below g.world.area v k e

  -- a slotted cell is no node that is won
  pub won_past : (Is : Node → Cell → Note → Type 0) (n : CellName) (x : Cell) (held : Pairs) (ws : List Note) (i : ℕ) → number g.world.area n ≡ Some i → first_slotted by_journal g.world ≤ i → AreWon Is held ws → AreWon Is ((n, x) ∷ held) ws
  won_past Is (name.Spot v) x held ws i e le is = (let lt = index_below g.world.area v i e in absurd (omega (arith, lt, le)))
  won_past Is (name.Body b) x held ws i e le is = is

  pub won_behind : (Is : Node → Cell → Note → Type 0) (n : CellName) (x : Cell) (held : Pairs) (ws : List Note) (i : ℕ) → number g.world.area n ≡ Some i → first_slotted by_journal g.world ≤ i → AreWon Is ((n, x) ∷ held) ws → AreWon Is held ws
  won_behind Is (name.Spot v) x held ws i e le is = (let lt = index_below g.world.area v i e in absurd (omega (arith, lt, le)))
  won_behind Is (name.Body b) x held ws i e le is = is

  -- a node's word, in a state where its tag and value are the same and the journal is no shorter
  pub node_stays : (old new : State) (k w : ℕ) → cell_tag new k ≡ cell_tag old k → (cell_tag old k ≡ 0 → slice_get new.values k ≡ slice_get old.values k) → length old.journal ≤ length new.journal → IsNodeWord old k w → IsNodeWord new k w
  node_stays old new k w tag value longer is = record { tag = is.tag ∙ sym tag; free = λ none. value (sym tag ∙ none) ∙ is.free (sym tag ∙ none); stamp = (let le = is.stamp in omega (arith, le, longer)) }

  -- the journal's slot, where the holder is as before
  pub home_same : (way : CommitWay) (old new : State) (homes : List (home.Option Slot)) → new.holder ≡ old.holder → ((j : Kept) → IsCoreJournal g old j → IsCoreJournal g new j) → IsJournalHome way g old homes → IsJournalHome way g new homes
  home_same by_journal old new homes holder keeps is = λ none. let was = is (sym holder ∙ none) in (was.0, was.1, keeps was.0 was.2)
  home_same by_ticket old new homes holder keeps is = holder ∙ is

  -- and where the slot of a slotted cell was taken or put home
  pub home_else : (way : CommitWay) (old new : State) (homes : List (home.Option Slot)) (k : ℕ) (y : home.Option Slot) → first_slotted way g.world + k < cells g.world → new.holder ≡ old.holder → ((j : Kept) → IsCoreJournal g old j → IsCoreJournal g new j) → IsJournalHome way g old homes → IsJournalHome way g new (set homes k y)
  home_else by_journal old new homes k y few holder keeps is = λ none. let was = is (sym holder ∙ none) in (was.0, set_else homes k (journal_slot g.world) y (λ q. omega (arith, q, few)) ∙ was.1, keeps was.0 was.2)
  home_else by_ticket old new homes k y few holder keeps is = holder ∙ is

module _ (way : CommitWay) (g : Setup) where
  -- the words, one of which was written
  pub words_written : (old new : State) (words : List ℕ) (i x : ℕ) → AreWords way g old words → i < cells g.world + 1
      → (i < first_slotted way g.world → IsNodeWord new i x) → (first_slotted way g.world ≤ i → i < cells g.world → x ≡ cell_tag new i) → (i ≡ cells g.world → x ≡ last_word way new)
      → ((k w : ℕ) → k ≢ i → k < first_slotted way g.world → IsNodeWord old k w → IsNodeWord new k w) → ((k : ℕ) → k ≢ i → first_slotted way g.world ≤ k → k < cells g.world → cell_tag new k ≡ cell_tag old k)
      → (i ≢ cells g.world → last_word way new ≡ last_word way old) → AreWords way g new (set words i x)
  words_written old new words i x is inside node slotted last nodes_stay others other_last = record {
    count = length-set words i x ∙ is.count;
    node = λ k lt. elim (cases_eq k i) [
      | inl e ↦ subst (IsNodeWord new k) (sym (subst (λ j. get_or (set words i x) j 0 ≡ x) (sym e) (get_or-set_same words i x 0 within))) (subst (λ j. IsNodeWord new j x) (sym e) (node (omega (arith, e, lt))))
      | inr ne ↦ subst (IsNodeWord new k) (sym (get_or-set_other words i k x 0 ne)) (nodes_stay k (slice_index words k) ne lt (is.node k lt))
    ];
    slotted = λ k le lt. elim (cases_eq k i) [
      | inl e ↦ subst (λ j. get_or (set words i x) j 0 ≡ cell_tag new j) (sym e) (get_or-set_same words i x 0 within ∙ slotted (omega (arith, e, le)) (omega (arith, e, lt)))
      | inr ne ↦ get_or-set_other words i k x 0 ne ∙ is.slotted k le lt ∙ sym (others k ne le lt)
    ];
    journal = elim (cases_eq (cells g.world) i) [
      | inl e ↦ subst (λ j. get_or (set words i x) j 0 ≡ last_word way new) (sym e) (get_or-set_same words i x 0 within ∙ last (sym e))
      | inr ne ↦ get_or-set_other words i (cells g.world) x 0 ne ∙ is.journal ∙ sym (other_last (λ e. ne (sym e)))
    ];
  }
    where
      within : i < length words
      within = omega (arith, is.count, inside)

  -- the words where a node has another tag, with another word
  pub node_written : (old new : State) (words : List ℕ) (i t x : ℕ) → AreWords way g old words → i < first_slotted way g.world → i < length old.tags → new.tags ≡ set old.tags i t → new.values ≡ old.values → new.journal ≡ old.journal → last_word way new ≡ last_word way old → IsNodeWord new i x
      → AreWords way g new (set words i x)
  node_written old new words i t x is inside within tags values journal same here = words_written old new words i x is (let few = slotted_few way g.world in omega (arith, inside, few)) (λ _. here) (λ le. absurd (omega (arith, le, inside))) (λ e. let few = slotted_few way g.world in absurd (omega (arith, e, inside, few)))
      (λ k w ne lt node. node_stays g old new k w (ap (λ ts. slice_index ts k) tags ∙ get_or-set_other old.tags i k t 0 ne) (λ _. ap (λ vs. slice_get vs k) values) (let e = ap (λ (es : List _). length es) journal in omega (arith, e)) node)
      (λ k ne le lt. ap (λ ts. slice_index ts k) tags ∙ get_or-set_other old.tags i k t 0 ne) (λ _. same)

  -- the words where a slotted cell has another tag
  pub slotted_written : (old new : State) (words : List ℕ) (i t : ℕ) → AreWords way g old words → first_slotted way g.world ≤ i → i < cells g.world → i < length old.tags → new.tags ≡ set old.tags i t → new.values ≡ old.values → new.journal ≡ old.journal → last_word way new ≡ last_word way old
      → AreWords way g new (set words i t)
  slotted_written old new words i t is low inside within tags values journal same = words_written old new words i t is (omega (arith, inside)) (λ lt. absurd (omega (arith, lt, low)))
      (λ le lt. sym (ap (λ ts. slice_index ts i) tags ∙ get_or-set_same old.tags i t 0 within)) (λ e. absurd (omega (arith, e, inside)))
      (λ k w ne lt node. node_stays g old new k w (ap (λ ts. slice_index ts k) tags ∙ get_or-set_other old.tags i k t 0 ne) (λ _. ap (λ vs. slice_get vs k) values) (let e = ap (λ (es : List _). length es) journal in omega (arith, e)) node)
      (λ k ne le lt. ap (λ ts. slice_index ts k) tags ∙ get_or-set_other old.tags i k t 0 ne) (λ _. same)

  -- the same word again, where tags, values and the journal are as before
  pub word_again : (old new : State) (words : List ℕ) (i : ℕ) → AreWords way g old words → i < cells g.world + 1 → new.tags ≡ old.tags → new.values ≡ old.values → new.journal ≡ old.journal → last_word way new ≡ last_word way old → AreWords way g new (set words i (slice_index words i))
  word_again old new words i is inside tags values journal same =
      let stays : (k w : ℕ) → IsNodeWord old k w → IsNodeWord new k w = λ k w. node_stays g old new k w (ap (λ ts. slice_index ts k) tags) (λ _. ap (λ vs. slice_get vs k) values) (let e = ap (λ (es : List _). length es) journal in omega (arith, e)) in
      words_written old new words i (slice_index words i) is inside (λ lt. stays i (slice_index words i) (is.node i lt)) (λ le lt. is.slotted i le lt ∙ ap (λ ts. slice_index ts i) (sym tags))
      (λ e. ap (slice_index words) e ∙ is.journal ∙ sym same) (λ k w ne lt. stays k w) (λ k ne le lt. ap (λ ts. slice_index ts k) tags) (λ _. same)

  -- where the journal's word was written, and no tag and no value of a free node has changed
  pub journal_written : (old new : State) (words : List ℕ) (x : ℕ) → AreWords way g old words → new.tags ≡ old.tags → ((k : ℕ) → cell_tag old k ≡ 0 → slice_get new.values k ≡ slice_get old.values k) → length old.journal ≤ length new.journal → x ≡ last_word way new → AreWords way g new (set words (cells g.world) x)
  journal_written old new words x is tags values longer same = words_written old new words (cells g.world) x is (omega arith)
      (λ lt. let few = slotted_few way g.world in absurd (omega (arith, lt, few))) (λ le lt. absurd (omega (arith, lt))) (λ _. same)
      (λ k w ne lt node. node_stays g old new k w (ap (λ ts. slice_index ts k) tags) (values k) longer node)
      (λ k ne le lt. ap (λ ts. slice_index ts k) tags) (λ ne. absurd (ne refl))

  -- the words of nodes are as before then
  pub journal_else : (words : List ℕ) (x k : ℕ) → k < first_slotted way g.world → slice_index (set words (cells g.world) x) k ≡ slice_index words k
  journal_else words x k lt = get_or-set_other words (cells g.world) k x 0 (λ e. let few = slotted_few way g.world in omega (arith, e, lt, few))

  -- the slots, where the state has the same journal, and no slotted cell's tag or value has changed
  pub homes_same : (old new : State) (homes : List (home.Option Slot)) → AreHomes way g old homes → ((k : ℕ) → first_slotted way g.world ≤ k → slice_get new.tags k ≡ slice_get old.tags k) → new.values ≡ old.values → new.holder ≡ old.holder → ((j : Kept) → IsCoreJournal g old j → IsCoreJournal g new j) → AreHomes way g new homes
  homes_same old new homes is tags values holder keeps = record {
    count = is.count;
    cell = λ i x free value. is.cell i x (sym (tags (first_slotted way g.world + i) (omega arith)) ∙ free) (ap (λ vs. slice_get vs (first_slotted way g.world + i)) (sym values) ∙ value);
    journal = home_same g way old new homes holder keeps is.journal;
  }

module _ (g : Setup) where
  -- what a record says of nodes stays so, where no word has a smaller stamp or another occupant with the same stamp, and those of the held
  -- nodes say the same
  abbrev pub Keeps : List ℕ → List ℕ → CellName × Cell → Type 0
  Keeps words later p = (v : Node) (k : ℕ) → cell_of p ≡ name.Spot v → number g.world.area (name.Spot v) ≡ Some k → Alike (slice_index words k) (slice_index later k)

  pub noted_on : (words later : List ℕ) → ((k : ℕ) → k < first_slotted by_journal g.world → Grows (slice_index words k) (slice_index later k)) → (m : Note) → IsNoted g words m → IsNoted g later m
  noted_on words later grows m n = record {
    least = λ i e. let a = n.least i e in let b = (grows i (node_number g m.node i e)).0 in omega (arith, a, b);
    same = λ i e q.
        let a = n.least i e in
        let b = (grows i (node_number g m.node i e)).0 in
        let same_stamp : word_stamp (slice_index later i) ≡ word_stamp (slice_index words i) = omega (arith, a, b, q) in
        (grows i (node_number g m.node i e)).1 same_stamp ∙ n.same i e (sym same_stamp ∙ q);
  }

  pub stamped_on : (words later : List ℕ) → ((k : ℕ) → k < first_slotted by_journal g.world → Grows (slice_index words k) (slice_index later k)) → (r : Record) → All (Keeps words later) r.caller.held → IsStamped g words r → IsStamped g later r
  stamped_on words later grows r all is = record {
    won = won_weaker (Keeps words later) (IsWon g words r.caller.turn r.caller.marks) (IsWon g later r.caller.turn r.caller.marks) (λ v x w keeps p. record {
      node = p.node;
      occ = λ i e. (keeps v i refl e).0 ∙ p.occ i e;
      stamp = λ i e. (keeps v i refl e).1 ∙ p.stamp i e;
      settled = p.settled;
      value = p.value;
    }) r.caller.held r.won all is.won;
    noted = λ m e. noted_on words later grows m (is.noted m e);
  }

  -- so it is where each word says the same
  pub stamped_alike : (words later : List ℕ) → ((k : ℕ) → k < first_slotted by_journal g.world → Alike (slice_index words k) (slice_index later k)) → (r : Record) → IsStamped g words r → IsStamped g later r
  stamped_alike words later alike r is = stamped_on words later (λ k lt. alike_grows _ _ (alike k lt)) r (All-from_Has (Keeps words later) r.caller.held (λ p has v k e n. alike k (node_number g v k n))) is

  -- where one was written
  pub alike_written : (words : List ℕ) (i x : ℕ) → i < length words → Alike (slice_index words i) x → (k : ℕ) → k < first_slotted by_journal g.world → Alike (slice_index words k) (slice_index (set words i x) k)
  alike_written words i x inside is k lt = elim (cases_eq k i) [
    | inl e ↦ subst (λ j. Alike (slice_index words j) (slice_index (set words i x) j)) (sym e) (subst (Alike (slice_index words i)) (sym (get_or-set_same words i x 0 inside)) is)
    | inr ne ↦ subst (Alike (slice_index words k)) (sym (get_or-set_other words i k x 0 ne)) (refl, refl)
  ]

  pub grows_written : (words : List ℕ) (i x : ℕ) → i < length words → Grows (slice_index words i) x → (k : ℕ) → k < first_slotted by_journal g.world → Grows (slice_index words k) (slice_index (set words i x) k)
  grows_written words i x inside is k lt = elim (cases_eq k i) [
    | inl e ↦ subst (λ j. Grows (slice_index words j) (slice_index (set words i x) j)) (sym e) (subst (Grows (slice_index words i)) (sym (get_or-set_same words i x 0 inside)) is)
    | inr ne ↦ subst (Grows (slice_index words k)) (sym (get_or-set_other words i k x 0 ne)) (alike_grows _ _ (refl, refl))
  ]

-- what a record says of nodes' words, by either way
pub stamped_stays : (way : CommitWay) (g : Setup) (words later : List ℕ) → ((k : ℕ) → k < first_slotted way g.world → Alike (slice_index words k) (slice_index later k)) → (r : Record) → IsStampedBy way g words r → IsStampedBy way g later r
stamped_stays by_journal g words later alike r is = stamped_alike g words later alike r is
stamped_stays by_ticket g words later alike r is = tt

module _ {D : Type 0} (z : Terms D) (views : List (View D)) (seat : ℕ) (r : Record) (new : Record) (there : get_elem? views seat ≡ home.some (view_of z (r ∷ []))) where
  -- the views where a seat's only record has changed
  abbrev pub later : List (View D)
  later = set views seat (view_of z (new ∷ []))

  -- a record there is the new one, or was there before, at another seat
  pub cases : (s j : ℕ) (q : Record) → HasRecord later s j q → ((s ≡ seat) × (j ≡ 0) × (new ≡ q)) ⊎ ((s ≢ seat) × HasRecord views s j q)
  cases s j q has = elim (at_set views seat s (view_of z (new ∷ [])) has.0 has.1) [
    | inl mine ↦ let is = only new q j (subst (λ (v : View D). slice_get v.records j ≡ Some q) (sym mine.1) has.2) in inl (mine.0, is.0, is.1)
    | inr other ↦ inr (other.0, (has.0, other.1, has.2))
  ]

  -- each record comes from one at its place with its number
  pub back : new.number ≡ r.number → (s j : ℕ) (q : Record) → HasRecord later s j q → (p : Record) × HasRecord views s j p × (p.number ≡ q.number)
  back same s j q has = elim (cases s j q has) [
    | inl mine ↦ (r, (view_of z (r ∷ []), ap (get_elem? views) mine.0 ∙ there, ap (slice_get (r ∷ [])) mine.1), sym same ∙ ap (λ (x : Record). x.number) mine.2)
    | inr other ↦ (q, other.1, refl)
  ]

  -- and each goes on to one
  pub forth : new.number ≡ r.number → (s j : ℕ) (q : Record) → HasRecord views s j q → (p : Record) × HasRecord later s j p × (p.number ≡ q.number)
  forth same s j q has = elim (cases_eq s seat) [
    | inl e ↦
        let is : view_of z (r ∷ []) ≡ has.0 = home.some-injective _ _ (sym there ∙ ap (get_elem? views) (sym e) ∙ has.1) in
        let one = only r q j (subst (λ (v : View D). slice_get v.records j ≡ Some q) (sym is) has.2) in
        (new, (view_of z (new ∷ []), ap (get_elem? later) e ∙ set_here views seat _ (at_home views seat _ there), ap (slice_get (new ∷ [])) one.0), same ∙ ap (λ (x : Record). x.number) one.1)
    | inr ne ↦ (q, (has.0, set_else views seat s (view_of z (new ∷ [])) ne ∙ has.1, has.2), refl)
  ]
