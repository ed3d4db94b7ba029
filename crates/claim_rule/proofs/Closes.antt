-- What a field leaves once all its seats are back.
use Rattle.std.proofs.Common.{◌≡◌, ◌≢◌, ℕ, ◌+◌, ◌<◌, List, [], ◌∷◌, drop, length, Option, Some, None, ap, sym, refl, subst, ◌∙◌, arith}
use Rattle.std.specs.Prelude.{slice_get, IsSome, IfSome}
use Rattle.std.specs.List.{All}
use Rattle.std.proofs.lemmas.Option.{same_Some, slice_get-get_or, slice_get_within, get_or_from_slice_get}
use Rattle.std.proofs.lemmas.Bool.{false≢true}
use Rattle.std.proofs.lemmas.List.{drop_more}
use mathlib.Core.Option as home
use lib.ListN.{get_elem?, get_or}
use Rattle.atomic_table.specs.Seated.{TableId}
use Rattle.atomic_table.specs.Table.{Final, Seen}
use Rattle.amoebot_state.specs.declared.verdict.Entry.{Entry}
use Rattle.amoebot_state.specs.declared.verdict.Verdict.{Verdict}
use Rattle.amoebot_state.specs.Configs.{Config}
use Rattle.amoebot_state.specs.Pairs.{plain_patch}
use Rattle.amoebot_state.specs.Patches.{IsPatched}
use Rattle.amoebot_state.specs.Steps.{Run}
use Rattle.amoebot_state.specs.Zones.{Shown}
use Rattle.amoebot_state.proofs.Patched.{patched_is_unique, run_has_one_last}
use Rattle.claim_core.specs.Turns.{Kept}
use Rattle.claim_core.specs.Machine.{Setup, State, after}
use Rattle.claim_core.specs.Reached.{HasValues}
use Rattle.claim_core.specs.Soundness.{IsSetup}
use Rattle.claim_core.proofs.HolderLemmas.{framed}
use Rattle.claim_core.proofs.Sounds.{always}
use Rattle.claim_rule.specs.declared.views.Slot.{Slot}
use Rattle.claim_rule.specs.declared.views.Slot.TheVariants as slot
use Rattle.claim_rule.specs.declared.views.Record.{Record}
use Rattle.claim_rule.specs.declared.views.Terms.{Terms}
use Rattle.claim_rule.specs.Views.{Content, Seated, view_of, setup_of_terms}
use Rattle.claim_rule.specs.Manners.{CommitWay, by_journal}
use Rattle.claim_rule.specs.Stands.{journal_slot, IsCoreJournal, HasTaken, IsRecord, Stands, KeepsRule}
use Rattle.claim_rule.specs.Tokens.{FieldOf, Token, number_in, record_in, doing}
use Rattle.claim_rule.specs.Seating.{SeatsOf, AreOf, AreSeats}
use Rattle.claim_rule.specs.Closing.{ClosesAs, LeavesAs, HoldNothing}
use Rattle.claim_rule.specs.Internal.{HaveAll}

-- the entries after the one whose patch was applied lead on to the same last world
pub follows : (f : Shown → Verdict) (now next last : Config) (es : List Entry) (k : ℕ) (e : Entry) → slice_get es k ≡ Some e → Run f now (drop k es) last → IsPatched now (plain_patch e.patch) next → Run f next (drop (k + 1) es) last
follows f now next last es k e there run patched =
    let rest = subst (λ xs. Run f now xs last) (drop_more es k e (slice_get_within es k e there) ∙ ap (λ x. x ∷ drop (k + 1) es) (get_or_from_slice_get es k e e there)) run in
    subst (λ c. Run f c (drop (k + 1) es) last) (patched_is_unique now rest.0 next (plain_patch e.patch) rest.1.patched patched) rest.2

-- each of these places has a seat
pub some_there : {A : Type 0} (xs : List (Option A)) (c : ℕ) → c < length xs → All (λ o. IsSome o) xs → (x : A) × (slice_get xs c ≡ Some (Some x))
some_there {A} xs c lt all = by (get_or xs c None) (slice_get-get_or xs c None lt) (all c None lt)
  where
    by : (o : Option A) → slice_get xs c ≡ Some o → IsSome o → (x : A) × (slice_get xs c ≡ Some (Some x))
    by None e some = absurd (false≢true some)
    by (Some x) e some = (x, e)

-- a slot with a journal has one
abbrev kept_in : Kept → Slot → Kept
kept_in d (slot.Cell x) = d
kept_in d (slot.Journal j) = j

same_journal : (xs : List Slot) (k : ℕ) (i j : Kept) → get_elem? xs k ≡ home.some (slot.Journal i) → get_elem? xs k ≡ home.some (slot.Journal j) → i ≡ j
same_journal xs k i j e f = ap (kept_in i) (home.some-injective (slot.Journal i) (slot.Journal j) (sym e ∙ f))

module _ {D : Type 0} (verdict : D → Shown → Verdict) (z : Terms D) (ok : IsSetup (setup_of_terms verdict z)) where
  abbrev g : Setup
  g = setup_of_terms verdict z

  module _ (s : Content D) (steps : List ℕ) (st : Stands verdict z by_journal s (after g steps)) (id : ℕ) (rs : List Record) (mine : get_elem? s.views id ≡ home.some (view_of z rs))
      (seats : List (Option (Token D))) (count : length seats ≡ length z.lists.ids) (full : All (λ o. IsSome o) seats)
      (number : (c : ℕ) (t : Token D) → slice_get seats c ≡ Some (Some t) → number_in t ≡ c) (have : HaveAll seats rs) where
    abbrev core : State
    core = after g steps

    its : (c : ℕ) (t : Token D) → slice_get seats c ≡ Some (Some t) → IsRecord g core (record_in t)
    its c t e = let there = have c t e in st.views.each id there.0 (record_in t) (view_of z rs, mine, there.1)

    not_holder : (c : ℕ) (t : Token D) → slice_get seats c ≡ Some (Some t) → core.holder ≢ Some c
    not_holder c t e = subst (λ n. core.holder ≢ Some n) (number c t e) (subst (HasTaken g core (number_in t)) (have c t e).2 (its c t e).committed.taken)

    nobody : (o : Option ℕ) → core.holder ≡ o → o ≡ None
    nobody None e = refl
    nobody (Some c) e =
        let sound = always g ok steps in
        let k = sound.holder c e in
        let inside : c < length seats = (let n = slice_get_within core.callers c k.0 k.1 in omega (arith, n, sound.callers, count)) in
        let t = some_there seats c inside full in
        absurd (not_holder c t.0 t.1 e)

    at_home : (j : Kept) × (get_elem? s.homes (journal_slot z.world) ≡ home.some (home.some (slot.Journal j))) × IsCoreJournal g core j
    at_home = st.homes.journal (nobody core.holder refl)

    module _ (xs : List Slot) (are : (k : ℕ) (y : Slot) → get_elem? s.homes k ≡ home.some (home.some y) → get_elem? xs k ≡ home.some y) where
      journal_in : (j : Kept) × (get_elem? xs (journal_slot z.world) ≡ home.some (slot.Journal j)) × IsCoreJournal g core j
      journal_in = (at_home.0, are (journal_slot z.world) (slot.Journal at_home.0) at_home.1, at_home.2)

      its_journal : (j : Kept) → get_elem? xs (journal_slot z.world) ≡ home.some (slot.Journal j) → IsCoreJournal g core j
      its_journal j e = subst (IsCoreJournal g core) (same_journal xs (journal_slot z.world) journal_in.0 j journal_in.1 e) journal_in.2

      runs : (j : Kept) → get_elem? xs (journal_slot z.world) ≡ home.some (slot.Journal j) → (last : Config) × Run g.verdict g.world j.entries last
      runs j e = let sound = always g ok steps in (sound.last, subst (λ es. Run g.verdict g.world es sound.last) (sym (its_journal j e).entries) sound.run)

      closed : (j : Kept) (world : Config) → get_elem? xs (journal_slot z.world) ≡ home.some (slot.Journal j) → Run g.verdict g.world j.entries world → ClosesAs by_journal verdict z seats world j
      closed j world e run =
          let sound = always g ok steps in
          let is = its_journal j e in
          let same : sound.last ≡ world = run_has_one_last g.verdict g.world core.journal sound.last world sound.run (subst (λ es. Run g.verdict g.world es world) is.entries run) in
          let fr = framed g ok core sound in
          let last_has : HasValues g core sound.last = record { same = fr.same; values = sym sound.values } in
          record { steps = steps; callers = λ c t e. (number c t e, its c t e); first = is.first; entries = is.entries; values = subst (HasValues g core) same last_has }

module _ {D : Type 0} (verdict : D → Shown → Verdict) (f : FieldOf D) (rest : Seated D) (table : TableId) (items : List (Option (Token D))) (are : AreSeats rest table items) (s : SeatsOf D)
    (s_is : (let t : SeatsOf D = record { table = table; terms = rest.0.terms; seats = items } in t) ≡ s) (of : AreOf f s) where
  same_terms : are.terms ≡ f.terms
  same_terms = same_Some are.terms f.terms (ap (λ (m : Seated D). m.0.terms) (sym are.dealt) ∙ ap (λ (t : SeatsOf D). t.terms) s_is ∙ of.terms)

  -- the seats are the field's
  pub seats_of : (c : ℕ) (t : Token D) → slice_get items c ≡ Some (Some t) → (t.table ≡ f.table) × (t.view.terms ≡ Some f.terms)
  seats_of c t e = let is = are.each c t e in (is.0 ∙ ap (λ (u : SeatsOf D). u.table) s_is ∙ of.table, is.1 ∙ ap (λ (y : Terms D). Some y) same_terms)

  same_items : items ≡ s.seats
  same_items = ap (λ (t : SeatsOf D). t.seats) s_is

  -- the seats that are gathered hold nothing,
  pub rest_nothing : All (λ o. IsSome o) s.seats → (rs : List Record) → HaveAll items rs → HoldNothing s.seats
  rest_nothing full rs have = subst (λ (os : List (Option (Token D))). HoldNothing os) same_items (λ c d lt.
      let t = some_there items c lt (subst (λ (os : List (Option (Token D))). All (λ o. IsSome o) os) (sym same_items) full) in
      subst (λ o. IfSome o (λ token. (doing token).held ≡ [])) (sym (get_or_from_slice_get items c (Some t.0) d t.1)) (have c t.0 t.1).3)

  -- and, by either way, steps lead to what they know
  pub leaves : (way : CommitWay) (id : ℕ) (m : Seated D) → (rs : List Record) × (m ≡ (view_of f.terms rs, [])) × HaveAll items rs → (words : List ℕ) (xs : List Slot) → Final (Seen (KeepsRule verdict f.terms way) id m.0) words xs → LeavesAs way verdict f.terms s.seats
  leaves way id m gathered words xs end = subst (λ os. LeavesAs way verdict f.terms os) same_items (record {
    steps = end.1.0.0;
    callers = λ c t e.
        let there = gathered.2 c t e in
        ((are.each c t e).2, end.1.0.1.views.each id there.0 (record_in t) (view_of f.terms gathered.0, (end.1.1 ∙ ap (λ (k : Seated D). home.some k.0) gathered.1), there.1));
  })

  module _ (ok : IsSetup (setup_of_terms verdict f.terms)) (full : All (λ o. IsSome o) s.seats) (id : ℕ) (m : Seated D) (gathered : (rs : List Record) × (m ≡ (view_of f.terms rs, [])) × HaveAll items rs)
      (words : List ℕ) (xs : List Slot) (end : Final (Seen (KeepsRule verdict f.terms by_journal) id m.0) words xs) where
    mine : get_elem? end.0.views id ≡ home.some (view_of f.terms gathered.0)
    mine = end.1.1 ∙ ap (λ (k : Seated D). home.some k.0) gathered.1

    count : length items ≡ length f.terms.lists.ids
    count = are.count ∙ ap (λ (y : Terms D). length y.lists.ids) same_terms

    items_are : items ≡ s.seats
    items_are = same_items

    all_there : All (λ (o : Option (Token D)). IsSome o) items
    all_there = subst (λ (os : List (Option (Token D))). All (λ o. IsSome o) os) (sym items_are) full

    number : (c : ℕ) (t : Token D) → slice_get items c ≡ Some (Some t) → number_in t ≡ c
    number c t e = (are.each c t e).2

    -- the journal is in its slot,
    pub journal_there : (j : Kept) × (get_elem? xs (journal_slot f.terms.world) ≡ home.some (slot.Journal j))
    journal_there =
        let j = journal_in verdict f.terms ok end.0 end.1.0.0 end.1.0.1 id gathered.0 mine items count all_there number gathered.2 xs end.4 in
        (j.0, j.1)

    -- its entries are a run,
    pub entries_run : (j : Kept) → get_elem? xs (journal_slot f.terms.world) ≡ home.some (slot.Journal j) → (last : Config) × Run (verdict f.terms.decider) f.terms.world j.entries last
    entries_run j e = runs verdict f.terms ok end.0 end.1.0.0 end.1.0.1 id gathered.0 mine items count all_there number gathered.2 xs end.4 j e

    -- there are as many seats as callers,
    pub listed : length s.seats ≡ length f.terms.lists.ids
    listed = ap (λ (os : List (Option (Token D))). length os) (sym items_are) ∙ count

    -- they hold nothing,
    pub rests : HoldNothing s.seats
    rests = rest_nothing full gathered.0 gathered.2

    -- and with its last world the field has ended as it does
    pub closes : (j : Kept) (world : Config) → get_elem? xs (journal_slot f.terms.world) ≡ home.some (slot.Journal j) → Run (verdict f.terms.decider) f.terms.world j.entries world → ClosesAs by_journal verdict f.terms s.seats world j
    closes j world e run =
        subst (λ os. ClosesAs by_journal verdict f.terms os world j) items_are
        (closed verdict f.terms ok end.0 end.1.0.0 end.1.0.1 id gathered.0 mine items count all_there number gathered.2 xs end.4 j world e run)
