-- The release of a node that was won last keeps the rule.
use Rattle.std.proofs.Common.{◌≡◌, ◌≢◌, ℕ, ◌+◌, ◌*◌, ◌^◌, ◌<◌, ◌≤◌, List, [], ◌∷◌, ◌++◌, length, set, get_or, Option, Some, inl, inr, ap, sym, refl, subst, ◌∙◌, arith}
use Rattle.std.specs.Prelude.{slice_get, slice_index}
use Rattle.std.specs.List.{All, Contains}
use Rattle.std.proofs.lemmas.Bool.{cases_eq}
use Rattle.std.proofs.lemmas.List.{get_or-set_same, get_or-set_other, append_assoc}
use Rattle.std.proofs.lemmas.List.Elements.{All-head, All-contains, Contains-push}
use Rattle.std.proofs.lemmas.Option.{none-some, same_Some, slice_get_within, slice_get-get_or}
use mathlib.Core.Option as home
use Rattle.atomic_table.specs.Table.{step, keeps, Allows}
use Rattle.amoebot_state.specs.declared.cell.CellName.{CellName}
use Rattle.amoebot_state.specs.declared.cell.CellName.TheVariants as name
use Rattle.amoebot_state.specs.declared.cell.Cell.{Cell}
use Rattle.amoebot_state.specs.declared.cell.Cell.TheVariants as cell
use Rattle.amoebot_state.specs.declared.verdict.Verdict.{Verdict}
use Rattle.amoebot_state.specs.Pairs.{Pairs, cell_of}
use Rattle.amoebot_state.specs.Configs.{occupant}
use Rattle.amoebot_state.specs.Zones.{Shown, zone}
use Rattle.amoebot_state.specs.Storage.{put_at}
use Rattle.amoebot_state.proofs.Members.{All-from_Has, same_first, same_rest}
use Rattle.claim_core.specs.declared.marks.Mark.{Mark}
use Rattle.claim_core.specs.declared.marks.Mark.TheVariants as mark
use Rattle.claim_core.specs.declared.state.Caller.{Caller}
use Rattle.claim_core.specs.Cells.{number, at, values_of}
use Rattle.claim_core.specs.Good.{place_after}
use Rattle.claim_core.specs.Machine.{Setup, State, bot, freeing_caller, releases, by_phase, acts, next}
use Rattle.claim_core.specs.Soundness.{IsSetup, IsHeld, CallerOk, HasFront, IsReleasingCaller, names}
use Rattle.claim_core.proofs.Nexts.{frees-marks}
use Rattle.claim_core.proofs.Numbers.{value_at, number_once}
use Rattle.claim_core.proofs.Places.{get-set_else, one_at}
use Rattle.claim_core.proofs.Fronts.{names-more, held_named, not_twice}
use Rattle.claim_core.proofs.HolderLemmas.{framed, same_area, one_owner}
use Rattle.claim_rule.specs.declared.views.Slot.{Slot}
use Rattle.claim_rule.specs.declared.views.Note.{Note}
use Rattle.claim_rule.specs.declared.views.Record.{Record}
use Rattle.claim_rule.specs.declared.views.Terms.{Terms}
use Rattle.claim_rule.specs.Words.{occ_number, word_tag, word_occ, word_stamp}
use Rattle.claim_rule.specs.Views.{Content, Seated, view_of, own, setup_of_terms}
use Rattle.claim_rule.specs.Manners.{CommitWay, by_journal, first_slotted}
use Rattle.claim_rule.specs.Stands.{turns_left, IsNodeWord, IsWon, AreWon, IsStamped, IsRecord, AreWords, AreHomes, KeepsRule}
use Rattle.claim_rule.specs.Plays.{but_last, released_caller, but_first, occ_in, IsToFreeNode, ReleasesNode}
use Rattle.claim_rule.specs.Nexts.{GoesTo, IsAt}
use Rattle.claim_rule.proofs.Stamping.{occ_cases, made_of, small_occ}
use Rattle.claim_rule.proofs.Tables.{Alike, Grows, Keeps, alike_grows, node_number, node_written, homes_same, won_weaker, stamped_on, noted_on, grows_written}
use Rattle.claim_rule.proofs.Moves.{sound, on, caller_at, counts, moves, my_stamps, journal_stays}
use Rattle.claim_rule.proofs.NextsLemmas.{turns_same, allowed}

-- what is held in the next state of a caller that frees its cells
pub frees_won : (g : Setup) (words : List ℕ) (t : ℕ) (held : Pairs) (marks : List Mark) (ws : List Note) → AreWon (IsWon g words t marks) held ws → AreWon (IsWon g words (freeing_caller g t held marks).turn (freeing_caller g t held marks).marks) (freeing_caller g t held marks).held ws
frees_won g words t [] marks ws is = is
frees_won g words t (p ∷ held) marks ws is = is

module _ {D : Type 0} {verdict : D → Shown → Verdict} {z : Terms D} {s : Content D} {core : State} {seat : ℕ} {r : Record} (table : IsAt verdict z by_journal s core seat r) where
  abbrev g : Setup
  g = setup_of_terms verdict z

  abbrev is : CallerOk g core (sound table).last r.number r.caller
  is = (sound table).each r.number r.caller (caller_at table)

  module _ (i x slots : ℕ) (carried : List (ℕ × Slot)) (to : IsToFreeNode verdict i x (view_of z (r ∷ []))) where
    abbrev n : CellName
    n = name.Spot to.node

    abbrev y : Cell
    y = to.value

    abbrev occ : Option ℕ
    occ = occ_in to.value

    abbrev w : ℕ
    w = slice_index s.words i

    abbrev t : ℕ
    t = r.caller.turn

    in_nodes : i < first_slotted by_journal z.world
    in_nodes = node_number g to.node i to.placed.0

    inside : i < length core.tags
    inside = omega (arith, to.placed.1, (counts table).0)

    in_words : i < length s.words
    in_words = omega (arith, to.placed.1, table.stands.words.count)

    node : IsNodeWord core i w
    node = table.stands.words.node i in_nodes

    new : State
    new = releases g r.number core r.caller ((n, y) ∷ to.held)

    leads : new ≡ next g r.number core
    unfolding new
    leads = sym (ap (acts g r.number core) (caller_at table) ∙ ap (by_phase g r.number core r.caller) to.phase ∙ ap (releases g r.number core r.caller) to.last)

    same : released_caller g r.caller ≡ freeing_caller g t to.held r.caller.marks
    same = ap (λ h. freeing_caller g t (but_last h) r.caller.marks) to.last

    callers : new.callers ≡ set core.callers r.number (released_caller g r.caller)
    unfolding new
    callers = ap (set core.callers r.number) (sym same)

    fewer : turns_left g new ≤ turns_left g core
    unfolding new
    fewer = turns_same g core new r.number r.caller (freeing_caller g t to.held r.caller.marks) (caller_at table) refl (frees-marks g t to.held r.caller.marks)

    tags : new.tags ≡ set core.tags i 0
    unfolding new
    tags = ap (λ o. put_at core.tags o 0) to.placed.0

    values : new.values ≡ core.values
    unfolding new
    values = refl

    journal : new.journal ≡ core.journal
    unfolding new
    journal = refl

    holder : new.holder ≡ core.holder
    unfolding new
    holder = refl

    all_held : All (IsHeld g core (sound table).last r.number t) ((n, y) ∷ to.held)
    all_held = subst (All (IsHeld g core (sound table).last r.number t)) to.last is.held

    -- the value that was recorded is the one that the node has
    occupied : occupant (sound table).last to.node ≡ occ
    occupied = ap occ_in (same_Some (cell.Spot (occupant (sound table).last to.node)) y (All-head (IsHeld g core (sound table).last r.number t) (n, y) to.held all_held).value)

    is_spot : y ≡ cell.Spot occ
    is_spot = sym (same_Some (cell.Spot (occupant (sound table).last to.node)) y (All-head (IsHeld g core (sound table).last r.number t) (n, y) to.held all_held).value) ∙ ap cell.Spot occupied

    small : occ_number occ < 2 ^ 13
    small = subst (λ o. occ_number o < 2 ^ 13) occupied (small_occ (sound table).last (let size = (framed g table.run core (sound table)).same.size in let few = table.run.few in omega (arith, size, few)) to.node)

    value_there : slice_get core.values i ≡ Some y
    value_there =
        let inside_values : i < length core.values = omega (arith, to.placed.1, (counts table).1) in
        let at_i : at core.values (number z.world.area n) ≡ Some (get_or core.values i y) = ap (at core.values) to.placed.0 ∙ slice_get-get_or core.values i y inside_values in
        let has = value_at (sound table).last n (get_or core.values i y) (ap (λ a. at (values_of (sound table).last) (number a n)) (same_area g table.run core (sound table)) ∙ ap (λ xs. at xs (number z.world.area n)) (sym (sound table).values) ∙ at_i) in
        slice_get-get_or core.values i y inside_values ∙ ap (λ (q : Cell). Some q) (has ∙ ap cell.Spot occupied ∙ sym is_spot)

    -- what the record says of the node
    won_all : AreWon (IsWon g s.words t r.caller.marks) ((n, y) ∷ to.held) (to.note ∷ to.more)
    won_all = subst (λ (q : Pairs × List Note). AreWon (IsWon g s.words t r.caller.marks) q.0 q.1) (λ j. (to.last j, to.won j)) (my_stamps table).won

    is_won : IsWon g s.words t r.caller.marks to.node y to.note
    is_won = subst (IsWon g s.words t r.caller.marks to.node y) (sym (same_first won_all.2)) won_all.3

    won_rest : AreWon (IsWon g s.words t r.caller.marks) to.held to.more
    won_rest = subst (AreWon (IsWon g s.words t r.caller.marks) to.held) (sym (same_rest won_all.2)) won_all.4

    says : (word_tag x ≡ 0) × (word_occ x ≡ occ) × (word_stamp x ≡ to.stamp)
    says = subst (λ q. (word_tag q ≡ 0) × (word_occ q ≡ occ) × (word_stamp q ≡ to.stamp)) (sym to.word) (made_of 0 occ to.stamp (omega arith) small)

    -- where the occupant has changed, the turn has committed, and the new stamp is greater
    changed : occ ≢ to.note.occ → (m : Mark) × (slice_get r.caller.marks t ≡ Some m) × (to.stamp ≡ place_after m) × (to.note.stamp < place_after m)
    changed apart = elim is_won.value [
      | inl e ↦ absurd (apart (ap occ_in e))
      | inr done ↦
          let left = to.left.changed apart in
          let is_done : left.0 ≡ mark.Done done.0 = one_at (slice_get r.caller.marks t) left.0 (mark.Done done.0) left.1 done.1 in
          let settled = is_won.settled (mark.Done done.0) done.1 in
          let after_it : place_after left.0 ≡ done.0 + 1 = ap place_after is_done in
          (left.0, left.1, left.2, (omega (arith, settled, after_it)))
    ]

    grows : Grows w x
    grows = elim (occ_cases occ to.note.occ) [
      | inl e ↦ alike_grows w x (says.1 ∙ e ∙ sym (is_won.occ i to.placed.0), says.2 ∙ to.left.same e ∙ sym (is_won.stamp i to.placed.0))
      | inr ne ↦
          let c = changed ne in
          let was = is_won.stamp i to.placed.0 in
          let now = says.2 in
          let a = c.2 in
          let b = c.3 in
          ((omega (arith, was, now, a, b)), λ e. absurd (omega (arith, was, now, a, b, e)))
    ]

    stamp_few : word_stamp x ≤ length core.journal
    stamp_few = elim (occ_cases occ to.note.occ) [
      | inl e ↦ (let a = says.2 in let b = to.left.same e in let c = is_won.stamp i to.placed.0 in let d = node.stamp in omega (arith, a, b, c, d))
      | inr ne ↦
          let c = changed ne in
          let within = All-contains (λ m. place_after m ≤ length core.journal) r.caller.marks c.0 is.within (t, slice_get_within r.caller.marks t c.0 c.1, Rattle.std.proofs.lemmas.Option.get_or_from_slice_get r.caller.marks t c.0 c.0 c.1) in
          let a = says.2 in
          let b = c.2 in
          omega (arith, a, b, within)
    ]

    here : IsNodeWord new i x
    here = record {
      tag = says.0 ∙ sym (ap (λ ts. slice_index ts i) tags ∙ get_or-set_same core.tags i 0 0 inside);
      free = λ none. ap (λ vs. slice_get vs i) values ∙ value_there ∙ ap (λ (q : Cell). Some q) is_spot ∙ ap (λ o. Some (cell.Spot o)) (sym says.1);
      stamp = subst (λ (es : List _). word_stamp x ≤ length es) (sym journal) stamp_few;
    }

    words : AreWords by_journal g new (set s.words i x)
    words = node_written by_journal g core new s.words i 0 x table.stands.words in_nodes inside tags values journal (λ j. 2 * length (journal j) + Rattle.std.specs.Option.option_len (holder j)) here

    homes : AreHomes by_journal g new s.homes
    homes = homes_same by_journal g core new s.homes table.stands.homes (λ k le. ap (λ ts. slice_get ts k) tags ∙ get-set_else core.tags i k 0 (λ e. omega (arith, e, le, in_nodes))) values holder (journal_stays g core new journal fewer)

    -- a cell with another number
    kept : (p : CellName × Cell) → cell_of p ≢ n → Keeps g s.words (set s.words i x) p
    kept p ne v k is_v e = elim (cases_eq k i) [
      | inl same_k ↦ absurd (ne (number_once z.world.area (cell_of p) n i (ap (number z.world.area) is_v ∙ e ∙ ap (λ (q : ℕ). Some q) same_k) to.placed.0))
      | inr ne_k ↦ subst (Alike (slice_index s.words k)) (sym (get_or-set_other s.words i k x 0 ne_k)) (refl, refl)
    ]

    names_are : names r.caller.held ≡ names to.held ++ n ∷ []
    names_are = ap names to.last ∙ names-more (n, y) to.held

    last_held : Contains (names r.caller.held) n
    last_held = subst (λ ns. Contains ns n) (sym names_are) (Contains-push (names to.held) n)

    freeing : IsReleasingCaller g core r.number t r.caller.held r.caller.marks
    freeing = subst (HasFront g core (sound table).last r.number r.caller) to.phase is.front

    front : names to.held ++ n ∷ freeing.rest ≡ zone freeing.world (bot g r.number t)
    front = sym (append_assoc (names to.held) (n ∷ []) freeing.rest) ∙ ap (λ ns. ns ++ freeing.rest) (sym names_are) ∙ freeing.front

    others : (q : Record) → q.number ≢ r.number → IsRecord g core q → IsStamped g s.words q → IsStamped g (set s.words i x) q
    others q apart rec st = stamped_on g s.words (set s.words i x) (grows_written g s.words i x in_words grows) q
        (All-from_Has (Keeps g s.words (set s.words i x)) q.caller.held (λ p has. kept p (λ e. apart (one_owner g table.run core (sound table) q.number r.number q.caller r.caller rec.caller (caller_at table) n (subst (Contains (names q.caller.held)) e (held_named q.caller.held p has)) last_held)))) st

    rest_kept : All (Keeps g s.words (set s.words i x)) to.held
    rest_kept = All-from_Has (Keeps g s.words (set s.words i x)) to.held (λ p has. kept p (λ e. not_twice freeing.world (bot g r.number t) (names to.held) freeing.rest n front (subst (Contains (names to.held)) e (held_named to.held p has))))

    rest_won : AreWon (IsWon g (set s.words i x) t r.caller.marks) to.held to.more
    rest_won = won_weaker (Keeps g s.words (set s.words i x)) (IsWon g s.words t r.caller.marks) (IsWon g (set s.words i x) t r.caller.marks) (λ v q m keeps p. record {
      node = p.node;
      occ = λ k e. (keeps v k refl e).0 ∙ p.occ k e;
      stamp = λ k e. (keeps v k refl e).1 ∙ p.stamp k e;
      settled = p.settled;
      value = p.value;
    }) to.held to.more rest_kept won_rest

    mine : IsStamped g (set s.words i x) (record r { caller = released_caller g r.caller; won = but_first r.won })
    mine = record {
      won = subst (λ (q : Caller × List Note). AreWon (IsWon g (set s.words i x) q.0.turn q.0.marks) q.0.held q.1) (λ j. (sym same j, but_first (sym to.won j))) (frees_won g (set s.words i x) t to.held r.caller.marks to.more rest_won);
      noted = λ m e. noted_on g s.words (set s.words i x) (grows_written g s.words i x in_words grows) m ((my_stamps table).noted m e);
    }

    pub node_release_goes : GoesTo verdict z by_journal s (next g r.number core) i seat (view_of z (r ∷ []), carried) (λ _. ReleasesNode verdict (step slots i x 0 home.none) (view_of z (r ∷ []), carried) x) x
    node_release_goes = (
      view_of z (record r { caller = released_caller g r.caller; won = but_first r.won } ∷ []),
      keeps,
      tt,
      moves table new (next g r.number core) (on table) (released_caller g r.caller) (but_first r.won) r.note (set s.words i x) s.homes leads callers journal holder fewer words homes others mine,
      (refl, refl),
    )

module _ {D : Type 0} (verdict : D → Shown → Verdict) (z : Terms D) (ok : IsSetup (setup_of_terms verdict z)) where
  release_by_journal : (slots seat : ℕ) (me : Seated D) (i x : ℕ) → me.0 ≡ view_of z (own me.0 ∷ []) → IsToFreeNode verdict i x me.0 → Allows (KeepsRule verdict z by_journal) slots seat me i (λ _. x) (λ _. ReleasesNode verdict (step slots i x 0 home.none) me x)
  release_by_journal slots seat me i x one to =
      allowed verdict z by_journal ok slots seat me i (λ _. x) (λ m. IsToFreeNode verdict i x m.0) (λ m _. ReleasesNode verdict (step slots i x 0 home.none) m x) one to
      (λ s core r table fact. inl (node_release_goes table i x slots me.1 fact))

  -- so it is allowed where nodes have words
  pub node_release_allowed : (way : CommitWay) → way ≡ by_journal → (slots seat : ℕ) (me : Seated D) (i x : ℕ) → me.0 ≡ view_of z (own me.0 ∷ []) → IsToFreeNode verdict i x me.0 → Allows (KeepsRule verdict z way) slots seat me i (λ _. x) (λ _. ReleasesNode verdict (step slots i x 0 home.none) me x)
  node_release_allowed way words slots seat me i x one to = subst (λ w. Allows (KeepsRule verdict z w) slots seat me i (λ _. x) (λ _. ReleasesNode verdict (step slots i x 0 home.none) me x)) (sym words) (release_by_journal slots seat me i x one to)
