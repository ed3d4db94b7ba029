-- What all kinds of step share: one caller's record changes, and what was true of the others stays.
use Rattle.std.proofs.Common.{◌≡◌, ◌≢◌, ℕ, zero, suc, ◌+◌, ◌<◌, ◌≤◌, ◌⊎◌, List, [], ◌∷◌, ◌++◌, map, length, get_or, set, Option, Some, None, inl, inr, ap, sym, refl, subst, ◌∙◌, arith, length-append}
use Rattle.std.specs.Prelude.{slice_get}
use Rattle.std.specs.List.{All, Contains}
use Rattle.std.proofs.lemmas.Bool.{cases_eq}
use Rattle.std.proofs.lemmas.List.Elements.{All-weaker}
use Rattle.std.proofs.lemmas.Option.{same_Some, none-some, slice_get_within, get_or_from_slice_get}
use Rattle.amoebot_state.specs.declared.cell.CellName.{CellName}
use Rattle.amoebot_state.specs.declared.verdict.Entry.{Entry}
use Rattle.amoebot_state.specs.declared.verdict.Verdict.{Verdict}
use Rattle.amoebot_state.specs.declared.verdict.Verdict.TheVariants as verdict
use Rattle.amoebot_state.specs.Configs.{Config}
use Rattle.amoebot_state.specs.Zones.{shown_with, zone}
use Rattle.amoebot_state.specs.Steps.{Run, IsWorldAt}
use Rattle.claim_core.specs.declared.marks.Mark.{Mark}
use Rattle.claim_core.specs.declared.marks.Mark.TheVariants as mark
use Rattle.claim_core.specs.declared.state.Phase.{Phase}
use Rattle.claim_core.specs.declared.state.Phase.TheVariants.{Claim, Refusing, Looking, Taking, Committing, Releasing, Ended}
use Rattle.claim_core.specs.declared.state.Caller.{Caller}
use Rattle.claim_core.specs.Good.{HasVerdict, HasInZone, Order, mark_of_turn, place_of, place_after}
use Rattle.claim_core.specs.Cells.{number, at, values_of}
use Rattle.claim_core.specs.Machine.{Setup, State, bot}
use Rattle.claim_core.specs.Soundness.{IsSetup, names, verdict_of, IsCommitting, marks_so_far, Holds, HasHeld, IsHolder, TurnOkSoFar, IsRefusedPhase, HasDecision, HasFront, IsHeld, CallerOk, Sound}
use Rattle.amoebot_state.proofs.Stays.{slice_get-pushed, IsWorldAt-append}
use Rattle.claim_core.proofs.Places.{get-set_here, get-set_else, get-set_cases, get-map, get-append_left, one_at}
use Rattle.claim_core.proofs.Fronts.{Valued, whole_shown, front_kept, whole_kept}
use Rattle.claim_core.proofs.Frames.{IsFramed, run_framed, own_stays}

module _ (g : Setup) where
  -- a mark is one of a caller's record
  pub told : (s : State) (d t : ℕ) (j : Caller) (m : Mark) → slice_get s.callers d ≡ Some j → slice_get j.marks t ≡ Some m → mark_of_turn (marks_so_far g s) d t ≡ Some m
  told s d t j m there has = ap (λ ms. slice_get ms t) (get_or_from_slice_get (map (λ (k : Caller). k.marks) s.callers) d j.marks [] (get-map (λ (k : Caller). k.marks) s.callers d j there)) ∙ has

  pub told_by : (s : State) (d t : ℕ) (m : Mark) → mark_of_turn (marks_so_far g s) d t ≡ Some m → (j : Caller) × (slice_get s.callers d ≡ Some j) × (slice_get j.marks t ≡ Some m)
  told_by s d t m has = by (slice_get s.callers d) refl
    where
      past : {A B : Type 0} (f : A → List B) (xs : List A) (i : ℕ) → slice_get xs i ≡ None → get_or (map f xs) i [] ≡ []
      past f [] i e = refl
      past f (x ∷ xs) zero e = absurd (none-some x (sym e))
      past f (x ∷ xs) (suc i) e = past f xs i e

      by : (o : Option Caller) → slice_get s.callers d ≡ o → (j : Caller) × (slice_get s.callers d ≡ Some j) × (slice_get j.marks t ≡ Some m)
      by None none = absurd (none-some m (sym (ap (λ ms. slice_get ms t) (past (λ (k : Caller). k.marks) s.callers d none)) ∙ has))
      by (Some j) some = (j, some, sym (ap (λ ms. slice_get ms t) (get_or_from_slice_get (map (λ (k : Caller). k.marks) s.callers) d j.marks [] (get-map (λ (k : Caller). k.marks) s.callers d j some))) ∙ has)

-- a step of a caller, from a record to another: marks and entries are added at the ends, and what is held without a mark stays
-- held so, or gets its mark
pub record Moves (g : Setup) (old new : State) (c : ℕ) (k next : Caller) : Type 0 where
  pub at : slice_get old.callers c ≡ Some k
  pub now : new.callers ≡ set old.callers c next
  pub entries : List Entry
  pub journal : new.journal ≡ old.journal ++ entries
  pub added : List Mark
  pub marks : next.marks ≡ k.marks ++ added
  pub keeps : (n : CellName) → Contains (names k.held) n → length k.marks ≡ k.turn → ((next.turn ≡ k.turn) × (length next.marks ≡ k.turn) × Contains (names next.held) n) ⊎ ((m : Mark) × (slice_get next.marks k.turn ≡ Some m) × HasInZone g.verdict g.world new.journal (place_of m) (bot g c k.turn) n)

module _ (g : Setup) (old new : State) (c : ℕ) (k next : Caller) (mv : Moves g old new c k next) where
  -- the caller's new record, and the others' old ones
  pub mine_now : slice_get new.callers c ≡ Some next
  mine_now = ap (λ l. slice_get l c) mv.now ∙ get-set_here old.callers c next (slice_get_within old.callers c k mv.at)

  pub other_now : (d : ℕ) → d ≢ c → slice_get new.callers d ≡ slice_get old.callers d
  other_now d ne = ap (λ l. slice_get l d) mv.now ∙ get-set_else old.callers c d next ne

  pub mark_stays : (t : ℕ) (m : Mark) → slice_get k.marks t ≡ Some m → slice_get next.marks t ≡ Some m
  mark_stays t m has = ap (λ ms. slice_get ms t) mv.marks ∙ get-append_left k.marks mv.added t m has

  pub told_stays : (d t : ℕ) (m : Mark) → mark_of_turn (marks_so_far g old) d t ≡ Some m → mark_of_turn (marks_so_far g new) d t ≡ Some m
  told_stays d t m has =
      let by = told_by g old d t m has in
      elim (cases_eq d c) [
        | inl same ↦
            let mine : by.0 ≡ k = one_at (slice_get old.callers c) by.0 k (ap (slice_get old.callers) (sym same) ∙ by.1) mv.at in
            told g new d t next m (ap (slice_get new.callers) same ∙ mine_now) (mark_stays t m (subst (λ (j : Caller). slice_get j.marks t ≡ Some m) mine by.2))
        | inr ne ↦ told g new d t by.0 m (other_now d ne ∙ by.1) by.2
      ]

  pub world_stays : (place : ℕ) (world : Config) → IsWorldAt g.verdict g.world old.journal place world → IsWorldAt g.verdict g.world new.journal place world
  world_stays place world at = subst (λ es. IsWorldAt g.verdict g.world es place world) (sym mv.journal) (IsWorldAt-append g.verdict g.world world old.journal mv.entries place at)

  pub zone_stays : (place b : ℕ) (n : CellName) → HasInZone g.verdict g.world old.journal place b n → HasInZone g.verdict g.world new.journal place b n
  zone_stays place b n in_zone = (in_zone.0, world_stays place in_zone.0 in_zone.1, in_zone.2)

  pub verdict_stays : (place b : ℕ) (v : Verdict) → HasVerdict g.verdict g.world old.journal place b v → HasVerdict g.verdict g.world new.journal place b v
  verdict_stays place b v has = (has.0, world_stays place has.0 has.1, has.2)

  entry_stays : (place : ℕ) (e : Entry) → slice_get old.journal place ≡ Some e → slice_get new.journal place ≡ Some e
  entry_stays place e has = ap (λ es. slice_get es place) mv.journal ∙ get-append_left old.journal mv.entries place e has

  pub holder_stays : (d : ℕ) (n : CellName) (by_caller by_turn by_bot : ℕ) → IsHolder g old d n by_caller by_turn by_bot → IsHolder g new d n by_caller by_turn by_bot
  holder_stays d n by_caller by_turn by_bot is = record { listed = is.listed; other = is.other; turn = is.turn; of = is.of; holds = elim is.holds [ inl holds ↦ still holds | inr held ↦ inr (record { told = held.told; marked = told_stays by_caller by_turn held.told held.marked; in_zone = zone_stays (place_of held.told) by_bot n held.in_zone }) ] }
    where
      still : Holds g old by_caller by_turn n → Holds g new by_caller by_turn n ⊎ HasHeld g new by_caller by_turn by_bot n
      still holds = elim (cases_eq by_caller c) [
        | inl same ↦
            let mine : holds.record_of ≡ k = one_at (slice_get old.callers c) holds.record_of k (ap (slice_get old.callers) (sym same) ∙ holds.there) mv.at in
            let turn : k.turn ≡ by_turn = ap (λ (j : Caller). j.turn) (sym mine) ∙ holds.now in
            let count : length k.marks ≡ by_turn = ap (λ (j : Caller). length j.marks) (sym mine) ∙ holds.unmarked in
            elim (mv.keeps n (subst (λ (j : Caller). Contains (names j.held) n) mine holds.held) (count ∙ sym turn)) [
              | inl kept ↦ inl (record { record_of = next; there = ap (slice_get new.callers) same ∙ mine_now; now = kept.0 ∙ turn; unmarked = kept.1 ∙ turn; held = kept.2 })
              | inr got ↦ inr (record {
                told = got.0;
                marked = told g new by_caller by_turn next got.0 (ap (slice_get new.callers) same ∙ mine_now) (ap (slice_get next.marks) (sym turn) ∙ got.1);
                in_zone = subst (λ b. HasInZone g.verdict g.world new.journal (place_of got.0) b n) ((λ i. bot g (sym same i) (turn i)) ∙ sym is.of) got.2;
              })
            ]
        | inr ne ↦ inl (record { record_of = holds.record_of; there = other_now by_caller ne ∙ holds.there; now = holds.now; unmarked = holds.unmarked; held = holds.held })
      ]

  -- the marks are right as before
  pub turn_stays : (d t : ℕ) (m : Mark) → TurnOkSoFar g old d t m → TurnOkSoFar g new d t m
  turn_stays d t (mark.Done place) ok = (ok.0, entry_stays place ok.0 ok.1, ok.2, ok.3)
  turn_stays d t (mark.Idle place) ok = verdict_stays place (bot g d t) verdict.Idle ok
  turn_stays d t (mark.Failed why place) ok = verdict_stays place (bot g d t) (verdict.Failed why) ok
  turn_stays d t (mark.Busy n by_caller by_turn by_bot place) ok = (zone_stays place (bot g d t) n ok.0, holder_stays d n by_caller by_turn by_bot ok.1)

  pub refused_stays : (d : ℕ) (p : Phase) → IsRefusedPhase g old d p → IsRefusedPhase g new d p
  refused_stays d Claim is = is
  refused_stays d (Refusing n t) is = (is.0, holder_stays d n _ _ _ is.1)
  refused_stays d (Looking l) is = is
  refused_stays d (Taking change) is = is
  refused_stays d (Committing change) is = is
  refused_stays d Releasing is = is
  refused_stays d Ended is = is

  pub within_stays : (ms : List Mark) → All (λ m. place_after m ≤ length old.journal) ms → All (λ m. place_after m ≤ length new.journal) ms
  within_stays ms all = All-weaker (λ m. place_after m ≤ length old.journal) (λ m. place_after m ≤ length new.journal) (λ m le. omega (arith, ap (λ (es : List Entry). length es) mv.journal, length-append old.journal mv.entries)) ms all

  -- the marks of a caller that gets none, or one more
  pub right_same : (d : ℕ) (ms : List Mark) → ((t : ℕ) (m : Mark) → slice_get ms t ≡ Some m → TurnOkSoFar g old d t m) → (t : ℕ) (m : Mark) → slice_get ms t ≡ Some m → TurnOkSoFar g new d t m
  right_same d ms right t m has = turn_stays d t m (right t m has)

  pub right_push : (d : ℕ) (ms : List Mark) (x : Mark) → ((t : ℕ) (m : Mark) → slice_get ms t ≡ Some m → TurnOkSoFar g old d t m) → TurnOkSoFar g new d (length ms) x → (t : ℕ) (m : Mark) → slice_get (ms ++ x ∷ []) t ≡ Some m → TurnOkSoFar g new d t m
  right_push d ms x right last t m has = elim (slice_get-pushed ms x m t has) [
    | inl was ↦ turn_stays d t m (right t m was)
    | inr added ↦ subst (λ (z : ℕ × Mark). TurnOkSoFar g new d z.0 z.1) (λ i. (sym added.0 i, added.1 i)) last
  ]

  module _ (ok : IsSetup g) (s : Sound g old) (last : Config) (framed : IsFramed g.world last) where
    was_framed : IsFramed g.world s.last
    was_framed = run_framed g.verdict g.world s.last old.journal s.valid s.run

    same_area : last.area ≡ s.last.area
    same_area = ap (λ (c : Config). c.area) framed.same.rest ∙ sym (ap (λ (c : Config). c.area) was_framed.same.rest)

    -- what another caller holds is as before
    module _ (d : ℕ) (j : Caller) (known : d < length g.lists.ids) (was : All (Valued s.last) j.held) (is : All (Valued last) j.held) where
      abbrev own : ℕ
      own = bot g d j.turn

      before_stays : (n : CellName) (rest : List CellName) → names j.held ++ n ∷ rest ≡ zone s.last own → (more : List CellName) × (names j.held ++ n ∷ more ≡ zone last own)
      before_stays n rest front =
          let kept = front_kept s.last last own j.held (n ∷ rest) same_area (own_stays g ok d j.turn known s.last was_framed) (own_stays g ok d j.turn known last framed) was is front in
          first kept.0 kept.2 kept.1
        where
          first : (more : List CellName) → slice_get more 0 ≡ Some n → names j.held ++ more ≡ zone last own → (more : List CellName) × (names j.held ++ n ∷ more ≡ zone last own)
          first [] e f = absurd (none-some n e)
          first (m ∷ more) e f = (more, ap (λ x. names j.held ++ x ∷ more) (sym (same_Some m n e)) ∙ f)

      decided_stays : (v : Verdict) → HasDecision g s.last own j.held v → HasDecision g last own j.held v
      decided_stays v by =
          let whole = whole_kept s.last last own j.held same_area (own_stays g ok d j.turn known s.last was_framed) (own_stays g ok d j.turn known last framed) was is by.whole in
          record {
            whole = whole;
            verdict = ap g.verdict (whole_shown last own j.held is whole ∙ ap (λ (x : Config). shown_with x own (Rattle.std.proofs.Common.reverse j.held)) framed.same.rest ∙ ap (λ (x : Config). shown_with x own (Rattle.std.proofs.Common.reverse j.held)) (sym was_framed.same.rest) ∙ sym (whole_shown s.last own j.held was by.whole)) ∙ by.verdict;
          }

      front_stays : (p : Phase) → HasFront g old s.last d j p → HasFront g new last d j p
      front_stays Claim is = let more = before_stays is.0 is.1.0 is.1.1 in (is.0, more)
      front_stays (Refusing n t) is = before_stays n is.0 is.1
      front_stays (Looking l) is = decided_stays (verdict_of l) is
      front_stays (Taking change) is = decided_stays (verdict.Change change) is
      front_stays (Committing change) is = decided_stays (verdict.Change change) is
      front_stays Releasing is = record { told = is.told; marked = is.marked; world = is.world; at = world_stays (place_of is.told) is.world is.at; rest = is.rest; front = is.front; some = is.some }
      front_stays Ended is = is

    -- so are the other callers
    other_ok : (d : ℕ) (j : Caller) → d < length g.lists.ids → CallerOk g old s.last d j → All (IsHeld g new last d j.turn) j.held → (old.holder ≡ Some d → new.holder ≡ Some d) → CallerOk g new last d j
    other_ok d j known was held holder = record {
      turn = was.turn;
      held = held;
      front = front_stays d j known (All-weaker (IsHeld g old s.last d j.turn) (Valued s.last) (λ p h. h.value) j.held was.held) (All-weaker (IsHeld g new last d j.turn) (Valued last) (λ p h. h.value) j.held held) j.phase was.front;
      holder = λ p. holder (was.holder p);
      counted = was.counted;
      right = right_same d j.marks was.right;
      refused = refused_stays d j.phase was.refused;
      rising = was.rising;
      within = within_stays j.marks was.within;
    }

    -- and the state is sound again
    pub moved : Run g.verdict g.world new.journal last → new.values ≡ values_of last → length new.tags ≡ length new.values → Order g.lists new.journal
        → ((place : ℕ) (e : Entry) → slice_get new.journal place ≡ Some e → mark_of_turn (marks_so_far g new) e.caller e.turn ≡ Some (mark.Done place))
        → CallerOk g new last c next
        → ((d : ℕ) (j : Caller) → d ≢ c → slice_get old.callers d ≡ Some j → CallerOk g old s.last d j → All (IsHeld g new last d j.turn) j.held × (old.holder ≡ Some d → new.holder ≡ Some d))
        → ((n : CellName) (t : ℕ) → at new.tags (number g.world.area n) ≡ Some t → t ≢ 0 → Contains (names next.held) n ⊎ ((at old.tags (number g.world.area n) ≡ Some t) × (Contains (names k.held) n → Contains (names next.held) n)))
        → ((d : ℕ) → new.holder ≡ Some d → ((d ≡ c) × IsCommitting next.phase) ⊎ ((d ≢ c) × (old.holder ≡ Some d)))
        → Sound g new
    moved run values tagged order committed mine others owned holds = record {
      valid = s.valid;
      last = last;
      run = run;
      values = values;
      tagged = tagged;
      order = order;
      committed = committed;
      callers = ap (λ (l : List Caller). length l) mv.now ∙ lib.ListN.length-set old.callers c next ∙ s.callers;
      each = λ d j there. elim (get-set_cases old.callers c d next j (ap (λ l. slice_get l d) (sym mv.now) ∙ there)) [
        | inl same ↦ subst (λ (z : ℕ × Caller). CallerOk g new last z.0 z.1) (λ i. (sym same.0 i, same.1 i)) mine
        | inr other ↦
            let stays = others d j other.0 other.1 (s.each d j other.1) in
            let inside = slice_get_within old.callers d j other.1 in
            other_ok d j (omega (arith, s.callers)) (s.each d j other.1) stays.0 stays.1
      ];
      owned = λ n t has some. elim (owned n t has some) [
        | inl held ↦ (c, next, mine_now, held)
        | inr was ↦
            let by = s.owned n t was.0 some in
            elim (cases_eq by.0 c) [
              | inl same ↦
                  let is_k : by.1 ≡ k = one_at (slice_get old.callers c) by.1 k (ap (slice_get old.callers) (sym same) ∙ by.2) mv.at in
                  (c, next, mine_now, was.1 (subst (λ (j : Caller). Contains (names j.held) n) is_k by.3))
              | inr ne ↦ (by.0, by.1, other_now by.0 ne ∙ by.2, by.3)
            ]
      ];
      holder = λ d has. elim (holds d has) [
        | inl mine ↦ (next, ap (slice_get new.callers) mine.0 ∙ mine_now, mine.1)
        | inr other ↦ let by = s.holder d other.1 in (by.0, other_now d other.0 ∙ by.1, by.2)
      ];
    }
