-- A good report of at most one list is what its turns leave one after another: the marks of the only caller follow its entries.
use Rattle.std.proofs.Common.{◌≡◌, ◌≢◌, ℕ, zero, suc, ◌*◌, ◌<◌, ◌≤◌, List, [], ◌∷◌, ◌++◌, length, get_or, take, Some, inl, inr, ap, sym, refl, subst, ◌∙◌, arith}
use Rattle.std.specs.Prelude.{slice_get}
use Rattle.std.specs.List.{All, AllPairs}
use Rattle.std.proofs.Math.Seq.{take-suc}
use Rattle.std.proofs.lemmas.Bool.{cases_lt, cases_eq}
use Rattle.std.proofs.lemmas.List.{append-nil, take_all, length-take-le, nil_from_length}
use Rattle.std.proofs.lemmas.Option.{same_Some, slice_get_within, slice_get-get_or, get_or_from_slice_get}
use Rattle.amoebot_state.specs.declared.verdict.Entry.{Entry}
use Rattle.amoebot_state.specs.declared.verdict.Verdict.{Verdict}
use Rattle.amoebot_state.specs.declared.verdict.Verdict.TheVariants as verdict
use Rattle.amoebot_state.specs.Configs.{Config}
use Rattle.amoebot_state.specs.Zones.{Shown, shown}
use Rattle.amoebot_state.specs.Steps.{Step, Run}
use Rattle.amoebot_state.proofs.Patched.{run_has_one_last}
use Rattle.amoebot_state.specs.declared.verdict.Turned.{Turned}
use Rattle.amoebot_state.specs.declared.verdict.Turned.TheVariants as turned
use Rattle.amoebot_state.specs.SerialTurns.{SerialTurn}
use Rattle.claim_core.specs.declared.marks.Mark.{Mark}
use Rattle.claim_core.specs.declared.marks.Mark.TheVariants as mark
use Rattle.claim_core.specs.declared.report.Report.{Report}
use Rattle.claim_core.specs.Turns.{CallerLists, bot_of_turn, marks_of}
use Rattle.claim_core.specs.Good.{HasVerdict, IsListed, TurnOk, Good, mark_of_turn, place_of, place_after}
use Rattle.claim_core.specs.SerialRuns.{SerialRun, mark_at, entries_by, left_by}
use Rattle.claim_core.specs.Laws.{OneListIsNeverBusy, OneListIsSerial}
use Rattle.claim_core.proofs.Ends.{run_at}
use Rattle.claim_core.proofs.Places.{of_a_list}

-- what holds of two elements of which the one stands before the other
pair_at : {A : Type 0} (R : A → A → Type 0) (xs : List A) (i j : ℕ) (x y : A) → AllPairs R xs → i < j → slice_get xs i ≡ Some x → slice_get xs j ≡ Some y → R x y
pair_at R xs i j x y all lt one two =
    let inside = slice_get_within xs j y two in
    subst (λ z. R z y) (get_or_from_slice_get xs i x y one) (subst (R (get_or xs i y)) (get_or_from_slice_get xs j y y two) (all i j y lt inside))

all_at : {A : Type 0} (P : A → Type 0) (xs : List A) (i : ℕ) (x : A) → All P xs → slice_get xs i ≡ Some x → P x
all_at P xs i x all e = subst P (get_or_from_slice_get xs i x x e) (all i x (slice_get_within xs i x e))

pub never_busy : OneListIsNeverBusy
never_busy f w0 lists report few good caller turn by_caller by_turn by_bot place n has =
    let ok = good.marks.right caller turn (mark.Busy n by_caller by_turn by_bot place) has in
    let own = of_a_list report.turns.marks caller turn (mark.Busy n by_caller by_turn by_bot place) has in
    let inside = slice_get_within report.turns.marks caller own.0 own.1 in
    let size = good.marks.callers in
    let other = ok.1.listed in
    let same : by_caller ≡ caller = omega arith in
    ok.1.other same

module _ (f : Shown → Verdict) (w0 : Config) (lists : CallerLists) (report : Report) (few : length lists.ids ≤ 1) (good : Good f w0 lists report) where
  abbrev journal : List Entry
  journal = report.journal.entries

  abbrev own : List Mark
  own = marks_of report.turns 0

  listed : (place : ℕ) (e : Entry) → slice_get journal place ≡ Some e → IsListed lists e
  listed place e has = all_at (IsListed lists) journal place e good.order.listed has

  -- each entry is the only caller's, and its turn's mark names its place
  only : (place : ℕ) (e : Entry) → slice_get journal place ≡ Some e → e.caller ≡ 0
  only place e has = let is = (listed place e has).caller in omega arith

  done : (place : ℕ) (e : Entry) → slice_get journal place ≡ Some e → slice_get own e.turn ≡ Some (mark.Done place)
  done place e has = ap (λ c. mark_of_turn report.turns c e.turn) (sym (only place e has)) ∙ good.marks.committed place e has

  later : (i j : ℕ) (x y : Entry) → i < j → slice_get journal i ≡ Some x → slice_get journal j ≡ Some y → x.turn < y.turn
  later i j x y lt one two = pair_at (λ a b. a.caller ≡ b.caller → a.turn < b.turn) journal i j x y good.order.rising lt one two (only i x one ∙ sym (only j y two))

  right : (t : ℕ) (m : Mark) → slice_get own t ≡ Some m → TurnOk f w0 lists journal report.turns 0 t m
  right t m has = good.marks.right 0 t m has

  -- the only caller's marks, where there is one
  module _ (some : 0 < length lists.ids) where
    counted : length own ≡ lists.turns
    counted = good.marks.turns 0 [] (let size = good.marks.callers in omega arith)

    follows : (i j : ℕ) (x y : Mark) → i < j → slice_get own i ≡ Some x → slice_get own j ≡ Some y → place_after x ≤ place_of y
    follows i j x y lt one two = pair_at (λ a b. place_after a ≤ place_of b) own i j x y (good.marks.rising 0 [] (let size = good.marks.callers in omega arith)) lt one two

    -- what the first turns left: the first entries, which are those of these turns
    record SoFar (turns : ℕ) : Type 0 where
      place : ℕ
      within : place ≤ length journal
      world : Config
      run : Run f w0 (take place journal) world
      left : SerialRun f w0 lists turns (record { marks = take turns own; entries = take place journal; world = world })
      before : (k : ℕ) (e : Entry) → slice_get journal k ≡ Some e → k < place → e.turn < turns
      behind : (k : ℕ) (e : Entry) → slice_get journal k ≡ Some e → place ≤ k → turns ≤ e.turn

    world_is : (place : ℕ) (one two : Config) → Run f w0 (take place journal) one → Run f w0 (take place journal) two → one ≡ two
    world_is place one two first second = run_has_one_last f w0 (take place journal) one two first second

    -- a turn that commits: its entry is the next one
    commits : (t : ℕ) (so : SoFar t) (place : ℕ) (e : Entry) → slice_get own t ≡ Some (mark.Done place) → slice_get journal place ≡ Some e → e.turn ≡ t → SoFar (suc t)
    commits t so place e marked has turn =
        let next : place ≡ so.place = here in
        let at : slice_get journal so.place ≡ Some e = ap (slice_get journal) (sym next) ∙ has in
        let by = run_at f w0 report.world journal so.place e good.run at in
        let old : so.world ≡ by.0 = world_is so.place so.world by.0 so.run by.1 in
        let full : length (take so.place journal) ≡ so.place = length-take-le so.place journal so.within in
        let inside = slice_get_within journal so.place e at in
        let longer : take (suc so.place) journal ≡ take so.place journal ++ e ∷ [] = take-suc journal so.place e inside ∙ ap (λ x. take so.place journal ++ x ∷ []) (get_or_from_slice_get journal so.place e e at) in
        record {
          place = suc so.place;
          within = omega arith;
          world = by.2.0;
          run = by.2.2;
          left = (
            record { marks = take t own; entries = take so.place journal; world = so.world },
            so.left,
            record {
              turned = turned.Done e;
              made = (
                subst (λ w. Step f w e by.2.0) (sym old) by.2.1,
                record {
                  by = only so.place e at;
                  at = turn;
                  of = (listed so.place e at).bot ∙ (λ i. bot_of_turn lists (only so.place e at i) (turn i));
                },
              );
              marks = take-suc own t (mark.Done place) (slice_get_within own t (mark.Done place) marked) ∙ ap (λ x. take t own ++ x ∷ []) (get_or_from_slice_get own t (mark.Done place) (mark.Done place) marked) ∙ ap (λ n. take t own ++ mark.Done n ∷ []) (next ∙ sym full);
              entries = longer;
            },
          );
          before = λ k x found lt. elim (cases_lt k so.place) [
            | inl less ↦ let b = so.before k x found less in omega arith
            | inr ge ↦
                let same : k ≡ so.place = omega arith in
                let is_e : x ≡ e = same_Some x e (sym found ∙ ap (slice_get journal) same ∙ at) in
                let tx : x.turn ≡ e.turn = ap (λ (y : Entry). y.turn) is_e in
                omega arith
          ];
          behind = λ k x found le. let l = later so.place k e x (omega arith) at found in omega arith;
        }
      where
        here : place ≡ so.place
        here = elim (cases_lt place so.place) [
          | inl less ↦ absurd (let b = so.before place e has less in omega arith)
          | inr ge ↦ elim (cases_lt so.place place) [
            | inl more ↦
                let inside = slice_get_within journal place e has in
                let first : so.place < length journal = omega arith in
                let d = get_or journal so.place e in
                let at : slice_get journal so.place ≡ Some d = slice_get-get_or journal so.place e first in
                absurd (let b = so.behind so.place d at (omega arith) in let l = later so.place place d e more at has in omega arith)
            | inr le ↦ omega arith
          ]
        ]

    -- a turn that commits nothing was made at the same place
    stays : (t : ℕ) (so : SoFar t) (m : Mark) (done_by : Turned) (v : Verdict) → slice_get own t ≡ Some m → m ≡ mark_at (place_of m) done_by → entries_by done_by ≡ [] → ((w : Config) → f (shown w (bot_of_turn lists 0 t)) ≡ v → SerialTurn f 0 t (bot_of_turn lists 0 t) w done_by w) → HasVerdict f w0 journal (place_of m) (bot_of_turn lists 0 t) v → place_after m ≡ place_of m → ((place : ℕ) → m ≡ mark.Done place → ⊥) → SoFar (suc t)
    stays t so m done_by v marked is_mark nothing makes has after not_done =
        let old : so.world ≡ has.0 = world_is so.place so.world has.0 so.run (subst (λ p. Run f w0 (take p journal) has.0) here has.1.reached) in
        let full : length (take so.place journal) ≡ so.place = length-take-le so.place journal so.within in
        record {
          place = so.place;
          within = so.within;
          world = so.world;
          run = so.run;
          left = (
            record { marks = take t own; entries = take so.place journal; world = so.world },
            so.left,
            record {
              turned = done_by;
              made = makes so.world (ap (λ w. f (shown w (bot_of_turn lists 0 t))) old ∙ has.2);
              marks = take-suc own t m (slice_get_within own t m marked) ∙ ap (λ x. take t own ++ x ∷ []) (get_or_from_slice_get own t m m marked ∙ is_mark ∙ ap (λ p. mark_at p done_by) (here ∙ sym full));
              entries = sym (append-nil (take so.place journal)) ∙ ap (λ es. take so.place journal ++ es) (sym nothing);
            },
          );
          before = λ k x found lt. let b = so.before k x found lt in omega arith;
          behind = λ k x found le. let b = so.behind k x found le in let ne = not_turn k x found in omega arith;
        }
      where
        not_turn : (k : ℕ) (x : Entry) → slice_get journal k ≡ Some x → x.turn ≢ t
        not_turn k x found same = not_done k (same_Some m (mark.Done k) (sym marked ∙ ap (slice_get own) (sym same) ∙ done k x found))

        high : so.place ≤ place_of m
        high = elim (cases_eq so.place 0) [
          | inl none ↦ omega arith
          | inr some_before ↦ first so.place refl some_before
        ]
          where
            first : (p : ℕ) → so.place ≡ p → p ≢ 0 → p ≤ place_of m
            first zero e ne = omega arith
            first (suc p) e ne =
                let inside : p < length journal = let w = so.within in omega arith in
                let d : Entry = record { caller = 0; turn = 0; bot = 0; action = 0; moved = Rattle.amoebot_state.specs.declared.verdict.Moved.TheVariants.None; patch = [] } in
                let x = get_or journal p d in
                let at = slice_get-get_or journal p d inside in
                let b = so.before p x at (omega arith) in
                let le = follows x.turn t (mark.Done p) m b (done p x at) marked in
                omega arith

        low : place_of m ≤ so.place
        low = elim (cases_lt so.place (length journal)) [
          | inl inside ↦
              let d : Entry = record { caller = 0; turn = 0; bot = 0; action = 0; moved = Rattle.amoebot_state.specs.declared.verdict.Moved.TheVariants.None; patch = [] } in
              let x = get_or journal so.place d in
              let at = slice_get-get_or journal so.place d inside in
              let b = so.behind so.place x at (omega arith) in
              let ne = not_turn so.place x at in
              let le = follows t x.turn m (mark.Done so.place) (omega arith) marked (done so.place x at) in
              omega arith
          | inr all ↦ let w = has.1.within in omega arith
        ]

        here : place_of m ≡ so.place
        here = omega (arith, low, high)

    turn_made : (t : ℕ) (so : SoFar t) (m : Mark) → slice_get own t ≡ Some m → TurnOk f w0 lists journal report.turns 0 t m → SoFar (suc t)
    turn_made t so (mark.Done place) marked ok = commits t so place ok.0 marked ok.1 ok.3
    turn_made t so (mark.Idle place) marked ok = stays t so (mark.Idle place) turned.Idle verdict.Idle marked refl refl (λ w e. (e, refl)) ok refl (λ p e. cc)
    turn_made t so (mark.Failed why place) marked ok = stays t so (mark.Failed why place) (turned.Failed why) (verdict.Failed why) marked refl refl (λ w e. (e, refl)) ok refl (λ p e. cc)
    turn_made t so (mark.Busy n by_caller by_turn by_bot place) marked ok = absurd (never_busy f w0 lists report few good 0 t by_caller by_turn by_bot place n marked)

    so_far : (t : ℕ) → t ≤ lists.turns → SoFar t
    so_far zero le = record { place = 0; within = omega arith; world = w0; run = refl; left = refl; before = λ k e found lt. absurd (omega arith); behind = λ k e found le. omega arith }
    so_far (suc t) le =
        let m = get_or own t (mark.Idle 0) in
        let marked = slice_get-get_or own t (mark.Idle 0) (omega (arith, counted)) in
        turn_made t (so_far t (omega arith)) m marked (right t m marked)

    pub all_made : SerialRun f w0 lists lists.turns (left_by report)
    all_made =
        let so = so_far lists.turns (omega arith) in
        let all : take so.place journal ≡ journal = take_all so.place journal (whole so) in
        let marks : take lists.turns own ≡ own = take_all lists.turns own (omega (arith, counted)) in
        let world : so.world ≡ report.world = run_has_one_last f w0 journal so.world report.world (subst (λ es. Run f w0 es so.world) all so.run) good.run in
        subst (λ (z : List Mark × List Entry × Config). SerialRun f w0 lists lists.turns (record { marks = z.0; entries = z.1; world = z.2 })) (λ i. (marks i, all i, world i)) so.left
      where
        whole : (so : SoFar lists.turns) → length journal ≤ so.place
        whole so = elim (cases_lt so.place (length journal)) [
          | inl inside ↦
              let d : Entry = record { caller = 0; turn = 0; bot = 0; action = 0; moved = Rattle.amoebot_state.specs.declared.verdict.Moved.TheVariants.None; patch = [] } in
              let x = get_or journal so.place d in
              let at = slice_get-get_or journal so.place d inside in
              absurd (let b = so.behind so.place x at (omega arith) in let lt = (listed so.place x at).turn in omega arith)
          | inr le ↦ le
        ]

  -- without a list there is no mark and no entry
  pub none_made : length lists.ids ≡ 0 → SerialRun f w0 lists 0 (left_by report)
  none_made none =
      let no_marks : report.turns.marks ≡ [] = nil_from_length report.turns.marks (good.marks.callers ∙ none) in
      let no_entries : journal ≡ [] = nil_from_length journal (elim (cases_eq (length journal) 0) [
        | inl e ↦ e
        | inr ne ↦
            let d : Entry = record { caller = 0; turn = 0; bot = 0; action = 0; moved = Rattle.amoebot_state.specs.declared.verdict.Moved.TheVariants.None; patch = [] } in
            absurd (let lt = (good.order.listed 0 d (omega arith)).caller in omega arith)
      ]) in
      let world : report.world ≡ w0 = subst (λ es. Run f w0 es report.world) no_entries good.run in
      λ i. record { marks = get_or (no_marks i) 0 []; entries = no_entries i; world = world i }

pub one_list_is_serial : OneListIsSerial
one_list_is_serial f w0 lists report few good = by (length lists.ids) refl
  where
    by : (n : ℕ) → length lists.ids ≡ n → SerialRun f w0 lists (n * lists.turns) (left_by report)
    by zero e = subst (λ n. SerialRun f w0 lists n (left_by report)) (let z : 0 ≡ 0 * lists.turns = omega arith in z) (none_made f w0 lists report few good e)
    by (suc zero) e = subst (λ n. SerialRun f w0 lists n (left_by report)) (let z : lists.turns ≡ 1 * lists.turns = omega arith in z) (all_made f w0 lists report few good (omega arith))
    by (suc (suc n)) e = absurd (omega arith)
