-- Looks at the journal's length and releases: the caller frees its cells, and then its next turn begins.
use Rattle.std.proofs.Common.{◌≡◌, ◌≢◌, ℕ, ◌+◌, ◌<◌, ◌≤◌, Bool, true, false, List, [], ◌∷◌, ◌++◌, length, Some, inl, inr, ap, sym, refl, subst, ◌∙◌, arith, length-append, ltb-true}
use Rattle.std.specs.Prelude.{slice_get, IsSome, nat_lt, if◌then◌else◌}
use Rattle.std.specs.List.{All, AllPairs, Contains}
use Rattle.std.proofs.lemmas.Bool.Decides.{nat_tests}
use Rattle.std.proofs.lemmas.List.{append-nil, append_assoc}
use Rattle.std.proofs.lemmas.List.Elements.{All-nil, All-head, All-tail, All-push, All-get_or, Contains-append_left}
use Rattle.std.proofs.lemmas.List.Quantifiers.{all_pairs_push}
use Rattle.amoebot_state.specs.declared.cell.CellName.{CellName}
use Rattle.amoebot_state.specs.declared.cell.CellName.TheVariants as name
use Rattle.amoebot_state.specs.declared.cell.Cell.{Cell}
use Rattle.amoebot_state.specs.Pairs.{Pairs, cell_of}
use Rattle.amoebot_state.specs.Configs.{Config, bot_at}
use Rattle.amoebot_state.specs.Zones.{zone}
use Rattle.amoebot_state.proofs.Fronts.{slice_get_behind}
use Rattle.amoebot_state.proofs.Zones.{zone_is}
use Rattle.amoebot_state.proofs.Members.{Has, Contains-from_Has, here, Has-append_right}
use Rattle.amoebot_state.proofs.Options.{there_is}
use Rattle.amoebot_state.proofs.Patched.{length_put_at}
use Rattle.claim_core.specs.declared.marks.Mark.{Mark}
use Rattle.claim_core.specs.declared.marks.Mark.TheVariants as mark
use Rattle.claim_core.specs.declared.state.Look.{Look}
use Rattle.claim_core.specs.declared.state.Look.TheVariants as look
use Rattle.claim_core.specs.declared.state.Phase.TheVariants.{Claim, Refusing, Looking, Releasing, Ended}
use Rattle.claim_core.specs.declared.state.Caller.{Caller}
use Rattle.amoebot_state.specs.Steps.{IsWorldAt}
use Rattle.claim_core.specs.Good.{HasInZone, place_of, place_after}
use Rattle.claim_core.specs.Cells.{number, at}
use Rattle.claim_core.specs.Machine.{Setup, State, bot, own_tag, opening_phase, freeing_caller, looks, mark_of_look, busy_mark, releases}
use Rattle.claim_core.specs.Soundness.{IsSetup, names, IsCommitting, marked, IsTurn, TurnOkSoFar, IsReleasingCaller, HasFront, IsHeld, CallerOk, Sound}
use Rattle.amoebot_state.proofs.Stays.{world_last}
use Rattle.claim_core.proofs.Places.{at-put_else, at-put_cases}
use Rattle.claim_core.proofs.Numbers.{same_number}
use Rattle.claim_core.proofs.Nexts.{frees-marks, frees-held}
use Rattle.claim_core.proofs.Fronts.{names-more, not_twice}
use Rattle.claim_core.proofs.Frames.{IsFramed, own_stays}
use Rattle.claim_core.proofs.Moved.{Moves, right_same, right_push}
use Rattle.claim_core.proofs.HolderLemmas.{framed, is_known, one_owner}
use Rattle.claim_core.proofs.Claims.{same_held, plain, not_holder}

-- a zone begins with a cell
pub zone_begins : (c : Config) (i : ℕ) → IsSome (bot_at c i) → (n : CellName) × ((rest : List CellName) × (n ∷ rest ≡ zone c i))
zone_begins c i there = let own = there_is (bot_at c i) there in (name.Body i, (_, sym (zone_is c i own.0 own.1)))

-- what holds of a caller that has the mark of its turn and goes on to free its cells
pub record Marked (g : Setup) (new : State) (last : Config) (c t : ℕ) (cells : Pairs) (marks : List Mark) : Type 0 where
  pub turn : t < g.lists.turns
  pub known : c < length g.lists.ids
  pub held : All (IsHeld g new last c t) cells
  pub counted : length marks ≡ t + 1
  pub right : (u : ℕ) (m : Mark) → slice_get marks u ≡ Some m → TurnOkSoFar g new c u m
  pub rising : AllPairs (λ one later. place_after one ≤ place_of later) marks
  pub within : All (λ m. place_after m ≤ length new.journal) marks
  pub told : Mark
  pub last_mark : slice_get marks t ≡ Some told
  pub world : Config
  pub at : IsWorldAt g.verdict g.world new.journal (place_of told) world
  pub rest : List CellName
  pub front : names cells ++ rest ≡ zone world (bot g c t)

module _ (g : Setup) (ok : IsSetup g) (new : State) (last : Config) (is_framed : IsFramed g.world last) (c : ℕ) where
  -- a turn that begins
  pub opens_ok : (t : ℕ) (marks : List Mark) → t ≤ g.lists.turns → c < length g.lists.ids → length marks ≡ t → ((u : ℕ) (m : Mark) → slice_get marks u ≡ Some m → TurnOkSoFar g new c u m) → AllPairs (λ one later. place_after one ≤ place_of later) marks → All (λ m. place_after m ≤ length new.journal) marks → CallerOk g new last c (Rattle.claim_core.specs.Machine.caller t (opening_phase g t) [] marks)
  opens_ok t marks le known count right rising within = by (nat_lt t g.lists.turns) refl
    where
      by : (b : Bool) → nat_lt t g.lists.turns ≡ b → CallerOk g new last c (Rattle.claim_core.specs.Machine.caller t (if b then Claim else Ended) [] marks)
      by true lt = record { turn = ltb-true t g.lists.turns lt; held = All-nil (IsHeld g new last c t); front = zone_begins last (bot g c t) (own_stays g ok c t known last is_framed); holder = λ h. absurd h; counted = count; right = right; refused = tt; rising = rising; within = within }
      by false ge = record { turn = grind (arith, nat_tests); held = All-nil (IsHeld g new last c t); front = refl; holder = λ h. absurd h; counted = count; right = right; refused = tt; rising = rising; within = within }

  pub frees_ok : (t : ℕ) (held : Pairs) (marks : List Mark) → Marked g new last c t held marks → CallerOk g new last c (freeing_caller g t held marks)
  frees_ok t [] marks is = opens_ok (t + 1) marks (let lt = is.turn in omega arith) is.known is.counted is.right is.rising is.within
  frees_ok t (p ∷ held) marks is = record {
    turn = is.turn;
    held = is.held;
    front = record { told = is.told; marked = is.last_mark; world = is.world; at = is.at; rest = is.rest; front = is.front; some = omega arith };
    holder = λ h. absurd h;
    counted = is.counted;
    right = is.right;
    refused = tt;
    rising = is.rising;
    within = is.within;
  }

module _ (g : Setup) (ok : IsSetup g) (old : State) (s : Sound g old) (c : ℕ) (k : Caller) (there : slice_get old.callers c ≡ Some k) where
  abbrev is : CallerOk g old s.last c k
  is = s.each c k there

  abbrev own : ℕ
  own = bot g c k.turn

  known : c < length g.lists.ids
  known = is_known g ok old s c k there

  -- the world before the next entry
  here_now : IsWorldAt g.verdict g.world old.journal (length old.journal) s.last
  here_now = world_last g.verdict g.world s.last old.journal s.run

  -- a look at the journal's length
  looks_sound : (m : Mark) (rest : List CellName) → k.turn < g.lists.turns → length k.marks ≡ k.turn → (IsCommitting k.phase → ⊥) → names k.held ++ rest ≡ zone s.last own → place_of m ≡ length old.journal → place_after m ≡ length old.journal → TurnOkSoFar g old c k.turn m → Sound g (looks g c old k m)
  looks_sound m rest turns count free front place after true_of =
      plain g ok old s c k there new next mv refl refl refl (frees_ok g ok new s.last (framed g ok old s) c k.turn k.held more marked_now)
      (λ d j ne at o. (same_held g ok old s c k there new d j.turn j.held refl o.held, λ h. h)) (λ n u has some. inr (has, λ h. subst (λ ps. Contains (names ps) n) (sym (frees-held g k.turn k.held more)) h))
      (λ d has. inr ((λ e. not_holder g ok old s c k there k.phase refl free d e has), has))
    where
      more : List Mark
      more = k.marks ++ m ∷ []

      next : Caller
      next = freeing_caller g k.turn k.held more

      new : State
      new = looks g c old k m

      last_mark : slice_get more k.turn ≡ Some m
      last_mark = ap (slice_get more) (sym count) ∙ slice_get_behind k.marks m []

      in_zone : (n : CellName) → Contains (names k.held) n → HasInZone g.verdict g.world old.journal (place_of m) own n
      in_zone n has = (s.last, subst (λ p. IsWorldAt g.verdict g.world old.journal p s.last) (sym place) here_now, subst (λ ns. Contains ns n) front (Contains-append_left (names k.held) rest n has))

      mv : Moves g old new c k next
      mv = record {
        at = there;
        now = refl;
        entries = [];
        journal = sym (append-nil old.journal);
        added = m ∷ [];
        marks = frees-marks g k.turn k.held more;
        keeps = λ n has e. inr (m, ap (λ ms. slice_get ms k.turn) (frees-marks g k.turn k.held more) ∙ last_mark, in_zone n has);
      }

      marked_now : Marked g new s.last c k.turn k.held more
      marked_now = record {
        turn = turns;
        known = known;
        held = same_held g ok old s c k there new c k.turn k.held refl is.held;
        counted = omega (arith, length-append k.marks (m ∷ []));
        right = right_push g old new c k next mv c k.marks m is.right (subst (λ u. TurnOkSoFar g new c u m) (sym count) (Rattle.claim_core.proofs.Moved.turn_stays g old new c k next mv c k.turn m true_of));
        rising = all_pairs_push (λ one later. place_after one ≤ place_of later) k.marks m is.rising (λ i d inside. let le = All-get_or (λ x. place_after x ≤ length old.journal) k.marks i d inside is.within in omega arith);
        within = All-push (λ x. place_after x ≤ length old.journal) k.marks m is.within (omega arith);
        told = m;
        last_mark = last_mark;
        world = s.last;
        at = subst (λ p. IsWorldAt g.verdict g.world old.journal p s.last) (sym place) here_now;
        rest = rest;
        front = front;
      }

  -- after a refusal
  pub refusing : (n : CellName) (t : ℕ) → k.phase ≡ Refusing n t → Sound g (looks g c old k (busy_mark n t (length old.journal)))
  refusing n t p =
      let front = subst (HasFront g old s.last c k) p is.front in
      let holder = (subst (Rattle.claim_core.specs.Soundness.IsRefusedPhase g old c) p is.refused).1 in
      looks_sound (busy_mark n t (length old.journal)) (n ∷ front.0) (subst (λ q. IsTurn g.lists.turns q k.turn) p is.turn) (is.counted ∙ ap (λ q. marked q k.turn) p) (λ h. subst IsCommitting p h) front.1 refl refl
      ((s.last, here_now, Contains-from_Has (zone s.last own) (subst (Has n) front.1 (Has-append_right (names k.held) here))), holder)

  -- after a decision that changes nothing
  pub looking : (l : Look) → k.phase ≡ Looking l → Sound g (looks g c old k (mark_of_look l (length old.journal)))
  looking look.Idle p =
      let by = subst (HasFront g old s.last c k) p is.front in
      looks_sound (mark.Idle (length old.journal)) [] (subst (λ q. IsTurn g.lists.turns q k.turn) p is.turn) (is.counted ∙ ap (λ q. marked q k.turn) p) (λ h. subst IsCommitting p h) (append-nil (names k.held) ∙ by.whole) refl refl (s.last, here_now, by.verdict)
  looking (look.Failed why) p =
      let by = subst (HasFront g old s.last c k) p is.front in
      looks_sound (mark.Failed why (length old.journal)) [] (subst (λ q. IsTurn g.lists.turns q k.turn) p is.turn) (is.counted ∙ ap (λ q. marked q k.turn) p) (λ h. subst IsCommitting p h) (append-nil (names k.held) ∙ by.whole) refl refl (s.last, here_now, by.verdict)

  -- the cell that was won last is freed
  pub releases_sound : (p : CellName × Cell) (held : Pairs) → k.phase ≡ Releasing → k.held ≡ p ∷ held → Sound g (releases g c old k (p ∷ held))
  releases_sound p held ph is_held =
      plain g ok old s c k there new next mv refl refl (length_put_at old.tags (number g.world.area (cell_of p)) 0) (frees_ok g ok new s.last (framed g ok old s) c k.turn held k.marks marked_now)
      (λ d j ne found o. (still d j found ne, λ h. h))
      (λ n u has some. elim (at-put_cases old.tags (number g.world.area (cell_of p)) (number g.world.area n) 0 u has) [
        | inl same ↦ absurd (some (sym same.1))
        | inr was ↦ inr (was.1, λ h. subst (λ ps. Contains (names ps) n) (sym (frees-held g k.turn held k.marks)) (left n (λ e. was.0 (ap (number g.world.area) e)) h))
      ])
      (λ d has. inr ((λ e. not_holder g ok old s c k there Releasing ph (λ h. h) d e has), has))
    where
      next : Caller
      next = freeing_caller g k.turn held k.marks

      new : State
      new = releases g c old k (p ∷ held)

      freeing : IsReleasingCaller g old c k.turn k.held k.marks
      freeing = subst (HasFront g old s.last c k) ph is.front

      count : length k.marks ≡ k.turn + 1
      count = is.counted ∙ ap (λ q. marked q k.turn) ph

      all_held : All (IsHeld g old s.last c k.turn) (p ∷ held)
      all_held = subst (All (IsHeld g old s.last c k.turn)) is_held is.held

      own_has : at old.tags (number g.world.area (cell_of p)) ≡ Some (own_tag g c k.turn)
      own_has = (All-head (IsHeld g old s.last c k.turn) p held all_held).tag

      names_are : names k.held ≡ names held ++ cell_of p ∷ []
      names_are = ap names is_held ∙ names-more p held

      front : names held ++ cell_of p ∷ freeing.rest ≡ zone freeing.world own
      front = sym (append_assoc (names held) (cell_of p ∷ []) freeing.rest) ∙ ap (λ ns. ns ++ freeing.rest) (sym names_are) ∙ freeing.front

      -- the cells that are still held
      left : (n : CellName) → n ≢ cell_of p → Contains (names k.held) n → Contains (names held) n
      left n ne has = elim (Rattle.std.proofs.lemmas.List.Elements.Contains-push_cases (names held) (cell_of p) n (subst (λ ns. Contains ns n) names_are has)) [ inl was ↦ was | inr same ↦ absurd (ne (sym same)) ]

      mv : Moves g old new c k next
      mv = record {
        at = there;
        now = refl;
        entries = [];
        journal = sym (append-nil old.journal);
        added = [];
        marks = frees-marks g k.turn held k.marks ∙ sym (append-nil k.marks);
        keeps = λ n has e. absurd (omega (arith, count));
      }

      -- a cell with another number keeps its tag
      kept : (d t : ℕ) (q : CellName × Cell) → cell_of q ≢ cell_of p → IsHeld g old s.last d t q → IsHeld g new s.last d t q
      kept d t q ne h = record { tag = at-put_else old.tags (number g.world.area (cell_of p)) (number g.world.area (cell_of q)) 0 (λ e. ne (same_number g.world.area old.tags (cell_of p) (cell_of q) (own_tag g c k.turn) own_has e)) ∙ h.tag; value = h.value }

      last_held : Contains (names k.held) (cell_of p)
      last_held = subst (λ ns. Contains ns (cell_of p)) (sym names_are) (Rattle.std.proofs.lemmas.List.Elements.Contains-push (names held) (cell_of p))

      still : (d : ℕ) (j : Caller) → slice_get old.callers d ≡ Some j → d ≢ c → All (IsHeld g new s.last d j.turn) j.held
      still d j found ne = Rattle.amoebot_state.proofs.Members.All-from_Has (IsHeld g new s.last d j.turn) j.held (λ q has.
          kept d j.turn q (λ e. ne (one_owner g ok old s d c j k found there (cell_of p) (subst (Contains (names j.held)) e (Rattle.claim_core.proofs.Fronts.held_named j.held q has)) last_held))
          (Rattle.std.proofs.lemmas.List.Elements.All-contains (IsHeld g old s.last d j.turn) j.held q (s.each d j found).held (Contains-from_Has j.held has)))

      rest_held : All (IsHeld g new s.last c k.turn) held
      rest_held = Rattle.amoebot_state.proofs.Members.All-from_Has (IsHeld g new s.last c k.turn) held (λ q has.
          kept c k.turn q (λ e. not_twice freeing.world own (names held) freeing.rest (cell_of p) front (subst (Contains (names held)) e (Rattle.claim_core.proofs.Fronts.held_named held q has)))
          (Rattle.std.proofs.lemmas.List.Elements.All-contains (IsHeld g old s.last c k.turn) held q (All-tail (IsHeld g old s.last c k.turn) p held all_held) (Contains-from_Has held has)))

      marked_now : Marked g new s.last c k.turn held k.marks
      marked_now = record {
        turn = subst (λ q. IsTurn g.lists.turns q k.turn) ph is.turn;
        known = known;
        held = rest_held;
        counted = count;
        right = right_same g old new c k next mv c k.marks is.right;
        rising = is.rising;
        within = is.within;
        told = freeing.told;
        last_mark = freeing.marked;
        world = freeing.world;
        at = freeing.at;
        rest = cell_of p ∷ freeing.rest;
        front = front;
      }
