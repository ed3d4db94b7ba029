-- The code's steps are those of the machine.
use Rattle.std.proofs.Common.{◌≡◌, ◌≢◌, ℕ, zero, suc, ◌+◌, ◌<◌, ◌≤◌, List, [], ◌∷◌, ◌++◌, map, reverse, length, get_or, set, Option, Some, None, inl, inr, ap, sym, refl, subst, ◌∙◌, arith, ne_eqb}
use Rattle.std.specs.Prelude.{slice_get, slice_set, IsSome, if◌then◌else◌}
use Rattle.std.proofs.lemmas.Bool.{eq-eqb, cases_lt}
use Rattle.std.specs.List.{All}
use Rattle.std.proofs.lemmas.List.{reverse-append, reverse-reverse, length-reverse, map-append, get_or_past}
use Rattle.std.proofs.lemmas.List.Elements.{All-head, All-tail, All-weaker}
use Rattle.std.specs.Option.{option_map}
use Rattle.std.proofs.lemmas.Option.{none-some, same_Some, slice_get_within, slice_get_read, slice_get-get_or}
use Rattle.tri_lattice.specs.Extent.{Extent}
use Rattle.amoebot_state.specs.declared.cell.CellName.{CellName}
use Rattle.amoebot_state.specs.declared.cell.CellName.TheVariants as name
use Rattle.amoebot_state.specs.declared.cell.Cell.{Cell}
use Rattle.amoebot_state.specs.declared.verdict.Change.{Change}
use Rattle.amoebot_state.specs.declared.verdict.Entry.{Entry}
use Rattle.amoebot_state.specs.declared.verdict.Verdict.{Verdict}
use Rattle.amoebot_state.specs.declared.verdict.Verdict.TheVariants as decision
use Rattle.amoebot_state.specs.Pairs.{Pairs, plain_patch}
use Rattle.amoebot_state.specs.declared.cell.Cell.TheVariants as cell
use Rattle.amoebot_state.specs.Configs.{Config, IsValid, bot_at, value}
use Rattle.amoebot_state.specs.Patches.{IsPatched, HasPatched}
use Rattle.amoebot_state.proofs.Patched.{run_has_one_last}
use Rattle.amoebot_state.specs.Known.{AreReadInOrder, next_cell}
use Rattle.amoebot_state.specs.Ways.{Reading, reading}
use Rattle.amoebot_state.specs.Zones.{Shown, IsShown, shown_with, shown}
use Rattle.amoebot_state.specs.Steps.{Run}
use Rattle.amoebot_state.specs.Storage.{put_at}
use Rattle.claim_core.specs.declared.marks.Mark.{Mark}
use Rattle.claim_core.specs.declared.marks.Mark.TheVariants as mark
use Rattle.claim_core.specs.declared.machine.CoreCaller.{CoreCaller}
use Rattle.claim_core.specs.declared.state.Phase.{Phase}
use Rattle.claim_core.specs.declared.state.Phase.TheVariants as phase
use Rattle.claim_core.specs.declared.state.Caller.{Caller}
use Rattle.claim_core.specs.Limits.{most_turns}
use Rattle.claim_core.specs.Turns.{CallerLists, MarkLists, Kept}
use Rattle.claim_core.specs.Tags.{tag, tag_caller}
use Rattle.claim_core.specs.declared.state.Look.{Look}
use Rattle.claim_core.specs.Cells.{number, at, held_by, values_of, patched}
use Rattle.claim_core.specs.Machine.{Setup, State, bot, own_tag, entry, patched_pair, looks, mark_of_look, busy_mark, found, next_of, after_win, caller_with_cell, wins, claims, finds, tries, with_caller, freeing_caller, takes, releases, by_phase, acts, next, after}
use Rattle.claim_core.specs.Soundness.{IsSetup, IsTurn, IsRefusedPhase, marked, HasDecision, HasFront, IsHeld, Sound}
use Rattle.claim_core.specs.Cores.{Running, setup_of, stepped, phase_after, IsCell, HasPhase, IsUnmarked, looks_at, caller_with, callers_with, Frees, unmarked, state_of, KeepsZone, KeepZones, IsCore}
use Rattle.claim_core.proofs.Sounds.{one_step, always}
use Rattle.claim_core.proofs.Fronts.{Valued, All-reverse, reverse-more}
use Rattle.amoebot_state.proofs.Runs.{run_push}
use Rattle.claim_core.proofs.Frames.{run_framed, own_stays}
use Rattle.claim_core.proofs.HolderLemmas.{is_known}
use Rattle.claim_core.proofs.Numbers.{value_at, value_held, value_patched, values-patched}
use Rattle.claim_core.proofs.ClaimLemmas.{won_in_order, won_shown}
use Rattle.claim_core.proofs.Ranks.{length-values, front, next_is_there, few, placed}
use Rattle.claim_core.proofs.Seats.{length-callers, callers-at, callers-set, callers-set_both, callers-marks_at, frees-is, unmarked-set, zones_set, frees_zone}

-- a caller that has no mark for its turn yet is in one
pub turn_below : (turns : ℕ) (callers : List Caller) (c n : ℕ) (k : Caller) → IsUnmarked turns callers c → slice_get callers c ≡ Some k → n ≡ turns → k.turn < n
turn_below turns callers c n k has there same = let mine : has.record_of.turn ≡ k.turn = ap (λ (j : Caller). j.turn) (same_Some has.record_of k (sym has.there ∙ there)) in let lt = has.turn in omega arith

-- a list turned round
pub reverse-map : {A B : Type 0} (f : A → B) (xs : List A) → reverse (map f xs) ≡ map f (reverse xs)
reverse-map f [] = refl
reverse-map f (x ∷ xs) = reverse-more (f x) (map f xs) ∙ ap (λ ys. ys ++ f x ∷ []) (reverse-map f xs) ∙ sym (map-append f (reverse xs) (x ∷ [])) ∙ ap (map f) (sym (reverse-more x xs))

-- a step leaves the number of callers
pub length-stepped : {D : Type 0} (verdict : D → Shown → Verdict) (c : ℕ) (old new : Running D) → IsSetup (setup_of verdict old) → Sound (setup_of verdict old) old.state → new ≡ stepped verdict c old → length new.state.callers ≡ length old.state.callers
length-stepped {D} verdict c old new ok sound made = ap (λ (r : Running D). length r.state.callers) made ∙ (one_step (setup_of verdict old) ok old.state sound c).callers ∙ sym sound.callers

-- what contracts see after a step
pub closes : {D : Type 0} (verdict : D → Shown → Verdict) (decider : D) (first new_first : Config) (lists : CallerLists) (old new : State) (now : Running D) (c : ℕ) → (let r : Running D = record { decider = decider; first = first; lists = lists; state = old } in r) ≡ now → new_first ≡ first → new ≡ next (record { verdict = verdict decider; world = first; lists = lists }) c old → (let r : Running D = record { decider = decider; first = new_first; lists = lists; state = new } in r) ≡ stepped verdict c now
closes {D} verdict decider first new_first lists old new now c view same step =
    (λ i. record { decider = decider; first = same i; lists = lists; state = step i }) ∙ ap (stepped verdict c) view

-- cells that are not none
pub some_held : (cells : Pairs) → length cells ≢ 0 → 0 < length cells
some_held [] ne = absurd (ne refl)
some_held (p ∷ cells) ne = omega arith

-- what is not Claim
pub committing_past : (change : Change) → phase.Committing change ≡ phase.Claim → ⊥
committing_past change e = cc

pub refusing_past : (n : CellName) (t : ℕ) → phase.Refusing n t ≡ phase.Claim → ⊥
refusing_past n t e = cc

-- the caller has a seat, and it is this one, at its place
pub record IsSeatOf (seats : List CoreCaller) (c i : ℕ) (seat : CoreCaller) : Type 0 where
  pub same : i ≡ c
  pub inside : c < length seats
  pub read : seat ≡ get_or seats i seat

pub its_seat : {seats : List CoreCaller} (c i : ℕ) (seat : CoreCaller) → i ≡ c → c < length seats → seat ≡ get_or seats i seat → IsSeatOf seats c i seat
its_seat c i seat same inside read = record { same = same; inside = inside; read = read }

-- the core keeps what it keeps
pub kept : {verdict : Shown → Verdict} {lists : CallerLists} {tags tags' : List ℕ} {world world' : Config} {journal journal' : Kept} {holder holder' : Option ℕ} {seats seats' : List CoreCaller} {marks marks' : MarkLists} → IsCore verdict lists tags world journal holder seats marks → (c : ℕ)
    → journal'.first ≡ journal.first → state_of tags' world' journal' holder' seats' marks' ≡ next (record { verdict = verdict; world = journal.first; lists = lists }) c (state_of tags world journal holder seats marks)
    → Run verdict journal'.first journal'.entries world' → marks'.turns ≡ lists.turns → length marks'.marks ≡ length seats' → unmarked lists.turns marks'.marks ≤ journal'.spare → length journal'.entries + unmarked lists.turns marks'.marks ≤ most_turns → KeepZones journal.first.area lists seats'
    → IsCore verdict lists tags' world' journal' holder' seats' marks'
kept {verdict} {lists} {tags} {tags'} {world} {world'} {journal} {journal'} {holder} {holder'} {seats} {seats'} {marks} {marks'} is c first step run turns each room few zones = record {
  setup = subst (λ w. let g : Setup = record { verdict = verdict; world = w; lists = lists } in IsSetup g) (sym first) is.setup;
  steps = c ∷ is.steps;
  reached = step ∙ ap (next (record { verdict = verdict; world = journal.first; lists = lists }) c) is.reached ∙ (λ j. after (record { verdict = verdict; world = sym first j; lists = lists }) (c ∷ is.steps));
  run = run;
  turns = turns;
  each = each;
  room = room;
  few = few;
  zones = subst (λ (w : Config). KeepZones w.area lists seats') (sym first) zones;
}

module _ {verdict : Shown → Verdict} {lists : CallerLists} {tags : List ℕ} {world : Config} {journal : Kept} {holder : Option ℕ} {seats : List CoreCaller} {marks : MarkLists} (is : IsCore verdict lists tags world journal holder seats marks) where
  abbrev pub g : Setup
  g = record { verdict = verdict; world = journal.first; lists = lists }

  abbrev pub old : State
  old = state_of tags world journal holder seats marks

  pub is_sound : Sound g old
  is_sound = subst (Sound g) (sym is.reached) (always g is.setup is.steps)

  -- the world has the first one's area
  pub same_extent : world.area ≡ journal.first.area
  same_extent = ap (λ (w : Config). w.area) (run_framed verdict journal.first world journal.entries is.setup.valid is.run).same.rest

  -- the callers that contracts see
  pub seen : {D : Type 0} (now : Running D) (r : Running D) → r ≡ now → r.state ≡ old → (c : ℕ) (p : Phase) → HasPhase now.state.callers c p → HasPhase old.callers c p
  seen now r view is_old c p has = subst (λ (s : State). HasPhase s.callers c p) (ap (λ (x : Running _). x.state) (sym view) ∙ is_old) has

  -- a caller is one of the seats
  pub seated : (c : ℕ) → c < length old.callers → c < length seats
  seated c lt = omega (arith, length-callers seats marks.marks is.each)

  pub seated_in : (c : ℕ) (p : Phase) → HasPhase old.callers c p → c < length seats
  seated_in c p has = seated c (slice_get_within old.callers c has.0 has.1)

  -- a caller that contracts see is one of the seats
  pub there_in : {D : Type 0} {now r : Running D} → r ≡ now → r.state ≡ old → {c : ℕ} → c < length now.state.callers → c < length seats
  there_in view is_old {c} lt = seated c (subst (λ (s : State). c < length s.callers) (ap (λ (x : Running _). x.state) (sym view) ∙ is_old) lt)

  pub inside_in : {D : Type 0} {now r : Running D} → r ≡ now → r.state ≡ old → (c : ℕ) (p : Phase) → HasPhase now.state.callers c p → c < length seats
  inside_in {D} {now} {r} view is_old c p has = seated_in c p (seen now r view is_old c p has)

  -- and so is one in a phase, with this seat
  pub seat_in : {D : Type 0} {now r : Running D} → r ≡ now → r.state ≡ old → (c : ℕ) (p : Phase) → HasPhase now.state.callers c p → (i : ℕ) (seat : CoreCaller) → i ≡ c → seat ≡ get_or seats i seat → IsSeatOf seats c i seat
  seat_in view is_old c p has i seat same read = its_seat c i seat same (inside_in view is_old c p has) read

  pub seated_unmarked : (c : ℕ) → IsUnmarked lists.turns old.callers c → c < length seats
  seated_unmarked c has = seated c (slice_get_within old.callers c has.record_of has.there)

  -- a caller's marks where its turn has none yet
  pub unmarked_count : (c : ℕ) → IsUnmarked lists.turns old.callers c → length (get_or marks.marks c []) < lists.turns
  unmarked_count c has = omega (arith, has.turn, has.counted, ap (λ (ms : List Mark). length ms) (callers-marks_at seats marks.marks c has.record_of has.there))

  -- one more mark
  pub room_after : (c : ℕ) (m : Mark) → IsUnmarked lists.turns old.callers c → unmarked lists.turns (set marks.marks c (get_or marks.marks c [] ++ m ∷ [])) + 1 ≡ unmarked lists.turns marks.marks
  room_after c m has = unmarked-set lists.turns c marks.marks m (let inside = seated_unmarked c has in omega (arith, is.each)) (unmarked_count c has)

  module _ {c i : ℕ} {seat : CoreCaller} (here : IsSeatOf seats c i seat) where
    abbrev pub own_marks : List Mark
    own_marks = get_or marks.marks c []

    abbrev pub k : Caller
    k = caller_with seat own_marks

    pub there : slice_get old.callers c ≡ Some k
    there = callers-at seats marks.marks c seat is.each here.inside (here.read ∙ ap (λ j. get_or seats j seat) here.same)

    -- its phase is the seat's
    pub phase_is : (p : Phase) → HasPhase old.callers c p → seat.phase ≡ p
    phase_is p has = ap (λ (j : Caller). j.phase) (same_Some k has.0 (sym there ∙ has.1)) ∙ has.2

    pub phase_in : {D : Type 0} {now r : Running D} → r ≡ now → r.state ≡ old → (p : Phase) → HasPhase now.state.callers c p → seat.phase ≡ p
    phase_in {D} {now} {r} view is_old p has = phase_is p (seen now r view is_old c p has)

    -- a caller that has not ended is in a turn
    pub in_a_turn : (p : Phase) → seat.phase ≡ p → (turn : IsTurn lists.turns p seat.turn) × Unit {0}
    in_a_turn p e = (subst (λ q. IsTurn lists.turns q seat.turn) e (is_sound.each c k there).turn, tt)

    -- nor has that turn its mark yet, in the phases where marks are as many as turns before
    unmarked_in : (p : Phase) → seat.phase ≡ p → (IsTurn lists.turns p seat.turn → seat.turn < lists.turns) → marked p seat.turn ≡ seat.turn → IsUnmarked lists.turns old.callers c
    unmarked_in p e below as_many =
        let mine = is_sound.each c k there in
        record { record_of = k; there = there; turn = below (subst (λ q. IsTurn lists.turns q seat.turn) e mine.turn); counted = mine.counted ∙ ap (λ q. marked q seat.turn) e ∙ as_many }

    pub seats_put : (new : CoreCaller) → callers_with (set seats i new) marks.marks ≡ slice_set old.callers c (caller_with new own_marks)
    seats_put new = ap (λ j. callers_with (set seats j new) marks.marks) here.same ∙ callers-set seats marks.marks c new

    -- the step is that of its phase
    pub next_in : (p : Phase) → seat.phase ≡ p → next g c old ≡ by_phase g c old k p
    next_in p e = ap (acts g c old) there ∙ ap (by_phase g c old k) e

    -- the journal is taken
    pub taken : (new : CoreCaller) (change : Change) → seat.phase ≡ phase.Taking change → holder ≡ None → new.turn ≡ seat.turn → new.phase ≡ phase.Committing change → new.held.items ≡ seat.held.items → state_of tags world journal (Some c) (set seats i new) marks ≡ next g c old
    taken new change e free turn ph held =
        (λ j. record old { holder = Some c; callers = (seats_put new ∙ ap (slice_set old.callers c) (λ l. record k { turn = turn l; phase = ph l; held = reverse (held l) })) j })
        ∙ sym (next_in (phase.Taking change) e ∙ ap (takes g c old k change) free)

    -- a look: the turn has its mark
    pub settled : (new : CoreCaller) (m : Mark) (marks' : MarkLists) → Frees lists.turns seat new → marks'.marks ≡ set marks.marks c (own_marks ++ m ∷ []) → next g c old ≡ looks_at g c old (slice_get old.callers c) m → state_of tags world journal holder (set seats i new) marks' ≡ next g c old
    settled new m marks' freed added step =
        let callers : callers_with (set seats i new) marks'.marks ≡ slice_set old.callers c (freeing_caller g seat.turn (reverse seat.held.items) (own_marks ++ m ∷ [])) =
        (λ j. callers_with (set seats (here.same j) new) (added j)) ∙ callers-set_both seats marks.marks c new (own_marks ++ m ∷ []) is.each ∙ ap (slice_set old.callers c) (frees-is g seat new (own_marks ++ m ∷ []) freed) in
        (λ j. record old { callers = callers j }) ∙ sym (step ∙ ap (λ o. looks_at g c old o m) there)

    -- a release
    pub released : (left new : CoreCaller) (n : CellName) (x : Cell) (num : ℕ) → seat.phase ≡ phase.Releasing → seat.held.items ≡ left.held.items ++ (n, x) ∷ [] → left.turn ≡ seat.turn → number world.area n ≡ Some num → Frees lists.turns left new → state_of (set tags num 0) world journal holder (set seats i new) marks ≡ next g c old
    released left new n x num ph popped turn at_n freed =
        let last : reverse seat.held.items ≡ (n, x) ∷ reverse left.held.items = ap reverse popped ∙ reverse-append left.held.items ((n, x) ∷ []) in
        let numbered : number journal.first.area n ≡ Some num = ap (λ a. number a n) (sym same_extent) ∙ at_n in
        let callers : callers_with (set seats i new) marks.marks ≡ slice_set old.callers c (freeing_caller g seat.turn (reverse left.held.items) own_marks) =
        seats_put new ∙ ap (slice_set old.callers c) (frees-is g left new own_marks freed ∙ ap (λ t. freeing_caller g t (reverse left.held.items) own_marks) turn) in
        (λ j. record old { tags = put_at tags (sym numbered j) 0; callers = callers j }) ∙ sym (next_in phase.Releasing ph ∙ ap (releases g c old k) last)

    -- what is held by a caller in Releasing
    pub holds_some : seat.phase ≡ phase.Releasing → 0 < length seat.held.items
    holds_some ph =
        let front = subst (HasFront g old is_sound.last c k) ph (is_sound.each c k there).front in
        omega (arith, front.some, length-reverse seat.held.items)

    -- a held cell has a number
    pub held_number : (left : Pairs) (n : CellName) (x : Cell) → seat.held.items ≡ left ++ (n, x) ∷ [] → (num : ℕ) × (number world.area n ≡ Some num) × (num < length tags)
    held_number left n x e =
        let last : reverse seat.held.items ≡ (n, x) ∷ reverse left = ap reverse e ∙ reverse-append left ((n, x) ∷ []) in
        let all = subst (All (IsHeld g old is_sound.last c k.turn)) last (is_sound.each c k there).held in
        let tagged = (All-head (IsHeld g old is_sound.last c k.turn) (n, x) (reverse left) all).tag in
        by (number journal.first.area n) refl tagged
      where
        by : (o : Option ℕ) → number journal.first.area n ≡ o → at tags o ≡ Some (own_tag g c k.turn) → (num : ℕ) × (number world.area n ≡ Some num) × (num < length tags)
        by None e h = absurd (none-some _ h)
        by (Some num) e h = (num, ap (λ a. number a n) same_extent ∙ e, slice_get_within tags num _ h)

    abbrev pub own : ℕ
    own = bot g c seat.turn

    -- what is known of its zone, while it claims
    pub claim_zone : seat.phase ≡ phase.Claim → 0 < length seat.held.items → seat.zone ≡ reading journal.first.area own seat.held.items
    claim_zone = is.zones c seat (ap (slice_get seats) (sym here.same) ∙ slice_get_read seats (length seats) i seat refl (subst (λ j. j < length seats) (sym here.same) here.inside) here.read)

    -- the seats with another seat of the caller keep what is known of their zones
    pub zones_with : (new : CoreCaller) → KeepsZone journal.first.area lists c new → KeepZones journal.first.area lists (set seats i new)
    zones_with new = zones_set journal.first.area lists seats i c new here.same is.zones

    pub zones_freed : (left new : CoreCaller) → Frees lists.turns left new → KeepZones journal.first.area lists (set seats i new)
    zones_freed left new freed = zones_with new (frees_zone journal.first.area lists c lists.turns left new freed)

    -- a seat that doesn't claim need not keep it
    pub zones_past : (new : CoreCaller) → new.phase ≢ phase.Claim → KeepZones journal.first.area lists (set seats i new)
    zones_past new past = zones_with new (λ claims some. absurd (past claims))

    pub known : c < length lists.ids
    known = is_known g is.setup old is_sound c k there

    -- the next cell, by the cells as the code keeps them
    as_read : next_cell world.area own seat.held.items ≡ next_of g own k.held
    as_read = ap (λ a. next_cell a own seat.held.items) same_extent ∙ ap (next_cell journal.first.area own) (sym (reverse-reverse seat.held.items))

    -- a claim
    module _ (ph : seat.phase ≡ phase.Claim) where
      pub claim_next : (n : CellName) × (next_cell world.area own seat.held.items ≡ Some n)
      claim_next = ((front g is.setup old is_sound c k there ph).0, as_read ∙ next_is_there g is.setup old is_sound c k there ph)

      -- a look at what is known of the zone, by what the code has
      pub looked : (zone : Reading) (next : Option CellName) (b : ℕ) (cells : Pairs) → b ≡ own → cells ≡ seat.held.items → ((a : Extent) → (0 < length cells → seat.zone ≡ reading a b cells) → (zone ≡ reading a b cells) × (next ≡ next_cell a b cells)) → (zone ≡ reading journal.first.area own seat.held.items) × (next_cell world.area own seat.held.items ≡ next)
      looked zone next b cells b_is cells_are look =
          let (known, is) = look journal.first.area (λ some. claim_zone ph (subst (λ ps. 0 < length ps) cells_are some) ∙ (λ j. reading journal.first.area (sym b_is j) (sym cells_are j))) in
          (known ∙ (λ j. reading journal.first.area (b_is j) (cells_are j)), (λ j. next_cell (same_extent j) (sym b_is j) (sym cells_are j)) ∙ sym is)

      pub few_held : length seat.held.items ≤ 18
      few_held = omega (arith, few g is.setup old is_sound c k there ph, length-reverse seat.held.items)

      module _ (n : CellName) (nx : next_cell world.area own seat.held.items ≡ Some n) where
        is_next : next_of g own k.held ≡ Some n
        is_next = sym as_read ∙ nx

        same_next : (front g is.setup old is_sound c k there ph).0 ≡ n
        same_next = same_Some _ n (sym (next_is_there g is.setup old is_sound c k there ph) ∙ is_next)

        pub claim_number : (num : ℕ) × (number world.area n ≡ Some num) × (num < length tags)
        claim_number =
            let at_n = placed g is.setup old is_sound c k there ph in
            (at_n.0, ap (λ a. number a n) same_extent ∙ ap (number journal.first.area) (sym same_next) ∙ at_n.1, omega (arith, at_n.2, is_sound.tagged))

        pub claim_cell : IsCell (length world.bots) n
        claim_cell = by n claim_number.1
          where
            by : (m : CellName) → number world.area m ≡ Some claim_number.0 → IsCell (length world.bots) m
            by (name.Spot v) e = tt
            by (name.Body j) e = let same = same_Some _ claim_number.0 e in omega (arith, same, claim_number.2, is_sound.tagged, length-values world)

        module _ (num : ℕ) (at_n : number world.area n ≡ Some num) (t : ℕ) (read_t : t ≡ get_or tags num t) where
          same_number : claim_number.0 ≡ num
          same_number = same_Some claim_number.0 num (sym claim_number.1 ∙ at_n)

          within : num < length tags
          within = omega (arith, same_number, claim_number.2)

          numbered : number journal.first.area n ≡ Some num
          numbered = ap (λ a. number a n) (sym same_extent) ∙ at_n

          tagged : at old.tags (number journal.first.area n) ≡ Some t
          tagged = ap (at old.tags) numbered ∙ slice_get_read tags (length tags) num t refl within read_t

          valued : at old.values (number journal.first.area n) ≡ Some (held_by world n)
          valued =
              let inside : num < length old.values = omega (arith, within, is_sound.tagged) in
              let there_is : at old.values (number world.area n) ≡ Some (get_or old.values num (held_by world n)) = ap (at old.values) at_n ∙ slice_get-get_or old.values num (held_by world n) inside in
              ap (at old.values) (numbered ∙ sym at_n) ∙ there_is ∙ ap Some (value_at world n (get_or old.values num (held_by world n)) there_is)

          -- the step is a claim of this cell
          claims_it : next g c old ≡ claims g c old k n t
          claims_it = next_in phase.Claim ph ∙ ap (tries g c old k) is_next ∙ ap (finds g c old k n) tagged

          -- another's tag was found
          pub claim_refused : (new : CoreCaller) → t ≢ 0 → new.turn ≡ seat.turn → new.phase ≡ phase.Refusing n t → new.held.items ≡ seat.held.items → state_of tags world journal holder (set seats i new) marks ≡ next g c old
          claim_refused new some turn refusing held =
              (λ j. record old { callers = (seats_put new ∙ ap (slice_set old.callers c) (λ l. record k { turn = turn l; phase = refusing l; held = reverse (held l) })) j })
              ∙ sym (claims_it ∙ ap (λ b. if b then wins g c old k n (at old.values (number journal.first.area n)) else with_caller g old c (record k { phase = phase.Refusing n t })) (ne_eqb t 0 some))

          -- the cell was free
          module _ (free : t ≡ 0) where
            found_free : at old.tags (number journal.first.area n) ≡ Some 0
            found_free = tagged ∙ ap Some free

            abbrev more : Pairs
            more = seat.held.items ++ (n, held_by world n) ∷ []

            turned : reverse ((n, held_by world n) ∷ reverse seat.held.items) ≡ more
            turned = reverse-more (n, held_by world n) (reverse seat.held.items) ∙ ap (λ cells. cells ++ (n, held_by world n) ∷ []) (reverse-reverse seat.held.items)

            -- what is known of the zone grows with the cell
            module _ (zone : Reading) (area : Extent) (x : Cell) (area_is : area ≡ world.area) (x_is : x ≡ held_by world n) (was : zone ≡ reading journal.first.area own seat.held.items) where
              same_first : area ≡ journal.first.area
              same_first = area_is ∙ same_extent

              known_there : zone ≡ reading area own seat.held.items
              known_there = was ∙ ap (λ a. reading a own seat.held.items) (sym same_first)

              in_turn : AreReadInOrder area own (seat.held.items ++ (n, x) ∷ [])
              in_turn = subst (λ (z : Extent × Cell). AreReadInOrder z.0 own (seat.held.items ++ (n, z.1) ∷ [])) (λ j. (sym same_first j, sym x_is j)) (subst (AreReadInOrder journal.first.area own) turned (won_in_order g is.setup old is_sound c k there n (held_by world n) ph is_next found_free valued))

              pub claim_push : (b : ℕ) × (cells : Pairs) × (m : CellName) × (zone ≡ reading area b cells) × AreReadInOrder area b (cells ++ (m, x) ∷ [])
              claim_push = (own, seat.held.items, n, known_there, in_turn)

              pub claim_known : (new : Reading) → ((b : ℕ) (cells : Pairs) (m : CellName) → zone ≡ reading area b cells → AreReadInOrder area b (cells ++ (m, x) ∷ []) → new ≡ reading area b (cells ++ (m, x) ∷ [])) → new ≡ reading journal.first.area own more
              claim_known new pushed = pushed own seat.held.items n known_there in_turn ∙ (λ j. reading (same_first j) own (seat.held.items ++ (n, x_is j) ∷ []))

            -- in the area of the world, which is that of the first one
            pub claim_reads : (new : Reading) → new ≡ reading journal.first.area own more → new ≡ reading world.area own more
            claim_reads new known = known ∙ ap (λ a. reading a own more) (sym same_extent)

            frame : shown_with journal.first own more ≡ shown_with world own more
            frame = ap (λ (w : Config). shown_with w own more) (sym (run_framed verdict journal.first world journal.entries is.setup.valid is.run).same.rest)

            next_more : next_of g own ((n, held_by world n) ∷ k.held) ≡ next_cell world.area own more
            next_more = ap (next_cell journal.first.area own) turned ∙ ap (λ a. next_cell a own more) (sym same_extent)

            shown_more : found g own ((n, held_by world n) ∷ k.held) ≡ shown_with world own more
            shown_more = ap (shown_with journal.first own) turned ∙ frame

            pub claim_shown : next_cell world.area own more ≡ None → IsShown (shown_with world own more)
            claim_shown none = subst IsShown shown_more (won_shown g is.setup old is_sound c k there n (held_by world n) ph is_next found_free valued (next_more ∙ none))

            pub claim_won : (new : CoreCaller) → new.turn ≡ seat.turn → new.held.items ≡ more → new.phase ≡ phase_after verdict (shown_with world own more) (next_cell world.area own more) → state_of (set tags num (tag c seat.turn own)) world journal holder (set seats i new) marks ≡ next g c old
            claim_won new turn held ph' =
                let mine : caller_with new own_marks ≡ caller_with_cell g c k n (held_by world n) = λ l. record {
                  turn = turn l;
                  phase = (ph' ∙ (λ j. phase_after verdict (sym shown_more j) (sym next_more j)) ∙ same_phase (next_of g own ((n, held_by world n) ∷ k.held))) l;
                  held = (ap reverse held ∙ reverse-append seat.held.items ((n, held_by world n) ∷ [])) l;
                  marks = own_marks;
                } in
                (λ j. record old { tags = put_at tags (sym numbered j) (tag c seat.turn own); callers = (seats_put new ∙ ap (slice_set old.callers c) mine) j })
                ∙ sym (claims_it ∙ ap (λ b. if b then wins g c old k n (at old.values (number journal.first.area n)) else with_caller g old c (record k { phase = phase.Refusing n t })) (eq-eqb t 0 free) ∙ ap (wins g c old k n) valued)
              where
                same_phase : (o : Option CellName) → phase_after verdict (found g own ((n, held_by world n) ∷ k.held)) o ≡ after_win g own ((n, held_by world n) ∷ k.held) o
                same_phase (Some m) = refl
                same_phase None = refl

    -- a commit
    module _ (change : Change) (ph : seat.phase ≡ phase.Committing change) where
      pub committing_unmarked : IsUnmarked lists.turns old.callers c
      committing_unmarked = unmarked_in (phase.Committing change) ph (λ lt. lt) refl

      same_world : is_sound.last ≡ world
      same_world = run_has_one_last verdict journal.first journal.entries is_sound.last world is_sound.run is.run

      by_verdict : HasDecision g is_sound.last own k.held (decision.Change change)
      by_verdict = subst (HasFront g old is_sound.last c k) ph (is_sound.each c k there).front

      valid_world : IsValid world
      valid_world = (run_framed verdict journal.first world journal.entries is.setup.valid is.run).valid

      own_at : IsSome (bot_at world own)
      own_at = own_stays g is.setup c seat.turn known world (run_framed verdict journal.first world journal.entries is.setup.valid is.run)

      says : verdict (shown world own) ≡ decision.Change change
      says = ap (λ w. verdict (shown w own)) (sym same_world) ∙ by_verdict.verdict

      pub committing_leads : HasPatched world (plain_patch change.patch)
      committing_leads = is.setup.leads world own change (record { valid = valid_world; there = own_at; decided = says })

      held_valued : All (Valued world) seat.held.items
      held_valued =
          let back = All-reverse (IsHeld g old is_sound.last c k.turn) (reverse seat.held.items) (is_sound.each c k there).held in
          subst (λ w. All (Valued w) seat.held.items) same_world (subst (All (Valued is_sound.last)) (reverse-reverse seat.held.items) (All-weaker (IsHeld g old is_sound.last c k.turn) (Valued is_sound.last) (λ p h. h.value) (reverse (reverse seat.held.items)) back))

      pub committing_cells : (size : ℕ) → size ≡ length world.bots → All (λ (p : CellName × Cell). IsCell size p.0) seat.held.items
      committing_cells size same_size = All-weaker (Valued world) (λ (p : CellName × Cell). IsCell size p.0) (λ p v. by p.0 p.1 v) seat.held.items held_valued
        where
          by : (n : CellName) (x : Cell) → value world n ≡ Some x → IsCell size n
          by (name.Spot v) x e = tt
          by (name.Body j) x e = elim (cases_lt j (length world.bots)) [
            | inl lt ↦ omega arith
            | inr le ↦ absurd (none-some x (ap (option_map cell.Body) (sym (get_or_past world.bots j None le)) ∙ e))
          ]

      module _ (world' : Config) (is_patched : IsPatched world (plain_patch change.patch) world') where
        -- what is recorded again is what the patch gives
        again : (ps : Pairs) → All (Valued world) ps → map (λ (p : CellName × Cell). (p.0, held_by world' p.0)) ps ≡ map (patched_pair (plain_patch change.patch)) ps
        again [] all = refl
        again (p ∷ ps) all =
            let new = value_held world' p.0 _ (value_patched world world' (plain_patch change.patch) is_patched p.0 p.1 (All-head (Valued world) p ps all)) in
            λ j. (p.0, new j) ∷ again ps (All-tail (Valued world) p ps all) j

        pub committing_run : (e : Entry) → e ≡ entry g c seat.turn change → Run verdict journal.first (journal.entries ++ e ∷ []) world'
        committing_run e same_e = subst (λ x. Run verdict journal.first (journal.entries ++ x ∷ []) world') (sym same_e) (run_push verdict journal.first world world' journal.entries (entry g c seat.turn change) is.run (record { there = own_at; decided = says; patched = is_patched }))

        pub committed : (left new : CoreCaller) (journal' : Kept) (marks' : MarkLists) (e : Entry) → left.turn ≡ seat.turn → left.held.items ≡ map (λ (p : CellName × Cell). (p.0, held_by world' p.0)) seat.held.items → Frees lists.turns left new → e ≡ entry g c seat.turn change → journal'.entries ≡ journal.entries ++ e ∷ [] → marks'.marks ≡ set marks.marks c (own_marks ++ mark.Done (length journal.entries) ∷ []) → state_of tags world' journal' None (set seats i new) marks' ≡ next g c old
        committed left new journal' marks' e turn held freed same_e entries added =
            let renewed_held : reverse left.held.items ≡ map (patched_pair (plain_patch change.patch)) (reverse seat.held.items) = ap reverse (held ∙ again seat.held.items held_valued) ∙ reverse-map (patched_pair (plain_patch change.patch)) seat.held.items in
            let callers : callers_with (set seats i new) marks'.marks ≡ slice_set old.callers c (freeing_caller g seat.turn (map (patched_pair (plain_patch change.patch)) (reverse seat.held.items)) (own_marks ++ mark.Done (length journal.entries) ∷ [])) =
            (λ j. callers_with (set seats (here.same j) new) (added j)) ∙ callers-set_both seats marks.marks c new (own_marks ++ mark.Done (length journal.entries) ∷ []) is.each
            ∙ ap (slice_set old.callers c) (frees-is g left new (own_marks ++ mark.Done (length journal.entries) ∷ []) freed ∙ (λ j. freeing_caller g (turn j) (renewed_held j) (own_marks ++ mark.Done (length journal.entries) ∷ []))) in
            let values : values_of world' ≡ patched journal.first.area (plain_patch change.patch) (values_of world) = sym (values-patched world world' (plain_patch change.patch) is_patched) ∙ ap (λ a. patched a (plain_patch change.patch) (values_of world)) same_extent in
            (λ j. record { tags = tags; values = values j; journal = (entries ∙ ap (λ x. journal.entries ++ x ∷ []) same_e) j; holder = None; callers = callers j }) ∙ sym (next_in (phase.Committing change) ph)

    -- what the code sees of a seat is true of the caller
    pub has_phase : (p : Phase) → seat.phase ≡ p → HasPhase old.callers c p
    has_phase p e = (k, there, e)

    pub refusing_unmarked : (n : CellName) (t : ℕ) → seat.phase ≡ phase.Refusing n t → IsUnmarked lists.turns old.callers c
    refusing_unmarked n t ph = unmarked_in (phase.Refusing n t) ph (λ lt. lt) refl

    pub looking_unmarked : (l : Look) → seat.phase ≡ phase.Looking l → IsUnmarked lists.turns old.callers c
    looking_unmarked l ph = unmarked_in (phase.Looking l) ph (λ lt. lt) refl

    -- the tag that was found names a caller
    pub refusing_known : (n : CellName) (t : ℕ) → seat.phase ≡ phase.Refusing n t → (tag_caller t < 256) × (0 < t)
    refusing_known n t ph =
        let by = subst (IsRefusedPhase g old c) ph (is_sound.each c k there).refused in
        let lt = by.1.listed in
        let few = is.setup.lists.few.at_most_16 in
        (omega arith, positive t by.0)
      where
        positive : (m : ℕ) → m ≢ 0 → 0 < m
        positive zero ne = absurd (ne refl)
        positive (suc m) ne = omega arith

    pub refusing_next : (n : CellName) (t : ℕ) (m : Mark) → seat.phase ≡ phase.Refusing n t → m ≡ busy_mark n t (length journal.entries) → next g c old ≡ looks_at g c old (slice_get old.callers c) m
    refusing_next n t m ph same_mark = next_in (phase.Refusing n t) ph ∙ ap (looks g c old k) (sym same_mark) ∙ ap (λ o. looks_at g c old o m) (sym there)

    pub looking_next : (l : Look) (m : Mark) → seat.phase ≡ phase.Looking l → m ≡ mark_of_look l (length journal.entries) → next g c old ≡ looks_at g c old (slice_get old.callers c) m
    looking_next l m ph same_mark = next_in (phase.Looking l) ph ∙ ap (looks g c old k) (sym same_mark) ∙ ap (λ o. looks_at g c old o m) (sym there)

    pub ended_next : seat.phase ≡ phase.Ended → old ≡ next g c old
    ended_next ph = sym (next_in phase.Ended ph)
