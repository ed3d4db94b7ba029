-- The journal is taken, and the commit: cells of the committer's zone change alone, and these no other caller holds.
use Rattle.std.proofs.Common.{◌≡◌, ◌≢◌, ℕ, ◌<◌, ◌≤◌, List, [], ◌∷◌, ◌++◌, map, length, get_or, Some, None, inl, inr, ap, sym, refl, subst, ◌∙◌, arith, length-append}
use Rattle.std.specs.Prelude.{slice_get, IsSome}
use Rattle.std.specs.List.{All, Contains}
use Rattle.std.proofs.lemmas.List.{append-nil}
use Rattle.std.proofs.lemmas.List.Elements.{All-push, All-weaker, All-map, All-get_or, All-contains}
use Rattle.std.proofs.lemmas.List.Quantifiers.{all_pairs_push}
use Rattle.std.proofs.lemmas.Option.{same_Some, none-some, slice_get_within, slice_get-get_or}
use Rattle.amoebot_state.specs.declared.cell.CellName.{CellName}
use Rattle.amoebot_state.specs.declared.cell.Cell.{Cell}
use Rattle.amoebot_state.specs.declared.verdict.Change.{Change}
use Rattle.amoebot_state.specs.declared.verdict.Entry.{Entry}
use Rattle.amoebot_state.specs.declared.verdict.Verdict.TheVariants as verdict
use Rattle.amoebot_state.specs.Pairs.{Pairs, cell_of, cell_value, plain_patch}
use Rattle.amoebot_state.specs.Configs.{Config, bot_at}
use Rattle.amoebot_state.specs.Zones.{zone}
use Rattle.amoebot_state.specs.Patches.{IsPatched}
use Rattle.amoebot_state.specs.Steps.{DecidesChange, Step, Run, IsWorldAt}
use Rattle.amoebot_state.proofs.Fronts.{slice_get_behind}
use Rattle.amoebot_state.proofs.Members.{Has, All-from_Has, Contains-from_Has}
use Rattle.claim_core.specs.declared.marks.Mark.{Mark}
use Rattle.claim_core.specs.declared.marks.Mark.TheVariants as mark
use Rattle.claim_core.specs.declared.state.Phase.TheVariants.{Taking, Committing}
use Rattle.claim_core.specs.declared.state.Caller.{Caller}
use Rattle.claim_core.specs.Good.{IsListed, Order, mark_of_turn, place_of, place_after}
use Rattle.claim_core.specs.Cells.{values_of, patched}
use Rattle.claim_core.specs.Machine.{Setup, State, bot, patched_pair, freeing_caller, entry, takes, commits}
use Rattle.claim_core.specs.Soundness.{IsSetup, names, IsCommitting, marked, IsTurn, marks_so_far, HasDecision, HasFront, IsHeld, CallerOk, Sound}
use Rattle.amoebot_state.proofs.Runs.{run_push}
use Rattle.amoebot_state.proofs.Stays.{slice_get-pushed, world_last}
use Rattle.claim_core.proofs.Places.{one_at}
use Rattle.claim_core.proofs.Numbers.{value_patched, values-patched, length-patched}
use Rattle.claim_core.proofs.Nexts.{frees-marks, frees-held}
use Rattle.claim_core.proofs.Fronts.{held_named}
use Rattle.claim_core.proofs.Frames.{IsFramed, run_framed, own_stays}
use Rattle.claim_core.proofs.Moved.{Moves, moved, told, told_by, told_stays, mine_now, right_same, right_push, within_stays}
use Rattle.claim_core.proofs.HolderLemmas.{framed, same_area, is_known, one_owner}
use Rattle.claim_core.proofs.Claims.{same_held, plain, goes_on}
use Rattle.claim_core.proofs.ReleaseLemmas.{Marked, frees_ok}

-- new values leave the names
names-renewed : (patch held : Pairs) → names (map (patched_pair patch) held) ≡ names held
names-renewed patch [] = refl
names-renewed patch (p ∷ held) =
    Rattle.claim_core.proofs.Fronts.names-more (patched_pair patch p) (map (patched_pair patch) held) ∙ ap (λ ns. ns ++ cell_of p ∷ []) (names-renewed patch held) ∙ sym (Rattle.claim_core.proofs.Fronts.names-more p held)

module _ (g : Setup) (ok : IsSetup g) (old : State) (s : Sound g old) (c : ℕ) (k : Caller) (there : slice_get old.callers c ≡ Some k) (change : Change) where
  abbrev is : CallerOk g old s.last c k
  is = s.each c k there

  abbrev own : ℕ
  own = bot g c k.turn

  known : c < length g.lists.ids
  known = is_known g ok old s c k there

  -- the journal is free and is taken
  pub takes_sound : k.phase ≡ Taking change → old.holder ≡ None → Sound g (takes g c old k change None)
  takes_sound p free =
      plain g ok old s c k there new next mv refl refl refl mine
      (λ d j ne found o. (same_held g ok old s c k there new d j.turn j.held refl o.held, λ h. absurd (none-some d (sym free ∙ h)))) (λ n u has some. inr (has, λ h. h))
      (λ d has. inl (sym (same_Some c d has), tt))
    where
      next : Caller
      next = record k { phase = Committing change }

      new : State
      new = takes g c old k change None

      count : length k.marks ≡ k.turn
      count = is.counted ∙ ap (λ q. marked q k.turn) p

      mv : Moves g old new c k next
      mv = goes_on g ok old s c k there new (Committing change) refl refl count

      mine : CallerOk g new s.last c next
      mine = record {
        turn = subst (λ q. IsTurn g.lists.turns q k.turn) p is.turn;
        held = same_held g ok old s c k there new c k.turn k.held refl is.held;
        front = subst (HasFront g old s.last c k) p is.front;
        holder = λ h. refl;
        counted = count;
        right = right_same g old new c k next mv c k.marks is.right;
        refused = tt;
        rising = is.rising;
        within = is.within;
      }

  -- the commit
  module _ (p : k.phase ≡ Committing change) where
    turns : k.turn < g.lists.turns
    turns = subst (λ q. IsTurn g.lists.turns q k.turn) p is.turn

    count : length k.marks ≡ k.turn
    count = is.counted ∙ ap (λ q. marked q k.turn) p

    is_decided : HasDecision g s.last own k.held (verdict.Change change)
    is_decided = subst (HasFront g old s.last c k) p is.front

    own_at : IsSome (bot_at s.last own)
    own_at = own_stays g ok c k.turn known s.last (framed g ok old s)

    changes : DecidesChange g.verdict s.last own change
    changes = record { valid = (framed g ok old s).valid; there = own_at; decided = is_decided.verdict }

    leads : (last : Config) × IsPatched s.last (plain_patch change.patch) last
    leads = ok.leads s.last own change changes

    abbrev last : Config
    last = leads.0

    is_patched : IsPatched s.last (plain_patch change.patch) last
    is_patched = leads.1

    abbrev e : Entry
    e = entry g c k.turn change

    abbrev cells : Pairs
    cells = map (patched_pair (plain_patch change.patch)) k.held

    abbrev done : Mark
    done = mark.Done (length old.journal)

    abbrev more : List Mark
    more = k.marks ++ done ∷ []

    abbrev next : Caller
    next = freeing_caller g k.turn cells more

    abbrev new : State
    new = commits g c old k change

    last_mark : slice_get more k.turn ≡ Some done
    last_mark = ap (slice_get more) (sym count) ∙ slice_get_behind k.marks done []

    here_now : IsWorldAt g.verdict g.world old.journal (length old.journal) s.last
    here_now = world_last g.verdict g.world s.last old.journal s.run

    step : Step g.verdict s.last e last
    step = record { there = own_at; decided = is_decided.verdict; patched = is_patched }

    run : Run g.verdict g.world new.journal last
    run = run_push g.verdict g.world s.last last old.journal e s.run step

    more_here : IsWorldAt g.verdict g.world new.journal (length old.journal) s.last
    more_here = Rattle.amoebot_state.proofs.Stays.IsWorldAt-append g.verdict g.world s.last old.journal (e ∷ []) (length old.journal) here_now

    same_names : names cells ≡ names k.held
    same_names = names-renewed (plain_patch change.patch) k.held

    keeps_names : (n : CellName) → Contains (names k.held) n → Contains (names next.held) n
    keeps_names n h = subst (λ ps. Contains (names ps) n) (sym (frees-held g k.turn cells more)) (subst (λ ns. Contains ns n) (sym same_names) h)

    mv : Moves g old new c k next
    mv = record {
      at = there;
      now = refl;
      entries = e ∷ [];
      journal = refl;
      added = done ∷ [];
      marks = frees-marks g k.turn cells more;
      keeps = λ n has eq. inr (done, ap (λ ms. slice_get ms k.turn) (frees-marks g k.turn cells more) ∙ last_mark, (s.last, more_here, subst (λ ns. Contains ns n) is_decided.whole has));
    }

    new_framed : IsFramed g.world last
    new_framed = run_framed g.verdict g.world last new.journal s.valid run

    -- a cell that another caller holds is not in the patch
    untouched : (d : ℕ) (j : Caller) → d ≢ c → slice_get old.callers d ≡ Some j → (q : CellName × Cell) → Has q j.held → All (λ (r : CellName × Cell). cell_of r ≢ cell_of q) (plain_patch change.patch)
    untouched d j ne found q has = All-weaker (λ (r : CellName × Cell). Contains (zone s.last own) (cell_of r)) (λ (r : CellName × Cell). cell_of r ≢ cell_of q)
        (λ r in_zone same. ne (one_owner g ok old s d c j k found there (cell_of q) (held_named j.held q has) (subst (Contains (names k.held)) same (subst (λ ns. Contains ns (cell_of r)) (sym is_decided.whole) in_zone))))
        (plain_patch change.patch) (ok.touches s.last own change changes)

    others_held : (d : ℕ) (j : Caller) → d ≢ c → slice_get old.callers d ≡ Some j → All (IsHeld g new last d j.turn) j.held
    others_held d j ne found = All-from_Has (IsHeld g new last d j.turn) j.held (λ q has.
        let was = All-contains (IsHeld g old s.last d j.turn) j.held q (s.each d j found).held (Contains-from_Has j.held has) in
        record { tag = was.tag; value = is_patched.kept (cell_of q) (untouched d j ne found q has) ∙ was.value })

    own_held : All (IsHeld g new last c k.turn) cells
    own_held = All-map (IsHeld g new last c k.turn) (patched_pair (plain_patch change.patch)) k.held (All-weaker (IsHeld g old s.last c k.turn) (λ q. IsHeld g new last c k.turn (patched_pair (plain_patch change.patch) q))
        (λ q was. record { tag = was.tag; value = value_patched s.last last (plain_patch change.patch) is_patched (cell_of q) (cell_value q) was.value }) k.held is.held)

    marked_now : Marked g new last c k.turn cells more
    marked_now = record {
      turn = turns;
      known = known;
      held = own_held;
      counted = omega (arith, length-append k.marks (done ∷ []), count);
      right = right_push g old new c k next mv c k.marks done is.right (e, slice_get_behind old.journal e [], refl, sym count);
      rising = all_pairs_push (λ one later. place_after one ≤ place_of later) k.marks done is.rising (λ i d inside. All-get_or (λ x. place_after x ≤ length old.journal) k.marks i d inside is.within);
      within = All-push (λ x. place_after x ≤ length new.journal) k.marks done (within_stays g old new c k next mv k.marks is.within) (omega (arith, length-append old.journal (e ∷ [])));
      told = done;
      last_mark = last_mark;
      world = s.last;
      at = more_here;
      rest = [];
      front = append-nil (names cells) ∙ same_names ∙ is_decided.whole;
    }

    -- the turns of one caller rise along the journal
    earlier : (place : ℕ) (x : Entry) → slice_get old.journal place ≡ Some x → x.caller ≡ c → x.turn < k.turn
    earlier place x has same =
        let by = told_by g old x.caller x.turn (mark.Done place) (s.committed place x has) in
        let mine : by.0 ≡ k = one_at (slice_get old.callers c) by.0 k (ap (slice_get old.callers) (sym same) ∙ by.1) there in
        let inside = slice_get_within by.0.marks x.turn (mark.Done place) by.2 in
        let counts : length by.0.marks ≡ k.turn = ap (λ (j : Caller). length j.marks) mine ∙ count in
        omega arith

    order : Order g.lists new.journal
    order = record {
      listed = All-push (IsListed g.lists) old.journal e s.order.listed (record { caller = known; turn = turns; bot = refl });
      rising = all_pairs_push (λ one later. one.caller ≡ later.caller → one.turn < later.turn) old.journal e s.order.rising (λ i d inside same. earlier i (get_or old.journal i d) (slice_get-get_or old.journal i d inside) same);
    }

    committed : (place : ℕ) (x : Entry) → slice_get new.journal place ≡ Some x → mark_of_turn (marks_so_far g new) x.caller x.turn ≡ Some (mark.Done place)
    committed place x has = elim (slice_get-pushed old.journal e x place has) [
      | inl was ↦ told_stays g old new c k next mv x.caller x.turn (mark.Done place) (s.committed place x was)
      | inr added ↦ subst (λ (z : ℕ × Entry). mark_of_turn (marks_so_far g new) z.1.caller z.1.turn ≡ Some (mark.Done z.0)) (λ i. (sym added.0 i, added.1 i))
          (told g new c k.turn next done (mine_now g old new c k next mv) (ap (λ ms. slice_get ms k.turn) (frees-marks g k.turn cells more) ∙ last_mark))
    ]

    values_now : new.values ≡ values_of last
    values_now = (λ i. patched (sym (same_area g ok old s) i) (plain_patch change.patch) (s.values i)) ∙ values-patched s.last last (plain_patch change.patch) is_patched

    pub commits_sound : Sound g (commits g c old k change)
    commits_sound =
        moved g old new c k next mv ok s last new_framed run values_now (s.tagged ∙ sym (length-patched g.world.area (plain_patch change.patch) old.values)) order committed
        (frees_ok g ok new last new_framed c k.turn cells more marked_now)
        (λ d j ne found o. (others_held d j ne found, λ h. absurd (ne (same_Some d c (sym h ∙ is.holder (subst IsCommitting (sym p) tt))))))
        (λ n u has some. inr (has, keeps_names n))
        (λ d has. absurd (none-some d has))
