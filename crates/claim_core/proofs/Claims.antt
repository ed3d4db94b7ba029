-- Claims: a cell is won, or another's tag is found.
use Rattle.std.proofs.Common.{◌≡◌, ◌≢◌, ℕ, ◌<◌, ◌⊎◌, List, [], ◌∷◌, ◌++◌, reverse, length, Option, Some, None, inl, inr, ap, sym, refl, subst, ◌∙◌}
use Rattle.std.specs.Prelude.{slice_get, slice_set, IsSome}
use Rattle.std.specs.List.{All, Contains}
use Rattle.std.proofs.lemmas.List.{append-nil, append_assoc}
use Rattle.std.proofs.lemmas.List.Elements.{All-cons, All-weaker, Contains-append_left, Contains-push}
use Rattle.std.proofs.lemmas.Option.{same_Some, none-some}
use Rattle.amoebot_state.specs.declared.cell.CellName.{CellName}
use Rattle.amoebot_state.specs.declared.cell.Cell.{Cell}
use Rattle.amoebot_state.specs.declared.verdict.Verdict.{Verdict}
use Rattle.amoebot_state.specs.declared.verdict.Verdict.TheVariants as verdict
use Rattle.amoebot_state.specs.Pairs.{Pairs, cell_of}
use Rattle.amoebot_state.specs.Configs.{Config, bot_at, value}
use Rattle.amoebot_state.specs.Known.{next_cell}
use Rattle.amoebot_state.specs.Zones.{shown_with, zone}
use Rattle.amoebot_state.proofs.Members.{Has, here, Has-append_right}
use Rattle.amoebot_state.proofs.Patched.{length_put_at}
use Rattle.claim_core.specs.declared.state.Look.TheVariants as look
use Rattle.claim_core.specs.declared.state.Phase.{Phase}
use Rattle.claim_core.specs.declared.state.Phase.TheVariants.{Claim, Refusing, Looking, Taking}
use Rattle.claim_core.specs.declared.state.Caller.{Caller}
use Rattle.claim_core.specs.Cells.{number, at, values_of, held_by}
use Rattle.claim_core.specs.Machine.{Setup, State, bot, own_tag, found, next_of, phase_of_verdict, after_win, caller_with_cell, wins, with_caller}
use Rattle.claim_core.specs.Soundness.{IsSetup, names, IsCommitting, marked, IsTurn, AreBefore, IsRefusedPhase, HasDecision, HasFront, IsHeld, CallerOk, Sound}
use Rattle.claim_core.proofs.Tags.{tag-positive}
use Rattle.claim_core.proofs.Places.{at-put_here, at-put_else, at-put_cases}
use Rattle.claim_core.proofs.Numbers.{same_number, value_at}
use Rattle.claim_core.proofs.Fronts.{Valued, names-more, zone_value, next_is, whole_shown}
use Rattle.claim_core.proofs.Frames.{own_stays}
use Rattle.claim_core.proofs.Moved.{Moves, moved, right_same, holder_stays, told_stays}
use Rattle.claim_core.proofs.HolderLemmas.{framed, same_area, is_known, before, refused_by}

module _ (g : Setup) (ok : IsSetup g) (old : State) (s : Sound g old) (c : ℕ) (k : Caller) (there : slice_get old.callers c ≡ Some k) where
  abbrev is : CallerOk g old s.last c k
  is = s.each c k there

  abbrev own : ℕ
  own = bot g c k.turn

  -- what stays where neither the tags, the values nor the journal change
  pub same_held : (new : State) (d t : ℕ) (held : Pairs) → new.tags ≡ old.tags → All (IsHeld g old s.last d t) held → All (IsHeld g new s.last d t) held
  same_held new d t held tags all = All-weaker (IsHeld g old s.last d t) (IsHeld g new s.last d t) (λ p h. record { tag = ap (λ ts. at ts (number g.world.area (cell_of p))) tags ∙ h.tag; value = h.value }) held all

  -- the state is sound where the tags change at most, and the caller's record
  pub plain : (new : State) (next : Caller) (mv : Moves g old new c k next) → new.journal ≡ old.journal → new.values ≡ old.values → length new.tags ≡ length old.tags
      → CallerOk g new s.last c next
      → ((d : ℕ) (j : Caller) → d ≢ c → slice_get old.callers d ≡ Some j → CallerOk g old s.last d j → All (IsHeld g new s.last d j.turn) j.held × (old.holder ≡ Some d → new.holder ≡ Some d))
      → ((n : CellName) (t : ℕ) → at new.tags (number g.world.area n) ≡ Some t → t ≢ 0 → Contains (names next.held) n ⊎ ((at old.tags (number g.world.area n) ≡ Some t) × (Contains (names k.held) n → Contains (names next.held) n)))
      → ((d : ℕ) → new.holder ≡ Some d → ((d ≡ c) × IsCommitting next.phase) ⊎ ((d ≢ c) × (old.holder ≡ Some d)))
      → Sound g new
  plain new next mv journal values tags mine others owned holds =
      moved g old new c k next mv ok s s.last (framed g ok old s) (subst (λ es. Rattle.amoebot_state.specs.Steps.Run g.verdict g.world es s.last) (sym journal) s.run)
      (values ∙ s.values) (tags ∙ s.tagged ∙ ap length (sym values)) (subst (λ es. Rattle.claim_core.specs.Good.Order g.lists es) (sym journal) s.order)
      (λ place e has. told_stays g old new c k next mv e.caller e.turn _ (s.committed place e (ap (λ es. slice_get es place) (sym journal) ∙ has)))
      mine others owned holds

  -- a record with another phase, in a turn that goes on
  pub goes_on : (new : State) (p : Phase) → new.callers ≡ slice_set old.callers c (record k { phase = p }) → new.journal ≡ old.journal → length k.marks ≡ k.turn → Moves g old new c k (record k { phase = p })
  goes_on new p now journal count = record {
    at = there;
    now = now;
    entries = [];
    journal = journal ∙ sym (append-nil old.journal);
    added = [];
    marks = sym (append-nil k.marks);
    keeps = λ n has e. inl (refl, count, has);
  }

  -- a caller that does not hold the journal is not named as its holder
  pub not_holder : (p : Phase) → k.phase ≡ p → (IsCommitting p → ⊥) → (d : ℕ) → d ≡ c → old.holder ≡ Some d → ⊥
  not_holder p e not d same has =
      let by = s.holder d has in
      let mine : by.0 ≡ k = same_Some by.0 k (sym by.1 ∙ ap (slice_get old.callers) same ∙ there) in
      not (subst IsCommitting (ap (λ (j : Caller). j.phase) mine ∙ e) by.2)

  -- a turn that claims has no mark yet
  unmarked_yet : k.phase ≡ Claim → length k.marks ≡ k.turn
  unmarked_yet p = is.counted ∙ ap (λ q. marked q k.turn) p

  -- another's tag is found
  pub refuses : (n : CellName) (t : ℕ) → k.phase ≡ Claim → next_of g own k.held ≡ Some n → at old.tags (number g.world.area n) ≡ Some t → t ≢ 0 → Sound g (with_caller g old c (record k { phase = Refusing n t }))
  refuses n t p next found some =
      plain new (record k { phase = Refusing n t }) mv refl refl refl mine
      (λ d j ne at o. (same_held new d j.turn j.held refl o.held, λ h. h)) (λ m u has no. inr (has, λ h. h)) (λ d has. inr ((λ e. not_holder Claim p (λ h. h) d e has), has))
    where
      new : State
      new = with_caller g old c (record k { phase = Refusing n t })

      front : AreBefore s.last own k.held n
      front = before g ok old s c k there n p next

      mv : Moves g old new c k (record k { phase = Refusing n t })
      mv = goes_on new (Refusing n t) refl refl (unmarked_yet p)

      mine : CallerOk g new s.last c (record k { phase = Refusing n t })
      mine = record {
        turn = subst (λ q. IsTurn g.lists.turns q k.turn) p is.turn;
        held = same_held new c k.turn k.held refl is.held;
        front = front;
        holder = λ none. absurd none;
        counted = unmarked_yet p;
        right = right_same g old new c k (record k { phase = Refusing n t }) mv c k.marks is.right;
        refused = (some, holder_stays g old new c k (record k { phase = Refusing n t }) mv c n _ _ _ (refused_by g ok old s c k there n t front found some));
        rising = is.rising;
        within = is.within;
      }

  -- the cell is won
  pub wins-sound : (n : CellName) (x : Cell) → k.phase ≡ Claim → next_of g own k.held ≡ Some n → at old.tags (number g.world.area n) ≡ Some 0 → at old.values (number g.world.area n) ≡ Some x → Sound g (wins g c old k n (Some x))
  wins-sound n x p next free found_x =
      plain new next_k mv refl refl (length_put_at old.tags (number g.world.area n) (own_tag g c k.turn)) (mine (next_of g own more) refl)
      (λ d j ne at o. (still d j.turn j.held o.held, λ h. h))
      (λ m u has some. elim (at-put_cases old.tags (number g.world.area n) (number g.world.area m) (own_tag g c k.turn) u has) [
        | inl same ↦ inl (subst (Contains (names more)) (sym (same_number g.world.area old.tags n m 0 free same.0)) last_held)
        | inr was ↦ inr (was.1, grows m)
      ])
      (λ d has. inr ((λ e. not_holder Claim p (λ h. h) d e has), has))
    where
      more : Pairs
      more = (n, x) ∷ k.held

      next_k : Caller
      next_k = caller_with_cell g c k n x

      new : State
      new = wins g c old k n (Some x)

      front : AreBefore s.last own k.held n
      front = before g ok old s c k there n p next

      known : c < length g.lists.ids
      known = is_known g ok old s c k there

      there_own : IsSome (bot_at s.last own)
      there_own = own_stays g ok c k.turn known s.last (framed g ok old s)

      turns : k.turn < g.lists.turns
      turns = subst (λ q. IsTurn g.lists.turns q k.turn) p is.turn

      last_held : Contains (names more) n
      last_held = subst (λ ns. Contains ns n) (sym (names-more (n, x) k.held)) (Contains-push (names k.held) n)

      grows : (m : CellName) → Contains (names k.held) m → Contains (names more) m
      grows m has = subst (λ ns. Contains ns m) (sym (names-more (n, x) k.held)) (Contains-append_left (names k.held) (n ∷ []) m has)

      mv : Moves g old new c k next_k
      mv = record { at = there; now = refl; entries = []; journal = sym (append-nil old.journal); added = []; marks = sym (append-nil k.marks); keeps = λ m has e. inl (refl, unmarked_yet p, grows m has) }

      -- cells with a tag keep it
      still : (d t : ℕ) (held : Pairs) → All (IsHeld g old s.last d t) held → All (IsHeld g new s.last d t) held
      still d t held all = All-weaker (IsHeld g old s.last d t) (IsHeld g new s.last d t) (λ q h. record {
        tag = at-put_else old.tags (number g.world.area n) (number g.world.area (cell_of q)) (own_tag g c k.turn) (λ e. tag-positive d t (bot g d t) (same_Some _ 0 (sym h.tag ∙ ap (at old.tags) e ∙ free))) ∙ h.tag;
        value = h.value;
      }) held all

      value_is : value s.last n ≡ Some x
      value_is =
          let in_zone : Has n (zone s.last own) = subst (Has n) front.1 (Has-append_right (names k.held) here) in
          let is_x : x ≡ held_by s.last n = value_at s.last n x (ap (λ a. at (values_of s.last) (number a n)) (same_area g ok old s) ∙ ap (λ vs. at vs (number g.world.area n)) (sym s.values) ∙ found_x) in
          zone_value s.last own n (framed g ok old s).valid there_own in_zone ∙ ap Some (sym is_x)

      held_more : All (IsHeld g new s.last c k.turn) more
      held_more = All-cons (IsHeld g new s.last c k.turn) (n, x) k.held (record { tag = at-put_here old.tags (number g.world.area n) (own_tag g c k.turn) 0 free; value = value_is }) (still c k.turn k.held is.held)

      valued_more : All (Valued s.last) more
      valued_more = All-weaker (IsHeld g new s.last c k.turn) (Valued s.last) (λ q h. h.value) more held_more

      front_more : names more ++ front.0 ≡ zone s.last own
      front_more = ap (λ ns. ns ++ front.0) (names-more (n, x) k.held) ∙ append_assoc (names k.held) (n ∷ []) front.0 ∙ front.1

      next_more : next_of g own more ≡ slice_get front.0 0
      next_more = ap (λ a. next_cell a own (reverse more)) (sym (same_area g ok old s)) ∙ next_is s.last own more front.0 there_own valued_more front_more

      -- in any phase of this turn
      in_phase : (q : Phase) → IsTurn g.lists.turns q k.turn → HasFront g new s.last c (record k { phase = q; held = more }) q → (IsCommitting q → ⊥) → length k.marks ≡ marked q k.turn → IsRefusedPhase g new c q → CallerOk g new s.last c (record k { phase = q; held = more })
      in_phase q turn has not counts refused = record {
        turn = turn;
        held = held_more;
        front = has;
        holder = λ h. absurd (not h);
        counted = counts;
        right = right_same g old new c k next_k mv c k.marks is.right;
        refused = refused;
        rising = is.rising;
        within = is.within;
      }

      by_verdict : (v : Verdict) → HasDecision g s.last own more v → CallerOk g new s.last c (record k { phase = phase_of_verdict v; held = more })
      by_verdict verdict.Idle by = in_phase (Looking look.Idle) turns by (λ h. h) (unmarked_yet p) tt
      by_verdict (verdict.Failed why) by = in_phase (Looking (look.Failed why)) turns by (λ h. h) (unmarked_yet p) tt
      by_verdict (verdict.Change change) by = in_phase (Taking change) turns by (λ h. h) (unmarked_yet p) tt

      mine : (o : Option CellName) → next_of g own more ≡ o → CallerOk g new s.last c (record k { phase = after_win g own more o; held = more })
      mine (Some m) e = in_phase Claim turns (first front.0 (sym next_more ∙ e) front_more) (λ h. h) (unmarked_yet p) tt
        where
          first : (rest : List CellName) → slice_get rest 0 ≡ Some m → names more ++ rest ≡ zone s.last own → (m : CellName) × AreBefore s.last own more m
          first [] f w = absurd (none-some m f)
          first (r ∷ rest) f w = (r, (rest, w))
      mine None e = by_verdict (g.verdict (found g own more)) (record { whole = whole; verdict = ap g.verdict (whole_shown s.last own more valued_more whole ∙ same_frame) })
        where
          ends : (rest : List CellName) → slice_get rest 0 ≡ None → names more ++ rest ≡ zone s.last own → names more ≡ zone s.last own
          ends [] f w = sym (append-nil (names more)) ∙ w
          ends (r ∷ rest) f w = absurd (none-some r (sym f))

          whole : names more ≡ zone s.last own
          whole = ends front.0 (sym next_more ∙ e) front_more

          same_frame : shown_with s.last own (reverse more) ≡ found g own more
          same_frame = ap (λ (d : Config). shown_with d own (reverse more)) (framed g ok old s).same.rest
