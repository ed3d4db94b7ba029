-- Who holds a cell: its tag names the holder's turn, and another caller does not hold it.
use Rattle.std.proofs.Common.{◌≡◌, ◌≢◌, ℕ, ◌+◌, ◌<◌, ◌⊎◌, ◌∷◌, ◌++◌, length, Some, inl, inr, ap, sym, refl, subst, ◌∙◌, arith}
use Rattle.std.specs.Prelude.{slice_get}
use Rattle.std.specs.List.{All, Contains}
use Rattle.std.proofs.lemmas.List.Elements.{All-contains, All-weaker, Contains-append_left}
use Rattle.std.proofs.lemmas.Option.{same_Some, slice_get_within}
use Rattle.amoebot_state.specs.Known.{next_cell}
use Rattle.amoebot_state.specs.declared.cell.CellName.{CellName}
use Rattle.amoebot_state.specs.Pairs.{Pairs}
use Rattle.amoebot_state.specs.Configs.{Config}
use Rattle.amoebot_state.proofs.Members.{Has-from_Contains, Contains-from_Has}
use Rattle.claim_core.specs.declared.state.Phase.{Phase}
use Rattle.claim_core.specs.declared.state.Phase.TheVariants.{Claim, Refusing, Looking, Taking, Committing, Releasing, Ended}
use Rattle.claim_core.specs.declared.state.Caller.{Caller}
use Rattle.claim_core.specs.Tags.{tag_caller, tag_turn, tag_bot}
use Rattle.claim_core.specs.Cells.{number, at}
use Rattle.claim_core.specs.Machine.{Setup, State, bot, own_tag, next_of}
use Rattle.claim_core.specs.Soundness.{IsSetup, names, Holds, HasHeld, IsHolder, IsTurn, AreBefore, HasFront, IsHeld, CallerOk, Sound}
use Rattle.claim_core.proofs.Tags.{tag-parts, one_caller}
use Rattle.claim_core.proofs.Places.{one_at}
use Rattle.claim_core.proofs.Fronts.{Valued, name_of_held, next_is, not_twice}
use Rattle.claim_core.proofs.Frames.{IsFramed, run_framed, own_stays, own_small, turn_small}
use Rattle.claim_core.proofs.Moved.{told}

module _ (g : Setup) (ok : IsSetup g) (old : State) (s : Sound g old) where
  pub framed : IsFramed g.world s.last
  framed = run_framed g.verdict g.world s.last old.journal s.valid s.run

  pub same_area : s.last.area ≡ g.world.area
  same_area = ap (λ (c : Config). c.area) framed.same.rest

  pub is_known : (c : ℕ) (k : Caller) → slice_get old.callers c ≡ Some k → c < length g.lists.ids
  is_known c k there = let inside = slice_get_within old.callers c k there in omega (arith, s.callers)

  pub valued : (c : ℕ) (k : Caller) → CallerOk g old s.last c k → All (Valued s.last) k.held
  valued c k is = All-weaker (IsHeld g old s.last c k.turn) (Valued s.last) (λ p h. h.value) k.held is.held

  -- a caller that holds a cell is in one of its turns
  pub active : (c : ℕ) (k : Caller) → CallerOk g old s.last c k → (n : CellName) → Contains (names k.held) n → k.turn < g.lists.turns
  active c k is n has = by k.phase is.turn is.front
    where
      by : (p : Phase) → IsTurn g.lists.turns p k.turn → HasFront g old s.last c k p → k.turn < g.lists.turns
      by Claim t f = t
      by (Refusing m u) t f = t
      by (Looking l) t f = t
      by (Taking change) t f = t
      by (Committing change) t f = t
      by Releasing t f = t
      by Ended t f = absurd (let none : length (names k.held) ≡ 0 = ap (λ (h : Pairs). length (names h)) f in let inside = has.1 in omega arith)

  -- the tag of a cell that a caller holds is its turn's
  pub has_tag : (c : ℕ) (k : Caller) → CallerOk g old s.last c k → (n : CellName) → Contains (names k.held) n → at old.tags (number g.world.area n) ≡ Some (own_tag g c k.turn)
  has_tag c k is n has =
      let by = name_of_held n k.held (Has-from_Contains (names k.held) has) in
      ap (λ m. at old.tags (number g.world.area m)) by.2 ∙ (All-contains (IsHeld g old s.last c k.turn) k.held by.0 is.held (Contains-from_Has k.held by.1)).tag

  -- no cell is held by two callers
  pub one_owner : (c d : ℕ) (k j : Caller) → slice_get old.callers c ≡ Some k → slice_get old.callers d ≡ Some j → (n : CellName) → Contains (names k.held) n → Contains (names j.held) n → c ≡ d
  one_owner c d k j here there n mine other =
      let isk = s.each c k here in
      let isj = s.each d j there in
      let tk = active c k isk n mine in
      let tj = active d j isj n other in
      let kc = is_known c k here in
      let kd = is_known d j there in
      one_caller c d k.turn j.turn (bot g c k.turn) (bot g d j.turn) (own_small g ok c k.turn kc) (turn_small g ok c k.turn kc tk) (own_small g ok d j.turn kd) (turn_small g ok d j.turn kd tj)
      (one_at (at old.tags (number g.world.area n)) _ _ (has_tag c k isk n mine) (has_tag d j isj n other))

  -- a caller that holds a cell has no mark for its turn, or the cell was in its zone at the mark's place
  pub holding : (d : ℕ) (j : Caller) → slice_get old.callers d ≡ Some j → (n : CellName) → Contains (names j.held) n → Holds g old d j.turn n ⊎ HasHeld g old d j.turn (bot g d j.turn) n
  holding d j there n has = by j.phase (s.each d j there).counted (s.each d j there).front
    where
      held : length j.marks ≡ j.turn → Holds g old d j.turn n ⊎ HasHeld g old d j.turn (bot g d j.turn) n
      held e = inl (record { record_of = j; there = there; now = refl; unmarked = e; held = has })

      by : (p : Phase) → length j.marks ≡ Rattle.claim_core.specs.Soundness.marked p j.turn → HasFront g old s.last d j p → Holds g old d j.turn n ⊎ HasHeld g old d j.turn (bot g d j.turn) n
      by Claim e f = held e
      by (Refusing m u) e f = held e
      by (Looking l) e f = held e
      by (Taking change) e f = held e
      by (Committing change) e f = held e
      by Releasing e f = inr (record {
        told = f.told;
        marked = told g old d j.turn j f.told there f.marked;
        in_zone = (f.world, f.at, subst (λ ns. Contains ns n) f.front (Contains-append_left (names j.held) f.rest n has));
      })
      by Ended e f = held e

  module _ (c : ℕ) (k : Caller) (at_c : slice_get old.callers c ≡ Some k) where
    -- in Claim the cell that is tried is the next one of the zone
    pub before : (n : CellName) → k.phase ≡ Claim → next_of g (bot g c k.turn) k.held ≡ Some n → AreBefore s.last (bot g c k.turn) k.held n
    before n p next =
        let is = s.each c k at_c in
        let front = subst (HasFront g old s.last c k) p is.front in
        let known = is_known c k at_c in
        let by = next_is s.last (bot g c k.turn) k.held (front.0 ∷ front.1.0) (own_stays g ok c k.turn known s.last framed) (valued c k is) front.1.1 in
        let same : n ≡ front.0 = same_Some n front.0 (sym next ∙ ap (λ a. next_cell a (bot g c k.turn) (Rattle.std.proofs.Common.reverse k.held)) (sym same_area) ∙ by) in
        (front.1.0, ap (λ m. names k.held ++ m ∷ front.1.0) same ∙ front.1.1)

    -- a tag that is found there names another caller's turn, which holds the cell, or has its mark
    pub refused_by : (n : CellName) (t : ℕ) → AreBefore s.last (bot g c k.turn) k.held n → at old.tags (number g.world.area n) ≡ Some t → t ≢ 0 → IsHolder g old c n (tag_caller t) (tag_turn t) (tag_bot t)
    refused_by n t next found some =
        let by = s.owned n t found some in
        let d = by.0 in
        let j = by.1 in
        let is = s.each d j by.2 in
        let known = is_known d j by.2 in
        let turns = active d j is n by.3 in
        let same : t ≡ own_tag g d j.turn = one_at (at old.tags (number g.world.area n)) t _ found (has_tag d j is n by.3) in
        let parts = tag-parts d j.turn (bot g d j.turn) (own_small g ok d j.turn known) (turn_small g ok d j.turn known turns) in
        let caller : tag_caller t ≡ d = ap tag_caller same ∙ parts.0 in
        let turn : tag_turn t ≡ j.turn = ap tag_turn same ∙ parts.1 in
        let of : tag_bot t ≡ bot g d j.turn = ap tag_bot same ∙ parts.2 in
        let not_mine : d ≢ c = λ e.
        let mine : j ≡ k = one_at (slice_get old.callers c) j k (ap (slice_get old.callers) (sym e) ∙ by.2) at_c in
        not_twice s.last (bot g c k.turn) (names k.held) next.0 n next.1 (subst (λ (x : Caller). Contains (names x.held) n) mine by.3) in
        let is_holder : IsHolder g old c n d j.turn (bot g d j.turn) = record { listed = known; other = not_mine; turn = turns; of = refl; holds = holding d j by.2 n by.3 } in
        subst (λ (z : ℕ × ℕ × ℕ). IsHolder g old c n z.0 z.1 z.2) (λ i. (sym caller i, sym turn i, sym of i)) is_holder
