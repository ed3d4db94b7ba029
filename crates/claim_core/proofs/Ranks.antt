-- Each round takes the callers nearer to their end.
use Rattle.std.proofs.Common.{◌≡◌, ℕ, zero, suc, ◌+◌, ◌-◌, ◌*◌, ◌<◌, ◌≤◌, ◌⊎◌, Bool, true, false, List, [], ◌∷◌, ◌++◌, map, length, set, Option, Some, None, inl, inr, ap, sym, refl, subst, ◌∙◌, arith, length-append, nat_eq, ltb-true}
use Rattle.std.specs.Prelude.{slice_get, nat_lt, if◌then◌else◌, IsSome}
use Rattle.std.specs.List.{filter}
use Rattle.std.proofs.lemmas.List.Sums.{length-filter}
use Rattle.std.specs.Option.{option_map}
use Rattle.std.proofs.lemmas.Bool.{cases_eq, cases_lt}
use Rattle.std.proofs.lemmas.Bool.Decides.{nat_tests}
use Rattle.std.proofs.lemmas.List.{length-map, get_or_past}
use Rattle.std.proofs.lemmas.Option.{same_Some, none-some, slice_get_within, slice_get-get_or}
use Rattle.tri_lattice.specs.Extent.{index_of}
use Rattle.tri_lattice.proofs.Boxes.{index_below}
use Rattle.amoebot_state.specs.declared.cell.CellName.{CellName}
use Rattle.amoebot_state.specs.declared.cell.CellName.TheVariants as name
use Rattle.amoebot_state.specs.declared.cell.Cell.{Cell}
use Rattle.amoebot_state.specs.declared.cell.Cell.TheVariants as cell
use Rattle.amoebot_state.specs.declared.verdict.Change.{Change}
use Rattle.amoebot_state.specs.declared.verdict.Verdict.{Verdict}
use Rattle.amoebot_state.specs.declared.verdict.Verdict.TheVariants as verdict
use Rattle.amoebot_state.specs.Pairs.{Pairs, plain_patch}
use Rattle.amoebot_state.specs.Configs.{Config, IsValid, bot_at}
use Rattle.amoebot_state.specs.Zones.{zone}
use Rattle.amoebot_state.specs.Laws.{is_spot, is_body}
use Rattle.amoebot_state.specs.Known.{next_cell}
use Rattle.amoebot_state.specs.Patches.{all_cells}
use Rattle.amoebot_state.proofs.Counts.{zone_has_at_most_ten_nodes, zone_has_at_most_nine_bodies}
use Rattle.amoebot_state.proofs.Zones.{zone_inside}
use Rattle.amoebot_state.proofs.Members.{Has, here, Has-append_right}
use Rattle.amoebot_state.proofs.Options.{there_is}
use Rattle.claim_core.specs.declared.marks.Mark.{Mark}
use Rattle.claim_core.specs.declared.marks.Mark.TheVariants as mark
use Rattle.claim_core.specs.declared.state.Phase.{Phase}
use Rattle.claim_core.specs.declared.state.Phase.TheVariants.{Claim, Refusing, Looking, Taking, Committing, Releasing, Ended}
use Rattle.claim_core.specs.declared.state.Caller.{Caller}
use Rattle.claim_core.specs.Cells.{number, at, values_of, held_by}
use Rattle.claim_core.specs.Machine.{Setup, State, bot, next_of, phase_of_verdict, after_win, caller_with_cell, wins, claims, finds, tries, freeing_caller, opening_phase, looks, takes, releases, patched_pair, by_phase, acts, next, fresh, after, with_caller}
use Rattle.claim_core.specs.Soundness.{IsSetup, IsTurn, names, HasFront, IsCommitting, CallerOk, Sound}
use Rattle.claim_core.specs.Reached.{HaveEnded}
use Rattle.claim_core.specs.Laws.{RoundsEnd}
use Rattle.claim_core.specs.StepRounds.{steps_below, step_round, step_rounds, most_step_rounds}
use Rattle.claim_core.proofs.Numbers.{length-all_cells}
use Rattle.claim_core.proofs.Fronts.{zone_value, next_is, length-names}
use Rattle.claim_core.proofs.Frames.{own_stays}
use Rattle.claim_core.proofs.HolderLemmas.{framed, same_area, is_known, valued}
use Rattle.claim_core.proofs.Sounds.{one_step, always}

-- the steps that a caller still has in its turn, at most, with so many cells held
abbrev in_turn : Phase → ℕ → ℕ
in_turn Claim h = 40 - h
in_turn (Refusing n t) h = 1 + h
in_turn (Looking l) h = 1 + h
in_turn (Taking change) h = 2 + h
in_turn (Committing change) h = 1 + h
in_turn Releasing h = h
in_turn Ended h = 0

-- each cell is a node or a body
spots_and_bodies : (ns : List CellName) → length (filter is_spot ns) + length (filter is_body ns) ≡ length ns
spots_and_bodies [] = refl
spots_and_bodies (name.Spot v ∷ ns) = let ih = spots_and_bodies ns in omega arith
spots_and_bodies (name.Body i ∷ ns) = let ih = spots_and_bodies ns in omega arith

pub length-values : (c : Config) → length (values_of c) ≡ c.area.w * c.area.h + length c.bots
length-values c = length-map (all_cells c) (held_by c) ∙ length-all_cells c

-- so a zone has at most nineteen cells
length-zone : (c : Config) (i : ℕ) → IsValid c → length (zone c i) ≤ 19
length-zone c i valid = omega (arith, spots_and_bodies (zone c i), length-filter is_spot (zone c i), length-filter is_body (zone c i), zone_has_at_most_ten_nodes c i valid, zone_has_at_most_nine_bodies c i valid)

-- a cell of a zone has a number
pub number_in_world : (c : Config) (i : ℕ) (n : CellName) → IsValid c → IsSome (bot_at c i) → Has n (zone c i) → (m : ℕ) × (number c.area n ≡ Some m) × (m < length (values_of c))
number_in_world c i (name.Spot v) valid there has =
    let own = there_is (bot_at c i) there in
    let at_v = there_is (index_of c.area v) (zone_inside c i own.0 v valid own.1 has) in
    (at_v.0, at_v.1, omega (arith, index_below c.area v at_v.0 at_v.1, length-values c))
number_in_world c i (name.Body j) valid there has = (c.area.w * c.area.h + j, refl, omega (arith, below, length-values c))
  where
    below : j < length c.bots
    below = elim (cases_lt j (length c.bots)) [
      | inl lt ↦ lt
      | inr le ↦ absurd (none-some (held_by c (name.Body j)) (ap (option_map cell.Body) (sym (get_or_past c.bots j None le)) ∙ zone_value c i (name.Body j) valid there has))
    ]

module _ (g : Setup) where
  -- the steps that a caller still has, at most
  abbrev pub rank : Caller → ℕ
  rank k = in_turn k.phase (length k.held) + 40 * (g.lists.turns - (k.turn + 1))

  abbrev pub ranks : List Caller → ℕ
  ranks [] = 0
  ranks (k ∷ ks) = rank k + ranks ks

  abbrev pub total : State → ℕ
  total s = ranks s.callers

  pub ranks-set : (ks : List Caller) (c : ℕ) (k next : Caller) → slice_get ks c ≡ Some k → ranks (set ks c next) + rank k ≡ ranks ks + rank next
  ranks-set [] c k next e = absurd (none-some k e)
  ranks-set (x ∷ ks) zero k next e = let same : rank x ≡ rank k = ap rank (same_Some x k e) in omega arith
  ranks-set (x ∷ ks) (suc c) k next e = let ih = ranks-set ks c k next e in omega arith

  -- a record with a lower rank lowers the total
  lower : (ks : List Caller) (c : ℕ) (k next : Caller) → slice_get ks c ≡ Some k → rank next < rank k → ranks (set ks c next) < ranks ks
  lower ks c k next e lt = omega (arith, ranks-set ks c k next e)

  -- the turn's steps and the later turns'
  abbrev later : ℕ → ℕ
  later t = 40 * (g.lists.turns - (t + 1))

  opens-rank : (t : ℕ) (marks : List Mark) → t < g.lists.turns → rank (Rattle.claim_core.specs.Machine.caller (t + 1) (opening_phase g (t + 1)) [] marks) ≡ later t
  opens-rank t marks lt = by (nat_lt (t + 1) g.lists.turns) refl
    where
      by : (b : Bool) → nat_lt (t + 1) g.lists.turns ≡ b → rank (Rattle.claim_core.specs.Machine.caller (t + 1) (if b then Claim else Ended) [] marks) ≡ later t
      by true e = let more = ltb-true (t + 1) g.lists.turns e in omega arith
      by false e = let end : g.lists.turns ≤ t + 1 = grind (arith, nat_tests) in omega arith

  frees-rank : (t : ℕ) (held : Pairs) (marks : List Mark) → t < g.lists.turns → rank (freeing_caller g t held marks) ≡ length held + later t
  frees-rank t [] marks lt = omega (arith, opens-rank t marks lt)
  frees-rank t (p ∷ held) marks lt = refl

  -- a caller whose step changes nothing: it has ended, or another holds the journal that it tries to take
  data IsIdle (s : State) (c : ℕ) : Type 0 where
    nobody : slice_get s.callers c ≡ None → IsIdle s c
    ended : (k : Caller) → slice_get s.callers c ≡ Some k → k.phase ≡ Ended → IsIdle s c
    waits : (k : Caller) (change : Change) (d : ℕ) → slice_get s.callers c ≡ Some k → k.phase ≡ Taking change → s.holder ≡ Some d → IsIdle s c

  module _ (ok : IsSetup g) (s : State) (sound : Sound g s) (c : ℕ) (k : Caller) (there : slice_get s.callers c ≡ Some k) where
    abbrev is : CallerOk g s sound.last c k
    is = sound.each c k there

    abbrev own : ℕ
    own = bot g c k.turn

    known : c < length g.lists.ids
    known = is_known g ok s sound c k there

    own_at : IsSome (bot_at sound.last own)
    own_at = own_stays g ok c k.turn known sound.last (framed g ok s sound)

    turns : (p : Phase) → k.phase ≡ p → IsTurn g.lists.turns p k.turn
    turns p e = subst (λ q. IsTurn g.lists.turns q k.turn) e is.turn

    rank_in : (p : Phase) → k.phase ≡ p → rank k ≡ in_turn p (length k.held) + later k.turn
    rank_in p e = ap (λ q. in_turn q (length k.held) + later k.turn) e

    -- the caller's new record has a lower rank
    abbrev Lower : State → Type 0
    Lower new = (total new < total s) ⊎ ((new ≡ s) × IsIdle s c)

    lowers : (next : Caller) → rank next < rank k → ranks (set s.callers c next) < ranks s.callers
    lowers next lt = lower s.callers c k next there lt

    -- in Claim some cell is next, and it has a tag and a value
    module _ (p : k.phase ≡ Claim) where
      abbrev pub front : HasFront g s sound.last c k Claim
      front = subst (HasFront g s sound.last c k) p is.front

      pub next_is_there : next_of g own k.held ≡ Some front.0
      next_is_there = ap (λ a. next_cell a own (Rattle.std.proofs.Common.reverse k.held)) (sym (same_area g ok s sound)) ∙ next_is sound.last own k.held (front.0 ∷ front.1.0) own_at (valued g ok s sound c k is) front.1.1

      pub few : length k.held ≤ 18
      few =
          let all : length (names k.held ++ front.0 ∷ front.1.0) ≤ 19 = subst (λ ns. length ns ≤ 19) (sym front.1.1) (length-zone sound.last own (framed g ok s sound).valid) in
          omega (arith, all, length-append (names k.held) (front.0 ∷ front.1.0), length-names k.held)

      pub in_zone : Has front.0 (zone sound.last own)
      in_zone = subst (Has front.0) front.1.1 (Has-append_right (names k.held) here)

      pub placed : (m : ℕ) × (number g.world.area front.0 ≡ Some m) × (m < length s.values)
      placed =
          let at_n = number_in_world sound.last own front.0 (framed g ok s sound).valid own_at in_zone in
          (at_n.0, ap (λ a. number a front.0) (sym (same_area g ok s sound)) ∙ at_n.1, omega (arith, at_n.2, ap (λ (vs : List Cell). length vs) sound.values))

      has_tag : (t : ℕ) × (at s.tags (number g.world.area front.0) ≡ Some t)
      has_tag = (_, ap (at s.tags) placed.1 ∙ slice_get-get_or s.tags placed.0 0 (omega (arith, placed.2, sound.tagged)))

      has_value : (x : Cell) × (at s.values (number g.world.area front.0) ≡ Some x)
      has_value = (_, ap (at s.values) placed.1 ∙ slice_get-get_or s.values placed.0 (cell.Spot None) placed.2)

      rank_won : (x : Cell) → rank (caller_with_cell g c k front.0 x) < rank k
      rank_won x = by (next_of g own ((front.0, x) ∷ k.held))
        where
          decide : (v : Verdict) → rank (record k { phase = phase_of_verdict v; held = (front.0, x) ∷ k.held }) < rank k
          decide verdict.Idle = omega (arith, rank_in Claim p, few)
          decide (verdict.Failed why) = omega (arith, rank_in Claim p, few)
          decide (verdict.Change change) = omega (arith, rank_in Claim p, few)

          by : (o : Option CellName) → rank (record k { phase = after_win g own ((front.0, x) ∷ k.held) o; held = (front.0, x) ∷ k.held }) < rank k
          by (Some m) = omega (arith, rank_in Claim p, few)
          by None = decide (g.verdict (Rattle.claim_core.specs.Machine.found g own ((front.0, x) ∷ k.held)))

      claim_lowers : total (claims g c s k front.0 has_tag.0) < total s
      claim_lowers = by (nat_eq has_tag.0 0)
        where
          read : (o : Option Cell) → at s.values (number g.world.area front.0) ≡ o → total (wins g c s k front.0 o) < total s
          read None e = absurd (none-some has_value.0 (sym e ∙ has_value.1))
          read (Some x) e = lowers (caller_with_cell g c k front.0 x) (rank_won x)

          by : (b : Bool) → total (if b then wins g c s k front.0 (at s.values (number g.world.area front.0)) else with_caller g s c (record k { phase = Refusing front.0 has_tag.0 })) < total s
          by true = read (at s.values (number g.world.area front.0)) refl
          by false = lowers (record k { phase = Refusing front.0 has_tag.0 }) (omega (arith, rank_in Claim p, few))

      tries_lowers : total (tries g c s k (next_of g own k.held)) < total s
      tries_lowers = subst (λ o. total (tries g c s k o) < total s) (sym next_is_there) (subst (λ o. total (finds g c s k front.0 o) < total s) (sym has_tag.1) claim_lowers)

    looks_lowers : (p : Phase) → k.phase ≡ p → in_turn p (length k.held) ≡ 1 + length k.held → k.turn < g.lists.turns → (m : Mark) → total (looks g c s k m) < total s
    looks_lowers p e one lt m = lowers (freeing_caller g k.turn k.held (k.marks ++ m ∷ [])) (omega (arith, rank_in p e, frees-rank k.turn k.held (k.marks ++ m ∷ []) lt))

    by_kind : (p : Phase) → k.phase ≡ p → Lower (by_phase g c s k p)
    by_kind Claim p = inl (tries_lowers p)
    by_kind (Refusing n t) p = inl (looks_lowers (Refusing n t) p refl (turns (Refusing n t) p) _)
    by_kind (Looking l) p = inl (looks_lowers (Looking l) p refl (turns (Looking l) p) _)
    by_kind (Taking change) p = taken s.holder refl
      where
        taken : (o : Option ℕ) → s.holder ≡ o → Lower (takes g c s k change o)
        taken None e = inl (lowers (record k { phase = Committing change }) (omega (arith, rank_in (Taking change) p)))
        taken (Some d) e = inr (refl, waits k change d there p e)
    by_kind (Committing change) p =
        inl (lowers (freeing_caller g k.turn (map (patched_pair (plain_patch change.patch)) k.held) (k.marks ++ mark.Done (length s.journal) ∷ []))
        (omega (arith, rank_in (Committing change) p, frees-rank k.turn (map (patched_pair (plain_patch change.patch)) k.held) (k.marks ++ mark.Done (length s.journal) ∷ []) (turns (Committing change) p), length-map k.held (patched_pair (plain_patch change.patch)))))
    by_kind Releasing p = freed k.held refl
      where
        freeing : HasFront g s sound.last c k Releasing
        freeing = subst (HasFront g s sound.last c k) p is.front

        freed : (held : Pairs) → k.held ≡ held → Lower (releases g c s k held)
        freed [] e = absurd (let none : length k.held ≡ 0 = ap (λ (h : Pairs). length h) e in omega (arith, freeing.some))
        freed (q ∷ held) e = inl (lowers (freeing_caller g k.turn held k.marks) (omega (arith, rank_in Releasing p, ap (λ (h : Pairs). length h) e, frees-rank k.turn held k.marks (turns Releasing p))))
    by_kind Ended p = inr (refl, ended k there p)

  -- a step lowers the total, or changes nothing
  step_lowers : IsSetup g → (s : State) → Sound g s → (c : ℕ) → (total (next g c s) < total s) ⊎ ((next g c s ≡ s) × IsIdle s c)
  step_lowers ok s sound c = by (slice_get s.callers c) refl
    where
      by : (o : Option Caller) → slice_get s.callers c ≡ o → (total (acts g c s o) < total s) ⊎ ((acts g c s o ≡ s) × IsIdle s c)
      by None e = inr (refl, nobody e)
      by (Some k) e = by_kind ok s sound c k e k.phase refl

  -- where nobody holds the journal, it lowers the total unless its caller has ended
  not_idle : (s : State) (c : ℕ) (k : Caller) → slice_get s.callers c ≡ Some k → s.holder ≡ None → ¬ (k.phase ≡ Ended) → IsIdle s c → ⊥
  not_idle s c k there none goes_on (nobody e) = none-some k (sym e ∙ there)
  not_idle s c k there none goes_on (ended j e p) = goes_on (ap (λ (x : Caller). x.phase) (same_Some k j (sym there ∙ e)) ∙ p)
  not_idle s c k there none goes_on (waits j change d e p h) = none-some d (sym none ∙ h)

  pub free_lowers : IsSetup g → (s : State) → Sound g s → (c : ℕ) (k : Caller) → slice_get s.callers c ≡ Some k → s.holder ≡ None → ¬ (k.phase ≡ Ended) → total (next g c s) < total s
  free_lowers ok s sound c k there none goes_on = elim (step_lowers ok s sound c) [ inl lt ↦ lt | inr same ↦ absurd (not_idle s c k there none goes_on same.1) ]

  pub step_keeps : IsSetup g → (s : State) → Sound g s → (c : ℕ) → total (next g c s) ≤ total s
  step_keeps ok s sound c = elim (step_lowers ok s sound c) [ inl lt ↦ omega arith | inr same ↦ let e : total (next g c s) ≡ total s = ap total same.0 in omega arith ]

  pub below_sound : IsSetup g → (s : State) → Sound g s → (n : ℕ) → Sound g (steps_below g n s)
  below_sound ok s sound zero = sound
  below_sound ok s sound (suc n) = one_step g ok (steps_below g n s) (below_sound ok s sound n) n

  below_lowers : IsSetup g → (s : State) → Sound g s → (n : ℕ) → (total (steps_below g n s) < total s) ⊎ ((steps_below g n s ≡ s) × ((c : ℕ) → c < n → IsIdle s c))
  below_lowers ok s sound zero = inr (refl, λ c lt. absurd (omega arith))
  below_lowers ok s sound (suc n) = elim (below_lowers ok s sound n) [
    | inl lt ↦ inl (let le = step_keeps ok (steps_below g n s) (below_sound ok s sound n) n in omega arith)
    | inr same ↦ elim (step_lowers ok s sound n) [
      | inl lt ↦ inl (subst (λ z. total (next g n z) < total s) (sym same.0) lt)
      | inr still ↦ inr (
        ap (next g n) same.0 ∙ still.0,
        λ c lt. elim (cases_eq c n) [
          | inl e ↦ subst (IsIdle s) (sym e) still.1
          | inr ne ↦ same.1 c (omega arith)
        ],
      )
    ]
  ]

  -- where all callers are idle, they have ended: one that holds the journal is not idle
  none_committing : (s : State) (d : ℕ) (j : Caller) → slice_get s.callers d ≡ Some j → IsCommitting j.phase → IsIdle s d → ⊥
  none_committing s d j at_d has (nobody e) = none-some j (sym e ∙ at_d)
  none_committing s d j at_d has (ended k e p) = subst IsCommitting (ap (λ (x : Caller). x.phase) (same_Some j k (sym at_d ∙ e)) ∙ p) has
  none_committing s d j at_d has (waits k change o e p h) = subst IsCommitting (ap (λ (x : Caller). x.phase) (same_Some j k (sym at_d ∙ e)) ∙ p) has

  idle_ended : (s : State) → Sound g s → ((c : ℕ) → c < length g.lists.ids → IsIdle s c) → (c : ℕ) (k : Caller) → slice_get s.callers c ≡ Some k → IsIdle s c → k.phase ≡ Ended
  idle_ended s sound all c k there (nobody e) = absurd (none-some k (sym e ∙ there))
  idle_ended s sound all c k there (ended j e p) = ap (λ (x : Caller). x.phase) (same_Some k j (sym there ∙ e)) ∙ p
  idle_ended s sound all c k there (waits j change d e p h) =
      let by = sound.holder d h in
      absurd (none_committing s d by.0 by.1 by.2 (all d (let inside = slice_get_within s.callers d by.0 by.1 in omega (arith, sound.callers))))

  pub round_lowers : IsSetup g → (s : State) → Sound g s → (total (step_round g s) < total s) ⊎ HaveEnded s
  round_lowers ok s sound = elim (below_lowers ok s sound (length g.lists.ids)) [
    | inl lt ↦ inl lt
    | inr same ↦ inr (λ i d inside.
        let k = Rattle.std.proofs.Common.get_or s.callers i d in
        idle_ended s sound same.1 i k (slice_get-get_or s.callers i d inside) (same.1 i (omega (arith, sound.callers))))
  ]

  -- a round of ended callers changes nothing
  ended_below : (s : State) → HaveEnded s → (n : ℕ) → steps_below g n s ≡ s
  ended_below s all zero = refl
  ended_below s all (suc n) = ap (next g n) (ended_below s all n) ∙ by (slice_get s.callers n) refl
    where
      by : (o : Option Caller) → slice_get s.callers n ≡ o → acts g n s o ≡ s
      by None e = refl
      by (Some k) e = ap (by_phase g n s k) (subst (λ (j : Caller). j.phase ≡ Ended) (Rattle.std.proofs.lemmas.Option.get_or_from_slice_get s.callers n k k e) (all n k (slice_get_within s.callers n k e)))

  pub rounds_sound : IsSetup g → (s : State) → Sound g s → (n : ℕ) → Sound g (step_rounds g n s)
  rounds_sound ok s sound zero = sound
  rounds_sound ok s sound (suc n) = below_sound ok (step_rounds g n s) (rounds_sound ok s sound n) (length g.lists.ids)

  pub rounds_lower : IsSetup g → (s : State) → Sound g s → (n : ℕ) → (total (step_rounds g n s) + n ≤ total s) ⊎ HaveEnded (step_rounds g n s)
  rounds_lower ok s sound zero = inl (omega arith)
  rounds_lower ok s sound (suc n) = elim (rounds_lower ok s sound n) [
    | inl le ↦ elim (round_lowers ok (step_rounds g n s) (rounds_sound ok s sound n)) [
      | inl lt ↦ inl (omega arith)
      | inr all ↦ inr (subst HaveEnded (sym (ended_below (step_rounds g n s) all (length g.lists.ids))) all)
    ]
    | inr all ↦ inr (subst HaveEnded (sym (ended_below (step_rounds g n s) all (length g.lists.ids))) all)
  ]

  pub rounds_end : IsSetup g → (s : State) → Sound g s → (n : ℕ) → total s ≤ n → HaveEnded (step_rounds g n s)
  rounds_end ok s sound n le = elim (rounds_lower ok s sound n) [
    | inl lt ↦ elim (round_lowers ok (step_rounds g n s) (rounds_sound ok s sound n)) [ inl less ↦ absurd (omega arith) | inr all ↦ all ]
    | inr all ↦ all
  ]

  -- before the first step
  pub fresh_rank : rank (fresh g) ≤ 40 * g.lists.turns
  fresh_rank = by (nat_lt 0 g.lists.turns) refl
    where
      by : (b : Bool) → nat_lt 0 g.lists.turns ≡ b → rank (Rattle.claim_core.specs.Machine.caller 0 (if b then Claim else Ended) [] []) ≤ 40 * g.lists.turns
      by true e = let some = ltb-true 0 g.lists.turns e in omega arith
      by false e = let none : g.lists.turns ≤ 0 = grind (arith, nat_tests) in omega arith

  all_fresh : (ids : List (List ℕ)) → ranks (map (λ (_ : List ℕ). fresh g) ids) ≤ 40 * (length ids * g.lists.turns)
  all_fresh [] = omega arith
  all_fresh (i ∷ ids) = let ih = all_fresh ids in let one = fresh_rank in omega arith

  pub total_after : IsSetup g → (steps : List ℕ) → total (after g steps) ≤ most_step_rounds g.lists
  total_after ok [] = all_fresh g.lists.ids
  total_after ok (c ∷ steps) = let le = step_keeps ok (after g steps) (always g ok steps) c in let ih = total_after ok steps in omega arith

pub rounds_are_enough : RoundsEnd
rounds_are_enough g ok steps = rounds_end g ok (after g steps) (always g ok steps) (most_step_rounds g.lists) (total_after g ok steps)
