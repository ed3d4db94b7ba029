-- Each step of a caller that draws tickets takes it nearer to its end, unless it has ended: it waits for nobody.
use Rattle.std.proofs.Common.{◌≡◌, ◌≢◌, ◌⊎◌, ℕ, zero, suc, ◌+◌, ◌*◌, ◌<◌, ◌≤◌, Bool, true, false, List, [], ◌∷◌, set, Option, Some, None, inl, inr, ap, sym, refl, subst, ◌∙◌, arith, eq-eqb, ne_eqb}
use Rattle.std.specs.Prelude.{slice_get, nat_eq, if◌then◌else◌}
use Rattle.std.specs.List.{All, count_by}
use Rattle.std.proofs.lemmas.Bool.{cases_eq}
use Rattle.std.proofs.lemmas.List.Elements.{All-nil, All-cons}
use Rattle.std.proofs.lemmas.List.Sums.{sum_by-cons}
use Rattle.std.proofs.lemmas.Option.{same_Some, none-some, slice_get_within}
use Rattle.amoebot_state.specs.declared.cell.CellName.{CellName}
use Rattle.amoebot_state.specs.declared.cell.Cell.{Cell}
use Rattle.amoebot_state.specs.Pairs.{Pairs}
use Rattle.claim_core.specs.declared.state.Phase.{Phase}
use Rattle.claim_core.specs.declared.state.Phase.TheVariants.{Claim, Refusing, Looking, Taking, Committing, Releasing, Ended}
use Rattle.claim_core.specs.declared.state.Caller.{Caller}
use Rattle.claim_core.specs.Cells.{number, at}
use Rattle.claim_core.specs.Machine.{Setup, State, bot, next_of, fresh, opening, with_caller, wins, finds, tries, releases, next}
use Rattle.claim_core.specs.Soundness.{IsSetup, Sound}
use Rattle.claim_core.specs.Reached.{HaveEnded}
use Rattle.claim_core.specs.Tickets.{ticket_by_phase, ticket_acts, ticket_next, ticket_after}
use Rattle.claim_core.specs.TicketLaws.{TicketsWaitForNobody, TicketsLeaveAReport}
use Rattle.claim_core.proofs.Places.{get-set_here, get-set_else, map-get}
use Rattle.claim_core.proofs.Ranks.{rank, ranks, total, ranks-set, free_lowers, step_keeps, fresh_rank}
use Rattle.claim_core.proofs.ReportsExist.{HasEnded, phase_has_ended, has_report}
use Rattle.claim_core.proofs.Sounds.{one_step}
use Rattle.claim_core.proofs.Unfolding.{one_or_two, tickets_free, tickets_are_sound}

module _ (g : Setup) where
  -- a step of a caller changes at most its own record
  abbrev SetsOne : State → ℕ → State → Type 0
  SetsOne s c new = (k : Caller) × (new.callers ≡ set s.callers c k)

  -- what is written again is what was there
  still : (s : State) (c : ℕ) (k : Caller) → slice_get s.callers c ≡ Some k → SetsOne s c s
  still s c k there = (k, sym (set-same s.callers c k there))
    where
      set-same : (ks : List Caller) (i : ℕ) (j : Caller) → slice_get ks i ≡ Some j → set ks i j ≡ ks
      set-same [] i j e = refl
      set-same (x ∷ ks) zero j e = ap (λ y. y ∷ ks) (sym (same_Some x j e))
      set-same (x ∷ ks) (suc i) j e = ap (λ xs. x ∷ xs) (set-same ks i j e)

  tries_sets : (c : ℕ) (s : State) (k : Caller) → slice_get s.callers c ≡ Some k → (o : Option CellName) → SetsOne s c (tries g c s k o)
  tries_sets c s k there None = still s c k there
  tries_sets c s k there (Some n) = found (at s.tags (number g.world.area n))
    where
      read : (o : Option Cell) → SetsOne s c (wins g c s k n o)
      read None = still s c k there
      read (Some x) = (_, refl)

      claimed : (t : ℕ) (b : Bool) → SetsOne s c (if b then wins g c s k n (at s.values (number g.world.area n)) else with_caller g s c (record k { phase = Refusing n t }))
      claimed t true = read (at s.values (number g.world.area n))
      claimed t false = (_, refl)

      found : (o : Option ℕ) → SetsOne s c (finds g c s k n o)
      found None = still s c k there
      found (Some t) = claimed t (nat_eq t 0)

  releases_sets : (c : ℕ) (s : State) (k : Caller) → slice_get s.callers c ≡ Some k → (held : Pairs) → SetsOne s c (releases g c s k held)
  releases_sets c s k there [] = still s c k there
  releases_sets c s k there (p ∷ held) = (_, refl)

  sets_by : (c : ℕ) (s : State) (k : Caller) → slice_get s.callers c ≡ Some k → (p : Phase) → SetsOne s c (ticket_by_phase g c s k p)
  sets_by c s k there Claim = tries_sets c s k there (next_of g (bot g c k.turn) k.held)
  sets_by c s k there (Refusing n t) = (_, refl)
  sets_by c s k there (Looking l) = (_, refl)
  sets_by c s k there (Taking change) = (_, refl)
  sets_by c s k there (Committing change) = (_, refl)
  sets_by c s k there Releasing = releases_sets c s k there k.held
  sets_by c s k there Ended = still s c k there

  ticket_sets : (c : ℕ) (s : State) (k : Caller) → slice_get s.callers c ≡ Some k → SetsOne s c (ticket_next g c s)
  ticket_sets c s k there = subst (λ o. SetsOne s c (ticket_acts g c s o)) (sym there) (sets_by c s k there k.phase)

  -- the others' records stay
  others_stay : (c d : ℕ) (s : State) → c ≢ d → slice_get (ticket_next g d s).callers c ≡ slice_get s.callers c
  others_stay c d s other = by (slice_get s.callers d) refl
    where
      by : (o : Option Caller) → slice_get s.callers d ≡ o → slice_get (ticket_acts g d s o).callers c ≡ slice_get s.callers c
      by None e = refl
      by (Some k) e = let sets = sets_by d s k e k.phase in ap (λ ks. slice_get ks c) sets.1 ∙ get-set_else s.callers d c sets.0 other

  module _ (ok : IsSetup g) (s : State) (sound : Sound g s) (none : s.holder ≡ None) (c : ℕ) (k : Caller) (there : slice_get s.callers c ≡ Some k) (goes_on : ¬ HasEnded k) where
    -- a step of a caller that has not ended lowers the steps that are left,
    pub ticket_lowers : total g (ticket_next g c s) < total g s
    ticket_lowers =
        let once = free_lowers g ok s sound c k there none goes_on in
        elim (one_or_two g c s none) [
          | inl one ↦ subst (λ z. total g z < total g s) (sym one) once
          | inr two ↦ subst (λ z. total g z < total g s) (sym two) (let more = step_keeps g ok (next g c s) (one_step g ok s sound c) c in omega (arith, once, more))
        ]

    -- and those are its own
    pub own_lowers : (k' : Caller) × (slice_get (ticket_next g c s).callers c ≡ Some k') × (rank g k' < rank g k)
    own_lowers =
        let sets = ticket_sets c s k there in
        let sums = ranks-set g s.callers c k sets.0 there in
        let fewer : ranks g (set s.callers c sets.0) < ranks g s.callers = subst (λ ks. ranks g ks < ranks g s.callers) sets.1 ticket_lowers in
        (sets.0, ap (λ ks. slice_get ks c) sets.1 ∙ get-set_here s.callers c sets.0 (slice_get_within s.callers c k there), omega (arith, sums, fewer))

  ended_still : (c : ℕ) (s : State) (k : Caller) → slice_get s.callers c ≡ Some k → HasEnded k → ticket_next g c s ≡ s
  ended_still c s k there ended = ap (ticket_acts g c s) there ∙ ap (ticket_by_phase g c s k) ended

  -- a caller has ended, or the steps that it has made and those that it still has are at most 40 for each turn
  abbrev HasFew : ℕ → List ℕ → Caller → Type 0
  HasFew c steps k = (rank g k + count_by (nat_eq c) steps ≤ 40 * g.lists.turns) ⊎ HasEnded k

  counted : (c d : ℕ) (steps : List ℕ) (b : Bool) → nat_eq c d ≡ b → count_by (nat_eq c) (d ∷ steps) ≡ (if b then 1 else 0) + count_by (nat_eq c) steps
  counted c d steps b e = sum_by-cons (λ x. if nat_eq c x then 1 else 0) d steps ∙ ap (λ b'. (if b' then 1 else 0) + count_by (nat_eq c) steps) e

  other_step : (steps : List ℕ) (c d : ℕ) (k : Caller) → c ≢ d → HasFew c steps k → HasFew c (d ∷ steps) k
  other_step steps c d k other (inl few) = inl (let more = counted c d steps false (ne_eqb c d other) in omega (arith, few, more))
  other_step steps c d k other (inr ended) = inr ended

  -- after a step of its own
  module _ (ok : IsSetup g) (steps : List ℕ) (c : ℕ) (k j : Caller) (there : slice_get (ticket_after g (c ∷ steps)).callers c ≡ Some k) (before : slice_get (ticket_after g steps).callers c ≡ Some j) where
    abbrev s : State
    s = ticket_after g steps

    has_ended : HasEnded j → HasEnded k
    has_ended ended = subst HasEnded (same_Some j k (sym before ∙ sym (ap (λ (z : State). slice_get z.callers c) (ended_still c s j before ended)) ∙ there)) ended

    own_step : HasFew c steps j → HasFew c (c ∷ steps) k
    own_step (inr ended) = inr (has_ended ended)
    own_step (inl few) = elim (phase_has_ended j.phase) [
      | inl ended ↦ inr (has_ended ended)
      | inr goes_on ↦
          let lower = own_lowers ok s (tickets_are_sound g ok steps) (tickets_free g steps) c j before goes_on in
          let mine : rank g lower.0 ≡ rank g k = ap (rank g) (same_Some lower.0 k (sym lower.1 ∙ there)) in
          let more = counted c c steps true (eq-eqb c c refl) in
          let less = lower.2 in
          inl (omega (arith, few, mine, more, less))
    ]

  -- a caller was there before each step
  was_there : (c d : ℕ) (s : State) (k : Caller) → slice_get (ticket_next g d s).callers c ≡ Some k → (j : Caller) × (slice_get s.callers c ≡ Some j)
  was_there c d s k there = by (slice_get s.callers c) refl
    where
      by : (o : Option Caller) → slice_get s.callers c ≡ o → (j : Caller) × (slice_get s.callers c ≡ Some j)
      by (Some j) e = (j, e)
      by None e = absurd (elim (cases_eq c d) [
        | inl same ↦
            let nothing : ticket_next g d s ≡ s = ap (λ x. ticket_next g x s) (sym same) ∙ ap (ticket_acts g c s) e in
            none-some k (sym e ∙ sym (ap (λ (z : State). slice_get z.callers c) nothing) ∙ there)
        | inr other ↦ none-some k (sym e ∙ sym (others_stay c d s other) ∙ there)
      ])

  own_steps : IsSetup g → (steps : List ℕ) (c : ℕ) (k : Caller) → slice_get (ticket_after g steps).callers c ≡ Some k → HasFew c steps k
  own_steps ok [] c k there =
      let from = map-get (λ (_ : List ℕ). fresh g) g.lists.ids c k there in
      inl (let first = fresh_rank g in let same : rank g (fresh g) ≡ rank g k = ap (rank g) from.2 in omega (arith, first, same))
  own_steps ok (d ∷ steps) c k there =
      let was = was_there c d (ticket_after g steps) k there in
      let few = own_steps ok steps c was.0 was.1 in
      elim (cases_eq c d) [
        | inl same ↦
            subst (λ x. HasFew c (x ∷ steps) k) same
            (own_step ok steps c k was.0 (ap (λ x. slice_get (ticket_next g x (ticket_after g steps)).callers c) same ∙ there) was.1 few)
        | inr other ↦ other_step steps c d k other (subst (HasFew c steps) (same_Some was.0 k (sym was.1 ∙ sym (others_stay c d (ticket_after g steps) other) ∙ there)) few)
      ]

  -- some caller goes on, or all have ended
  some_goes_on : (ks : List Caller) → All HasEnded ks ⊎ ((c : ℕ) × (k : Caller) × (slice_get ks c ≡ Some k) × ¬ HasEnded k)
  some_goes_on [] = inl (All-nil HasEnded)
  some_goes_on (k ∷ ks) = elim (phase_has_ended k.phase) [
    | inr goes_on ↦ inr (0, k, refl, goes_on)
    | inl one ↦ elim (some_goes_on ks) [
      | inl more ↦ inl (All-cons HasEnded k ks one more)
      | inr found ↦ inr (suc found.0, found.1, found.2, found.3)
    ]
  ]

  -- steps of callers that go on lead to the end of all
  lead_to_end : IsSetup g → (n : ℕ) (steps : List ℕ) → total g (ticket_after g steps) ≤ n → (more : List ℕ) × HaveEnded (ticket_after g more)
  lead_to_end ok zero steps few = elim (some_goes_on (ticket_after g steps).callers) [
    | inl all ↦ (steps, all)
    | inr found ↦ let lt = ticket_lowers ok (ticket_after g steps) (tickets_are_sound g ok steps) (tickets_free g steps) found.0 found.1 found.2 found.3 in absurd (omega (arith, few, lt))
  ]
  lead_to_end ok (suc n) steps few = elim (some_goes_on (ticket_after g steps).callers) [
    | inl all ↦ (steps, all)
    | inr found ↦
        let lt = ticket_lowers ok (ticket_after g steps) (tickets_are_sound g ok steps) (tickets_free g steps) found.0 found.1 found.2 found.3 in
        lead_to_end ok n (found.0 ∷ steps) (omega (arith, few, lt))
  ]

pub tickets_wait_for_nobody : TicketsWaitForNobody
tickets_wait_for_nobody g ok steps c k there many = elim (own_steps g ok steps c k there) [
  | inr ended ↦ ended
  | inl few ↦ elim (phase_has_ended k.phase) [
    | inl ended ↦ ended
    | inr goes_on ↦
        let lower = own_lowers g ok (ticket_after g steps) (tickets_are_sound g ok steps) (tickets_free g steps) c k there goes_on in
        let less = lower.2 in
        absurd (omega (arith, few, many, less))
  ]
]

pub tickets_leave_a_report : TicketsLeaveAReport
tickets_leave_a_report g ok =
    let end = lead_to_end g ok (total g (opening g)) [] (omega arith) in
    let told = has_report g (ticket_after g end.0) (tickets_are_sound g ok end.0) in
    (told.0, record { steps = end.0; ended = end.1; left = told.1 })
