-- Rounds until all callers have ended leave a report.
use Rattle.std.proofs.Common.{◌≡◌, ℕ, zero, suc, ◌+◌, ◌<◌, ◌⊎◌, List, [], ◌∷◌, length, inl, inr, refl, ap, sym, subst, ◌∙◌, arith}
use Rattle.std.specs.List.{All}
use Rattle.std.proofs.lemmas.Bool.{cases_eq}
use Rattle.std.proofs.lemmas.List.Elements.{All-nil, All-cons, All-head, All-tail}
use Rattle.claim_core.specs.declared.report.Report.{Report}
use Rattle.claim_core.specs.declared.state.Caller.{Caller}
use Rattle.claim_core.specs.declared.state.Phase.{Phase}
use Rattle.claim_core.specs.declared.state.Phase.TheVariants.{Claim, Refusing, Looking, Taking, Committing, Releasing, Ended}
use Rattle.claim_core.specs.Machine.{Setup, State, after, next}
use Rattle.claim_core.specs.Soundness.{Sound, marks_so_far}
use Rattle.claim_core.specs.Reached.{HaveEnded, IsReportOf}
use Rattle.claim_core.specs.StepRounds.{steps_below, step_rounds, most_step_rounds}
use Rattle.claim_core.specs.Laws.{RoundsLeaveAReport}
use Rattle.claim_core.proofs.Frames.{run_framed}
use Rattle.claim_core.proofs.Ranks.{rounds_are_enough, rounds_sound}
use Rattle.claim_core.proofs.Sounds.{always}

-- ---- whether all callers have ended

pub phase_has_ended : (p : Phase) → (p ≡ Ended) ⊎ ¬ (p ≡ Ended)
phase_has_ended Ended = inl refl
phase_has_ended Claim = inr (λ e. cc)
phase_has_ended (Refusing n t) = inr (λ e. cc)
phase_has_ended (Looking l) = inr (λ e. cc)
phase_has_ended (Taking change) = inr (λ e. cc)
phase_has_ended (Committing change) = inr (λ e. cc)
phase_has_ended Releasing = inr (λ e. cc)

abbrev pub HasEnded : Caller → Type 0
HasEnded k = k.phase ≡ Ended

all_have_ended : (ks : List Caller) → All HasEnded ks ⊎ ¬ All HasEnded ks
all_have_ended [] = inl (All-nil HasEnded)
all_have_ended (k ∷ ks) = elim (phase_has_ended k.phase) [
  | inr goes_on ↦ inr (λ all. goes_on (All-head HasEnded k ks all))
  | inl one ↦ elim (all_have_ended ks) [
    | inl more ↦ inl (All-cons HasEnded k ks one more)
    | inr goes_on ↦ inr (λ all. goes_on (All-tail HasEnded k ks all))
  ]
]

-- ---- the first number with a property

module _ (P : ℕ → Type 0) (decide : (n : ℕ) → P n ⊎ ¬ P n) where
  abbrev HasFirst : Type 0
  HasFirst = (count : ℕ) × P count × ((n : ℕ) → n < count → ¬ P n)

  first_from : (from more : ℕ) → ((n : ℕ) → n < from → ¬ P n) → P (from + more) → HasFirst
  first_from from zero none p = (from, subst P (omega arith) p, none)
  first_from from (suc more) none p = elim (decide from) [
    | inl here ↦ (from, here, none)
    | inr not ↦ first_from (suc from) more
        (λ n lt. elim (cases_eq n from) [ inl same ↦ subst (λ m. ¬ P m) (sym same) not | inr other ↦ none n (omega arith) ])
        (subst P (omega arith) p)
  ]

  first_of_all : (n : ℕ) → P n → HasFirst
  first_of_all n p = first_from zero n (λ m lt. absurd (omega arith)) (subst P (omega arith) p)

-- ---- rounds are steps, and a sound state has a report

module _ (g : Setup) where
  below_are_steps : (n : ℕ) (steps : List ℕ) → (more : List ℕ) × (steps_below g n (after g steps) ≡ after g more)
  below_are_steps zero steps = (steps, refl)
  below_are_steps (suc n) steps = let by = below_are_steps n steps in (n ∷ by.0, ap (next g n) by.1)

  rounds_are_steps : (n : ℕ) (steps : List ℕ) → (more : List ℕ) × (step_rounds g n (after g steps) ≡ after g more)
  rounds_are_steps zero steps = (steps, refl)
  rounds_are_steps (suc n) steps =
      let by = rounds_are_steps n steps in
      let below = below_are_steps (length g.lists.ids) by.0 in
      (below.0, ap (steps_below g (length g.lists.ids)) by.1 ∙ below.1)

  pub has_report : (s : State) → Sound g s → (report : Report) × IsReportOf g s report
  has_report s sound =
      let framed = run_framed g.verdict g.world sound.last s.journal sound.valid sound.run in
      let report : Report = record { world = sound.last; journal = record { first = g.world; entries = s.journal; spare = 0 }; turns = marks_so_far g s } in
      (report, record { first = refl; entries = refl; world = record { same = framed.same; values = sym sound.values }; marks = refl })

pub rounds_leave_a_report : RoundsLeaveAReport
rounds_leave_a_report g ok steps =
    let end = first_of_all (λ n. HaveEnded (step_rounds g n (after g steps))) (λ n. all_have_ended (step_rounds g n (after g steps)).callers) (most_step_rounds g.lists) (rounds_are_enough g ok steps) in
    let by = rounds_are_steps g end.0 steps in
    let told = has_report g (step_rounds g end.0 (after g steps)) (rounds_sound g ok (after g steps) (always g ok steps) end.0) in
    record {
      count = end.0;
      ended = end.1;
      first = end.2;
      report = told.0;
      left = told.1;
      reached = record { steps = by.0; ended = subst HaveEnded by.1 end.1; left = subst (λ s. IsReportOf g s told.0) by.1 told.1 };
    }
