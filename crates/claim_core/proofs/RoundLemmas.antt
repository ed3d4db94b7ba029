-- Rounds until all callers have ended.
use Rattle.std.proofs.Common.{◌≡◌, ℕ, zero, suc, ◌<◌, ◌≤◌, List, length, inl, inr, ap, sym, subst, ◌∙◌, arith}
use Rattle.std.proofs.lemmas.Bool.{cases_eq}
use Rattle.amoebot_state.specs.declared.verdict.Verdict.{Verdict}
use Rattle.amoebot_state.specs.Zones.{Shown}
use Rattle.claim_core.specs.Machine.{Setup, after}
use Rattle.claim_core.specs.Soundness.{IsSetup, Sound}
use Rattle.claim_core.specs.Reached.{HaveEnded}
use Rattle.claim_core.specs.StepRounds.{steps_below, step_round, step_rounds, most_step_rounds}
use Rattle.claim_core.specs.Cores.{Running, setup_of, IsFinished}
use Rattle.claim_core.proofs.Sounds.{always}
use Rattle.claim_core.proofs.Ranks.{below_sound, total, total_after, round_lowers, rounds_sound, rounds_lower}

-- so many rounds were made, and none of them was the last
pub record IsUnderway {D : Type 0} (verdict : D → Shown → Verdict) (old now : Running D) : Type 0 where
  pub count : ℕ
  pub state : now ≡ record old { state = step_rounds (setup_of verdict old) count old.state }
  pub first : (n : ℕ) → n < count → HaveEnded (step_rounds (setup_of verdict old) n old.state) → ⊥

module _ {D : Type 0} (verdict : D → Shown → Verdict) (old : Running D) where
  abbrev g : Setup
  g = setup_of verdict old

  -- in the middle of a round there are as many callers as lists
  pub callers_there : (now : Running D) (n : ℕ) → IsSetup g → Sound g old.state → now ≡ record old { state = steps_below g n old.state } → length now.state.callers ≡ length old.lists.ids
  callers_there now n ok sound is = ap (λ (r : Running D). length r.state.callers) is ∙ (below_sound g ok old.state sound n).callers

  -- a round more
  pub goes_on : (now next : Running D) → IsUnderway verdict old now → (HaveEnded now.state → ⊥) → next ≡ record now { state = step_round (setup_of verdict now) now.state } → IsUnderway verdict old next
  goes_on now next is still made = record {
    count = suc is.count;
    state = made ∙ ap (λ (r : Running D). let s : Running D = record r { state = step_round (setup_of verdict r) r.state } in s) is.state;
    first = λ n lt. elim (cases_eq n is.count) [
      | inl same ↦ λ ended. still (subst (λ (r : Running D). HaveEnded r.state) (sym is.state) (subst (λ m. HaveEnded (step_rounds g m old.state)) same ended))
      | inr ne ↦ is.first n (omega arith)
    ];
  }

  module _ (ok : IsSetup g) (steps : List ℕ) (reached : old.state ≡ after g steps) where
    sound : Sound g old.state
    sound = subst (Sound g) (sym reached) (always g ok steps)

    few : total g old.state ≤ most_step_rounds old.lists
    few = let le = total_after g ok steps in omega (arith, ap (total g) reached)

    -- each round that is not the last one lowers the total
    pub lowers : (now next : Running D) → IsUnderway verdict old now → (HaveEnded now.state → ⊥) → next ≡ record now { state = step_round (setup_of verdict now) now.state } → total (setup_of verdict next) next.state < total (setup_of verdict now) now.state
    lowers now next is still made =
        let lt : total g (step_round g (step_rounds g is.count old.state)) < total g (step_rounds g is.count old.state) = elim (round_lowers g ok (step_rounds g is.count old.state) (rounds_sound g ok old.state sound is.count)) [
          | inl less ↦ less
          | inr ended ↦ absurd (still (subst (λ (r : Running D). HaveEnded r.state) (sym is.state) ended))
        ] in
        let after_is = made ∙ ap (λ (r : Running D). let s : Running D = record r { state = step_round (setup_of verdict r) r.state } in s) is.state in
        subst (λ (z : Running D × Running D). total (setup_of verdict z.0) z.0.state < total (setup_of verdict z.1) z.1.state) (λ i. (sym after_is i, sym is.state i)) lt

    -- and as many callers are there
    pub same_callers : (now : Running D) → IsUnderway verdict old now → length now.state.callers ≡ length old.state.callers
    same_callers now is = ap (λ (r : Running D). length r.state.callers) is.state ∙ (rounds_sound g ok old.state sound is.count).callers ∙ sym sound.callers

    pub finishes : (now : Running D) → IsUnderway verdict old now → HaveEnded now.state → IsFinished verdict old now
    finishes now is ended = record { count = is.count; few = by is.count is.first; state = is.state; ended = ended; first = is.first }
      where
        by : (n : ℕ) → ((m : ℕ) → m < n → HaveEnded (step_rounds g m old.state) → ⊥) → n ≤ most_step_rounds old.lists
        by zero none = omega arith
        by (suc n) none = elim (rounds_lower g ok old.state sound n) [
          | inl le ↦ elim (round_lowers g ok (step_rounds g n old.state) (rounds_sound g ok old.state sound n)) [
            | inl less ↦ omega (arith, few)
            | inr all ↦ absurd (none n (omega arith) all)
          ]
          | inr all ↦ absurd (none n (omega arith) all)
        ]
