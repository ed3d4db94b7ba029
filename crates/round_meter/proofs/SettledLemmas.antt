-- When amoebots are settled: by later places, and with more entries.
use Rattle.std.proofs.Common.{◌≡◌, ◌∙◌, ◌≤◌, ◌+◌, ◌⊎◌, ℕ, List, [], ◌∷◌, ◌++◌, length, false, Some, inl, inr, ap, sym, subst, refl, arith}
use Rattle.std.specs.Prelude.{slice_get}
use Rattle.std.proofs.lemmas.Bool.{cases_lt}
use Rattle.std.proofs.lemmas.List.{length-append}
use Rattle.amoebot_state.specs.declared.verdict.Entry.{Entry}
use Rattle.amoebot_state.specs.declared.verdict.Verdict.{Verdict}
use Rattle.amoebot_state.specs.Configs.{Config}
use Rattle.amoebot_state.specs.Zones.{Shown}
use Rattle.amoebot_state.specs.Steps.{Run, IsWorldAt}
use Rattle.amoebot_state.proofs.Fronts.{slice_get_left}
use Rattle.amoebot_state.proofs.Stays.{slice_get-pushed, world_last, IsWorldAt-append}
use Rattle.round_meter.specs.Rounds.{IsSettled, rested, acted, enabled_in}
use Rattle.round_meter.proofs.WorldsAt.{below_there, there_still, one_world_at, world_before}

module _ (f : Shown → Verdict) (first : Config) where
  -- what is settled by a place is settled by each later one
  pub settled_later : (es : List Entry) (b start k j : ℕ) → k ≤ j → IsSettled f first es b start k → IsSettled f first es b start j
  settled_later es b start k j le (rested place above within rests) = rested place above (omega (arith, within, le)) rests
  settled_later es b start k j le (acted place e above before there its) = acted place e above (omega (arith, before, le)) there its

  -- more entries at the end leave settled what is so
  pub settled_grows : (es more : List Entry) (b start k : ℕ) → IsSettled f first es b start k → IsSettled f first (es ++ more) b start k
  settled_grows es more b start k (rested place above within rests) = rested place above within (rests.0, IsWorldAt-append f first rests.0 es more place rests.1, rests.2)
  settled_grows es more b start k (acted place e above before there its) = acted place e above before (there_still es more place e there) its

  -- and nothing else by the places that were there before
  pub settled_before : (es more : List Entry) (b start k : ℕ) → k ≤ length es → IsSettled f first (es ++ more) b start k → IsSettled f first es b start k
  settled_before es more b start k le (rested place above within rests) = rested place above within (rests.0, world_before f first es more place rests.0 (omega (arith, within, le)) rests.1, rests.2)
  settled_before es more b start k le (acted place e above before there its) = acted place e above before (sym (slice_get_left es more place (omega (arith, before, le))) ∙ there) its

  -- where entries end, an amoebot is settled from there exactly where it is not enabled
  pub settled_here : (es : List Entry) (world : Config) (b : ℕ) → Run f first es world → IsSettled f first es b (length es) (length es) → enabled_in f world b ≡ false
  settled_here es world b run (rested place above within rests) =
      let here : place ≡ length es = omega (arith, above, within) in
      let same = one_world_at f first es (length es) rests.0 world (subst (λ k. IsWorldAt f first es k rests.0) here rests.1) (world_last f first world es run) in
      ap (λ c. enabled_in f c b) (sym same) ∙ rests.2
  settled_here es world b run (acted place e above before there its) = absurd (omega (arith, above, before))

  pub here_settled : (es : List Entry) (world : Config) (b : ℕ) → Run f first es world → enabled_in f world b ≡ false → IsSettled f first es b (length es) (length es)
  here_settled es world b run rests = rested (length es) (omega arith) (omega arith) (world, world_last f first world es run, rests)

  -- One more entry settles its amoebot, and those that are not enabled behind it.
  -- All others that are settled behind it were so before.
  abbrev pub Settles : List Entry → Entry → Config → ℕ → ℕ → Type 0
  Settles es e next b start = IsSettled f first es b start (length es) ⊎ ((e.bot ≡ b) ⊎ (enabled_in f next b ≡ false))

  pub settled_next : (es : List Entry) (e : Entry) (next : Config) (b start : ℕ) → Run f first (es ++ e ∷ []) next → IsSettled f first (es ++ e ∷ []) b start (length es + 1) → Settles es e next b start
  settled_next es e next b start run (rested place above within rests) = elim (cases_lt (length es) place) [
    | inl behind ↦
        let here : place ≡ length (es ++ e ∷ []) = omega (arith, behind, within, length-append es (e ∷ [])) in
        let same = one_world_at f first (es ++ e ∷ []) (length (es ++ e ∷ [])) rests.0 next (subst (λ k. IsWorldAt f first (es ++ e ∷ []) k rests.0) here rests.1) (world_last f first next (es ++ e ∷ []) run) in
        inr (inr (ap (λ c. enabled_in f c b) (sym same) ∙ rests.2))
    | inr le ↦ inl (rested place above le (rests.0, world_before f first es (e ∷ []) place rests.0 le rests.1, rests.2))
  ]
  settled_next es e next b start run (acted place x above before there its) = elim (slice_get-pushed es e x place there) [
    | inl was ↦ inl (acted place x above (below_there es place x was) was its)
    | inr new ↦ inr (inl (ap (λ (y : Entry). y.bot) new.1 ∙ its))
  ]

  pub next_settled : (es : List Entry) (e : Entry) (next : Config) (b start : ℕ) → Run f first (es ++ e ∷ []) next → start ≤ length es → Settles es e next b start → IsSettled f first (es ++ e ∷ []) b start (length es + 1)
  next_settled es e next b start run began (inl was) = settled_later (es ++ e ∷ []) b start (length es) (length es + 1) (omega arith) (settled_grows es (e ∷ []) b start (length es) was)
  next_settled es e next b start run began (inr (inl its)) = acted (length es) e began (omega arith) (pushed es) its
    where
      pushed : (xs : List Entry) → slice_get (xs ++ e ∷ []) (length xs) ≡ Some e
      pushed [] = refl
      pushed (x ∷ xs) = pushed xs
  next_settled es e next b start run began (inr (inr rests)) =
      let size = length-append es (e ∷ []) in
      let end : length (es ++ e ∷ []) ≡ length es + 1 = omega (arith, size) in
      rested (length es + 1) (omega (arith, began)) (omega arith) (next, subst (λ k. IsWorldAt f first (es ++ e ∷ []) k next) end (world_last f first next (es ++ e ∷ []) run), rests)
