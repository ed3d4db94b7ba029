-- The rounds of a small journal: the first amoebot rests, since the second one stands before it, and the second one acts.
use Rattle.std.proofs.Common.{◌<◌, ℕ, zero, suc, List, [], ◌∷◌, true, false, refl, arith}
use Rattle.std.specs.Prelude.{slice_index_or, Bool, Decides, IsSome}
use Rattle.amoebot_state.specs.declared.verdict.Entry.{Entry}
use Rattle.amoebot_state.specs.Configs.{bot_at}
use Rattle.amoebot_state.specs.Steps.{Run, Step, plain_entry, IsWorldAt}
use Rattle.amoebot_state.proofs.Members.{Has, here, later}
use Rattle.round_meter.specs.Rounds.{IsSettled, AllSettled, EndsRound, rested, acted, no_round, one_more}
use Rattle.round_meter.specs.Meters.{GoesOnIn}
use Rattle.round_meter.proofs.MeterLemmas.{first_is_metered, metered_next}
use Rattle.small_worlds.proofs.Rows.{valid}
use Rattle.document_answers.specs.Rounds.{AgreesInRounds, CountedIn}
use Rattle.commands.specs.WorkExamples.{start, second_spread, decides, second_expansion, meter_at_start, meter_behind}

abbrev entries : List Entry
entries = second_expansion ∷ []

at_start : IsWorldAt decides start entries 0 start
at_start = record { within = omega arith; reached = refl }

-- each has rested or acted by the first place
settled_first : AllSettled decides start entries 0 1
settled_first zero lt = rested 0 (omega arith) (omega arith) (start, at_start, refl)
settled_first (suc zero) lt = acted 0 second_expansion (omega arith) (omega arith) refl refl
settled_first (suc (suc b)) lt = absurd (omega (arith, lt))

ends : EndsRound decides start entries 0 1
ends = record { above = omega arith; within = omega arith; settled = settled_first; least = λ j after before. absurd (omega (arith, after, before)) }

module _ (run : Run decides start entries second_spread) where
  at_last : IsWorldAt decides start entries 1 second_spread
  at_last = record { within = omega arith; reached = run }

  -- and both rest there
  settled_last : AllSettled decides start entries 1 1
  settled_last zero lt = rested 1 (omega arith) (omega arith) (second_spread, at_last, refl)
  settled_last (suc zero) lt = rested 1 (omega arith) (omega arith) (second_spread, at_last, refl)
  settled_last (suc (suc b)) lt = absurd (omega (arith, lt))

  abbrev all_settled : List Bool
  all_settled = true ∷ true ∷ []

  told : (b : ℕ) → b < 2 → Decides (slice_index_or all_settled b false) (IsSettled decides start entries b 1 1)
  told zero lt = ((λ e. settled_last 0 lt), λ s. refl)
  told (suc zero) lt = ((λ e. settled_last 1 lt), λ s. refl)
  told (suc (suc b)) lt = absurd (omega (arith, lt))

  pub one_round : AgreesInRounds decides start entries second_spread 1 0
  one_round = record {
    agrees = run;
    counted = record {
      start = 1;
      ended = one_more 0 0 1 no_round ends;
      unended = λ k by. let after = by.above in let inside = by.within in absurd (omega (arith, after, inside));
      waits = record { settled = all_settled; each = refl; told = told; count = refl };
    };
  }

-- the same entries without their old values
pub plain_round : Run decides start entries second_spread → CountedIn plain_entry decides start (plain_entry second_expansion ∷ []) second_spread 1 0
plain_round run = record { source = entries; tells = refl; holds = one_round run }

-- A meter at the start goes on by this entry. Each of the two amoebots is asked again.
pub goes_on : Step decides start second_expansion second_spread → GoesOnIn plain_entry decides (plain_entry second_expansion) meter_at_start meter_behind
goes_on step = record {
  source = second_expansion;
  tells = refl;
  holds = record {
    stands = (start, [], first_is_metered decides start valid no_gaps);
    step = step;
    metered = λ first es is. metered_next decides first es meter_at_start is second_expansion second_spread step (0 ∷ 1 ∷ []) (λ b lt lacks. absurd (lacks (either b (omega (arith, lt, is.size)))));
  };
}
  where
    no_gaps : (b : ℕ) → b < 2 → IsSome (bot_at start b)
    no_gaps zero lt = refl
    no_gaps (suc zero) lt = refl
    no_gaps (suc (suc b)) lt = absurd (omega (arith, lt))

    either : (b : ℕ) → b < 2 → Has b (0 ∷ 1 ∷ [])
    either zero lt = here
    either (suc zero) lt = later here
    either (suc (suc b)) lt = absurd (omega (arith, lt))
