-- A journal agrees, or differs at one place.
use Rattle.std.proofs.Common.{◌≡◌, ◌⊎◌, ℕ, List, length, inl, inr, refl, sym, ◌∙◌, subst}
use Rattle.amoebot_state.specs.declared.verdict.Change.{Change}
use Rattle.amoebot_state.specs.declared.verdict.Entry.{Entry}
use Rattle.amoebot_state.specs.declared.verdict.Verdict.{Verdict}
use Rattle.amoebot_state.specs.Configs.{Config}
use Rattle.amoebot_state.specs.Zones.{Shown}
use Rattle.serial_model.specs.Forms.{IsForm}
use Rattle.serial_model.specs.Laws.{FirstNoStepIsUnique, RunHasOnlySteps, RunOrFirstNoStep, PlainRunIsUnique}
use Rattle.serial_model.specs.Replays.{IsFirstNoStep, RunIn}
use Rattle.document_answers.specs.Journals.{AgreesIn, DiffersAt, at_entry, at_end}
use Rattle.document_answers.specs.AnswerLaws.{ReplayIsDecided}
use Rattle.document_answers.proofs.SameConfigs.{configs_equal}
use Rattle.document_answers.proofs.ToldEntries.{plain_alike}

module _ {E : Type 0} {form : Entry → E} {bot : E → ℕ} {entry : E → Change → Entry} (is : IsForm form bot entry) (only : RunHasOnlySteps form) (one_run : PlainRunIsUnique) where
  one_last : (f : Shown → Verdict) (start one two : Config) (told : List E) → RunIn form f start told one → RunIn form f start told two → one ≡ two
  one_last f start one two told first second = (one_run f start one two first.source second.source first.holds second.holds (plain_alike is first.source second.source (first.tells ∙ sym second.tells))).1

  exclusive : (f : Shown → Verdict) (start final : Config) (told : List E) (place : ℕ) → AgreesIn form f start told final → DiffersAt form f start told final place → ⊥
  exclusive f start final told place run (at_entry p none) = only f start final told p run none
  exclusive f start final told place run (at_end last other ne) = ne (one_last f start last final told other run)

  one_place : FirstNoStepIsUnique form → (f : Shown → Verdict) (start final : Config) (told : List E) (one two : ℕ) → DiffersAt form f start told final one → DiffersAt form f start told final two → one ≡ two
  one_place unique f start final told one two (at_entry p none) (at_entry q more) = unique f start told p q none more
  one_place unique f start final told one two (at_entry p none) (at_end last run ne) = absurd (only f start last told p run none)
  one_place unique f start final told one two (at_end last run ne) (at_entry q none) = absurd (only f start last told q run none)
  one_place unique f start final told one two (at_end last run ne) (at_end other more me) = refl

  -- a run leads to the final shape, or to another one
  some : (f : Shown → Verdict) (start final : Config) (told : List E) → ((last : Config) × RunIn form f start told last) ⊎ ((place : ℕ) × IsFirstNoStep form f start told place) → AgreesIn form f start told final ⊎ ((place : ℕ) × DiffersAt form f start told final place)
  some f start final told either = elim either [
    | inl by ↦ elim (configs_equal by.0 final) [
      | inl same ↦ inl (subst (λ (c : Config). RunIn form f start told c) same by.1)
      | inr other ↦ inr (length told, at_end by.0 by.1 other)
    ]
    | inr by ↦ inr (by.0, at_entry by.0 by.1)
  ]

  pub decided : FirstNoStepIsUnique form → RunOrFirstNoStep form → ReplayIsDecided form
  decided unique either = record {
    exclusive = exclusive;
    one_place = one_place unique;
    some = λ f start final told leads valid. some f start final told (either f start told leads valid);
  }
