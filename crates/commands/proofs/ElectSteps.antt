-- The steps of an election, one entry after another.
use Rattle.std.proofs.Common.{◌≡◌, ◌<◌, ◌+◌, ◌++◌, [], ◌∷◌, ℕ, List, length, take, get_or, ap, sym, subst, ◌∙◌}
use Rattle.std.proofs.lemmas.List.{take_more}
use Rattle.amoebot_state.specs.declared.verdict.Entry.{Entry}
use Rattle.amoebot_state.specs.declared.verdict.Verdict.{Verdict}
use Rattle.amoebot_state.specs.Configs.{Config}
use Rattle.amoebot_state.specs.Zones.{Shown}
use Rattle.serial_model.specs.Replays.{IsNoStep, RunIn, StepIn}
use Rattle.serial_model.proofs.Runs.{run_push}
use Rattle.document_answers.specs.Journals.{DiffersAt}
use Rattle.document_answers.proofs.ToldEntries.{stops}

module _ {E : Type 0} (form : Entry → E) (f : Shown → Verdict) (start : Config) (told : List E) (world : Config) (place : ℕ) (made : RunIn form f start (take place told) world) where
  -- the next entry is a step
  pub made_more : (next : E) (new : Config) → place < length told → next ≡ get_or told place next → StepIn form f world next new → RunIn form f start (take (place + 1) told) new
  made_more next new below is step =
      subst (λ (es : List E). RunIn form f start es new) (ap (λ (d : E). take place told ++ d ∷ []) is ∙ sym (take_more told place next below)) (run_push form f start world new (take place told) next made step)

  -- or it is none
  pub stops_at : (final : Config) (at : ℕ) (next : E) → place < length told → next ≡ get_or told place next → IsNoStep form f world next → at ≡ place → DiffersAt form f start told final at
  stops_at final at next below is none same = subst (λ (k : ℕ). DiffersAt form f start told final k) (sym same) (stops form told f start world final next place below is made none)
