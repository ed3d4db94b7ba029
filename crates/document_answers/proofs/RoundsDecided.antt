-- Rounds are told in one way, and those of entries that agree are told.
use Rattle.std.proofs.Common.{◌≡◌, ◌<◌, ◌∙◌, ℕ, List, length, sym, subst}
use Rattle.std.specs.Prelude.{IsSome}
use Rattle.amoebot_state.specs.declared.verdict.Change.{Change}
use Rattle.amoebot_state.specs.declared.verdict.Entry.{Entry}
use Rattle.amoebot_state.specs.declared.verdict.Verdict.{Verdict}
use Rattle.amoebot_state.specs.Configs.{Config, IsValid, bot_at}
use Rattle.amoebot_state.specs.Zones.{Shown}
use Rattle.serial_model.specs.Forms.{IsForm}
use Rattle.serial_model.specs.Laws.{PlainRunIsUnique}
use Rattle.round_meter.specs.Rounds.{IsRounded}
use Rattle.round_meter.specs.Laws.{EachRunIsRounded, RoundsAreUnique}
use Rattle.document_answers.specs.Journals.{AgreesIn}
use Rattle.document_answers.specs.Rounds.{CountedIn}
use Rattle.document_answers.specs.AnswerLaws.{RoundsAreDecided}
use Rattle.document_answers.proofs.ToldEntries.{plain_alike}

module _ {E : Type 0} {form : Entry → E} {bot : E → ℕ} {entry : E → Change → Entry} (is : IsForm form bot entry) where
  -- entries in a form are those of one run, so its rounds are one
  one : RoundsAreUnique → PlainRunIsUnique → (f : Shown → Verdict) (start final : Config) (told : List E) (rounds waiting others still : ℕ) → CountedIn form f start told final rounds waiting → CountedIn form f start told final others still → (rounds ≡ others) × (waiting ≡ still)
  one unique one_run f start final told rounds waiting others still first second =
      let alike = plain_alike is first.source second.source (first.tells ∙ sym second.tells) in
      let same = one_run f start final final first.source second.source first.holds.agrees second.holds.agrees alike in
      unique f start second.source rounds waiting others still (subst (λ es. IsRounded f start es rounds waiting) same.0 first.holds.counted) second.holds.counted

  some : EachRunIsRounded → (f : Shown → Verdict) (start final : Config) (told : List E) → IsValid start → ((b : ℕ) → b < length start.bots → IsSome (bot_at start b)) → AgreesIn form f start told final → (rounds : ℕ) × (waiting : ℕ) × CountedIn form f start told final rounds waiting
  some each f start final told valid no_gaps by =
      let counted = each f start final by.source valid no_gaps by.holds in
      (counted.0, counted.1, record { source = by.source; tells = by.tells; holds = record { agrees = by.holds; counted = counted.2 } })

  pub rounds_are_decided : RoundsAreUnique → EachRunIsRounded → PlainRunIsUnique → RoundsAreDecided form
  rounds_are_decided unique each one_run = record { one = one unique one_run; some = some each }
