-- The command `rewind`: the shape at a place of a journal, seen from the final shape.
use Rattle.std.specs.Prelude.{◌≡◌, ◌<◌, ◌≤◌, ℕ, List, length, codes}
use Rattle.std.specs.declared.option.Option.{Option}
use Rattle.std.specs.declared.option.Option.TheVariants.{Some, None}
use Rattle.std.specs.declared.result.Result.TheVariants.{Ok, Err}
use Rattle.text_tokens.specs.declared.refusal.Refusal.{Refusal}
use Rattle.text_tokens.specs.declared.refusal.RefusalKind.TheVariants as kind
use Rattle.amoebot_state.specs.declared.verdict.Entry.{Entry}
use Rattle.amoebot_state.specs.Configs.{Config}
use Rattle.claim_core.specs.declared.report.Report.{Report}
use Rattle.rewind_log.specs.Unwinding.{IsUnwound}
use Rattle.action_meaning.specs.Verdicts.{verdict_shown}
use Rattle.shape_text.specs.Texts.{shape_text}
use Rattle.shape_files.specs.Documents.{Contents}
use Rattle.document_answers.specs.declared.status.Status.{Status}
use Rattle.document_answers.specs.declared.status.Status.TheVariants as status
use Rattle.document_answers.specs.Answers.{refusal_line}
use Rattle.document_answers.specs.Journals.{DocumentRecord, differs_line}

-- the least version whose journals have old values, which the way back needs
abbrev pub with_old_values : ℕ
with_old_values = 3

-- a document whose journal has no such place
abbrev pub no_such_place : Refusal
no_such_place = record { line = 0; kind = kind.BadPlace }

-- The journal has no such place. Or the way back leads to a shape, which is told.
-- Or no way leads back to the place, and this is where it ends.
pub data RewindOutcome (a : Contents) (place : ℕ) : Status → Option Report → List ℕ → Type 0 where
  no_place : (d : DocumentRecord a) (es : List Entry)
      → a.entries ≡ Some es
      → length es < place
      → RewindOutcome a place (status.Refused no_such_place) None (refusal_line no_such_place)
  unwound : (d : DocumentRecord a) (es : List Entry) (world : Config)
      → a.entries ≡ Some es
      → place ≤ length es
      → IsUnwound (verdict_shown d.program) d.start d.final es place (Ok world)
      → RewindOutcome a place status.Done None (shape_text (codes "shape") (length d.program.vars) world)
  not_unwound : (d : DocumentRecord a) (es : List Entry) (k : ℕ)
      → a.entries ≡ Some es
      → place ≤ length es
      → IsUnwound (verdict_shown d.program) d.start d.final es place (Err k)
      → RewindOutcome a place (status.Differs k) None (differs_line k)
