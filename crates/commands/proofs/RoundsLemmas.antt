-- A run has a text of its rounds, so `rounds` ends as `replay` does.
use Rattle.std.proofs.Common.{ℕ, List, Option, refl, subst}
use Rattle.std.specs.Prelude.{IfSome}
use Rattle.amoebot_state.specs.declared.verdict.Entry.{Entry}
use Rattle.amoebot_state.specs.Configs.{Config}
use Rattle.round_meter.specs.Laws.{EachRunIsRounded}
use Rattle.action_meaning.specs.Verdicts.{verdict_shown}
use Rattle.shape_files.specs.declared.section_kind.Form.TheVariants as form
use Rattle.shape_files.specs.Documents.{Contents}
use Rattle.shape_files.specs.Fitting.{DocumentsAreSound, IsWorldShape}
use Rattle.document_answers.specs.Journals.{Agrees, DocumentRecord}
use Rattle.document_answers.specs.Rounds.{IsRoundsText, rounds_text}
use Rattle.commands.specs.RoundsLaws.{RoundsEndAsReplay}
use Rattle.commands.specs.declared.words.DocumentCommand.TheVariants.{Rounds}
use Rattle.commands.proofs.JournalLemmas.{ends_as_replay}

pub rounds_of : EachRunIsRounded → {a : Contents} (d : DocumentRecord a) (es : List Entry) → IsWorldShape d.start → Agrees (verdict_shown d.program) d.start es d.final
    → (text : List ℕ) × IsRoundsText (verdict_shown d.program) d.start es text
rounds_of law d es stands run =
    let by = law (verdict_shown d.program) d.start d.final es stands.valid stands.no_gaps run in
    (rounds_text by.0 by.1, record { rounds = by.0; waiting = by.1; counted = by.2; whole = refl })

pub rounds_end_as_replay : DocumentsAreSound → EachRunIsRounded → RoundsEndAsReplay
rounds_end_as_replay sound law read = ends_as_replay Rounds (λ a d. IsRoundsText (verdict_shown d.program) d.start)
    (λ bytes a h. h) (λ bytes a h. h) (λ bytes r x. x) (λ bytes r x. x) (λ a s report text is. is) (λ a s report text d x. (d, x))
    (λ bytes a d es h agrees.
    let stands : IsWorldShape d.start = subst (λ (o : Option Config). IfSome o IsWorldShape) d.its_shape (sound form.Replay bytes a h).world in
    rounds_of law d es stands agrees.agrees) read
