-- What holds of `rewind`: it undoes what `replay` follows.
use Rattle.std.specs.Prelude.{◌≡◌, ℕ, List, length, codes}
use Rattle.std.specs.declared.option.Option.TheVariants.{Some, None}
use Rattle.amoebot_state.specs.declared.verdict.Entry.{Entry}
use Rattle.amoebot_state.specs.Configs.{Config}
use Rattle.amoebot_state.specs.Steps.{Run, IsWorldAt}
use Rattle.action_meaning.specs.Verdicts.{verdict_shown}
use Rattle.shape_files.specs.Documents.{Contents}
use Rattle.shape_text.specs.Texts.{shape_text}
use Rattle.commands.specs.declared.words.Command.TheVariants.{Document}
use Rattle.commands.specs.declared.words.DocumentCommand.TheVariants.{Rewind}
use Rattle.document_answers.specs.declared.status.Status.TheVariants as status
use Rattle.commands.specs.Commands.{IsDocumentOf}
use Rattle.document_answers.specs.Journals.{DocumentRecord}
use Rattle.commands.specs.Owed.{IsOwed}
use Rattle.commands.specs.Reads.{whole}

-- where the journal of a document is a run from its shape to its final shape,
-- `rewind` owes the shape that the run has at the place
abbrev pub RewindUndoesReplay : Type 0
RewindUndoesReplay =
    (bytes : List ℕ) (a : Contents) (d : DocumentRecord a) (es : List Entry) (place : ℕ) (world : Config)
    → IsDocumentOf (Rewind place) bytes a
    → a.entries ≡ Some es
    → Run (verdict_shown d.program) d.start es d.final
    → IsWorldAt (verdict_shown d.program) d.start es place world
    → IsOwed (Some (Document (Rewind place))) (whole bytes) status.Done None
    (shape_text (codes "shape") (length d.program.vars) world)
