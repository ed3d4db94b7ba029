-- `rewind` undoes what `replay` follows.
use Rattle.std.proofs.Common.{length, Option, None, subst}
use Rattle.std.specs.Prelude.{IfSome, codes}
use Rattle.amoebot_state.specs.Configs.{Config}
use Rattle.rewind_log.proofs.Unwound.{unwinding_undoes_runs}
use Rattle.action_meaning.specs.Verdicts.{verdict_shown}
use Rattle.shape_files.specs.declared.section_kind.Form.TheVariants as form
use Rattle.shape_files.specs.Fitting.{DocumentsAreSound, IsWorldShape}
use Rattle.shape_files.specs.LeastVersions.{LaterIsDocument}
use Rattle.shape_text.specs.Texts.{shape_text}
use Rattle.commands.specs.declared.words.DocumentCommand.TheVariants.{Rewind}
use Rattle.document_answers.specs.declared.status.Status.TheVariants as status
use Rattle.commands.specs.Owed.{served}
use Rattle.document_answers.specs.Rewind.{unwound}
use Rattle.commands.specs.RewindLaws.{RewindUndoesReplay}
use Rattle.commands.proofs.CommandDocuments.{of_form}

pub rewind_undoes_replay : LaterIsDocument → DocumentsAreSound → RewindUndoesReplay
rewind_undoes_replay later sound bytes a d es place world h its_journal run there =
    let drawn = sound form.Replay bytes a (of_form later (Rewind place) bytes a h) in
    let shape : IsWorldShape d.start = subst (λ (o : Option Config). IfSome o IsWorldShape) d.its_shape drawn.world in
    served (Rewind place) bytes a status.Done None (shape_text (codes "shape") (length d.program.vars) world) h
    (unwound d es world its_journal there.within (unwinding_undoes_runs (verdict_shown d.program) d.start d.final world es place shape.valid run there.within there.reached))
