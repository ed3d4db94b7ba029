use Rattle.std.proofs.Common.{◌≤◌, ℕ, sym, subst}
use Rattle.shape_files.specs.declared.section_kind.Form.{Form}
use Rattle.shape_files.specs.Documents.{Contents, HasContentsFrom, IsDocumentFaultFrom}
use Rattle.shape_files.specs.Frame.{least_version}
use Rattle.shape_files.specs.Views.{contents}
use Rattle.commands.specs.Commands.{form_of, IsDocumentOf, IsDocumentFaultOf}
use Rattle.commands.proofs.CommandDocuments.{late, of_form}
use Rattle.commands.proofs.CommandRows.{row_is}
use Rattle.commands.proofs.OwedTexts.{refuses}
use Rattle.commands.proofs.tasks.task_of.Goals as goal

pub read_whole-requires-clause-least : goal.read_whole-requires-clause-least
read_whole-requires-clause-least c = subst (λ (n : ℕ). least_version ≤ n) (sym c.row_of.ensures.least) (row_is c.args.command).least

pub task_of_document-requires-clause-fits : goal.task_of_document-requires-clause-fits
task_of_document-requires-clause-fits c =
    let holds : IsDocumentOf c.args.command c.args.document (contents c.into_parts.result) = subst (λ (z : ℕ × Form × Contents). HasContentsFrom z.0 z.1 c.args.document z.2) (λ i. (c.row_of.ensures.least i, c.row_of.ensures.form i, sym c.into_parts.ensures i)) c.in-Ok.ensures in
    c.documents_fit.ensures (form_of c.args.command) c.args.document (contents c.into_parts.result) (of_form c.least_versions_are_kept.ensures.document c.args.command c.args.document (contents c.into_parts.result) holds)

pub task_of_document-requires-clause-least : goal.task_of_document-requires-clause-least
task_of_document-requires-clause-least c =
    let holds : IsDocumentOf c.args.command c.args.document (contents c.into_parts.result) = subst (λ (z : ℕ × Form × Contents). HasContentsFrom z.0 z.1 c.args.document z.2) (λ i. (c.row_of.ensures.least i, c.row_of.ensures.form i, sym c.into_parts.ensures i)) c.in-Ok.ensures in
    late c.least_versions_are_kept.ensures.document c.args.command c.args.document (contents c.into_parts.result) holds

pub returns-in_ok-answer-in-Err-Refused : goal.returns-in_ok-answer-in-Err-Refused
returns-in_ok-answer-in-Err-Refused c =
    let fault : IsDocumentFaultOf c.args.command c.args.document c.in-Err-Refused.refusal = subst (λ (z : ℕ × Form). IsDocumentFaultFrom z.0 z.1 c.args.document c.in-Err-Refused.refusal) (λ i. (c.row_of.ensures.least i, c.row_of.ensures.form i)) (rw c.in-Err-Refused.field-0-is at c.in-Err-Refused.ensures) in
    refuses c.args.command c.args.document c.in-Err-Refused.refusal c.in_ok-answer-in-Err-Refused.answer fault (rw c.in-Err-Refused.field-0-is at c.in_ok-answer-in-Err-Refused.ensures)
