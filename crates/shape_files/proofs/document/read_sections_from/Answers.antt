use Rattle.std.proofs.Common.{◌∙◌, Ok, Err, sym}
use Rattle.std.proofs.lemmas.Result.{err_from_is_err_and}
use Rattle.text_tokens.specs.declared.refusal.RefusalKind.TheVariants.{Trailing}
use Rattle.text_tokens.specs.declared.refusal.ReadRefusal.TheVariants.{Refused}
use Rattle.text_tokens.proofs.ExactReaders.{tells_of, input_ends, input_fails, reads_input}
use Rattle.shape_files.specs.Documents.{Contents, IsDocumentFrom}
use Rattle.shape_files.specs.DocumentReaders.{document_from}
use Rattle.shape_files.proofs.DocumentsLemmas.{framed_from}
use Rattle.shape_files.specs.Views.{contents}
use Rattle.shape_files.proofs.document.read_sections_from.Goals as goal

abbrev itself : Contents → Contents
itself s = s

pub returns-in_err-parts : goal.returns-in_err-parts
returns-in_err-parts c =
    let p = err_from_is_err_and c.from_residual.result c.from_residual.ensures.1 in
    let e = c.in_err-parts.field-0.0 in
    let tells = tells_of (IsDocumentFrom c.args.least c.args.form) itself (document_from c.args.least c.args.form) (framed_from c.args.least c.args.form).exact c.new-tokens.result (Err e) c.read_document.new.tokens c.in_err-parts.ensures in
    rw (p.1, p.2) (reads_input (IsDocumentFrom c.args.least c.args.form) Trailing itself c.args.bytes.now c.new-tokens.result (Err e) c.new-tokens.ensures
    (input_fails (IsDocumentFrom c.args.least c.args.form) Trailing itself c.new-tokens.result c.read_document.new.tokens e tells))

pub returns-in_err-end : goal.returns-in_err-end
returns-in_err-end c =
    let p = err_from_is_err_and c.from_residual-in_err-end.result c.from_residual-in_err-end.ensures.1 in
    let tells = tells_of (IsDocumentFrom c.args.least c.args.form) contents (document_from c.args.least c.args.form) (framed_from c.args.least c.args.form).exact c.new-tokens.result (Ok c.in_ok-parts.parts) c.read_document.new.tokens c.in_ok-parts.ensures in
    rw (p.1, p.2) (reads_input (IsDocumentFrom c.args.least c.args.form) Trailing itself c.args.bytes.now c.new-tokens.result (Err (Refused c.in_err-end.field-0.0)) c.new-tokens.ensures
    (input_ends (IsDocumentFrom c.args.least c.args.form) Trailing itself c.new-tokens.result c.read_document.new.tokens (contents c.in_ok-parts.parts) (Err c.in_err-end.field-0.0) tells.0 tells.1 (sym c.in_err-end.was ∙ c.end.ensures)))

pub returns : goal.returns
returns c =
    let tells = tells_of (IsDocumentFrom c.args.least c.args.form) contents (document_from c.args.least c.args.form) (framed_from c.args.least c.args.form).exact c.new-tokens.result (Ok c.in_ok-parts.parts) c.read_document.new.tokens c.in_ok-parts.ensures in
    rw c.new.ensures (reads_input (IsDocumentFrom c.args.least c.args.form) Trailing itself c.args.bytes.now c.new-tokens.result (Ok (contents c.in_ok-parts.parts)) c.new-tokens.ensures
    (input_ends (IsDocumentFrom c.args.least c.args.form) Trailing itself c.new-tokens.result c.read_document.new.tokens (contents c.in_ok-parts.parts) (Ok tt) tells.0 tells.1 (sym c.in_ok-end.was ∙ c.end.ensures)))
