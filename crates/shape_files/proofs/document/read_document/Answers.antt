use Rattle.std.proofs.Common.{Ok, Err}
use Rattle.std.proofs.lemmas.Result.{err_from_is_err_and}
use Rattle.text_tokens.specs.declared.refusal.ReadRefusal.TheVariants.{Refused}
use Rattle.text_tokens.proofs.StepsLemmas.{on, fails, gives_as}
use Rattle.shape_files.specs.Frame.{course_of}
use Rattle.shape_files.specs.FrameReaders.{header_from, rest, in_frame_from}
use Rattle.shape_files.specs.Documents.{Contents, nothing_yet}
use Rattle.shape_files.specs.DocumentReaders.{body, document_from}
use Rattle.shape_files.specs.Views.{contents}
use Rattle.shape_files.specs.Straight.{straight}
use Rattle.shape_files.proofs.StraightLemmas.{form_next}
use Rattle.shape_files.proofs.document.read_document.Goals as goal

pub returns-in_err-version : goal.returns-in_err-version
unfolding document_from in_frame_from
returns-in_err-version c =
    let p = err_from_is_err_and c.from_residual.result c.from_residual.ensures.1 in
    let r = c.in_err-version.field-0.0 in
    rw (p.1, p.2) (fails (header_from c.args.least) (λ version. rest body (course_of c.args.form) (nothing_yet version)) (Refused r) c.args.tokens.now c.read_version.new.tokens c.in_err-version.ensures.reads)

pub returns-in_err-read_form : goal.returns-in_err-read_form
unfolding document_from in_frame_from
returns-in_err-read_form c =
    let p = err_from_is_err_and c.from_residual-in_err-read_form.result c.from_residual-in_err-read_form.ensures.1 in
    let e = c.in_err-read_form.field-0.0 in
    let v = c.in_ok-version.version in
    let f = rw c.new-parts.ensures at c.in_err-read_form.ensures in
    rw (p.1, p.2) (on (λ (s : Contents). s) (header_from c.args.least) (λ version. rest body (course_of c.args.form) (nothing_yet version)) c.args.tokens.now c.read_version.new.tokens c.read_form.new.tokens v (Err e) c.in_ok-version.ensures.reads
    (gives_as (λ (s : Contents). s) (rest body (course_of c.args.form) (nothing_yet v)) (straight c.args.form (nothing_yet v)) c.read_version.new.tokens c.read_form.new.tokens (Err e) (form_next c.args.form (nothing_yet v) c.read_version.new.tokens.last c.read_version.new.tokens.ahead) f))

pub returns : goal.returns
unfolding document_from in_frame_from
returns c =
    let v = c.in_ok-version.version in
    let f = rw c.new-parts.ensures at c.in_ok-read_form.ensures in
    let s = contents c.read_form.new.parts in
    on (λ (s : Contents). s) (header_from c.args.least) (λ version. rest body (course_of c.args.form) (nothing_yet version)) c.args.tokens.now c.read_version.new.tokens c.read_form.new.tokens v (Ok s) c.in_ok-version.ensures.reads
    (gives_as (λ (s : Contents). s) (rest body (course_of c.args.form) (nothing_yet v)) (straight c.args.form (nothing_yet v)) c.read_version.new.tokens c.read_form.new.tokens (Ok s) (form_next c.args.form (nothing_yet v) c.read_version.new.tokens.last c.read_version.new.tokens.ahead) f)
