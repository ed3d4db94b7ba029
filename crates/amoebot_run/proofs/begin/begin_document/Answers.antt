use Rattle.std.proofs.Common.{ℕ, None, Err, ap, refl, subst}
use Rattle.outer_io.specs.declared.errors.ReadError.{ReadError}
use Rattle.outer_io.specs.Readings.{ReadsUpTo, ReadsWhole}
use Rattle.document_answers.specs.declared.status.Status.TheVariants as status
use Rattle.commands.specs.Tasks.{IsTaskOf}
use Rattle.commands.specs.Lines.{read_fault_line, too_long}
use Rattle.document_answers.specs.Answers.{refusal_line}
use Rattle.commands.specs.Owed.{read_fault, longer}
use Rattle.commands.specs.Reads.{whole, above, up_to_fault, some}
use Rattle.amoebot_run.specs.Parts.{IsEndOfWriting, is_to_run}
use Rattle.amoebot_run.proofs.Endings.{too_long_line}
use Rattle.amoebot_run.proofs.Parts.{answer_begun, line_begun, without_begun}
use Rattle.amoebot_run.proofs.begin.begin_document.Goals as goal

pub returns-in-Err-ReadFault : goal.returns-in-Err-ReadFault
returns-in-Err-ReadFault g c =
    let got = c.in-Err-ReadFault.ensures.refused in
    let reads = subst (λ (p : ReadError × ℕ). ReadsUpTo g.S.Source.left g.S.Source.gives g.S.Source.fails p.1 p.0 c.args.input.now c.read_document.new.source got.0) (λ i. (c.in-Err-ReadFault.field-0-is i, c.row_of.ensures.limit i)) got.1 in
    line_begun _ (up_to_fault got.0) status.ReadFault read_fault_line _ (λ done. cc) (c.in-Err-ReadFault.ensures.fault (ap Err c.in-Err-ReadFault.field-0-is), reads) (read_fault c.args.command got.0) c.end_with_line.ensures.written

pub returns-in-Err-TooLong : goal.returns-in-Err-TooLong
returns-in-Err-TooLong g c =
    let got = c.in-Err-TooLong.ensures.refused in
    let reads = subst (λ (p : ReadError × ℕ). ReadsUpTo g.S.Source.left g.S.Source.gives g.S.Source.fails p.1 p.0 c.args.input.now c.read_document.new.source got.0) (λ i. (c.in-Err-TooLong.field-0-is i, c.row_of.ensures.limit i)) got.1 in
    line_begun _ (above got.0) (status.Refused too_long) (refusal_line too_long) _ (λ done. cc) reads (longer c.args.command got.0)
    (subst (λ line. IsEndOfWriting g.K.Sink c.args.out.now c.end_with_line-in-Err-TooLong.new.out (status.Refused too_long) None None None line c.end_with_line-in-Err-TooLong.result) too_long_line c.end_with_line-in-Err-TooLong.ensures.written)

pub returns-in-Err-NoMemory : goal.returns-in-Err-NoMemory
returns-in-Err-NoMemory g c =
    let got = c.in-Err-NoMemory.ensures.refused in
    let reads = subst (λ (p : ReadError × ℕ). ReadsUpTo g.S.Source.left g.S.Source.gives g.S.Source.fails p.1 p.0 c.args.input.now c.read_document.new.source got.0) (λ i. (c.in-Err-NoMemory.field-0-is i, c.row_of.ensures.limit i)) got.1 in
    without_begun _ (some got.0) _ c.end_with.ensures reads tt refl

pub returns-in-Answered : goal.returns-in-Answered
returns-in-Answered g c =
    let reads = subst (λ (limit : ℕ). ReadsWhole g.S.Source.left g.S.Source.gives limit c.args.input.now c.read_document.new.source c.in-Ok.document) c.row_of.ensures.limit c.in-Ok.ensures.whole in
    let is = subst (IsTaskOf c.args.command c.in-Ok.document) c.in-Answered.is c.in-Ok-task_of.ensures in
    answer_begun c.args.command c.in-Ok.document c.in-Answered.answer _ reads is c.end_with_answer.ensures

pub returns-in-Run : goal.returns-in-Run
returns-in-Run g c =
    let reads = subst (λ (limit : ℕ). ReadsWhole g.S.Source.left g.S.Source.gives limit c.args.input.now c.read_document.new.source c.in-Ok.document) c.row_of.ensures.limit c.in-Ok.ensures.whole in
    let is = subst (IsTaskOf c.args.command c.in-Ok.document) c.in-Run.is c.in-Ok-task_of.ensures in
    is_to_run c.in-Run.prepared (whole c.in-Ok.document) refl reads tt is

pub returns-in-Err : goal.returns-in-Err
returns-in-Err g c =
    let reads = subst (λ (limit : ℕ). ReadsWhole g.S.Source.left g.S.Source.gives limit c.args.input.now c.read_document.new.source c.in-Ok.document) c.row_of.ensures.limit c.in-Ok.ensures.whole in
    without_begun _ (whole c.in-Ok.document) _ c.end_with-in-Err.ensures reads tt refl
