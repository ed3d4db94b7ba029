use Rattle.document_answers.specs.declared.status.Status.TheVariants as status
use Rattle.std.proofs.Common.{◌≡◌, ◌≢◌, ap, ◌∙◌}
use Rattle.std.proofs.lemmas.Result.{IfOk-weaker}
use Rattle.election_law.specs.declared.refusal.ElectRefusal.TheVariants as refusal
use Rattle.document_answers.specs.declared.answer.Answer.{Answer}
use Rattle.commands.specs.Lines.{bad_start}
use Rattle.document_answers.specs.Answers.{refusal_line, with_text}
use Rattle.commands.proofs.elect.refuse_start.Goals as goal
use Rattle.text_tokens.specs.declared.refusal.Refusal.{Refusal}

pub returns-in-Some : goal.returns-in-Some
returns-in-Some c =
    let told = c.in-Some.ensures in
    let line = λ (r : Refusal). with_text (status.Refused r) (refusal_line r) in
    IfOk-weaker c.refuse.result (λ (a : Answer). a ≡ line c.in-Some.fault) (λ (a : Answer). (c.args.refusal ≢ refusal.NoMemory) × (a ≡ line bad_start))
    (λ answer is. (told.0, is ∙ ap line told.1)) c.refuse.ensures
