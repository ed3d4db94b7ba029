use Rattle.std.proofs.Common.{Some, None, ap, refl, sym, subst, ◌∙◌}
use Rattle.document_answers.specs.declared.status.Status.TheVariants as status
use Rattle.commands.specs.Commands.{ReadsNothing}
use Rattle.commands.specs.Lines.{usage_line}
use Rattle.commands.specs.Owed.{usage}
use Rattle.commands.specs.Reads.{nothing}
use Rattle.commands.specs.declared.words.Command.TheVariants.{Show, Sample}
use Rattle.amoebot_run.specs.Clauses.{CameTo}
use Rattle.amoebot_run.proofs.Parts.{begun_at, begun_maps, has_ended_with, line_begun, without_begun}
use Rattle.amoebot_run.proofs.begin.begin.Goals as goal

pub returns-in-Ok-None-clause-begun : goal.returns-in-Ok-None-clause-begun
returns-in-Ok-None-clause-begun g c = begun_at (λ o. CameTo g.S.Source o c.args.input.now c.args.input.now) _ _ (sym c.in-Ok-None.field-0-is ∙ c.in-Ok-None.ensures.command)
    (line_begun None nothing status.Words usage_line _ (λ done. cc) refl usage c.end_with_line.ensures.written)

pub returns-in-Err-clause-begun : goal.returns-in-Err-clause-begun
returns-in-Err-clause-begun g c = without_begun _ nothing _ c.end_with.ensures refl tt refl

pub returns-in-Document-clause-begun : goal.returns-in-Document-clause-begun
returns-in-Document-clause-begun g c = begun_at (λ o. CameTo g.S.Source o c.args.input.now c.begin_document.new.input) _ _ (ap Some (sym c.in-Document.is) ∙ sym c.in-Ok-Some.field-0-is ∙ c.in-Ok-Some.ensures.command)
    c.begin_document.ensures

pub returns-in-Document-clause-unread : goal.returns-in-Document-clause-unread
returns-in-Document-clause-unread g c = λ none. absurd (subst ReadsNothing (sym (ap Some (sym c.in-Document.is) ∙ sym c.in-Ok-Some.field-0-is ∙ c.in-Ok-Some.ensures.command)) none)

pub returns-in-Show-clause-begun : goal.returns-in-Show-clause-begun
returns-in-Show-clause-begun g c = begun_at (λ o. CameTo g.S.Source o c.args.input.now c.args.input.now) _ _ (ap Some (sym c.in-Show.is) ∙ sym c.in-Ok-Some.field-0-is ∙ c.in-Ok-Some.ensures.command)
    (begun_maps (λ read e. subst (CameTo g.S.Source (Some (Show c.in-Show.program)) c.args.input.now c.args.input.now) (sym e) refl) (λ text all. all) (λ text front. front) (λ same. same) _ _ (has_ended_with _ c.end_show.ensures.ending (record { turns_there = c.end_show.ensures.turns; tickets_there = c.end_show.ensures.tickets })))

pub returns-in-Sample-clause-begun : goal.returns-in-Sample-clause-begun
returns-in-Sample-clause-begun g c = begun_at (λ o. CameTo g.S.Source o c.args.input.now c.args.input.now) _ _ (ap Some (sym c.in-Sample.is) ∙ sym c.in-Ok-Some.field-0-is ∙ c.in-Ok-Some.ensures.command)
    (begun_maps (λ read e. subst (CameTo g.S.Source (Some (Sample c.in-Sample.seed)) c.args.input.now c.args.input.now) (sym e) refl) (λ text none. absurd none) (λ text none. absurd none) (λ yes. refl) _ _ c.begin_sample.ensures)
