use Rattle.std.proofs.Common.{◌∙◌, ap}
use Rattle.model_ops.specs.Reaches.{move}
use Rattle.model_ops.specs.Sites.{done}
use Rattle.model_ops.specs.WorkingCopies.{WorkingCopy, own_id, copy_after}
use Rattle.model_ops.proofs.Drafts.{no_draft}
use Rattle.model_ops.proofs.site.Site.make.Goals as goal

pub returns-in-None-clause-value : goal.returns-in-None-clause-value
returns-in-None-clause-value c =
    let s = c.self.inside in
    let same = c.draft_of-draft.ensures ∙ no_draft s.found.now s.own s.draft c.args.self.now c.self.invariant c.in-None.is c.self.view_is in
    c.make-outcome.ensures.value ∙ ap (λ (w : WorkingCopy). done (move w.reached (own_id w) c.args.guard c.args.moved)) same

pub returns-in-None-clause-after : goal.returns-in-None-clause-after
returns-in-None-clause-after c =
    let s = c.self.inside in
    let same = c.draft_of-draft.ensures ∙ no_draft s.found.now s.own s.draft c.args.self.now c.self.invariant c.in-None.is c.self.view_is in
    c.make-outcome.ensures.after ∙ ap (λ (w : WorkingCopy). copy_after w (move w.reached (own_id w) c.args.guard c.args.moved)) same
