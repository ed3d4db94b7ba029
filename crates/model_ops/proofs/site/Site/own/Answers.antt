use Rattle.model_ops.proofs.Drafts.{own_here}
use Rattle.model_ops.proofs.site.Site.own.Goals as goal

pub returns-in-None-clause-value : goal.returns-in-None-clause-value
returns-in-None-clause-value c =
    let s = c.self.inside in
    own_here s.found.now s.own s.draft c.args.self.now c.self.invariant c.in-None.is c.self.view_is
