use Rattle.std.proofs.Common.{◌∙◌, ap}
use Rattle.model_ops.specs.Behinds.{free_there}
use Rattle.model_ops.specs.WorkingCopies.{own_id}
use Rattle.model_ops.proofs.BehindsLemmas.{free_pair}
use Rattle.model_ops.proofs.Drafts.{behind_is}
use Rattle.model_ops.proofs.site.Site.is_free.Goals as goal

pub returns-in-None : goal.returns-in-None
returns-in-None c =
    let s = c.self.inside in
    let w = c.args.self.now in
    let found = behind_is s.found.now s.own s.draft w c.self.invariant c.in-None.is c.self.view_is c.args.port _ c.behind.ensures in
    c.free_there.ensures ∙ ap free_there found ∙ free_pair w.reached (own_id w) c.args.port
