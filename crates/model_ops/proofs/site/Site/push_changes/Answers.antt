use Rattle.std.proofs.Common.{◌∙◌, ap, sym, subst}
use Rattle.amoebot_state.specs.Zones.{shown_alone}
use Rattle.model_ops.specs.Reaches.{Reaches}
use Rattle.model_ops.specs.WorkingCopies.{WorkingCopy, own_id, changes}
use Rattle.model_ops.proofs.Drafts.{no_draft}
use Rattle.model_ops.proofs.site.Site.push_changes.Goals as goal

pub push_own-requires-clause-reaches : goal.push_own-requires-clause-reaches
push_own-requires-clause-reaches c =
    let s = c.self.inside in
    let same = no_draft s.found.now s.own s.draft c.args.self.now c.self.invariant c.in-None.is c.self.view_is in
    subst (λ (w : WorkingCopy). Reaches (shown_alone w.found) (own_id w) w.reached) (sym same) c.requires.reaches

pub returns-in-None : goal.returns-in-None
returns-in-None c =
    let s = c.self.inside in
    let same = no_draft s.found.now s.own s.draft c.args.self.now c.self.invariant c.in-None.is c.self.view_is in
    c.push_own.ensures ∙ ap changes same
