use Rattle.std.proofs.Common.{sym}
use Rattle.model_ops.proofs.Drafts.{own_first, own_found}
use Rattle.model_ops.proofs.site.Site.new.Goals as goal

pub invariant_of-result : goal.invariant_of-result
invariant_of-result c = own_first c.args.found.now c.own.result.now c.own.ensures.value c.own.ensures.in_range

pub returns : goal.returns
returns c = own_found c.args.found.now c.own.result.now (sym c.own.ensures.value)
