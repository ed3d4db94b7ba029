use Rattle.std.proofs.Common.{◌<◌, length, ap, sym, subst}
use Rattle.claim_core.proofs.Inner.{lists-set_push}
use Rattle.claim_core.proofs.marks.Marks.add.Goals as goal

pub returns : goal.returns
returns c = rw (← c.self.view_is) (ap (λ ms. record { turns = c.self.inside.turns; marks = ms }) (lists-set_push c.self.inside.marks.items c.args.caller c.from.result c.index_mut.result.now c.push_reserved.new.self c.args.mark (subst (λ m. c.args.caller < length m.marks) (sym c.self.view_is) c.requires.caller) c.from.ensures c.index_mut.ensures.value c.push_reserved.ensures.items))
