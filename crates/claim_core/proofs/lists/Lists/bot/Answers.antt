use Rattle.std.proofs.Common.{◌<◌, arith, length, sym, subst}
use Rattle.std.specs.Prelude.{vec_len}
use Rattle.claim_core.proofs.Inner.{has_id}
use Rattle.claim_core.proofs.lists.Lists.bot.Goals as goal

some_id : (c : goal.After-len) → 0 < vec_len c.index-ids.result.now
some_id c = has_id c.self.inside.ids.items c.args.caller c.from.result c.index-ids.result.now c.self.invariant.each (subst (λ l. c.args.caller < length l.ids) (sym c.self.view_is) c.requires) c.from.ensures c.index-ids.ensures

pub nonzero_rem-turn : goal.nonzero_rem-turn
nonzero_rem-turn c = omega (arith, some_id c)

pub index-requires : goal.index-requires
index-requires c = omega (arith, some_id c)
