use Rattle.std.proofs.Common.{sym, refl, arith}
use Rattle.shape_checks.proofs.Bots.{head_occupied}
use Rattle.shape_checks.proofs.Extremes.{extremes_none, extremes_more, extremes_all}
use Rattle.shape_checks.proofs.Centres.{extremes_central}
use Rattle.shape_checks.proofs.hexagon.extremes_of.Goals as goal

pub loop-id-init : goal.loop-id-init
loop-id-init c = extremes_none c.args.world.now c.bot.result.now.head _ (head_occupied c.args.world.now c.keeps.ensures.valid 0 _ (sym c.bot.ensures.value)) refl refl refl

pub loop-id-preserved : goal.loop-id-preserved
loop-id-preserved c =
    let at = sym c.bot-in-loop-id.ensures.value in
    extremes_more c.args.world.now c.loop-id.ends _ c.loop-id.id _ at (head_occupied c.args.world.now c.keeps.ensures.valid _ _ at) c.loop-id.invariant c.leftmost.ensures c.rightmost.ensures c.lowest.ensures

pub returns-clause-extremes : goal.returns-clause-extremes
returns-clause-extremes c = extremes_all c.args.world.now c.loop-id.ends c.loop-id.id c.keeps.ensures.valid c.requires.contracted c.loop-id.invariant (let size = c.bots-id-end.ensures.value in omega arith)

pub returns-clause-central : goal.returns-clause-central
returns-clause-central c = extremes_central c.args.world.now c.keeps.ensures.valid c.loop-id.ends (extremes_all c.args.world.now c.loop-id.ends c.loop-id.id c.keeps.ensures.valid c.requires.contracted c.loop-id.invariant (let size = c.bots-id-end.ensures.value in omega arith))
