use Rattle.std.proofs.Common.{ap, sym, arith, get_or}
use Rattle.std.specs.Option.{option_map}
use Rattle.amoebot_state.specs.declared.cell.CellName.TheVariants as name
use Rattle.amoebot_state.specs.declared.cell.Cell.TheVariants as cell
use Rattle.amoebot_state.specs.Zones.{shown_cell}
use Rattle.amoebot_state.proofs.Members.{more_kept}
use Rattle.amoebot_state.proofs.world.World.put_bodies.Goals as goal

pub loop-id-preserved : goal.loop-id-preserved
loop-id-preserved c = (
  more_kept (λ i. shown_cell c.args.self.now (name.Body i)) c.args.ids.now c.loop-id.id-index 0 c.args.cells.now.items c.loop-id.cells.items c.push.new.self.items _ c.loop-id-test.true c.loop-id.invariant.0 c.push.ensures.items (ap (λ o. option_map (λ x. (name.Body (get_or c.args.ids.now c.loop-id.id-index 0), x)) (option_map cell.Body o)) (sym c.bot.ensures.value)),
  omega (arith, c.push.ensures.len, c.loop-id.invariant.1),
)
