use Rattle.std.proofs.Common.{sym}
use Rattle.amoebot_state.specs.Occupied.{occupied}
use Rattle.shape_checks.proofs.Bots.{head_occupied}
use Rattle.shape_checks.proofs.ReachLemmas.{marks_decide}
use Rattle.shape_checks.proofs.connected.is_connected.Goals as goal

pub returns : goal.returns
returns c =
    let w = c.args.world.now in
    marks_decide (occupied w) w.area c.bot.result.now.head _ _ _ c.in_ok-marks.ensures (head_occupied w c.keeps.ensures.valid 0 _ (sym c.bot.ensures.value)) c.as_slice.ensures.value c.are_marked.ensures
