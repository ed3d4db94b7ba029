use Rattle.std.proofs.Common.{sym}
use Rattle.amoebot_state.proofs.Options.{err_told}
use Rattle.election_law.specs.Starts.{IsFirstUnready, unready}
use Rattle.election_law.proofs.StartLemmas.{next_ready}
use Rattle.election_law.proofs.start.check_bots.Goals as goal

pub returns-in_err-check_bot-clause-refused : goal.returns-in_err-check_bot-clause-refused
returns-in_err-check_bot-clause-refused c =
    let w = c.args.world.now in
    err_told c.from_residual.result (IsFirstUnready w) c.in_err-check_bot.field-0.0 c.from_residual.ensures.1
    (unready c.loop-id.id c.bot.result.now c.in_err-check_bot.field-0.0 (sym c.bot.ensures.value) c.in_err-check_bot.ensures.refused c.loop-id.invariant)

pub loop-id-preserved : goal.loop-id-preserved
loop-id-preserved c = next_ready c.args.world.now c.loop-id.id c.bot.result.now (sym c.bot.ensures.value) c.in_ok-check_bot.ensures.ready c.loop-id.invariant
