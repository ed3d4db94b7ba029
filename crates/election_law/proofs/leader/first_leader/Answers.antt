use Rattle.std.proofs.Common.{rules, ◌≡◌, ◌≤◌, length}
use Rattle.std.specs.Prelude.{slice_index}
use Rattle.election_law.proofs.LeaderLemmas.{leads_here, nobody_leads}
use Rattle.election_law.proofs.leader.first_leader.Goals as goal

pub returns-then-bot-eq1 : goal.returns-then-bot-eq1
returns-then-bot-eq1 c =
    let value : slice_index c.bot.result.now.mem 1 ≡ 1 = search rules in
    leads_here c.args.world.now c.loop-id.id c.bot.result.now c.bot.ensures.value value c.loop-id.invariant

pub returns : goal.returns
returns c =
    let past : length c.args.world.now.bots ≤ c.loop-id.id = search rules in
    nobody_leads c.args.world.now c.loop-id.id past c.loop-id.invariant
