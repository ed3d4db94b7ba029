use Rattle.std.proofs.Common.{rules, ◌≡◌, ◌<◌, length, inl}
use Rattle.election_law.proofs.StartLemmas.{no_bots, not_joined, ready_start}
use Rattle.election_law.proofs.start.check_start.Goals as goal

pub returns-then-bots-eq0-clause-refused : goal.returns-then-bots-eq0-clause-refused
returns-then-bots-eq0-clause-refused c =
    let none : length c.args.world.now.bots ≡ 0 = search rules in
    inl (no_bots c.args.world.now none)

pub returns-then-not-branch-clause-refused : goal.returns-then-not-branch-clause-refused
returns-then-not-branch-clause-refused c =
    let some : 0 < length c.args.world.now.bots = search rules in
    inl (not_joined c.args.world.now (c.keeps.ensures.no_gaps 0 some) c.in_ok-check_bots.ensures.ready (λ joined. search rules))

pub returns-clause-ready : goal.returns-clause-ready
returns-clause-ready c =
    let some : 0 < length c.args.world.now.bots = search rules in
    ready_start c.args.world.now (c.keeps.ensures.no_gaps 0 some) c.in_ok-check_bots.ensures.ready (search rules)
