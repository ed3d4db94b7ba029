use Rattle.std.proofs.Common.{Some, rules, sym, subst, ◌∙◌, ◌≤◌}
use Rattle.caller_workers.specs.WorkerStates.{IsNextTurn}
use Rattle.caller_workers.proofs.WorkersLemmas.{seat_of, is_next, one_made}
use Rattle.caller_workers.proofs.workers.make_turn.Goals.{After-bot-bot}
use Rattle.caller_workers.proofs.workers.make_turn.Goals as goal

-- src/workers.rt

-- the worker's seat is to make this turn next
next : (g : _) (c : After-bot-bot g) → IsNextTurn g.D.Decider.verdict g.T.TurnMaker.token (g.T.TurnMaker.field c.args.turning.now) c.args.turn c.bot-bot.result c.in-Some.seat
next g c =
    let f = g.T.TurnMaker.field c.args.turning.now in
    let there = sym c.take.ensures.value ∙ c.in-Some.is in
    record {
      fits = (c.ranges.turn.fits, c.bot-bot.type_inv);
      of = seat_of g.D.Decider.verdict g.T.TurnMaker.token g.T.TurnMaker.told f c.args.caller c.args.turn c.args.state.now c.requires.before c.in-Some.seat there;
      next = is_next g.D.Decider.verdict g.T.TurnMaker.token g.T.TurnMaker.told f c.args.caller c.args.turn c.args.state.now c.requires.before c.in-Some.seat there;
      left = search rules;
      its_bot = search rules;
    }

pub make-seat-requires : goal.make-seat-requires
make-seat-requires g c = c.requires.makes.may c.args.turn c.bot-bot.result c.in-Some.seat (next g c)

pub returns : goal.returns
returns g c =
    let f = g.T.TurnMaker.field c.args.turning.now in
    let made = c.requires.makes.makes c.args.turn c.bot-bot.result c.in-Some.seat c.make-seat.result (next g (goal.at.returns g c).After-bot-bot) c.make-seat.ensures in
    one_made g.D.Decider.verdict g.T.TurnMaker.token g.T.TurnMaker.told f c.args.caller c.args.turn c.args.state.now c.requires.before c.in-Some.seat (sym c.take.ensures.value ∙ c.in-Some.is) c.make-seat.result.0 c.make-seat.result.1 _
    made.answer made.of (λ i. Some c.make-seat.result.0) c.push_reserved.ensures.items
    (subst (λ n. f.terms.lists.turns ≤ n) (sym c.push_reserved.ensures.capacity) c.requires.before.room)
