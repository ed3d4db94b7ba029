use Rattle.std.proofs.Common.{◌<◌, ◌≤◌, ◌+◌, length, arith, ap, sym, ◌∙◌, subst, length-append}
use Rattle.claim_rule.specs.Tokens.{Token}
use Rattle.caller_workers.proofs.StateLemmas.{AreSeated, none_seated, one_seated, all_seated}
use Rattle.turn_workers.proofs.seated.seat_all.Goals as goal

-- src/states.rt
pub loop-caller-init : goal.loop-caller-init
loop-caller-init g c = (none_seated (λ (seat : Token _). seat) c.args.turns c.args.seats.now c.new-states.result.items c.new-states.ensures.items, ap length c.new-states.ensures.items)

pub loop-caller-preserved : goal.loop-caller-preserved
loop-caller-preserved g c =
    let old = c.args.seats.now in
    let lt : length c.loop-caller.states.items < length old.seats = omega (arith, c.loop-caller-test.true, c.loop-caller.invariant.1, c.requires.callers) in
    let pushed = c.in_ok-push.ensures.items in (
      subst (AreSeated (λ (seat : Token _). seat) c.args.turns old c.take-seat.new.self) (sym pushed)
          (one_seated (λ (seat : Token _). seat) c.args.turns old c.loop-caller.seats c.take-seat.new.self c.loop-caller.states.items _ c.loop-caller.invariant.0 c.requires.all lt c.take-seat.ensures.none c.take-seat.ensures.first (record {
            none = c.in_ok-reserve_exact.ensures.items ∙ c.new-own.ensures.items;
            room = omega (arith, c.in_ok-reserve_exact.ensures.ok);
          })),
      ap length pushed ∙ length-append c.loop-caller.states.items _ ∙ ap (λ n. n + 1) c.loop-caller.invariant.1,
    )

pub returns-clause-states : goal.returns-clause-states
returns-clause-states g c = (all_seated (λ (seat : Token _). seat) c.args.turns c.args.seats.now c.loop-caller.seats c.loop-caller.states.items c.loop-caller.invariant.0 (let le : length c.args.seats.now.seats ≤ length c.loop-caller.states.items = omega (arith, c.loop-caller-test.false, c.loop-caller.invariant.1, c.requires.callers) in le)).0

pub returns-clause-out : goal.returns-clause-out
returns-clause-out g c = (all_seated (λ (seat : Token _). seat) c.args.turns c.args.seats.now c.loop-caller.seats c.loop-caller.states.items c.loop-caller.invariant.0 (let le : length c.args.seats.now.seats ≤ length c.loop-caller.states.items = omega (arith, c.loop-caller-test.false, c.loop-caller.invariant.1, c.requires.callers) in le)).1
