use Rattle.std.proofs.Common.{map, ap}
use Rattle.std.specs.Prelude.{is_some}
use Rattle.claim_rule.specs.Seating.{SeatsOf}
use Rattle.claim_rule.proofs.Places.{is_out, is_back}
use Rattle.tests_claims.proofs.claim_rows.with_both_seats.Goals as goal

pub give-requires-clause-out : goal.give-requires-clause-out
give-requires-clause-out g c κs =
    let none = ap (λ (s : SeatsOf _). map is_some s.seats) c.in_ok-none_left.ensures in
    is_out c.seat_of.new.seats _ c.none_left.new.seats c.in_ok-one.one c.in_ok-zero_after.one_after c.in_ok-one.ensures.first.0.there c.in_ok-one.ensures.first.1 none c.in_ok-zero_after.ensures.one.1

pub give-requires-2-clause-out : goal.give-requires-2-clause-out
give-requires-2-clause-out g c κs =
    let none = ap (λ (s : SeatsOf _). map is_some s.seats) c.in_ok-none_left.ensures in
    let same = is_back c.seat_of.new.seats _ c.none_left.new.seats c.in_ok-one.one c.in_ok-zero_after.one_after c.in_ok-one.ensures.first.0.there c.in_ok-one.ensures.first.1 none c.in_ok-zero_after.ensures.one.1 c.give.new.self c.give.ensures in
    is_out c.args.seats.now _ c.give.new.self c.in_ok-zero.zero c.in_ok-zero_after.zero_after c.in_ok-zero.ensures.first.0.there c.in_ok-zero.ensures.first.1 same c.in_ok-zero_after.ensures.zero.1

pub returns-clause-there : goal.returns-clause-there
returns-clause-there g c =
    let none = ap (λ (s : SeatsOf _). map is_some s.seats) c.in_ok-none_left.ensures in
    let same = is_back c.seat_of.new.seats _ c.none_left.new.seats c.in_ok-one.one c.in_ok-zero_after.one_after c.in_ok-one.ensures.first.0.there c.in_ok-one.ensures.first.1 none c.in_ok-zero_after.ensures.one.1 c.give.new.self c.give.ensures in
    is_back c.args.seats.now _ c.give.new.self c.in_ok-zero.zero c.in_ok-zero_after.zero_after c.in_ok-zero.ensures.first.0.there c.in_ok-zero.ensures.first.1 same c.in_ok-zero_after.ensures.zero.1 c.give-2.new.self c.give-2.ensures
