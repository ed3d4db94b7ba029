use Rattle.std.proofs.Common.{◌≡◌, ℕ, ◌<◌, ◌+◌, List, [], length, drop, ap, sym, subst, ◌∙◌, arith}
use Rattle.tri_lattice.specs.Extent.{Extent}
use Rattle.amoebot_state.specs.Configs.{Config}
use Rattle.claim_rule.specs.declared.activation.Room.{Room}
use Rattle.claim_rule.specs.Views.{Seated, seen}
use Rattle.claim_rule.specs.Tokens.{IsSeat, frame_of}
use Rattle.claim_rule.specs.Opened.{first_records}
use Rattle.claim_rule.proofs.Deals.{next_one, first_of_rest, one_dealt, others_left, is_seat, dealt_so_far, are_seats, are_first}
use Rattle.claim_rule.proofs.make.deal_all.Goals as goal

-- src/make.rt
pub loop-caller-init : goal.loop-caller-init
loop-caller-init g c = (c.requires.field, c.requires.all, c.new-seats.ensures.items)

pub deal-seat-requires-clause-field : goal.deal-seat-requires-clause-field
deal-seat-requires-clause-field g c = λ κs lives. c.loop-caller.invariant.0

pub deal-seat-requires-clause-some : goal.deal-seat-requires-clause-some
deal-seat-requires-clause-some g c = λ κs lives.
    let z = c.args.field.now.terms in
    let lt : c.loop-caller.caller < length z.lists.ids = omega (arith, c.loop-caller-test.true, c.requires.callers) in
    (next_one g.D.Decider.verdict z c.loop-caller.caller, drop (c.loop-caller.caller + 1) (first_records g.D.Decider.verdict z), first_of_rest g.D.Decider.verdict z c.loop-caller.rest.me c.loop-caller.caller lt c.loop-caller.invariant.1)

pub invariant_of-push : goal.invariant_of-push
invariant_of-push g c =
    let z = c.args.field.now.terms in
    let lt : c.loop-caller.caller < length z.lists.ids = omega (arith, c.loop-caller-test.true, c.requires.callers) in
    let world = c.world-world.ensures.first in
    let room = c.in_ok-room.ensures.ok in
    let caller = ap (λ (q : Room). q.caller) room ∙ c.new.ensures.caller.0 in
    let turn = ap (λ (q : Room). q.turn) room ∙ c.new.ensures.caller.1 in
    let extent = ap (λ (q : Room). q.area) room ∙ c.new.ensures.frame.0 in
    let greatest = ap (λ (q : Room). q.maxes) room ∙ c.new.ensures.frame.1 in
    subst (λ (q : ℕ × ℕ × Extent × List ℕ). IsSeat g.D.Decider.verdict c.deal-seat.result.me q.0 q.1 (frame_of q.2 q.3)) (λ i. (sym caller i, sym turn i, sym extent i, sym greatest i))
    (is_seat g.D.Decider.verdict z c.deal-seat.result.me c.loop-caller.caller c.area-area.result c.maxes-maxes.result
    c.world-world.ensures.run lt
    (c.area-area.ensures ∙ ap (λ (w : Config). w.area) world) (c.maxes-maxes.ensures ∙ ap (λ (w : Config). w.maxes) world)
    (c.deal-seat.ensures.dealt.1 ∙ (λ i. (one_dealt g.D.Decider.verdict z c.loop-caller.rest.me c.loop-caller.caller lt c.loop-caller.invariant.1 i, []))))

pub loop-caller-preserved : goal.loop-caller-preserved
loop-caller-preserved g c =
    let z = c.args.field.now.terms in
    let lt : c.loop-caller.caller < length z.lists.ids = omega (arith, c.loop-caller-test.true, c.requires.callers) in
    let view = ap (λ (m : Seated g.row.D.Denot). m.0) c.deal-seat.ensures.dealt.1 ∙ one_dealt g.D.Decider.verdict z c.loop-caller.rest.me c.loop-caller.caller lt c.loop-caller.invariant.1 in
    let table = c.deal-seat.ensures.dealt.0 ∙ c.loop-caller.invariant.0 in (
      c.deal-seat.ensures.rest.0 ∙ c.loop-caller.invariant.0,
      c.deal-seat.ensures.rest.1 ∙ others_left g.D.Decider.verdict z c.loop-caller.rest.me c.loop-caller.caller lt c.loop-caller.invariant.1,
      c.in_ok-push.ensures.items ∙ dealt_so_far g.D.Decider.verdict c.args.field.now c.loop-caller.seats.items c.loop-caller.caller _ lt c.loop-caller.invariant.2 (λ i. record { table = table i; view = seen (view i) }),
    )

pub invariant_of-result : goal.invariant_of-result
invariant_of-result g c =
    let done : c.loop-caller.caller ≡ length c.args.field.now.terms.lists.ids = omega (arith, c.loop-caller-test.false, c.loop-caller.auto.caller-end, c.requires.callers) in
    are_seats g.D.Decider.verdict c.args.field.now c.loop-caller.rest.me c.loop-caller.rest.table_id c.loop-caller.seats.items c.loop-caller.caller done c.loop-caller.invariant.0 c.loop-caller.invariant.1 c.loop-caller.invariant.2

pub returns : goal.returns
returns g c =
    let done : c.loop-caller.caller ≡ length c.args.field.now.terms.lists.ids = omega (arith, c.loop-caller-test.false, c.loop-caller.auto.caller-end, c.requires.callers) in
    are_first g.D.Decider.verdict c.args.field.now c.loop-caller.rest.me c.loop-caller.rest.table_id c.loop-caller.seats.items c.loop-caller.caller done c.loop-caller.invariant.0 c.loop-caller.invariant.1 c.loop-caller.invariant.2
