use Rattle.std.proofs.lemmas.List.{map-append}
use Rattle.std.proofs.Common.{◌≡◌, ◌+◌, ◌∷◌, [], map, length, arith, ap, sym, ◌∙◌, subst, length-append}
use Rattle.claim_rule.specs.Tokens.{Token}
use Rattle.claim_rule.specs.declared.manner.ByJournal.{ByJournal}
use Rattle.node_claims.specs.declared.turn.Turn.{Turn}
use Rattle.caller_workers.specs.Turns.{lists_told}
use Rattle.caller_workers.proofs.StateLemmas.{AreCleared, none_cleared, has_seat, is_of, is_given_out, one_cleared, all_cleared}
use Rattle.turn_workers.proofs.seated.clear.Goals.{in-Some-seat, in_default-seat}
use Rattle.turn_workers.proofs.seated.clear.Goals as goal

-- src/states.rt
pub loop-seat-init : goal.loop-seat-init
loop-seat-init g c = (none_cleared (λ (seat : Token _). seat) (λ (turn : Turn ByJournal). turn) c.args.states.items c.args.seats.now c.requires.taken (lists_told (λ (turn : Turn ByJournal). turn) c.args.turns.items) (ap (lists_told (λ (turn : Turn ByJournal). turn)) c.requires.none), omega (arith, c.requires.room, c.args.states.ok.0, ap length c.requires.none))

pub give-requires-clause-field : goal.give-requires-clause-field
give-requires-clause-field g c κs within =
    is_of (λ (seat : Token _). seat) (λ (turn : Turn ByJournal). turn) c.args.states.items c.args.seats.now c.requires.taken c.loop-seat.states.items c.pop.new.self.items c.in-Some.field-0 c.loop-seat.seats (lists_told (λ (turn : Turn ByJournal). turn) c.loop-seat.turns.items) c.loop-seat.invariant.0 c.in-Some.ensures.items
    c.in-Some-seat.seat c.in-Some-seat.is

pub give-requires-clause-out : goal.give-requires-clause-out
give-requires-clause-out g c κs within =
    is_given_out (λ (seat : Token _). seat) (λ (turn : Turn ByJournal). turn) c.args.states.items c.args.seats.now c.requires.taken c.loop-seat.states.items c.pop.new.self.items c.in-Some.field-0 c.loop-seat.seats (lists_told (λ (turn : Turn ByJournal). turn) c.loop-seat.turns.items) c.loop-seat.invariant.0 c.in-Some.ensures.items
    c.in-Some-seat.seat c.in-Some-seat.is

pub loop-seat-preserved : goal.loop-seat-preserved
loop-seat-preserved g c =
    let told = λ (turn : Turn ByJournal). turn in
    let kept = lists_told told c.loop-seat.turns.items in
    let fewer : length c.loop-seat.states.items ≡ length c.pop.new.self.items + 1 = ap length c.in-Some.ensures.items ∙ length-append c.pop.new.self.items (c.in-Some.field-0 ∷ []) in
    let more : length c.push_reserved.new.self.items ≡ length c.loop-seat.turns.items + 1 = ap length c.push_reserved.ensures.items ∙ length-append c.loop-seat.turns.items (c.in-Some.field-0.turns ∷ []) in
    let pushed = ap (lists_told told) c.push_reserved.ensures.items ∙ map-append (λ v. map told v.items) c.loop-seat.turns.items (c.in-Some.field-0.turns ∷ []) in (
      elim c.match-seat.branch [
        | in-Some-seat w ↦
            subst (AreCleared (λ (seat : Token _). seat) told c.args.states.items c.pop.new.self.items c.args.seats.now c.match-seat.seats) (sym pushed)
            (one_cleared (λ (seat : Token _). seat) (λ (turn : Turn ByJournal). turn) c.args.states.items c.args.seats.now c.requires.taken c.loop-seat.states.items c.pop.new.self.items c.in-Some.field-0 c.loop-seat.seats kept c.loop-seat.invariant.0 c.in-Some.ensures.items
            w.in-Some-seat.seat w.in-Some-seat.is c.match-seat.seats (w.seats-is ∙ w.give.ensures))
        | in_default-seat w ↦
            absurd (has_seat (λ (seat : Token _). seat) (λ (turn : Turn ByJournal). turn) c.args.states.items c.args.seats.now c.requires.taken c.loop-seat.states.items c.pop.new.self.items c.in-Some.field-0 c.loop-seat.seats kept c.loop-seat.invariant.0 c.in-Some.ensures.items w.in_default-seat.is)
      ],
      omega (arith, c.loop-seat.invariant.1, fewer, more, c.push_reserved.ensures.capacity),
    )

pub returns-clause-turns : goal.returns-clause-turns
returns-clause-turns g c =
    let none : length c.loop-seat.states.items ≡ 0 = omega (arith, c.in_default.ensures.cases.0, c.loop-seat.states.ok.0) in
    all_cleared (λ (seat : Token _). seat) (λ (turn : Turn ByJournal). turn) c.args.states.items c.args.seats.now c.requires.taken c.loop-seat.states.items c.loop-seat.seats c.loop-seat.turns.items c.reverse.new.self.items c.loop-seat.invariant.0 none c.reverse.ensures.items
