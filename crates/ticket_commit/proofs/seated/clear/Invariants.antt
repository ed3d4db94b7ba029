use Rattle.std.proofs.Common.{◌+◌, ◌≤◌, length, vec_capacity}
use Rattle.claim_rule.specs.Tokens.{Token}
use Rattle.claim_rule.specs.declared.manner.ByTicket.{ByTicket}
use Rattle.node_claims.specs.declared.turn.Turn.{Turn}
use Rattle.caller_workers.specs.Turns.{lists_told}
use Rattle.caller_workers.proofs.StateLemmas.{AreCleared}
use Rattle.ticket_commit.proofs.seated.clear.Given as goal

abbrev pub invariant-loop-seat : goal.invariant-loop-seat
invariant-loop-seat g l =
    AreCleared (λ (seat : Token _). seat) (λ (turn : Turn ByTicket). turn) l.fn.states.items l.states.items l.fn.seats l.seats (lists_told (λ (turn : Turn ByTicket). turn) l.turns.items)
    × (length l.states.items + length l.turns.items ≤ vec_capacity l.turns)

abbrev pub decreases-loop-seat : goal.decreases-loop-seat
decreases-loop-seat g l = length l.states.items
