use Rattle.std.proofs.Common.{◌≡◌, length}
use Rattle.claim_rule.specs.Tokens.{Token}
use Rattle.caller_workers.proofs.StateLemmas.{AreSeated}
use Rattle.turn_workers.proofs.seated.seat_all.Given as goal

abbrev pub invariant-loop-caller : goal.invariant-loop-caller
invariant-loop-caller g l =
    AreSeated (λ (seat : Token _). seat) l.turns l.fn.seats l.seats l.states.items × (length l.states.items ≡ l._caller)
