use Rattle.std.proofs.Common.{◌≡◌, vec_len}
use Rattle.std.specs.List.{All}
use Rattle.claim_core.specs.Cores.{Begins}
use Rattle.claim_core.proofs.machine.first_seats.Given as goal

abbrev pub invariant-loop-caller : goal.invariant-loop-caller
invariant-loop-caller l = (vec_len l.seats ≡ l._caller) × All (Begins l.turns 0) l.seats.items
