use Rattle.std.proofs.Common.{◌≡◌, ◌-◌, length}
use Rattle.claim_rule.specs.Plays.{about, bot_in}
use Rattle.claim_rule.specs.Tokens.{IsOf, doing, goes}
use Rattle.node_claims.specs.Claims.{AreInOrder}
use Rattle.node_claims.proofs.claims.try_claim.Given as goal

-- the cells that are held were won in zone order, in the turn that was begun
abbrev pub invariant-loop-cell : goal.invariant-loop-cell
invariant-loop-cell g l =
    IsOf l.fn.field l.held × (l.held ≡ goes l.fn.seat (doing l.held)) × ((doing l.held).turn ≡ (doing l.fn.seat).turn) × ((doing l.held).marks ≡ (doing l.fn.seat).marks)
    × AreInOrder (about g.D.Decider.verdict l.fn.seat.view) (bot_in g.D.Decider.verdict l.fn.seat.view) (doing l.held).held

abbrev pub decreases-loop-cell : goal.decreases-loop-cell
decreases-loop-cell g l = 20 - length (doing l.held).held
