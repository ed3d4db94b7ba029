use Rattle.tests_claims.specs.Walks.{IsWalker}
use Rattle.tests_claims.proofs.walks.finished.Given as goal

abbrev pub invariant-loop-cell : goal.invariant-loop-cell
invariant-loop-cell g l = IsWalker l.field l.walker
