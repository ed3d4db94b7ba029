use Rattle.std.proofs.Common.{◌≡◌, drop}
use Rattle.claim_core.specs.Cells.{given}
use Rattle.claim_rule.proofs.renewal.given.Given as goal

abbrev pub invariant-loop-name : goal.invariant-loop-name
invariant-loop-name l = given l.patch l.cell ≡ given (drop l.name-index l.patch) l.cell
