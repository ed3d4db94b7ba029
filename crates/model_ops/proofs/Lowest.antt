-- The lower of two ids that may be there or not.
use Rattle.std.proofs.Common.{ℕ, Option, Some, None}
use Rattle.model_ops.specs.Members.{lower}

abbrev pub least : Option ℕ → Option ℕ → Option ℕ
least None o = o
least (Some i) o = Some (lower i o)
