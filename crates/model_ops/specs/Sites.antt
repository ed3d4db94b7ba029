-- What the calls of a site answer.
use Rattle.std.specs.declared.result.Result.{Result}
use Rattle.std.specs.declared.result.Result.TheVariants.{Ok, Err}
use Rattle.amoebot_state.specs.declared.verdict.Failure.{Failure}

-- that an operation succeeded, or its failure
abbrev pub done : {A : Type 0} → Result A Failure → Result (Unit {0}) Failure
done (Ok x) = Ok tt
done (Err f) = Err f
