-- What an amoebot asks of a pair of an end and a direction, by what is behind it.
-- No public clause cites these.
use Rattle.std.specs.Prelude.{ℕ, Bool, true, false}
use Rattle.std.specs.declared.result.Result.{Result}
use Rattle.std.specs.declared.result.Result.TheVariants.{Ok, Err}
use Rattle.amoebot_state.specs.declared.verdict.Failure.{Failure}
use Rattle.amoebot_state.specs.declared.verdict.Failure.TheVariants as failure
use Rattle.amoebot_state.specs.declared.found.Behind.{Behind}
use Rattle.amoebot_state.specs.declared.found.Behind.TheVariants as there

-- what an amoebot asks of a pair, by what is behind it: whether the node is occupied,
-- whether it can be entered, and its occupant
abbrev pub connected_there : Behind → Result Bool Failure
connected_there there.NoPort = Err failure.NoPort
connected_there there.Edge = Ok false
connected_there there.Wall = Ok false
connected_there there.Empty = Ok false
connected_there (there.Bot i) = Ok true

abbrev pub free_there : Behind → Result Bool Failure
free_there there.NoPort = Err failure.NoPort
free_there there.Edge = Ok false
free_there there.Wall = Ok false
free_there there.Empty = Ok true
free_there (there.Bot i) = Ok false

abbrev pub owner_there : Behind → Result ℕ Failure
owner_there there.NoPort = Err failure.NoPort
owner_there there.Edge = Err failure.NoNeighbour
owner_there there.Wall = Err failure.NoNeighbour
owner_there there.Empty = Err failure.NoNeighbour
owner_there (there.Bot i) = Ok i
