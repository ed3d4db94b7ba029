-- What is asked of the ports of a list, one after the other:
-- the first port that decides gives the answer, or the failure.
use Rattle.std.specs.Prelude.{ℕ, Bool, true, false, not, List}
use Rattle.std.specs.List.{find, count_by}
use Rattle.std.specs.declared.option.Option.{Option}
use Rattle.std.specs.declared.option.Option.TheVariants.{Some, None}
use Rattle.std.specs.declared.result.Result.{Result}
use Rattle.std.specs.declared.result.Result.TheVariants.{Ok, Err}
use Rattle.std.specs.Result.{is_err}
use Rattle.amoebot_state.specs.declared.bot.Port.{Port}
use Rattle.amoebot_state.specs.declared.verdict.Failure.{Failure}
use Rattle.amoebot_state.specs.declared.verdict.Failure.TheVariants.{NoChoice}
use Rattle.model_ops.specs.Operations.{and_then}

-- what is true, what is false, and what is neither, of each port
abbrev pub Asked : Type 0
Asked = Port → Result Bool Failure

abbrev pub is_true : Result Bool Failure → Bool
is_true (Ok b) = b
is_true (Err f) = false

abbrev pub is_false : Result Bool Failure → Bool
is_false (Ok b) = not b
is_false (Err f) = false

-- by the port that decides, if there is one
abbrev pub decided_by : {A : Type 0} → A → (Port → A) → Option Port → A
decided_by otherwise answer None = otherwise
decided_by otherwise answer (Some p) = answer p

-- `any`: the first port of which it is not false decides; without one it is false
abbrev pub any_of_ports : Asked → List Port → Result Bool Failure
any_of_ports asked ps = decided_by (Ok false) asked (find (λ p. not (is_false (asked p))) ps)

-- `all`: the first port of which it is not true decides; without one it is true
abbrev pub all_of_ports : Asked → List Port → Result Bool Failure
all_of_ports asked ps = decided_by (Ok true) asked (find (λ p. not (is_true (asked p))) ps)

-- `first`: the first port of which it is not false; without one there is no choice
abbrev pub first_of_ports : Asked → List Port → Result Port Failure
first_of_ports asked ps =
    decided_by (Err NoChoice) (λ p. and_then (asked p) (λ b. Ok p)) (find (λ p. not (is_false (asked p))) ps)

-- `count`: of how many ports it is true, or the failure of the first port that fails
abbrev pub count_of_ports : Asked → List Port → Result ℕ Failure
count_of_ports asked ps =
    decided_by (Ok (count_by (λ p. is_true (asked p)) ps)) (λ p. and_then (asked p) (λ b. Ok 0))
    (find (λ p. is_err (asked p)) ps)
