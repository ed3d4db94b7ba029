-- What an activation reaches.
-- That it reads and writes and then makes at most one movement is the paper's.
use Rattle.std.specs.Prelude.{◌≡◌, ℕ, ℤ, List, [], ◌∷◌, Bool}
use Rattle.std.specs.declared.option.Option.{Option}
use Rattle.std.specs.declared.result.Result.{Result}
use Rattle.std.specs.declared.result.Result.TheVariants.{Ok}
use Rattle.amoebot_state.specs.declared.bot.Port.{Port}
use Rattle.amoebot_state.specs.declared.verdict.Failure.{Failure}
use Rattle.amoebot_state.specs.declared.verdict.Moved.{Moved}
use Rattle.amoebot_state.specs.declared.verdict.Moved.TheVariants as moved
use Rattle.amoebot_state.specs.Configs.{Config}
use Rattle.model_ops.specs.Operations.{and_then, write, expand, contract, push, pull}

-- a write: through which port, if through one, which variable, and the number
pub record Writing : Type 0 where
  pub port : Option Port
  pub var : ℕ
  pub value : ℤ

-- the writes, one after another, up to the first that fails
abbrev pub write_all : Config → ℕ → List Writing → Result Config Failure
write_all c i [] = Ok c
write_all c i (w ∷ ws) =
    and_then (write c i w.port w.var w.value) (λ d.
    write_all d i ws)

-- the movement, if there is one, with the guard on or off
abbrev pub move : Config → ℕ → Bool → Moved → Result Config Failure
move c i guard moved.None = Ok c
move c i guard (moved.Expand p) = expand c i p
move c i guard (moved.Contract e) = contract c i guard e
move c i guard (moved.Push p) = push c i p
move c i guard (moved.Pull p) = pull c i p

-- what an activation does to a configuration: writes, and then at most one movement
pub record Acts : Type 0 where
  pub writes : List Writing
  pub guard : Bool
  pub moved : Moved

-- the configuration that the acts lead to, or the first failure among them
abbrev pub perform : Config → ℕ → Acts → Result Config Failure
perform c i acts =
    and_then (write_all c i acts.writes) (λ d.
    move d i acts.guard acts.moved)

-- some acts, of which none fails, lead there
abbrev pub Reaches : Config → ℕ → Config → Type 0
Reaches c i d = (acts : Acts) × (perform c i acts ≡ Ok d)

-- writes alone, of which none fails, lead there
abbrev pub ReachesUnmoved : Config → ℕ → Config → Type 0
ReachesUnmoved c i d = (ws : List Writing) × (write_all c i ws ≡ Ok d)
