-- What statements do to a configuration and to the names in force.
use Rattle.std.specs.Prelude.{ℕ, List, [], ◌∷◌, if◌then◌else◌}
use Rattle.std.specs.declared.option.Option.TheVariants.{Some, None}
use Rattle.std.specs.declared.result.Result.{Result}
use Rattle.std.specs.declared.result.Result.TheVariants.{Ok}
use Rattle.amoebot_state.specs.declared.bot.Port.{Port}
use Rattle.amoebot_state.specs.declared.verdict.Failure.{Failure}
use Rattle.amoebot_state.specs.Configs.{Config}
use Rattle.model_ops.specs.Operations.{and_then, write}
use Rattle.model_ops.specs.Sights.{sight}
use Rattle.action_tree.specs.Trees.{Stmt, put, put_of, let_be, if_then, for_each, Stmts, no_stmts, stmt_then}
use Rattle.action_meaning.specs.Names.{Names, var_number, bind}
use Rattle.action_meaning.specs.Values.{guard_value, sum_value, port_value, ports_of}

-- the configuration reached so far, and the names in force
pub record Moment : Type 0 where
  pub config : Config
  pub names : Names

abbrev pub moment : Config → Names → Moment
moment c xs = record { config = c; names = xs }

-- a configuration is reached; the names in force stay
abbrev pub reaching : Moment → Result Config Failure → Result Moment Failure
reaching m r = and_then r (λ d. Ok (moment d m.names))

-- behind a statement, what its own statements bound is in force no more
abbrev pub leaving : Moment → Result Moment Failure → Result Moment Failure
leaving m r = and_then r (λ n. Ok (moment n.config m.names))

-- something is done for each port of a list, one after the other, in what was reached before
abbrev pub for_ports : (Port → Moment → Result Moment Failure) → List Port → Moment → Result Moment Failure
for_ports f [] m = Ok m
for_ports f (p ∷ ps) m = and_then (f p m) (λ n. for_ports f ps n)

-- of the amoebot with an id
abbrev mutual
  pub stmt_effect : ℕ → Stmt → Moment → Result Moment Failure
  stmt_effect i (put v a) m =
      and_then (sum_value (sight m.config i) m.names a) (λ x.
      reaching m (write m.config i None (var_number m.names v) x))
  stmt_effect i (put_of p v a) m =
      and_then (port_value (sight m.config i) m.names p) (λ q.
      and_then (sum_value (sight m.config i) m.names a) (λ x.
      reaching m (write m.config i (Some q) (var_number m.names v) x)))
  stmt_effect i (let_be v p) m =
      and_then (port_value (sight m.config i) m.names p) (λ q. Ok (moment m.config (bind m.names v q)))
  stmt_effect i (if_then g ss es) m =
      and_then (guard_value (sight m.config i) m.names g) (λ b.
      leaving m (if b then stmts_effect i ss m else stmts_effect i es m))
  stmt_effect i (for_each v set g ss) m =
      for_ports (λ p n.
      and_then (guard_value (sight n.config i) (bind n.names v p) g) (λ b.
      if b then leaving n (stmts_effect i ss (moment n.config (bind n.names v p))) else Ok n))
      (ports_of (sight m.config i) set) m

  pub stmts_effect : ℕ → Stmts → Moment → Result Moment Failure
  stmts_effect i no_stmts m = Ok m
  stmts_effect i (stmt_then s ss) m = and_then (stmt_effect i s m) (λ n. stmts_effect i ss n)
