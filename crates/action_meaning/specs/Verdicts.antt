-- What a program decides on an amoebot of a configuration.
-- Guarded actions, of which one is run, are the paper's;
-- that the first one in the order of the text is run, and that a failure ends the activation,
-- is this project's profile.
use Rattle.std.specs.Prelude.{ℕ, zero, suc, Bool, true, false, List, [], ◌∷◌}
use Rattle.std.specs.declared.result.Result.{Result}
use Rattle.std.specs.declared.result.Result.TheVariants.{Ok, Err}
use Rattle.amoebot_state.specs.declared.verdict.Failure.{Failure}
use Rattle.amoebot_state.specs.declared.verdict.Moved.{Moved}
use Rattle.amoebot_state.specs.declared.verdict.Moved.TheVariants as moved
use Rattle.amoebot_state.specs.declared.verdict.Verdict.{Verdict}
use Rattle.amoebot_state.specs.declared.verdict.Verdict.TheVariants as verdict
use Rattle.amoebot_state.specs.declared.bot.Port.{Port}
use Rattle.amoebot_state.specs.Configs.{Config}
use Rattle.amoebot_state.specs.Patches.{diff}
use Rattle.amoebot_state.specs.Zones.{Shown, shown_alone}
use Rattle.model_ops.specs.Operations.{and_then}
use Rattle.model_ops.specs.Reaches.{move}
use Rattle.model_ops.specs.Sights.{Sight, sight}
use Rattle.action_tree.specs.Trees.{PortMove, expand, push, pull, Move, no_move, through, contract, Action, Program}
use Rattle.action_tree.specs.Scopes.{names_of_vars}
use Rattle.action_meaning.specs.Names.{Names}
use Rattle.action_meaning.specs.Values.{guard_value, port_value}
use Rattle.action_meaning.specs.Effects.{Moment, moment, stmts_effect}

abbrev pub moved_through : PortMove → Port → Moved
moved_through expand p = moved.Expand p
moved_through push p = moved.Push p
moved_through pull p = moved.Pull p

-- a movement, with its port as evaluated
abbrev pub move_value : Sight → Names → Move → Result Moved Failure
move_value s xs no_move = Ok moved.None
move_value s xs (through m p) = and_then (port_value s xs p) (λ q. Ok (moved_through m q))
move_value s xs (contract e) = Ok (moved.Contract e)

-- a movement that was made, and the configuration that it leads to
pub record MadeMove : Type 0 where
  pub moved : Moved
  pub reached : Config

-- the statements of an action, and then its movement, in which what they bound is in force
abbrev pub action_effect : Bool → ℕ → Action → Moment → Result MadeMove Failure
action_effect guarded i a m =
    and_then (stmts_effect i a.body m) (λ n.
    and_then (move_value (sight n.config i) n.names a.moved) (λ by.
    and_then (move n.config i guarded by) (λ d.
    Ok (record { moved = by; reached = d }))))

-- the verdict of the action with a number whose effect on c that is
abbrev pub verdict_of_result : Config → ℕ → Result MadeMove Failure → Verdict
verdict_of_result c number (Ok made) =
    verdict.Change (record { action = number; moved = made.moved; patch = diff c made.reached })
verdict_of_result c number (Err f) = verdict.Failed f

-- where its guard is true, an action decides by its effect; where it fails, by that;
-- where it is false the later ones decide
abbrev pub decided_by_guard : Result Bool Failure → Verdict → Verdict → Verdict
decided_by_guard (Ok true) own later = own
decided_by_guard (Ok false) own later = later
decided_by_guard (Err f) own later = verdict.Failed f

-- the verdict of actions, which are numbered from a number on
abbrev pub actions_verdict : Bool → Names → Config → ℕ → ℕ → List Action → Verdict
actions_verdict guarded xs c i number [] = verdict.Idle
actions_verdict guarded xs c i number (a ∷ more) =
    decided_by_guard (guard_value (sight c i) xs a.guard)
    (verdict_of_result c number (action_effect guarded i a (moment c xs)))
    (actions_verdict guarded xs c i (suc number) more)

-- at the start of an action no name is in force
abbrev pub names_at_start : Program → Names
names_at_start p = record { vars = names_of_vars p.vars; bound = [] }

-- the verdict of a program on an amoebot of a configuration
abbrev pub verdict_on : Program → Config → ℕ → Verdict
verdict_on p c i = actions_verdict p.guard (names_at_start p) c i zero p.actions

-- the same, decided on what the amoebot is shown: on the configuration that has
-- what is shown and no other amoebot
abbrev pub verdict_shown : Program → Shown → Verdict
verdict_shown p s = verdict_on p (shown_alone s) s.bot
