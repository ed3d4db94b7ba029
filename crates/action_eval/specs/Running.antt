-- What code that runs statements on a working copy comes to.
-- Private functions alone cite it.
use Rattle.std.specs.Prelude.{◌≡◌, ℕ, Option, if◌then◌else◌}
use Rattle.std.specs.declared.option.Option.TheVariants.{Some, None}
use Rattle.std.specs.declared.result.Result.{Result}
use Rattle.std.specs.declared.result.Result.TheVariants.{Ok, Err}
use Rattle.amoebot_state.specs.declared.bot.Port.{Port}
use Rattle.amoebot_state.specs.declared.verdict.Failure.{Failure}
use Rattle.amoebot_state.specs.declared.verdict.Moved.{Moved}
use Rattle.amoebot_state.specs.declared.verdict.Verdict.{Verdict}
use Rattle.amoebot_state.specs.declared.verdict.Verdict.TheVariants as verdict
use Rattle.amoebot_state.specs.Configs.{Config}
use Rattle.amoebot_state.specs.Patches.{diff}
use Rattle.amoebot_state.specs.Zones.{shown_alone}
use Rattle.model_ops.specs.Operations.{and_then, write}
use Rattle.model_ops.specs.Reaches.{Reaches}
use Rattle.model_ops.specs.Sights.{sight}
use Rattle.model_ops.specs.WorkingCopies.{WorkingCopy, own_id}
use Rattle.action_tree.specs.Trees.{Name, Guard, Sum, Stmts}
use Rattle.action_meaning.specs.Names.{Names, bind, var_number}
use Rattle.action_meaning.specs.Values.{guard_value, sum_value}
use Rattle.action_meaning.specs.Effects.{Moment, moment, leaving, stmts_effect}
use Rattle.action_eval.specs.Known.{sight_of}

-- the configuration that a working copy has reached, with the names in force
abbrev pub moment_of : WorkingCopy → Names → Moment
moment_of w xs = moment w.reached xs

-- the configuration with the value of a sum written to a variable;
-- the failure of the sum comes before those of the write
abbrev pub put_reached : WorkingCopy → Names → Option Port → Name → Sum → Result Config Failure
put_reached w xs p v a =
    and_then (sum_value (sight_of w) xs a) (λ x. write w.reached (own_id w) p (var_number xs v) x)

-- what a `for` does at one port
abbrev pub turn_effect : ℕ → Name → Guard → Stmts → Port → Moment → Result Moment Failure
turn_effect i v g ss p m =
    and_then (guard_value (sight m.config i) (bind m.names v p) g) (λ b.
    if b then leaving m (stmts_effect i ss (moment m.config (bind m.names v p))) else Ok m)

-- an effect was had: the copy has reached its configuration, the result tells its names,
-- and what was found stays; or the result is its failure
abbrev pub HasRun : {A : Type 0} → Result Moment Failure
    → (A → Names) → Result A Failure → WorkingCopy → WorkingCopy
    → Type 0
HasRun effect names (Ok x) old new = (effect ≡ Ok (moment_of new (names x))) × (new.found ≡ old.found)
HasRun effect names (Err f) old new = effect ≡ Err f

-- a verdict was come to: an action was made, which is told with its movement,
-- and the copy has reached what it leaves; or none was enabled; or one failed
abbrev pub HasDecided : Verdict → Result (Option (ℕ × Moved)) Failure → WorkingCopy → WorkingCopy → Type 0
HasDecided v (Ok (Some made)) old new =
    (v ≡ verdict.Change (record { action = made.0; moved = made.1; patch = diff old.reached new.reached }))
    × (new.found ≡ old.found)
    × Reaches (shown_alone new.found) (own_id new) new.reached
HasDecided v (Ok None) old new = v ≡ verdict.Idle
HasDecided v (Err f) old new = v ≡ verdict.Failed f
