-- How often a variable has a value.
use Rattle.std.specs.Prelude.{ℕ, Bool, false, ◌==◌, slice_index}
use Rattle.std.specs.List.{count_by}
use Rattle.std.specs.declared.option.Option.{Option}
use Rattle.std.specs.declared.option.Option.TheVariants.{Some, None}
use Rattle.amoebot_state.specs.declared.bot.Bot.{Bot}
use Rattle.amoebot_state.specs.Configs.{Config}

-- there is an amoebot, and its variable has the value
abbrev pub has_value : ℕ → ℕ → Option Bot → Bool
has_value var value None = false
has_value var value (Some b) = slice_index b.mem var == value

-- how many amoebots have the value in the variable
abbrev pub value_count : Config → ℕ → ℕ → ℕ
value_count w var value = count_by (has_value var value) w.bots
