-- What is behind each pair of an end and a direction of an amoebot (this project's profile).
use Rattle.std.specs.Prelude.{ℕ, List, map, Bool, true, false, if◌then◌else◌}
use Rattle.std.specs.declared.option.Option.{Option}
use Rattle.std.specs.declared.option.Option.TheVariants.{Some, None}
use Rattle.tri_lattice.specs.Extent.{is_in}
use Rattle.amoebot_state.specs.declared.bot.Port.{Port}
use Rattle.amoebot_state.specs.Ports.{all_ports, behind, is_port}
use Rattle.amoebot_state.specs.Configs.{Config, bot_of, is_wall, occupant}
use Rattle.amoebot_state.specs.declared.found.Behind.{Behind}
use Rattle.amoebot_state.specs.declared.found.Behind.TheVariants as there

-- on a node, of which is said whether it lies in the area and whether it is a wall: its occupant,
-- if it has one; else nobody
abbrev pub on_node : Bool → Bool → Option ℕ → Behind
on_node inside wall (Some i) = there.Bot i
on_node true true None = there.Wall
on_node true false None = there.Empty
on_node false wall None = there.Edge

-- behind a pair of an amoebot
abbrev pub behind_pair : Config → ℕ → Port → Behind
behind_pair c i p =
    let b = bot_of c i in
    let v = behind b p in
    if is_port b p then on_node (is_in c.area v) (is_wall c v) (occupant c v) else there.NoPort

-- behind all pairs, in port order
abbrev pub all_behind : Config → ℕ → List Behind
all_behind c i = map (behind_pair c i) all_ports
