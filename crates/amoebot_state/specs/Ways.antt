-- Where the pairs of an end and a direction of an amoebot lead,
-- by places among the nodes of its zone.
-- No public clause cites these but those of `KnownZone`.
use Rattle.std.specs.Prelude.{◌≡◌, ℕ, List, map, replicate, if◌then◌else◌}
use Rattle.std.specs.List.{position_or_len}
use Rattle.std.specs.declared.option.Option.{Option}
use Rattle.std.specs.declared.option.Option.TheVariants.{Some, None}
use Rattle.tri_lattice.specs.declared.node.Node.{Node}
use Rattle.tri_lattice.specs.Extent.{Extent, is_in}
use Rattle.tri_lattice.specs.Lattice.{node_eq}
use Rattle.amoebot_state.specs.declared.bot.Bot.{Bot}
use Rattle.amoebot_state.specs.declared.bot.Port.{Port}
use Rattle.amoebot_state.specs.declared.way.Way.{Way}
use Rattle.amoebot_state.specs.declared.way.Way.TheVariants as way
use Rattle.amoebot_state.specs.declared.cell.CellName.{CellName}
use Rattle.amoebot_state.specs.Ports.{all_ports, behind, is_port}
use Rattle.amoebot_state.specs.Pairs.{Pairs, body_in}
use Rattle.amoebot_state.specs.Configs.{bot_at}
use Rattle.amoebot_state.specs.Zones.{Shown, IsShown, shown_alone, zone_nodes}
use Rattle.amoebot_state.specs.Known.{known_zone}

-- the place of a node among these; where it is none of them, their number
abbrev pub node_place : List Node → Node → ℕ
node_place vs v = position_or_len (λ u. node_eq u v) vs

-- where a pair leads, with the nodes among which a place is meant
abbrev pub way_among : Extent → Bot → List Node → Port → Way
way_among a b vs p =
    if is_port b p
    then (if is_in a (behind b p) then way.To (node_place vs (behind b p)) else way.Outside) else way.NoPort

-- where all pairs lead, in port order
abbrev pub ways_of : Extent → Bot → List Way
ways_of a b = map (way_among a b (zone_nodes a b)) all_ports

-- where they lead of an amoebot as far as it was read: before that no pair is known to be a port
abbrev pub ways_read : Extent → Option Bot → List Way
ways_read a None = replicate 12 way.NoPort
ways_read a (Some b) = ways_of a b

-- what is known of a zone: its cells, and where the pairs of the amoebot lead
pub record Reading : Type 0 where
  pub names : List CellName
  pub ways : List Way

-- what the cells that were read tell of the zone of an id
abbrev pub reading : Extent → ℕ → Pairs → Reading
reading a i cells = record { names = known_zone a i cells; ways = ways_read a (body_in cells i) }

-- a neighbourhood that some configuration shows to this amoebot, whose pairs lead so
pub record IsFound (s : Shown) (own : Bot) (ws : List Way) : Type 0 where
  pub shown : IsShown s
  pub owner : bot_at (shown_alone s) s.bot ≡ Some own
  pub ways : ws ≡ ways_of s.area own
