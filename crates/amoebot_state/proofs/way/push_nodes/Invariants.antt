use Rattle.std.proofs.Common.{◌≡◌, ◌+◌, map, take, drop, replicate, length, true}
use Rattle.std.specs.List.{fold}
use Rattle.amoebot_state.specs.Ports.{own_nodes, all_ports, is_contracted}
use Rattle.amoebot_state.specs.declared.way.Way.TheVariants.{NoPort}
use Rattle.amoebot_state.specs.Storage.{with_port}
use Rattle.amoebot_state.specs.Zones.{zone_nodes}
use Rattle.amoebot_state.specs.Ways.{way_among}
use Rattle.amoebot_state.proofs.way.push_nodes.Given as goal

abbrev pub invariant-loop-dir : goal.invariant-loop-dir
invariant-loop-dir l =
    (l.nodes.items ≡ fold (with_port l.area l.bot) (own_nodes l.bot) (take l.dir all_ports))
    × (take l.dir l.ways ≡ map (way_among l.area l.bot (zone_nodes l.area l.bot)) (take l.dir all_ports))
    × (length l.ways ≡ 12)
    × (drop 6 l.ways ≡ replicate 6 NoPort)

abbrev pub invariant-loop-dir-2 : goal.invariant-loop-dir-2
invariant-loop-dir-2 l =
    (l.nodes.items ≡ fold (with_port l.area l.bot) (own_nodes l.bot) (take (6 + l.dir) all_ports))
    × (take (6 + l.dir) l.ways ≡ map (way_among l.area l.bot (zone_nodes l.area l.bot)) (take (6 + l.dir) all_ports))
    × (length l.ways ≡ 12)
    × (is_contracted l.bot ≡ true → drop 6 l.ways ≡ replicate 6 NoPort)
