-- What lies behind ports is in the zone.
use Rattle.std.proofs.Common.{◌≡◌, ◌<◌, ◌++◌, map, true, filter}
use Rattle.std.proofs.lemmas.Bool.{and_parts, ltb-true}
use Rattle.tri_lattice.specs.Lattice.{node_eq}
use Rattle.tri_lattice.specs.Extent.{Extent, is_in}
use Rattle.tri_lattice.proofs.Nodes.{node_eq-true}
use Rattle.amoebot_state.specs.declared.bot.Bot.{Bot}
use Rattle.amoebot_state.specs.declared.bot.Port.{Port}
use Rattle.amoebot_state.specs.Ports.{is_port, all_ports, ports, behind, own_nodes}
use Rattle.amoebot_state.specs.Zones.{zone, zone_nodes}
use Rattle.amoebot_state.specs.Laws.{NodeBehindPortIsInZone, OccupantBehindPortIsInZone}
use Rattle.amoebot_state.proofs.Members.{Has, Has-filter, Has-map, Has-distinct, Has-append_right, Contains-from_Has}
use Rattle.amoebot_state.proofs.Directions.{listed}
use Rattle.amoebot_state.proofs.Occupants.{occupant_covers, covered_in}
use Rattle.amoebot_state.proofs.Zones.{spot_in_zone, body_in_zone}

-- the node behind a port is one of the zone's, if it lies in the area
pub behind_in_nodes : (a : Extent) (b : Bot) (p : Port) → is_port b p ≡ true → is_in a (behind b p) ≡ true → Has (behind b p) (zone_nodes a b)
behind_in_nodes a b p port inside =
    let below : p.dir < 6 = ltb-true p.dir 6 (and_parts _ _ port).0 in
    let has : Has p (ports b) = Has-filter (is_port b) all_ports (listed p.end p.dir below) port in
    Has-distinct node_eq node_eq-true (own_nodes b ++ filter (is_in a) (map (behind b) (ports b))) (Has-append_right (own_nodes b) (Has-filter (is_in a) (map (behind b) (ports b)) (Has-map (behind b) has) inside))

pub node_behind_port_is_in_zone : NodeBehindPortIsInZone
node_behind_port_is_in_zone c i b p at port inside =
    Contains-from_Has (zone c i) (spot_in_zone c i b (behind b p) at (behind_in_nodes c.area b p port inside))

pub occupant_behind_port_is_in_zone : OccupantBehindPortIsInZone
occupant_behind_port_is_in_zone c i j b p valid at port by =
    let inside = covered_in c valid j (behind b p) (occupant_covers c (behind b p) j by) in
    Contains-from_Has (zone c i) (body_in_zone c i b (behind b p) j at (behind_in_nodes c.area b p port inside) by)
