use Rattle.shape_checks.proofs.Hexagons.{full_rings_are_hexagons, radii_follow, hexagons_are_connected, one_alone_is_hexagon}
use Rattle.shape_checks.proofs.laws.hexagon_laws.Goals as goal

pub returns : goal.returns
returns c = record {
  full = full_rings_are_hexagons;
  radii = radii_follow;
  connected = hexagons_are_connected;
  one = one_alone_is_hexagon;
}
