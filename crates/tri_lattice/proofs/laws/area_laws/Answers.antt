use Rattle.tri_lattice.proofs.Boxes.{box_is_its_bounds, index_of_node_at, node_at_index_of}
use Rattle.tri_lattice.proofs.laws.area_laws.Goals as goal

pub returns-clause-bounds : goal.returns-clause-bounds
returns-clause-bounds c = box_is_its_bounds

pub returns-clause-number : goal.returns-clause-number
returns-clause-number c = index_of_node_at

pub returns-clause-node : goal.returns-clause-node
returns-clause-node c = node_at_index_of
