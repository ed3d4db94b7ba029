use Rattle.tri_lattice.proofs.Nodes.{opposite_leads_back, next_neighbours_meet, step_leaves, Adjacent-sym, node_test_is_equality}
use Rattle.tri_lattice.proofs.Steps.{neighbours_are_distinct, neighbours_are_at_one, adjacent_test_is_adjacency}
use Rattle.tri_lattice.proofs.laws.lattice_laws.Goals as goal

pub returns : goal.returns
returns c = record {
  back = opposite_leads_back;
  meet = next_neighbours_meet;
  distinct = neighbours_are_distinct;
  leave = step_leaves;
  symmetric = Adjacent-sym;
  at_one = neighbours_are_at_one;
  node_test = node_test_is_equality;
  adjacent_test = adjacent_test_is_adjacency;
}
