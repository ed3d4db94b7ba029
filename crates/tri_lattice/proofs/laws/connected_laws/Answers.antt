use Rattle.tri_lattice.proofs.Paths.{same_keeps, putting_keeps, few_are_connected}
use Rattle.tri_lattice.proofs.laws.connected_laws.Goals as goal

pub returns : goal.returns
returns c = record { same = same_keeps; putting = putting_keeps; few = few_are_connected }
