-- The nodes that are occupied, as a set (the paper's geometric variant).
use Rattle.std.specs.Prelude.{Bool, is_some}
use Rattle.tri_lattice.specs.declared.node.Node.{Node}
use Rattle.amoebot_state.specs.Configs.{Config, occupant}

-- the node has an occupant
abbrev pub occupied : Config → Node → Bool
occupied c v = is_some (occupant c v)
