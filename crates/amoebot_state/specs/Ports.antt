-- Amoebots: their nodes, their directions and their ports.
-- Heads and tails, and that an amoebot has one or two nodes and a port to each neighbour of them,
-- are the paper's geometric variant; rotations, the numbers and the order
-- of ports are this project's profile.
use Rattle.std.specs.Prelude.{ℕ, ◌+◌, ◌-◌, ◌%◌, List, [], ◌∷◌, Bool, true, false, not, ◌&&◌, ◌||◌, if◌then◌else◌, filter, nat_lt, codes}
use Rattle.tri_lattice.specs.declared.node.Node.{Node}
use Rattle.tri_lattice.specs.Lattice.{step, node_eq, is_adjacent}
use Rattle.amoebot_state.specs.declared.bot.Bot.{Bot}
use Rattle.amoebot_state.specs.declared.bot.Chir.{Chir}
use Rattle.amoebot_state.specs.declared.bot.Chir.TheVariants as chir
use Rattle.amoebot_state.specs.declared.bot.End.{End}
use Rattle.amoebot_state.specs.declared.bot.End.TheVariants.{Head, Tail}
use Rattle.amoebot_state.specs.declared.bot.Port.{Port}

-- head and tail are one node (the paper's geometric variant)
abbrev pub is_contracted : Bot → Bool
is_contracted b = node_eq b.head b.tail

-- the node is one of the amoebot's
abbrev pub is_own : Bot → Node → Bool
is_own b v = node_eq b.head v || node_eq b.tail v

-- the global direction of a local one: with one chirality the local directions go round
-- as the global ones, with the other against them (this project's profile)
abbrev pub global_by : Chir → ℕ → ℕ → ℕ
global_by chir.Plus rot i = (rot + i) % 6
global_by chir.Minus rot i = (rot + (6 - i)) % 6

-- the same for an amoebot, by its chirality and its rotation
abbrev pub global : Bot → ℕ → ℕ
global b i = global_by b.chir b.rot i

-- the local direction of a global one, the other way round
abbrev pub local_by : Chir → ℕ → ℕ → ℕ
local_by chir.Plus rot d = (d + (6 - rot)) % 6
local_by chir.Minus rot d = (rot + (6 - d)) % 6

-- the same for an amoebot
abbrev pub local : Bot → ℕ → ℕ
local b d = local_by b.chir b.rot d

-- the node of an end
abbrev pub end_node : Bot → End → Node
end_node b Head = b.head
end_node b Tail = b.tail

-- the node behind a pair of an end and a local direction:
-- one step from the end's node (the paper's geometric variant)
abbrev pub behind : Bot → Port → Node
behind b p = step (end_node b p.end) (global b p.dir)

-- the end is the head
abbrev pub is_head : End → Bool
is_head Head = true
is_head Tail = false

-- the word for an end
abbrev pub end_word : End → List ℕ
end_word Head = codes "head"
end_word Tail = codes "tail"

-- contracted: the six pairs of the head; expanded: the pairs of both ends that lead to no node
-- of its own (the paper's geometric variant)
abbrev pub is_port : Bot → Port → Bool
is_port b p = nat_lt p.dir 6 && (if is_contracted b then is_head p.end else not (is_own b (behind b p)))

-- the pair of an end and a local direction
abbrev pub port : End → ℕ → Port
port e i = record { end = e; dir = i }

-- all pairs of an end and a local direction, in port order: head before tail,
-- then rising direction (this project's profile)
abbrev pub all_ports : List Port
all_ports =
    port Head 0 ∷ port Head 1 ∷ port Head 2 ∷ port Head 3
    ∷ port Head 4 ∷ port Head 5 ∷ port Tail 0 ∷ port Tail 1
    ∷ port Tail 2 ∷ port Tail 3 ∷ port Tail 4 ∷ port Tail 5 ∷ []

-- the place of a pair in port order
abbrev pub pair_place : Port → ℕ
pair_place p = if is_head p.end then p.dir else 6 + p.dir

-- the ports of an amoebot, in port order
abbrev pub ports : Bot → List Port
ports b = filter (is_port b) all_ports

-- its nodes, the head first
abbrev pub own_nodes : Bot → List Node
own_nodes b = if is_contracted b then b.head ∷ [] else b.head ∷ b.tail ∷ []

-- the node is one of the amoebot's, or adjacent to one
abbrev pub is_beside : Bot → Node → Bool
is_beside b v = is_own b v || is_adjacent b.head v || is_adjacent b.tail v
