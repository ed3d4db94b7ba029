-- The operations of the model, each a partial function of a configuration and an id of it.
-- Their names are the paper's, but for Free and Peer.
-- Their conditions, the failures, the order in which these are tried,
-- and the answers are this project's profile.
-- The id has to be there; other ids may have no amoebot.
use Rattle.std.specs.Prelude.{ℕ, ℤ, pos, negsuc, unsigned_abs, List, slice_index, slice_set, Bool, false, not, ◌&&◌, ◌||◌, if◌then◌else◌, is_none, nat_le}
use Rattle.std.specs.declared.option.Option.{Option}
use Rattle.std.specs.declared.option.Option.TheVariants.{Some, None}
use Rattle.std.specs.declared.result.Result.{Result}
use Rattle.std.specs.declared.result.Result.TheVariants.{Ok, Err}
use Rattle.tri_lattice.specs.declared.node.Node.{Node}
use Rattle.tri_lattice.specs.Lattice.{node_eq, opposite}
use Rattle.tri_lattice.specs.Extent.{is_in}
use Rattle.ring_guard.specs.Rings.{is_one_arc, ring_in}
use Rattle.amoebot_state.specs.declared.bot.Bot.{Bot}
use Rattle.amoebot_state.specs.declared.bot.End.{End}
use Rattle.amoebot_state.specs.declared.bot.Port.{Port}
use Rattle.amoebot_state.specs.declared.verdict.Failure.{Failure}
use Rattle.amoebot_state.specs.declared.verdict.Failure.TheVariants.{NoPort, NoNeighbour, OutOfRange, Occupied, NotContracted, NotExpanded, PeerNotExpanded, PeerNotContracted, Edge, WouldSplit, Blocked}
use Rattle.amoebot_state.specs.Ports.{is_contracted, is_port, behind, end_node, global, local}
use Rattle.amoebot_state.specs.Configs.{Config, is_wall, occupant, bot_of, set_bot}
use Rattle.amoebot_state.specs.Occupied.{occupied}
use Rattle.model_ops.specs.declared.peer.Peer.{Peer}

-- the answer, where the condition holds, and else the failure
abbrev pub need : {A : Type 0} → Bool → Failure → Result A Failure → Result A Failure
need holds f answer = if holds then answer else Err f

-- the answer for the occupant of a node, if it has one, and else NoNeighbour
abbrev pub with_peer : {A : Type 0} → Option ℕ → (ℕ → Result A Failure) → Result A Failure
with_peer None answer = Err NoNeighbour
with_peer (Some n) answer = answer n

-- what follows an answer, or its failure
abbrev pub and_then : {A B : Type 0} → Result A Failure → (A → Result B Failure) → Result B Failure
and_then (Ok x) next = next x
and_then (Err f) next = Err f

-- Connected: whether the node behind the port has an occupant
abbrev pub connected : Config → ℕ → Port → Result Bool Failure
connected c i p =
    let b = bot_of c i in
    need (is_port b p) NoPort
    (Ok (occupied c (behind b p)))

-- the node can be entered: it lies in the area, is no wall and has no occupant
abbrev pub is_free_node : Config → Node → Bool
is_free_node c v = is_in c.area v && not (is_wall c v) && is_none (occupant c v)

-- Free: whether the node behind the port can be entered
abbrev pub is_free : Config → ℕ → Port → Result Bool Failure
is_free c i p =
    let b = bot_of c i in
    need (is_port b p) NoPort
    (Ok (is_free_node c (behind b p)))

-- whose memory is meant: without a port the amoebot's own, with one that of the occupant behind it
abbrev pub owner : Config → ℕ → Option Port → Result ℕ Failure
owner c i None = Ok i
owner c i (Some p) =
    let b = bot_of c i in
    need (is_port b p) NoPort
    (with_peer (occupant c (behind b p)) (λ n.
    Ok n))

-- Read, with and without a port: the value of a variable
abbrev pub read : Config → ℕ → Option Port → ℕ → Result ℕ Failure
read c i p x =
    and_then (owner c i p) (λ n.
    Ok (slice_index (bot_of c n).mem x))

-- the number is a value of the variable: it lies between 0 and the variable's maximum
abbrev pub is_value : List ℕ → ℕ → ℤ → Bool
is_value maxes x (pos k) = nat_le k (slice_index maxes x)
is_value maxes x (negsuc k) = false

-- the amoebot with another value of a variable
abbrev pub with_value : Bot → ℕ → ℕ → Bot
with_value b x k = record b { mem = slice_set b.mem x k }

-- Write, with and without a port: a variable gets a value
abbrev pub write : Config → ℕ → Option Port → ℕ → ℤ → Result Config Failure
write c i p x s =
    and_then (owner c i p) (λ n.
    need (is_value c.maxes x s) OutOfRange
    (Ok (set_bot c n (with_value (bot_of c n) x (unsigned_abs s)))))

-- what the amoebot a sees of its neighbour d over the edge behind its port: whether d is expanded,
-- whether the edge is at d's head, and the edge's local direction at d,
-- which is opposite to its direction at a
abbrev pub seen_over : Bot → Port → Bot → Peer
seen_over a p d = record {
  expanded = not (is_contracted d);
  at_head = node_eq d.head (behind a p);
  dir = local d (opposite (global a p.dir));
}

-- Peer: the neighbour behind the port, as it is seen over the port's edge
abbrev pub peer : Config → ℕ → Port → Result Peer Failure
peer c i p =
    let b = bot_of c i in
    need (is_port b p) NoPort
    (with_peer (occupant c (behind b p)) (λ n.
    Ok (seen_over b p (bot_of c n))))

-- the amoebot with its head at a node
abbrev pub with_head : Bot → Node → Bot
with_head b v = record b { head = v }

-- the amoebot contracted in a node
abbrev pub contracted_in : Bot → Node → Bot
contracted_in b v = record b { head = v; tail = v }

-- its node other than this one
abbrev pub other_node : Bot → Node → Node
other_node b v = if node_eq b.head v then b.tail else b.head

-- a small movement: the amoebot's head enters a node, and its tail stays
abbrev pub grow : Config → ℕ → Node → Config
grow c i v = set_bot c i (with_head (bot_of c i) v)

-- the other small movement: it leaves a node of its own, and is contracted in its other one
abbrev pub shrink : Config → ℕ → Node → Config
shrink c i v = set_bot c i (contracted_in (bot_of c i) (other_node (bot_of c i) v))

-- Expand: a contracted amoebot enters the node behind the port
abbrev pub expand : Config → ℕ → Port → Result Config Failure
expand c i p =
    let b = bot_of c i in
    let v = behind b p in
    need (is_contracted b) NotContracted
    (need (is_port b p) NoPort
    (need (is_in c.area v) Edge
    (need (not (is_wall c v)) Blocked
    (need (is_none (occupant c v)) Occupied
    (Ok (grow c i v))))))

-- the guard lets a node be left: it is off, or the occupied nodes round the node are one arc.
-- An expanded amoebot's other node is one of these, and no node outside the area and no wall is
abbrev pub may_leave : Config → Bool → Node → Bool
may_leave c guard v = not guard || is_one_arc (ring_in (occupied c) v)

-- Contract, with the guard on or off: an expanded amoebot leaves the node of an end
abbrev pub contract : Config → ℕ → Bool → End → Result Config Failure
contract c i guard e =
    let b = bot_of c i in
    let v = end_node b e in
    need (not (is_contracted b)) NotExpanded
    (need (may_leave c guard v) WouldSplit
    (Ok (shrink c i v)))

-- Push: an expanded neighbour leaves the node behind the port,
-- and a contracted amoebot's head enters it
abbrev pub push : Config → ℕ → Port → Result Config Failure
push c i p =
    let b = bot_of c i in
    let v = behind b p in
    need (is_contracted b) NotContracted
    (need (is_port b p) NoPort
    (with_peer (occupant c v) (λ n.
    need (not (is_contracted (bot_of c n))) PeerNotExpanded
    (Ok (grow (shrink c n v) i v)))))

-- Pull: an expanded amoebot leaves the node that the port is on,
-- and a contracted neighbour's head enters it
abbrev pub pull : Config → ℕ → Port → Result Config Failure
pull c i p =
    let b = bot_of c i in
    let v = end_node b p.end in
    need (not (is_contracted b)) NotExpanded
    (need (is_port b p) NoPort
    (with_peer (occupant c (behind b p)) (λ n.
    need (is_contracted (bot_of c n)) PeerNotContracted
    (Ok (grow (shrink c i v) n v)))))
