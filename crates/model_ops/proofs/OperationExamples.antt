-- The operations at small values, computed: what is expected was written out by hand.
use Rattle.std.proofs.Common.{◌≡◌, ℕ, List, pos, negsuc, [], ◌∷◌, refl, true, false, None, Some, Option}
use Rattle.std.specs.declared.result.Result.TheVariants.{Ok, Err}
use Rattle.tri_lattice.specs.declared.node.Node.{Node}
use Rattle.tri_lattice.specs.Extent.{Extent}
use Rattle.amoebot_state.specs.declared.bot.Bot.{Bot}
use Rattle.amoebot_state.specs.declared.bot.Chir.TheVariants.{Plus, Minus}
use Rattle.amoebot_state.specs.declared.bot.End.TheVariants.{Head, Tail}
use Rattle.amoebot_state.specs.declared.cell.CellName.TheVariants as name
use Rattle.amoebot_state.specs.declared.cell.Cell.TheVariants as cell
use Rattle.amoebot_state.specs.declared.verdict.Failure.TheVariants.{NoPort, NoNeighbour, OutOfRange, Occupied, NotContracted, NotExpanded, PeerNotExpanded, PeerNotContracted, Edge, WouldSplit}
use Rattle.amoebot_state.specs.declared.verdict.Moved.TheVariants as moved
use Rattle.amoebot_state.specs.Pairs.{CellChange}
use Rattle.amoebot_state.specs.Ports.{port}
use Rattle.amoebot_state.specs.Configs.{Config, frame_of, with_these}
use Rattle.amoebot_state.specs.Zones.{shown, shown_alone}
use Rattle.model_ops.specs.WorkingCopies.{changes}
use Rattle.amoebot_state.specs.Patches.{diff}
use Rattle.model_ops.specs.Operations.{connected, is_free, read, write, peer, expand, contract, push, pull}
use Rattle.model_ops.specs.Reaches.{perform}

abbrev at : ℕ → ℕ → Node
at x y = record { x = pos x; y = pos y }

-- eight variables, of which the first has this value
abbrev first : ℕ → List ℕ
first n = n ∷ 0 ∷ 0 ∷ 0 ∷ 0 ∷ 0 ∷ 0 ∷ 0 ∷ []

-- an amoebot with rotation 0 that goes round as the global directions, by its head, its tail and its first variable
abbrev bot : Node → Node → ℕ → Bot
bot head tail m = record { head = head; tail = tail; rot = 0; chir = Plus; mem = first m }

-- amoebots in the area 0 0 8 8, whose first variable is at most this
abbrev world : ℕ → List Bot → Config
world max bots = let area : Extent = record { x0 = pos 0; y0 = pos 0; w = 8; h = 8 } in with_these (frame_of area (first max)) bots

-- what becomes of cells: a node with its occupants, if it has them, and a body
abbrev spot : ℕ → ℕ → Option ℕ → Option ℕ → CellChange
spot x y was now = (name.Spot (at x y), cell.Spot was, cell.Spot now)

abbrev body : ℕ → Bot → Bot → CellChange
body i was now = (name.Body i, cell.Body was, cell.Body now)

-- two neighbours: a write succeeds, and the movement after it fails
abbrev neighbours : Config
neighbours = world 3 (bot (at 2 3) (at 2 3) 0 ∷ bot (at 3 3) (at 3 3) 0 ∷ [])

abbrev marked : Config
marked = world 3 (bot (at 2 3) (at 2 3) 2 ∷ bot (at 3 3) (at 3 3) 0 ∷ [])

own_write : write neighbours 0 None 0 (pos 2) ≡ Ok marked
own_write = refl

write_then_blocked : perform neighbours 0 (record { writes = record { port = None; var = 0; value = pos 2 } ∷ []; guard = false; moved = moved.Expand (port Head 0) }) ≡ Err Occupied
write_then_blocked = refl

-- an expansion
abbrev alone : Config
alone = world 0 (bot (at 2 3) (at 2 3) 0 ∷ [])

abbrev alone_out : Config
alone_out = world 0 (bot (at 3 3) (at 2 3) 0 ∷ [])

expands : expand alone 0 (port Head 0) ≡ Ok alone_out
expands = refl

expansion_changes : diff alone alone_out ≡ spot 3 3 None (Some 0) ∷ body 0 (bot (at 2 3) (at 2 3) 0) (bot (at 3 3) (at 2 3) 0) ∷ []
expansion_changes = refl

-- it does not expand once more, nor through what is no port of it, nor into another amoebot
expanded_stays : expand alone_out 0 (port Head 0) ≡ Err NotContracted
expanded_stays = refl

no_seventh_port : expand alone 0 (port Head 6) ≡ Err NoPort
no_seventh_port = refl

occupied_is_not_entered : expand neighbours 0 (port Head 0) ≡ Err Occupied
occupied_is_not_entered = refl

-- local direction 1 of one that goes round against the global directions, with rotation 5
abbrev against : Node → Bot
against head = record { head = head; tail = at 2 3; rot = 5; chir = Minus; mem = first 0 }

against_expands : expand (world 0 (against (at 2 3) ∷ [])) 0 (port Head 1) ≡ Ok (world 0 (against (at 2 2) ∷ []))
against_expands = refl

-- a push of an expanded neighbour, whose head is on the node that is entered
abbrev before_push : Config
before_push = world 0 (bot (at 2 3) (at 2 3) 0 ∷ bot (at 3 3) (at 4 3) 0 ∷ [])

abbrev after_push : Config
after_push = world 0 (bot (at 3 3) (at 2 3) 0 ∷ bot (at 4 3) (at 4 3) 0 ∷ [])

pushes : push before_push 0 (port Head 0) ≡ Ok after_push
pushes = refl

push_changes : diff before_push after_push ≡ spot 3 3 (Some 1) (Some 0) ∷ body 0 (bot (at 2 3) (at 2 3) 0) (bot (at 3 3) (at 2 3) 0) ∷ body 1 (bot (at 3 3) (at 4 3) 0) (bot (at 4 3) (at 4 3) 0) ∷ []
push_changes = refl

contracted_is_not_pushed : push neighbours 0 (port Head 0) ≡ Err PeerNotExpanded
contracted_is_not_pushed = refl

-- a pull
abbrev train : Config
train = world 0 (bot (at 3 3) (at 2 3) 0 ∷ bot (at 1 3) (at 1 3) 0 ∷ [])

abbrev pulled : Config
pulled = world 0 (bot (at 3 3) (at 3 3) 0 ∷ bot (at 2 3) (at 1 3) 0 ∷ [])

pulls : pull train 0 (port Tail 3) ≡ Ok pulled
pulls = refl

pull_changes : diff train pulled ≡ spot 2 3 (Some 0) (Some 1) ∷ body 0 (bot (at 3 3) (at 2 3) 0) (bot (at 3 3) (at 3 3) 0) ∷ body 1 (bot (at 1 3) (at 1 3) 0) (bot (at 2 3) (at 1 3) 0) ∷ []
pull_changes = refl

-- the node between the two may not be left with the guard on
guard_holds : contract train 0 true Tail ≡ Err WouldSplit
guard_holds = refl

abbrev parted : Config
parted = world 0 (bot (at 3 3) (at 3 3) 0 ∷ bot (at 1 3) (at 1 3) 0 ∷ [])

unguarded_parts : contract train 0 false Tail ≡ Ok parted
unguarded_parts = refl

parting_changes : diff train parted ≡ spot 2 3 (Some 0) None ∷ body 0 (bot (at 3 3) (at 2 3) 0) (bot (at 3 3) (at 3 3) 0) ∷ []
parting_changes = refl

-- two ports that lead to one neighbour, whose memory is written through both
abbrev under : Config
under = world 3 (bot (at 3 3) (at 2 3) 0 ∷ bot (at 2 4) (at 2 4) 0 ∷ [])

both_ports : perform under 0 (record { writes = record { port = Some (port Head 2); var = 0; value = pos 1 } ∷ record { port = Some (port Tail 1); var = 0; value = pos 2 } ∷ []; guard = false; moved = moved.None }) ≡ Ok (world 3 (bot (at 3 3) (at 2 3) 0 ∷ bot (at 2 4) (at 2 4) 2 ∷ []))
both_ports = refl

between_the_writes : read (world 3 (bot (at 3 3) (at 2 3) 0 ∷ bot (at 2 4) (at 2 4) 1 ∷ [])) 0 (Some (port Head 2)) 0 ≡ Ok 1
between_the_writes = refl

both_ports_change : diff under (world 3 (bot (at 3 3) (at 2 3) 0 ∷ bot (at 2 4) (at 2 4) 2 ∷ [])) ≡ body 1 (bot (at 2 4) (at 2 4) 0) (bot (at 2 4) (at 2 4) 2) ∷ []
both_ports_change = refl

-- a value above its maximum, or below 0
too_much : write (world 4 (bot (at 2 3) (at 2 3) 0 ∷ [])) 0 None 0 (pos 5) ≡ Err OutOfRange
too_much = refl

too_little : write (world 4 (bot (at 2 3) (at 2 3) 0 ∷ [])) 0 None 0 (negsuc 0) ≡ Err OutOfRange
too_little = refl

-- what two neighbours see of each other, the one with the chirality against the global directions and rotation 5
abbrev turned : Config
turned = world 0 (bot (at 2 3) (at 2 3) 0 ∷ record { head = at 4 3; tail = at 3 3; rot = 5; chir = Minus; mem = first 0 } ∷ [])

sees_a_tail : peer turned 0 (port Head 0) ≡ Ok (record { expanded = true; at_head = false; dir = 2 })
sees_a_tail = refl

seen_back : peer turned 1 (port Tail 2) ≡ Ok (record { expanded = false; at_head = true; dir = 0 })
seen_back = refl

-- where two conditions fail, the first names the failure
expanded_at_no_port : expand train 0 (port Head 3) ≡ Err NotContracted
expanded_at_no_port = refl

tail_of_a_contracted_one : expand neighbours 0 (port Tail 0) ≡ Err NoPort
tail_of_a_contracted_one = refl

over_the_edge : expand (world 0 (bot (at 7 3) (at 7 3) 0 ∷ [])) 0 (port Head 0) ≡ Err Edge
over_the_edge = refl

nobody_there : push neighbours 0 (port Head 1) ≡ Err NoNeighbour
nobody_there = refl

contracted_pulls : pull neighbours 0 (port Tail 0) ≡ Err NotExpanded
contracted_pulls = refl

contracted_leaves : contract neighbours 0 true Tail ≡ Err NotExpanded
contracted_leaves = refl

expanded_is_not_pulled : pull (world 0 (bot (at 3 3) (at 2 3) 0 ∷ bot (at 1 3) (at 0 3) 0 ∷ [])) 0 (port Tail 3) ≡ Err PeerNotContracted
expanded_is_not_pulled = refl

-- outside the area nothing is free, and nothing is there
outside : is_free (world 0 (bot (at 7 3) (at 7 3) 0 ∷ [])) 0 (port Head 0) ≡ Ok false
outside = refl

outside_is_empty : connected (world 0 (bot (at 7 3) (at 7 3) 0 ∷ [])) 0 (port Head 0) ≡ Ok false
outside_is_empty = refl

-- an amoebot that is not shown leaves its id without one: there the push answers as in the whole configuration, and changes the same
abbrev far : Config
far = world 0 (bot (at 7 7) (at 7 7) 0 ∷ bot (at 2 3) (at 2 3) 0 ∷ bot (at 3 3) (at 4 3) 0 ∷ bot (at 0 7) (at 0 7) 0 ∷ [])

abbrev gap_pushed : Config
gap_pushed = record far { bots = None ∷ Some (bot (at 3 3) (at 2 3) 0) ∷ Some (bot (at 4 3) (at 4 3) 0) ∷ [] }

push_in_gap : push (shown_alone (shown far 1)) 1 (port Head 0) ≡ Ok gap_pushed
push_in_gap = refl

push_far : push far 1 (port Head 0) ≡ Ok (world 0 (bot (at 7 7) (at 7 7) 0 ∷ bot (at 3 3) (at 2 3) 0 ∷ bot (at 4 3) (at 4 3) 0 ∷ bot (at 0 7) (at 0 7) 0 ∷ []))
push_far = refl

push_changes_in_gap : changes (record { found = shown far 1; reached = gap_pushed }) ≡ spot 3 3 (Some 2) (Some 1) ∷ body 1 (bot (at 2 3) (at 2 3) 0) (bot (at 3 3) (at 2 3) 0) ∷ body 2 (bot (at 3 3) (at 4 3) 0) (bot (at 4 3) (at 4 3) 0) ∷ []
push_changes_in_gap = refl
