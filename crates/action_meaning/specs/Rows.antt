-- Expressions and programs on four small configurations, each with its value or its failure,
-- written out by hand.
use Rattle.std.specs.Prelude.{ℕ, ℤ, pos, negsuc, Bool, true, false, List, [], ◌∷◌, codes}
use Rattle.std.specs.declared.option.Option.{Option}
use Rattle.std.specs.declared.option.Option.TheVariants.{Some, None}
use Rattle.std.specs.declared.result.Result.{Result}
use Rattle.std.specs.declared.result.Result.TheVariants.{Ok, Err}
use Rattle.tri_lattice.specs.declared.node.Node.{Node}
use Rattle.tri_lattice.specs.Extent.{Extent}
use Rattle.amoebot_state.specs.declared.bot.Bot.{Bot}
use Rattle.amoebot_state.specs.declared.bot.Chir.{Chir}
use Rattle.amoebot_state.specs.declared.bot.Chir.TheVariants as chir
use Rattle.amoebot_state.specs.declared.bot.End.TheVariants.{Head, Tail}
use Rattle.amoebot_state.specs.declared.cell.CellName.TheVariants as name
use Rattle.amoebot_state.specs.declared.cell.Cell.TheVariants as cell
use Rattle.amoebot_state.specs.declared.verdict.Failure.{Failure}
use Rattle.amoebot_state.specs.declared.verdict.Failure.TheVariants.{NoPort, NoNeighbour, OutOfRange, NotContracted, NotExpanded, PeerNotExpanded, PeerNotContracted, Occupied, Edge, WouldSplit, NoChoice, Blocked}
use Rattle.amoebot_state.specs.declared.verdict.Moved.{Moved}
use Rattle.amoebot_state.specs.declared.verdict.Moved.TheVariants as moved
use Rattle.amoebot_state.specs.declared.verdict.Verdict.{Verdict}
use Rattle.amoebot_state.specs.declared.verdict.Verdict.TheVariants as verdict
use Rattle.amoebot_state.specs.Pairs.{CellChange, Triples}
use Rattle.amoebot_state.specs.Ports.{port}
use Rattle.amoebot_state.specs.Configs.{Config, frame_of, walled_frame, with_these}
use Rattle.model_ops.specs.Sights.{sight}
use Rattle.action_tree.specs.declared.expression.PortSet.{PortSet}
use Rattle.action_tree.specs.declared.expression.PortSet.TheVariants.{Ports, Free}
use Rattle.action_tree.specs.declared.expression.Cmp.TheVariants.{Eq, Ne, Lt, Le, Gt, Ge}
use Rattle.action_tree.specs.Trees as tree
use Rattle.action_tree.specs.Trees.{Name, Literal, Guard, Sum, Term, PortExpr, Stmt, Move, Action, Program, Part, guards, terms, stmts}
use Rattle.action_tree.specs.Shipped.{yes, no}
use Rattle.action_meaning.specs.Names.{Names}
use Rattle.action_meaning.specs.Values.{guard_value, sum_value}
use Rattle.action_meaning.specs.Verdicts.{verdict_on}

-- ---- the first configuration, in the area 0 0 8 8

abbrev node : ℕ → ℕ → Node
node x y = record { x = pos x; y = pos y }

-- the values of the variables x and y
abbrev values : ℕ → ℕ → List ℕ
values x y = x ∷ y ∷ 0 ∷ 0 ∷ 0 ∷ 0 ∷ 0 ∷ 0 ∷ []

abbrev body : Node → Node → ℕ → Chir → ℕ → ℕ → Bot
body head tail rot way x y = record { head = head; tail = tail; rot = rot; chir = way; mem = values x y }

-- Amoebot 0 is contracted.
-- Amoebot 1 is expanded, with its head behind the port (head, 0) of amoebot 0,
-- and amoebot 2 contracted behind its port (head, 3).
-- Amoebot 3 is expanded and stands alone.
abbrev zero : Bot
zero = body (node 3 3) (node 3 3) 0 chir.Plus 4 6

abbrev one : Bot
one = body (node 4 3) (node 5 3) 0 chir.Plus 2 0

abbrev two : Bot
two = body (node 2 3) (node 2 3) 2 chir.Minus 7 0

abbrev three : Bot
three = body (node 1 1) (node 0 1) 1 chir.Plus 0 0

abbrev area : Extent
area = record { x0 = pos 0; y0 = pos 0; w = 8; h = 8 }

abbrev of_bots : List Bot → Config
of_bots bots = with_these (frame_of area (values 9 9)) bots

abbrev shape : Config
shape = of_bots (zero ∷ one ∷ two ∷ three ∷ [])

-- ---- the second one, in the same area

-- Amoebot 0 is expanded.
-- Behind its port (tail, 3) is amoebot 1, contracted, and behind its port (head, 0) the tail
-- of amoebot 2, which is expanded.
-- Amoebot 3 is contracted and alone, in the corner of the area.
abbrev middle : Bot
middle = body (node 3 3) (node 2 3) 0 chir.Plus 4 6

abbrev back : Bot
back = body (node 1 3) (node 1 3) 2 chir.Minus 2 0

abbrev front : Bot
front = body (node 5 3) (node 4 3) 0 chir.Plus 7 0

abbrev corner : Bot
corner = body (node 7 7) (node 7 7) 0 chir.Plus 0 0

abbrev queue : Config
queue = of_bots (middle ∷ back ∷ front ∷ corner ∷ [])

-- ---- two with walls, in the same area

abbrev with_walls : List Node → List Bot → Config
with_walls walls bots = with_these (walled_frame area walls (values 9 9)) bots

-- behind the ports (head, 0) and (head, 1) of amoebot 0 are walls,
-- and behind its port (head, 3) is amoebot 1, contracted
abbrev walled : Config
walled = with_walls (node 4 3 ∷ node 3 4 ∷ []) (zero ∷ two ∷ [])

-- six walls round amoebot 0
abbrev shut : Config
shut = with_walls (node 4 3 ∷ node 3 4 ∷ node 2 4 ∷ node 2 3 ∷ node 3 2 ∷ node 4 2 ∷ []) (zero ∷ [])

-- ---- parts of trees

abbrev called : List ℕ → Name
called text = record { text = text; line = 1 }

abbrev x : Name
x = called (codes "x")

abbrev y : Name
y = called (codes "y")

abbrev p : Name
p = called (codes "p")

abbrev q : Name
q = called (codes "q")

abbrev literal : ℕ → Literal
literal n = record { value = n; line = 1 }

abbrev head : ℕ → PortExpr
head i = tree.at_end Head (tree.fixed (literal i))

abbrev tail : ℕ → PortExpr
tail i = tree.at_end Tail (tree.fixed (literal i))

abbrev turn : PortExpr → ℕ → PortExpr
turn r n = tree.turned r (literal n)

abbrev port_p : PortExpr
port_p = tree.bound p

abbrev plus : Term → Part
plus t = record { minus = false; term = t }

abbrev less : Term → Part
less t = record { minus = true; term = t }

abbrev sum : Term → Sum
sum t = terms (plus t ∷ [])

abbrev number : ℕ → Term
number n = tree.number (literal n)

-- a term equals a number
abbrev is : Term → ℕ → Guard
is t n = tree.comparison (sum t) Eq (sum (number n))

abbrev both : Guard → Guard → Guard
both a b = tree.conjunction (guards (a ∷ b ∷ []))

abbrev either : Guard → Guard → Guard
either a b = tree.disjunction (guards (a ∷ b ∷ []))

abbrev any_p : PortSet → Guard → Guard
any_p set g = tree.quantified tree.any p set g

abbrev all_p : PortSet → Guard → Guard
all_p set g = tree.quantified tree.all p set g

abbrev first_p : PortSet → Guard → PortExpr
first_p set g = tree.first p set g

-- the variable x of the neighbour behind a port; it fails where there is none
abbrev x_at : PortExpr → Term
x_at r = tree.of_port r x

abbrev dir : PortExpr → Term
dir r = tree.direction tree.own_side r

abbrev peer_dir : PortExpr → Term
peer_dir r = tree.direction tree.peer_side r

-- ---- guards

pub record GuardRow : Type 0 where
  pub bot : ℕ
  pub guard : Guard
  pub value : Result Bool Failure

abbrev asked : ℕ → Guard → Result Bool Failure → GuardRow
asked bot guard value = record { bot = bot; guard = guard; value = value }

-- no name is in force
abbrev names : Names
names = record { vars = codes "x" ∷ codes "y" ∷ []; bound = [] }

abbrev pub guard_in_shape : GuardRow → Result Bool Failure
guard_in_shape a = guard_value (sight shape a.bot) names a.guard

abbrev pub guard_beside_walls : GuardRow → Result Bool Failure
guard_beside_walls a = guard_value (sight walled a.bot) names a.guard

abbrev compares : ℕ → List Guard
compares n =
    tree.comparison (sum (tree.own x)) Eq (sum (number n))
    ∷ tree.comparison (sum (tree.own x)) Ne (sum (number n))
    ∷ tree.comparison (sum (tree.own x)) Lt (sum (number n))
    ∷ tree.comparison (sum (tree.own x)) Le (sum (number n))
    ∷ tree.comparison (sum (tree.own x)) Gt (sum (number n))
    ∷ tree.comparison (sum (tree.own x)) Ge (sum (number n))
    ∷ []

abbrev pub guard_rows : List GuardRow
guard_rows =
    asked 0 yes (Ok true)
    ∷ asked 0 no (Ok false)
    ∷ asked 0 (tree.atom tree.contracted) (Ok true)
    ∷ asked 0 (tree.atom tree.expanded) (Ok false)
    ∷ asked 3 (tree.atom tree.contracted) (Ok false)
    ∷ asked 3 (tree.atom tree.expanded) (Ok true)
    ∷ asked 0 (tree.negation no) (Ok true)
    ∷ asked 0 (tree.negation (is (x_at (head 1)) 0)) (Err NoNeighbour)
    -- `and` and `or` stop before a failure, or meet it
    ∷ asked 0 (both no (is (x_at (head 1)) 0)) (Ok false)
    ∷ asked 0 (both yes (is (x_at (head 1)) 0)) (Err NoNeighbour)
    ∷ asked 0 (both yes yes) (Ok true)
    ∷ asked 0 (either yes (is (x_at (head 1)) 0)) (Ok true)
    ∷ asked 0 (either no (is (x_at (head 1)) 0)) (Err NoNeighbour)
    ∷ asked 0 (either no no) (Ok false)
    -- the first port that decides, and no later one, fails or answers
    ∷ asked 0 (any_p Ports (is (x_at port_p) 7)) (Ok true)
    ∷ asked 0 (any_p Ports (is (x_at port_p) 3)) (Ok false)
    ∷ asked 0 (any_p Ports (either (is (x_at port_p) 2) (is (x_at (turn port_p 1)) 0))) (Ok true)
    ∷ asked 0 (any_p Ports (either (is (x_at port_p) 7) (is (x_at (turn port_p 1)) 0))) (Err NoNeighbour)
    ∷ asked 0 (all_p Ports (is (x_at port_p) 7)) (Ok false)
    ∷ asked 0 (all_p Ports (tree.tested tree.linked port_p)) (Ok true)
    ∷ asked 0 (all_p Ports (both (is (x_at port_p) 7) (is (x_at (turn port_p 1)) 0))) (Ok false)
    ∷ asked 0 (all_p Free (is (x_at port_p) 0)) (Err NoNeighbour)
    -- of no port
    ∷ asked 3 (any_p Ports yes) (Ok false)
    ∷ asked 3 (all_p Ports no) (Ok true)
    -- one port
    ∷ asked 0 (tree.tested tree.linked (head 0)) (Ok true)
    ∷ asked 0 (tree.tested tree.linked (head 1)) (Ok false)
    ∷ asked 0 (tree.tested tree.linked (tail 0)) (Err NoPort)
    ∷ asked 0 (tree.tested tree.free (head 0)) (Ok false)
    ∷ asked 0 (tree.tested tree.free (head 1)) (Ok true)
    ∷ asked 3 (tree.tested tree.free (tail 2)) (Ok false)
    ∷ asked 0 (tree.tested tree.free (tail 1)) (Err NoPort)
    ∷ asked 0 (tree.tested tree.at_head (head 1)) (Ok true)
    ∷ asked 0 (tree.tested tree.at_head (tail 1)) (Err NoPort)
    ∷ asked 3 (tree.tested tree.at_head (tail 0)) (Ok false)
    ∷ asked 0 (tree.tested tree.peer_expanded (head 0)) (Ok true)
    ∷ asked 0 (tree.tested tree.peer_expanded (head 3)) (Ok false)
    ∷ asked 0 (tree.tested tree.peer_expanded (head 1)) (Err NoNeighbour)
    ∷ asked 0 (tree.tested tree.peer_head (head 0)) (Ok true)
    ∷ asked 0 (tree.tested tree.peer_head (tail 0)) (Err NoPort)
    -- a direction by a variable: 4 is one, 6 is none
    ∷ asked 0 (tree.tested tree.free (tree.at_end Head (tree.held x))) (Ok true)
    ∷ asked 0 (tree.tested tree.free (tree.at_end Head (tree.held y))) (Err NoPort)
    -- the left sum comes first
    ∷ asked 0 (tree.comparison (sum (x_at (head 1))) Eq (sum (x_at (tail 0)))) (Err NoNeighbour)
    ∷ asked 0 (tree.comparison (sum (x_at (tail 0))) Eq (sum (x_at (head 1)))) (Err NoPort)
    ∷ []

-- a wall is neither free nor linked
abbrev pub walled_guard_rows : List GuardRow
walled_guard_rows =
    asked 0 (tree.tested tree.free (head 0)) (Ok false)
    ∷ asked 0 (tree.tested tree.linked (head 0)) (Ok false)
    ∷ asked 0 (tree.tested tree.free (head 2)) (Ok true)
    ∷ asked 0 (tree.tested tree.free (head 3)) (Ok false)
    ∷ asked 0 (tree.tested tree.linked (head 3)) (Ok true)
    ∷ asked 0 (tree.tested tree.peer_expanded (head 0)) (Err NoNeighbour)
    ∷ []

abbrev pub compared_rows : List (ℕ × List Bool)
compared_rows =
    (3, false ∷ true ∷ false ∷ false ∷ true ∷ true ∷ [])
    ∷ (4, true ∷ false ∷ false ∷ true ∷ false ∷ true ∷ [])
    ∷ (5, false ∷ true ∷ true ∷ true ∷ false ∷ false ∷ [])
    ∷ []

-- the six comparisons of x, which is 4, with a number
abbrev pub compared_in_shape : ℕ → List (Result Bool Failure)
compared_in_shape n = Rattle.std.specs.Prelude.map (guard_value (sight shape 0) names) (compares n)

-- ---- sums

pub record SumRow : Type 0 where
  pub bot : ℕ
  pub sum : Sum
  pub value : Result ℤ Failure

abbrev added : ℕ → List Part → Result ℤ Failure → SumRow
added bot parts value = record { bot = bot; sum = terms parts; value = value }

abbrev pub sum_in_shape : SumRow → Result ℤ Failure
sum_in_shape a = sum_value (sight shape a.bot) names a.sum

abbrev pub sum_rows : List SumRow
sum_rows =
    added 0 (plus (number 65535) ∷ []) (Ok (pos 65535))
    ∷ added 0 (plus (tree.own x) ∷ []) (Ok (pos 4))
    ∷ added 0 (plus (tree.own y) ∷ []) (Ok (pos 6))
    ∷ added 0 (plus (number 1) ∷ less (tree.own x) ∷ plus (number 10) ∷ []) (Ok (pos 7))
    ∷ added 0 (less (tree.own x) ∷ plus (number 1) ∷ []) (Ok (negsuc 2))
    ∷ added 0 (plus (x_at (head 0)) ∷ []) (Ok (pos 2))
    ∷ added 0 (plus (x_at (turn (head 5) 1)) ∷ []) (Ok (pos 2))
    ∷ added 0 (plus (x_at (head 1)) ∷ []) (Err NoNeighbour)
    ∷ added 0 (plus (x_at (tail 0)) ∷ []) (Err NoPort)
    ∷ added 0 (plus (tree.count p Ports (tree.comparison (sum (x_at port_p)) Gt (sum (number 1)))) ∷ [])
    (Ok (pos 2))
    ∷ added 0 (plus (tree.count p Ports (is (x_at port_p) 7)) ∷ []) (Ok (pos 1))
    ∷ added 0 (plus (tree.count p Free yes) ∷ []) (Ok (pos 4))
    ∷ added 0 (plus (tree.count p Free (is (x_at port_p) 0)) ∷ []) (Err NoNeighbour)
    ∷ added 0 (plus (dir (first_p Ports (is (x_at port_p) 7))) ∷ []) (Ok (pos 3))
    ∷ added 0 (plus (dir (first_p Free yes)) ∷ []) (Ok (pos 1))
    ∷ added 0 (plus (dir (first_p Ports no)) ∷ []) (Err NoChoice)
    ∷ added 0 (plus (dir (first_p Free (is (x_at port_p) 0))) ∷ []) (Err NoNeighbour)
    ∷ added 0 (plus (dir (tail 0)) ∷ []) (Err NoPort)
    ∷ added 0 (plus (dir (turn (head 4) 3)) ∷ []) (Ok (pos 1))
    ∷ added 0 (plus (peer_dir (head 0)) ∷ []) (Ok (pos 3))
    ∷ added 0 (plus (peer_dir (head 3)) ∷ []) (Ok (pos 2))
    ∷ added 0 (plus (peer_dir (head 1)) ∷ []) (Err NoNeighbour)
    ∷ added 3 (plus tree.inner ∷ []) (Ok (pos 5))
    ∷ added 0 (plus tree.inner ∷ []) (Err NotExpanded)
    ∷ added 0 (plus (tree.mod6 (terms (less (tree.own x) ∷ []))) ∷ []) (Ok (pos 2))
    ∷ added 0 (plus (tree.mod6 (terms (less (tree.own y) ∷ []))) ∷ []) (Ok (pos 0))
    ∷ added 0 (plus (tree.mod6 (sum (number 8))) ∷ []) (Ok (pos 2))
    -- from left to right
    ∷ added 0 (plus (x_at (head 1)) ∷ plus tree.inner ∷ []) (Err NoNeighbour)
    ∷ added 0 (plus tree.inner ∷ plus (x_at (head 1)) ∷ []) (Err NotExpanded)
    ∷ []

-- beside walls
abbrev pub sum_beside_walls : SumRow → Result ℤ Failure
sum_beside_walls a = sum_value (sight walled a.bot) names a.sum

abbrev pub walled_sum_rows : List SumRow
walled_sum_rows =
    added 0 (plus (tree.count p Free yes) ∷ []) (Ok (pos 3))
    ∷ added 0 (plus (tree.count p Ports yes) ∷ []) (Ok (pos 1))
    ∷ added 0 (plus (dir (first_p Free yes)) ∷ []) (Ok (pos 2))
    ∷ []

-- ---- verdicts

abbrev act : Guard → List Stmt → Move → Action
act g body moved = record { name = called (codes "a"); guard = g; body = stmts body; moved = moved }

pub record VerdictRow : Type 0 where
  pub bot : ℕ
  pub actions : List Action
  pub verdict : Verdict

abbrev decided : ℕ → List Action → Verdict → VerdictRow
decided bot actions v = record { bot = bot; actions = actions; verdict = v }

-- of the program of the variables x and y, up to 9, with these actions and the guard off or on
abbrev verdict_in : Config → Bool → VerdictRow → Verdict
verdict_in c guarded d =
    let program : Program = record {
      guard = guarded;
      vars = record { name = x; max = literal 9 } ∷ record { name = y; max = literal 9 } ∷ [];
      actions = d.actions;
    } in
    verdict_on program c d.bot

abbrev pub verdict_in_shape : VerdictRow → Verdict
verdict_in_shape d = verdict_in shape false d

abbrev pub verdict_in_queue : VerdictRow → Verdict
verdict_in_queue d = verdict_in queue false d

abbrev pub guarded_in_queue : VerdictRow → Verdict
guarded_in_queue d = verdict_in queue true d

abbrev pub verdict_beside_walls : VerdictRow → Verdict
verdict_beside_walls d = verdict_in walled false d

abbrev pub verdict_shut_in : VerdictRow → Verdict
verdict_shut_in d = verdict_in shut false d

abbrev set_x : ℕ → Stmt
set_x n = tree.put x (sum (number n))

-- an amoebot that is changed, as it was and as it is
abbrev patched : ℕ → Bot → Bot → CellChange
patched i was b = (name.Body i, cell.Body was, cell.Body b)

-- a node that is changed, with its occupant before and now
abbrev moved_on : Node → Option ℕ → Option ℕ → CellChange
moved_on v was now = (name.Spot v, cell.Spot was, cell.Spot now)

abbrev change : ℕ → Triples → Verdict
change action cells = verdict.Change (record { action = action; moved = moved.None; patch = cells })

-- of the one action, with a movement
abbrev moving : Moved → Triples → Verdict
moving by cells = verdict.Change (record { action = 0; moved = by; patch = cells })

abbrev moves : Move → List Action
moves m = act yes [] m ∷ []

abbrev pub verdict_rows : List VerdictRow
verdict_rows =
    decided 0 [] verdict.Idle
    ∷ decided 0 (act no [] tree.no_move ∷ []) verdict.Idle
    -- the first action whose guard is not false
    ∷ decided 0 (act no (set_x 1 ∷ []) tree.no_move ∷ act yes (set_x 2 ∷ []) tree.no_move
    ∷ act yes (set_x 3 ∷ []) tree.no_move ∷ [])
    (change 1 (patched 0 zero (record zero { mem = values 2 6 }) ∷ []))
    ∷ decided 0 (act no [] tree.no_move
    ∷ act (is (x_at (head 1)) 0) [] tree.no_move ∷ act yes [] tree.no_move ∷ [])
    (verdict.Failed NoNeighbour)
    -- a value that stands there makes no pair, and a change may have none
    ∷ decided 0 (act yes (set_x 4 ∷ []) tree.no_move ∷ []) (change 0 [])
    ∷ decided 0 (act yes [] tree.no_move ∷ []) (change 0 [])
    -- a write that fails ends the activation, with what was written before it
    ∷ decided 0 (act yes (set_x 1 ∷ set_x 10 ∷ []) tree.no_move ∷ []) (verdict.Failed OutOfRange)
    ∷ decided 0
    (act yes (tree.put x (terms (plus (number 0) ∷ less (tree.own x) ∷ [])) ∷ []) tree.no_move ∷ [])
    (verdict.Failed OutOfRange)
    -- the port, then the sum, then the write
    ∷ decided 0 (act yes (tree.put_of (head 1) x (sum tree.inner) ∷ []) tree.no_move ∷ [])
    (verdict.Failed NotExpanded)
    ∷ decided 0 (act yes (tree.put_of (first_p Ports no) x (sum tree.inner) ∷ []) tree.no_move ∷ [])
    (verdict.Failed NoChoice)
    ∷ decided 0 (act yes (tree.put_of (head 3) y (sum (tree.own x)) ∷ []) tree.no_move ∷ [])
    (change 0 (patched 2 two (record two { mem = values 7 4 }) ∷ []))
    -- a name of `let` stands for the port that was evaluated at its statement,
    -- and is in force in the movement
    ∷ decided 0 (act yes
    (tree.let_be q (tree.at_end Head (tree.held x)) ∷ set_x 5 ∷ tree.put y (sum (dir (tree.bound q))) ∷ [])
    (tree.through tree.expand (tree.bound q)) ∷ [])
    (verdict.Change (record {
      action = 0;
      moved = moved.Expand (port Head 4);
      patch = moved_on (node 3 2) None (Some 0)
          ∷ patched 0 zero (body (node 3 2) (node 3 3) 0 chir.Plus 5 4) ∷ [];
    }))
    ∷ decided 0
    (act yes (tree.if_then yes (stmts (set_x 1 ∷ [])) (stmts (set_x 2 ∷ [])) ∷ []) tree.no_move ∷ [])
    (change 0 (patched 0 zero (record zero { mem = values 1 6 }) ∷ []))
    ∷ decided 0
    (act yes (tree.if_then no (stmts (set_x 1 ∷ [])) (stmts (set_x 2 ∷ [])) ∷ []) tree.no_move ∷ [])
    (change 0 (patched 0 zero (record zero { mem = values 2 6 }) ∷ []))
    ∷ decided 0 (act yes (tree.if_then no (stmts (set_x 1 ∷ [])) tree.no_stmts ∷ []) tree.no_move ∷ [])
    (change 0 [])
    -- each condition of a `for` is asked in what was reached:
    -- what is done for the first port makes it false for the second
    ∷ decided 0 (act yes (tree.for_each p Ports (is (tree.own x) 4)
    (stmts (set_x 5 ∷ tree.put_of port_p y (sum (number 1)) ∷ [])) ∷ []) tree.no_move ∷ [])
    (change 0 (patched 0 zero (record zero { mem = values 5 6 })
    ∷ patched 1 one (record one { mem = values 2 1 }) ∷ []))
    ∷ decided 0
    (act yes (tree.for_each p Ports yes (stmts (tree.put_of port_p y (sum (dir port_p)) ∷ [])) ∷ [])
    tree.no_move ∷ []) (change 0 (patched 2 two (record two { mem = values 7 3 }) ∷ []))
    -- the port of a movement comes before the movement's own conditions
    ∷ decided 3 (act yes [] (tree.through tree.expand (tree.at_end Head (tree.held y))) ∷ [])
    (verdict.Failed NotContracted)
    ∷ decided 0 (act yes [] (tree.through tree.pull (tree.at_end Head (tree.held y))) ∷ [])
    (verdict.Failed NoPort)
    ∷ decided 0 (act yes [] (tree.through tree.expand (head 0)) ∷ []) (verdict.Failed Occupied)
    ∷ decided 0 (act yes (set_x 1 ∷ []) (tree.contract Tail) ∷ []) (verdict.Failed NotExpanded)
    ∷ decided 0 (moves (tree.through tree.expand (tail 1))) (verdict.Failed NoPort)
    ∷ decided 0 (moves (tree.through tree.pull (head 0))) (verdict.Failed NotExpanded)
    ∷ decided 3 (moves (tree.through tree.push (head 0))) (verdict.Failed NotContracted)
    ∷ decided 0 (moves (tree.through tree.push (tail 0))) (verdict.Failed NoPort)
    ∷ decided 0 (moves (tree.through tree.push (head 1))) (verdict.Failed NoNeighbour)
    ∷ decided 0 (moves (tree.through tree.push (head 3))) (verdict.Failed PeerNotExpanded)
    -- a push, and a contraction that leaves the head
    ∷ decided 0 (act yes [] (tree.through tree.push (head 0)) ∷ [])
    (verdict.Change (record {
      action = 0;
      moved = moved.Push (port Head 0);
      patch =
          moved_on (node 4 3) (Some 1) (Some 0) ∷ patched 0 zero (body (node 4 3) (node 3 3) 0 chir.Plus 4 6)
          ∷ patched 1 one (body (node 5 3) (node 5 3) 0 chir.Plus 2 0) ∷ [];
    }))
    ∷ decided 3 (act yes [] (tree.contract Head) ∷ [])
    (verdict.Change (record {
      action = 0;
      moved = moved.Contract Head;
      patch = moved_on (node 1 1) (Some 3) None
          ∷ patched 3 three (body (node 0 1) (node 0 1) 1 chir.Plus 0 0) ∷ [];
    }))
    ∷ []

-- with the guard off, the second configuration may fall apart
abbrev pub queue_rows : List VerdictRow
queue_rows =
    decided 0 (moves (tree.contract Tail))
    (moving (moved.Contract Tail)
    (moved_on (node 2 3) (Some 0) None ∷ patched 0 middle (body (node 3 3) (node 3 3) 0 chir.Plus 4 6) ∷ []))
    ∷ decided 0 (moves (tree.contract Head))
    (moving (moved.Contract Head)
    (moved_on (node 3 3) (Some 0) None ∷ patched 0 middle (body (node 2 3) (node 2 3) 0 chir.Plus 4 6) ∷ []))
    ∷ []

-- amoebot 0 leaves the node of its tail, and amoebot 1 enters it
abbrev pulled : Verdict
pulled =
    moving (moved.Pull (port Tail 3))
    (moved_on (node 2 3) (Some 0) (Some 1) ∷ patched 0 middle (body (node 3 3) (node 3 3) 0 chir.Plus 4 6)
    ∷ patched 1 back (body (node 2 3) (node 1 3) 2 chir.Minus 2 0) ∷ [])

-- with the guard on, it does not
abbrev pub guarded_rows : List VerdictRow
guarded_rows =
    -- on both sides of the node that is left is a neighbour; and what was written before is not
    decided 0 (moves (tree.contract Tail)) (verdict.Failed WouldSplit)
    ∷ decided 0 (act yes (set_x 1 ∷ []) (tree.contract Head) ∷ []) (verdict.Failed WouldSplit)
    -- on one side alone
    ∷ decided 2 (moves (tree.contract Head))
    (moving (moved.Contract Head)
    (moved_on (node 5 3) (Some 2) None ∷ patched 2 front (body (node 4 3) (node 4 3) 0 chir.Plus 7 0) ∷ []))
    ∷ decided 1 (moves (tree.contract Head)) (verdict.Failed NotExpanded)
    -- a pull, which the guard lets pass
    ∷ decided 0 (moves (tree.through tree.pull (tail 3))) pulled
    ∷ decided 0 (moves (tree.through tree.pull (head 3))) (verdict.Failed NoPort)
    ∷ decided 0 (moves (tree.through tree.pull (head 1))) (verdict.Failed NoNeighbour)
    ∷ decided 0 (moves (tree.through tree.pull (head 0))) (verdict.Failed PeerNotContracted)
    ∷ decided 3 (moves (tree.through tree.expand (head 0))) (verdict.Failed Edge)
    -- the ports of an expanded amoebot: those of the head, then those of the tail
    ∷ decided 0 (moves
    (tree.through tree.pull (first_p Ports (tree.negation (tree.tested tree.peer_expanded port_p))))) pulled
    ∷ decided 0
    (act yes (tree.for_each p Ports yes (stmts (tree.put_of port_p y (sum (dir port_p)) ∷ set_x 1 ∷ [])) ∷ [])
    tree.no_move ∷ [])
    (change 0 (patched 0 middle (record middle { mem = values 1 6 })
    ∷ patched 1 back (record back { mem = values 2 3 }) ∷ []))
    -- the edge is at the neighbour's tail, and at a contracted one's head
    ∷ decided 0 (act (tree.tested tree.peer_head (head 0)) [] tree.no_move
    ∷ act (tree.tested tree.peer_head (tail 3)) [] tree.no_move ∷ [])
    (change 1 [])
    ∷ []

-- a wall is not entered; what was written before is not either
abbrev pub walled_verdict_rows : List VerdictRow
walled_verdict_rows =
    decided 0 (moves (tree.through tree.expand (head 0))) (verdict.Failed Blocked)
    ∷ decided 0 (act yes (set_x 1 ∷ []) (tree.through tree.expand (head 1)) ∷ []) (verdict.Failed Blocked)
    ∷ decided 0 (moves (tree.through tree.expand (head 3))) (verdict.Failed Occupied)
    ∷ decided 0 (moves (tree.through tree.push (head 0))) (verdict.Failed NoNeighbour)
    ∷ decided 0 (moves (tree.through tree.expand (first_p Free yes)))
    (moving (moved.Expand (port Head 2))
    (moved_on (node 2 4) None (Some 0) ∷ patched 0 zero (body (node 2 4) (node 3 3) 0 chir.Plus 4 6) ∷ []))
    ∷ []

-- no node to enter
abbrev pub shut_rows : List VerdictRow
shut_rows =
    decided 0 (act (any_p Free yes) [] tree.no_move ∷ []) verdict.Idle
    ∷ decided 0 (moves (tree.through tree.expand (first_p Free yes))) (verdict.Failed NoChoice)
    ∷ []
