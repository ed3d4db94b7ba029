-- Parts of `erosion`, with which a program is compared one by one.
use Rattle.std.specs.Prelude.{ℕ, List, [], ◌∷◌, codes}
use Rattle.action_tree.specs.Trees as tree
use Rattle.action_tree.specs.Trees.{Guard, PortExpr, Stmts, Sum, Term, Action, negation, comparison, number, of_port, count, turned, tested, put, stmts, no_move}
use Rattle.action_tree.specs.declared.expression.PortSet.TheVariants.{Ports}
use Rattle.action_tree.specs.declared.expression.Cmp.TheVariants.{Eq}
use Rattle.action_tree.specs.Shipped.{and, example_name, literal, own_is, p, some_port, sum_of_term, there_is}

-- `turn p 1`
abbrev pub next_port : PortExpr
next_port = turned p (literal 1)

-- `PORT . cand`
abbrev pub cand_of : PortExpr → Term
cand_of port = of_port port (example_name (codes "cand"))

-- `PORT . cand = 1`
abbrev pub asks_cand : PortExpr → Guard
asks_cand port = there_is port (codes "cand") 1

-- no neighbour is a candidate
abbrev pub lone_guard : Guard
lone_guard = negation (some_port (asks_cand p))

-- behind the next port there is a candidate
abbrev pub next_cand : Guard
next_cand = and (tested tree.linked next_port ∷ asks_cand next_port ∷ [])

-- behind the port there is a candidate, and behind the next port there is none
abbrev pub last_cand : Guard
last_cand = and (asks_cand p ∷ negation next_cand ∷ [])

-- how many such ports there are
abbrev pub ends_sum : Sum
ends_sum = sum_of_term (count (example_name (codes "p")) Ports last_cand)

-- there is one
abbrev pub one_end : Guard
one_end = comparison ends_sum Eq (sum_of_term (number (literal 1)))

abbrev pub guard_of_lead : Guard
guard_of_lead = and (own_is (codes "cand") 1 ∷ own_is (codes "leader") 0 ∷ lone_guard ∷ [])

abbrev pub guard_of_erode : Guard
guard_of_erode = and (own_is (codes "cand") 1 ∷ one_end ∷ [])

-- one statement, which puts a number into an own variable
abbrev pub only_put : List ℕ → ℕ → Stmts
only_put variable n = stmts (put (example_name variable) (sum_of_term (number (literal n))) ∷ [])

-- an action that puts a number into an own variable, and does nothing else
abbrev pub putting : List ℕ → Guard → List ℕ → ℕ → Action
putting name asked variable n =
    record { name = example_name name; guard = asked; body = only_put variable n; moved = no_move }
