-- The shipped programs by their names, and parts of `hexagon`.
-- The trees are the samples of `action_tree`.
use Rattle.std.specs.Prelude.{ℕ, true, false, List, [], ◌∷◌, codes}
use Rattle.action_tree.specs.Trees as tree
use Rattle.action_tree.specs.Trees.{Guard, PortExpr, Sum, Stmt, Program}
use Rattle.action_tree.specs.Shipped as sample
use Rattle.action_tree.specs.declared.expression.PortSet.TheVariants.{Ports}
use Rattle.shipped_programs.specs.declared.shipped.Shipped.{Shipped}
use Rattle.shipped_programs.specs.declared.shipped.Shipped.TheVariants.{Hexagon, Erosion, Line}
use Rattle.shipped_programs.specs.Texts.{text_of_hexagon, text_of_erosion, text_of_line}

-- the name of a shipped program
abbrev pub shipped_name : Shipped → List ℕ
shipped_name Hexagon = codes "hexagon"
shipped_name Erosion = codes "erosion"
shipped_name Line = codes "line"

-- its tree, each line 0
abbrev pub tree_of : Shipped → Program
tree_of Hexagon = sample.hexagon
tree_of Erosion = sample.erosion
tree_of Line = sample.line

-- its text
abbrev pub text_of : Shipped → List ℕ
text_of Hexagon = text_of_hexagon
text_of Erosion = text_of_erosion
text_of Line = text_of_line

-- ---- a part of `erosion`

-- a candidate, after which none follows
abbrev pub run_ends : Guard
run_ends =
    let next = tree.turned sample.p (sample.literal 1) in
    sample.and (sample.there_is sample.p (codes "cand") 1 ∷ tree.negation
    (sample.and (tree.tested tree.linked next ∷ sample.there_is next (codes "cand") 1 ∷ [])) ∷ [])

abbrev pub erode_guard : Guard
erode_guard =
    sample.and (sample.own_is (codes "cand") 1
    ∷ sample.equals (tree.count (sample.example_name (codes "p")) Ports run_ends)
    (tree.number (sample.literal 1)) ∷ [])

abbrev pub erode_body : List Stmt
erode_body =
    tree.put (sample.example_name (codes "cand")) (sample.sum_of_term (tree.number (sample.literal 0))) ∷ []

-- ---- parts of `hexagon`

abbrev q : PortExpr
q = tree.bound (sample.example_name (codes "q"))

abbrev state_is : PortExpr → ℕ → Guard
state_is r n = sample.there_is r (codes "state") n

-- the seed or a retired amoebot
abbrev is_still : PortExpr → Guard
is_still r = sample.or (state_is r 1 ∷ state_is r 4 ∷ [])

abbrev parent_is_here : Guard
parent_is_here =
    sample.equals (tree.of_port sample.p (sample.example_name (codes "parent")))
    (tree.direction tree.peer_side sample.p)

abbrev pub next_is_still : Guard
next_is_still = is_still (tree.turned sample.p (sample.literal 5))

-- one that is still, after which none follows
abbrev pub last_retired : Guard
last_retired =
    sample.and (is_still sample.p ∷ tree.negation
    (sample.and (tree.tested tree.linked (tree.turned sample.p (sample.literal 5))
    ∷ next_is_still ∷ [])) ∷ [])

-- one that is still, beside which there is room
abbrev pub room : Guard
room = sample.and (is_still sample.p ∷ tree.tested tree.free (tree.turned sample.p (sample.literal 1)) ∷ [])

-- a contracted follower of the tail
abbrev pub tail_follower : Guard
tail_follower =
    sample.and (tree.negation (tree.tested tree.at_head sample.p) ∷ state_is sample.p 2
    ∷ tree.negation (tree.tested tree.peer_expanded sample.p) ∷ parent_is_here ∷ [])

-- a follower of the tail, by its head
abbrev pub head_follower : Guard
head_follower =
    sample.and (tree.negation (tree.tested tree.at_head sample.p) ∷ state_is sample.p 2
    ∷ tree.tested tree.peer_head sample.p ∷ parent_is_here ∷ [])

-- where a follower's parent lies once it is pulled
abbrev pub follower_turned : Sum
follower_turned =
    tree.term_then false tree.inner (tree.term_then true (tree.direction tree.own_side q)
    (tree.term_then false (tree.direction tree.peer_side q)
    (sample.sum_of_term (tree.number (sample.literal 3)))))

-- the guards and the statements of its actions
abbrev set_to : List ℕ → ℕ → Stmt
set_to v n = tree.put (sample.example_name v) (sample.sum_of_term (tree.number (sample.literal n)))

abbrev in_state : ℕ → ℕ → Guard
in_state m n = sample.or (sample.own_is (codes "state") m ∷ sample.own_is (codes "state") n ∷ [])

abbrev p_is : ℕ → ℕ → Guard
p_is m n = sample.or (state_is sample.p m ∷ state_is sample.p n ∷ [])

abbrev let_q : Guard → Stmt
let_q g = tree.let_be (sample.example_name (codes "q")) (sample.first_port g)

abbrev pub root_guard : Guard
root_guard = sample.and (tree.atom tree.contracted ∷ in_state 0 2 ∷ sample.some_port (p_is 1 4) ∷ [])

abbrev pub root_body : List Stmt
root_body = set_to (codes "parent") 6 ∷ set_to (codes "state") 3 ∷ []

abbrev pub follow_guard : Guard
follow_guard = sample.and
    (tree.atom tree.contracted ∷ sample.own_is (codes "state") 0 ∷ sample.some_port (p_is 2 3) ∷ [])

abbrev pub follow_body : List Stmt
follow_body =
    let_q (p_is 2 3)
    ∷ tree.put (sample.example_name (codes "parent")) (sample.sum_of_term (tree.direction tree.own_side q))
    ∷ set_to (codes "state") 2 ∷ []

abbrev pub aimed_at : Guard
aimed_at =
    sample.and (p_is 1 4 ∷ sample.equals (tree.of_port sample.p (sample.example_name (codes "aim")))
    (tree.direction tree.peer_side sample.p) ∷ [])

abbrev pub retire_guard : Guard
retire_guard =
    sample.and (tree.atom tree.contracted ∷ sample.own_is (codes "state") 3 ∷ sample.some_port aimed_at ∷ [])

abbrev pub retire_body : List Stmt
retire_body =
    let_q last_retired ∷ tree.put (sample.example_name (codes "aim"))
    (sample.sum_of_term (tree.direction tree.own_side (tree.turned q (sample.literal 5))))
    ∷ set_to (codes "state") 4 ∷ []

abbrev pub go_guard : Guard
go_guard =
    sample.and (tree.atom tree.contracted ∷ sample.own_is (codes "state") 3 ∷ sample.some_port room ∷ [])

abbrev pub drag_guard : Guard
drag_guard =
    sample.and (tree.atom tree.expanded ∷ in_state 2 3
    ∷ tree.negation (sample.some_port (state_is sample.p 0))
    ∷ sample.some_port tail_follower ∷ [])

abbrev pub parent_turned : Stmt
parent_turned =
    tree.put_of q (sample.example_name (codes "parent")) (sample.sum_of_term (tree.mod6 follower_turned))

abbrev pub drag_body : List Stmt
drag_body = let_q tail_follower ∷ parent_turned ∷ []

abbrev pub waits : Guard
waits = sample.some_port (sample.or (state_is sample.p 0 ∷ head_follower ∷ []))

abbrev pub rest_guard : Guard
rest_guard = sample.and (tree.atom tree.expanded ∷ in_state 2 3 ∷ tree.negation waits ∷ [])
