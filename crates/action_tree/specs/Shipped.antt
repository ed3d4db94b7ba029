-- Trees of whole programs, as their texts give them but for the lines, which are all 0.
use Rattle.std.specs.Prelude.{ℕ, zero, suc, true, false, List, [], ◌∷◌, codes}
use Rattle.amoebot_state.specs.declared.bot.End.TheVariants.{Head, Tail}
use Rattle.action_tree.specs.declared.expression.PortSet.TheVariants.{Ports, Free}
use Rattle.action_tree.specs.declared.expression.Cmp.TheVariants.{Eq, Ne, Lt, Le, Gt, Ge}
use Rattle.action_tree.specs.Trees as tree
use Rattle.action_tree.specs.Trees.{Name, Literal, Guard, Sum, Term, PortExpr, Stmt, Move, Var, Action, Program, atom, negation, conjunction, disjunction, quantified, any, tested, comparison, guards, term_then, no_terms, number, own, of_port, count, direction, own_side, peer_side, inner, mod6, bound, at_end, fixed, held, turned, first, put, put_of, let_be, stmts, no_move, through, contract, expand, pull}

abbrev pub example_name : List ℕ → Name
example_name text = record { text = text; line = 0 }

abbrev pub literal : ℕ → Literal
literal n = record { value = n; line = 0 }

abbrev pub sum_of_term : Term → Sum
sum_of_term t = term_then false t no_terms

-- the same so many times
abbrev pub copies : {A : Type 0} → ℕ → A → List A
copies zero a = []
copies (suc n) a = a ∷ copies n a

-- `true`, `false`
abbrev pub yes : Guard
yes = atom tree.always

abbrev pub no : Guard
no = atom tree.never

abbrev pub equals : Term → Term → Guard
equals a b = comparison (sum_of_term a) Eq (sum_of_term b)

-- of an own variable, and of a port's
abbrev pub own_is : List ℕ → ℕ → Guard
own_is v n = equals (own (example_name v)) (number (literal n))

abbrev pub there_is : PortExpr → List ℕ → ℕ → Guard
there_is p v n = equals (of_port p (example_name v)) (number (literal n))

abbrev pub and : List Guard → Guard
and gs = conjunction (guards gs)

abbrev pub or : List Guard → Guard
or gs = disjunction (guards gs)

abbrev pub var : List ℕ → ℕ → Var
var v most = record { name = example_name v; max = literal most }

abbrev pub action : List ℕ → Guard → List Stmt → Move → Action
action v g body moved = record { name = example_name v; guard = g; body = stmts body; moved = moved }

abbrev pub p : PortExpr
p = bound (example_name (codes "p"))

abbrev q : PortExpr
q = bound (example_name (codes "q"))

-- `any p in ports ( .. )`, `first p in ports ( .. )`
abbrev pub some_port : Guard → Guard
some_port g = quantified any (example_name (codes "p")) Ports g

abbrev pub first_port : Guard → PortExpr
first_port g = first (example_name (codes "p")) Ports g

abbrev pub head_0 : PortExpr
head_0 = at_end Head (fixed (literal 0))

-- the amoebots of one row gather at the border
abbrev pub line : Program
line = record {
  guard = false;
  vars = [];
  actions =
      action (codes "out") (and (atom tree.contracted ∷ tested tree.free head_0 ∷ []))
      [] (through expand head_0)
      ∷ action (codes "follow_up") (atom tree.expanded) [] (contract Tail)
      ∷ [];
}

-- all but one give up to be the leader
abbrev pub erosion : Program
erosion = record {
  guard = false;
  vars = var (codes "cand") 1 ∷ var (codes "leader") 1 ∷ [];
  actions =
      action (codes "lead") (and (own_is (codes "cand") 1 ∷ own_is (codes "leader") 0
      ∷ negation (some_port (there_is p (codes "cand") 1)) ∷ []))
      (put (example_name (codes "leader")) (sum_of_term (number (literal 1))) ∷ []) no_move
      ∷ action (codes "erode")
      (and (own_is (codes "cand") 1
      ∷ equals (count (example_name (codes "p")) Ports (and (there_is p (codes "cand") 1
      ∷ negation (and (tested tree.linked (turned p (literal 1))
      ∷ there_is (turned p (literal 1)) (codes "cand") 1 ∷ [])) ∷ []))) (number (literal 1))
      ∷ []))
      (put (example_name (codes "cand")) (sum_of_term (number (literal 0))) ∷ []) no_move
      ∷ [];
}

-- a hexagon grows round a seed: `state` is 0 idle, 1 seed, 2 follower, 3 root, 4 retired
abbrev state_is : PortExpr → ℕ → ℕ → Guard
state_is r m n = or (there_is r (codes "state") m ∷ there_is r (codes "state") n ∷ [])

abbrev in_state : ℕ → ℕ → Guard
in_state m n = or (own_is (codes "state") m ∷ own_is (codes "state") n ∷ [])

abbrev set_to : List ℕ → ℕ → Stmt
set_to v n = put (example_name v) (sum_of_term (number (literal n)))

abbrev points_here : List ℕ → Guard
points_here v = equals (of_port p (example_name v)) (direction peer_side p)

abbrev pub hexagon : Program
hexagon = record {
  guard = false;
  vars = var (codes "state") 4 ∷ var (codes "parent") 6 ∷ var (codes "aim") 6 ∷ [];
  actions =
      action (codes "root") (and (atom tree.contracted ∷ in_state 0 2 ∷ some_port (state_is p 1 4) ∷ []))
      (set_to (codes "parent") 6 ∷ set_to (codes "state") 3 ∷ []) no_move
      ∷ action (codes "follow")
      (and (atom tree.contracted ∷ own_is (codes "state") 0 ∷ some_port (state_is p 2 3) ∷ []))
      (let_be (example_name (codes "q")) (first_port (state_is p 2 3))
      ∷ put (example_name (codes "parent")) (sum_of_term (direction own_side q))
      ∷ set_to (codes "state") 2 ∷ []) no_move
      ∷ action (codes "retire") (and (atom tree.contracted ∷ own_is (codes "state") 3
      ∷ some_port (and (state_is p 1 4 ∷ points_here (codes "aim") ∷ [])) ∷ []))
      (let_be (example_name (codes "q")) (first_port (and (state_is p 1 4
      ∷ negation
      (and (tested tree.linked (turned p (literal 5)) ∷ state_is (turned p (literal 5)) 1 4 ∷ [])) ∷ [])))
      ∷ put (example_name (codes "aim")) (sum_of_term (direction own_side (turned q (literal 5))))
      ∷ set_to (codes "state") 4 ∷ []) no_move
      ∷ action (codes "go") (and (atom tree.contracted ∷ own_is (codes "state") 3
      ∷ some_port (and (state_is p 1 4 ∷ tested tree.free (turned p (literal 1)) ∷ [])) ∷ [])) []
      (through expand (turned
      (first_port (and (state_is p 1 4 ∷ tested tree.free (turned p (literal 1)) ∷ []))) (literal 1)))
      ∷ action (codes "drag")
      (and (atom tree.expanded ∷ in_state 2 3
      ∷ negation (some_port (there_is p (codes "state") 0)) ∷ some_port
      (and (negation (tested tree.at_head p) ∷ there_is p (codes "state") 2
      ∷ negation (tested tree.peer_expanded p) ∷ points_here (codes "parent") ∷ [])) ∷ []))
      (let_be (example_name (codes "q"))
      (first_port (and (negation (tested tree.at_head p) ∷ there_is p (codes "state") 2
      ∷ negation (tested tree.peer_expanded p) ∷ points_here (codes "parent") ∷ [])))
      ∷ put_of q (example_name (codes "parent")) (sum_of_term (mod6 (term_then false inner
      (term_then true (direction own_side q)
      (term_then false (direction peer_side q) (sum_of_term (number (literal 3))))))))
      ∷ []) (through pull q)
      ∷ action (codes "rest") (and (atom tree.expanded ∷ in_state 2 3 ∷ negation (some_port
      (or (there_is p (codes "state") 0 ∷ and (negation (tested tree.at_head p) ∷ there_is p (codes "state") 2
      ∷ tested tree.peer_head p ∷ points_here (codes "parent") ∷ []) ∷ []))) ∷ [])) []
      (contract Tail)
      ∷ [];
}

-- ---- each form of the grammar

abbrev pub x : Name
x = example_name (codes "x")

abbrev pub tail_x : PortExpr
tail_x = at_end Tail (held x)

abbrev pub x_of_p : Term
x_of_p = of_port p x

abbrev pub every_sum : Sum
every_sum =
    term_then true (number (literal 1)) (term_then false (own x) (term_then true x_of_p
    (term_then false (count (example_name (codes "p")) Ports (atom tree.always))
    (term_then false (direction own_side p) (term_then false (direction peer_side p)
    (term_then false inner (sum_of_term (mod6 (sum_of_term (own x))))))))))

abbrev pub every_comparison : List Guard
every_comparison =
    comparison every_sum Eq (sum_of_term inner) ∷ comparison (sum_of_term inner) Ne (sum_of_term inner)
    ∷ comparison (sum_of_term inner) Lt (sum_of_term inner)
    ∷ comparison (sum_of_term inner) Le (sum_of_term inner)
    ∷ comparison (sum_of_term inner) Gt (sum_of_term inner)
    ∷ comparison (sum_of_term inner) Ge (sum_of_term inner) ∷ []

abbrev pub every_guard : Guard
every_guard =
    or (and (atom tree.always ∷ atom tree.contracted ∷ atom tree.expanded ∷ negation (atom tree.never) ∷ [])
    ∷ some_port (tested tree.linked p)
    ∷ quantified tree.all (example_name (codes "p")) Free (tested tree.free head_0)
    ∷ tested tree.at_head tail_x
    ∷ tested tree.peer_expanded (turned p (literal 1))
    ∷ tested tree.peer_head (first_port (atom tree.always))
    ∷ and every_comparison ∷ [])

abbrev pub put_inner : List Stmt
put_inner = put x (sum_of_term inner) ∷ []

abbrev pub every_stmt : List Stmt
every_stmt =
    put x every_sum ∷ put_of p x (sum_of_term inner) ∷ let_be (example_name (codes "q")) p
    ∷ tree.if_then (atom tree.always) (stmts put_inner) (stmts put_inner)
    ∷ tree.for_each (example_name (codes "p")) Ports (atom tree.always) (stmts put_inner) ∷ []

abbrev pub every_form : Program
every_form = record {
  guard = true;
  vars = var (codes "x") 1 ∷ [];
  actions =
      action (codes "a") every_guard every_stmt no_move
      ∷ action (codes "b") (atom tree.always) [] (through expand p)
      ∷ action (codes "c") (atom tree.always) [] (contract Head)
      ∷ action (codes "d") (atom tree.always) [] (through tree.push p)
      ∷ action (codes "e") (atom tree.always) [] (through pull p)
      ∷ [];
}
