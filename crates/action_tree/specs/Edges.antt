-- Pairs of programs on both sides of each limit: one that just keeps it,
-- and one that just passes it.
use Rattle.std.specs.Prelude.{ℕ, zero, suc, Bool, true, false, not, ◌&&◌, List, [], ◌∷◌, ◌++◌, codes}
use Rattle.action_tree.specs.declared.expression.PortSet.TheVariants.{Ports, Free}
use Rattle.action_tree.specs.declared.expression.Cmp.TheVariants.{Lt}
use Rattle.amoebot_state.specs.declared.bot.End.TheVariants.{Tail}
use Rattle.action_tree.specs.Trees.{Guard, Sum, PortExpr, Stmt, Move, Program, negation, quantified, all, tested, linked, comparison, Part, terms, number, own, count, mod6, at_end, fixed, turned, put, put_of, let_be, if_then, for_each, no_stmts, stmts, no_move, through, push}
use Rattle.action_tree.specs.Writable.{is_writable}
use Rattle.action_tree.specs.Shipped.{example_name, literal, copies, sum_of_term, yes, and, or, var, action, p, some_port, first_port}

abbrev times : {A : Type 0} → ℕ → (A → A) → A → A
times zero f a = a
times (suc n) f a = f (times n f a)

-- ---- programs with one part that matters

abbrev of_action : Guard → List Stmt → Move → Program
of_action g body moved = record { guard = true; vars = []; actions = action (codes "a") g body moved ∷ [] }

abbrev of_guard : Guard → Program
of_guard g = of_action g [] no_move

abbrev of_sum : Sum → Program
of_sum s = of_guard (comparison (sum_of_term (number (literal 0))) Lt s)

abbrev of_port : PortExpr → Program
of_port r = of_guard (tested linked r)

abbrev of_body : List Stmt → Program
of_body body = of_action yes body no_move

abbrev of_stmt : Stmt → Program
of_stmt s = of_body (s ∷ [])

abbrev of_move : PortExpr → Program
of_move r = of_action yes [] (through push r)

-- ---- forms

abbrev each : Guard → Guard
each g = quantified all (example_name (codes "p")) Free g

abbrev counted : Guard → Sum
counted g = sum_of_term (count (example_name (codes "p")) Ports g)

abbrev turn : PortExpr → PortExpr
turn r = turned r (literal 1)

abbrev modulo : Sum → Sum
modulo s = sum_of_term (mod6 s)

abbrev set_x : Stmt
set_x = put (example_name (codes "x")) (sum_of_term (number (literal 0)))

abbrev let_p : Stmt
let_p = let_be (example_name (codes "p")) p

abbrev when_so : Stmt → Stmt
when_so s = if_then yes (stmts (s ∷ [])) no_stmts

abbrev for_p : List Stmt → Stmt
for_p ss = for_each (example_name (codes "p")) Ports yes (stmts ss)

abbrev zero_part : Part
zero_part = record { minus = true; term = number (literal 0) }

-- ---- both sides

pub record Edge : Type 0 where
  pub kept : Program
  pub passed : Program

abbrev edge : (ℕ → Program) → ℕ → Edge
edge at n = record { kept = at n; passed = at (suc n) }

abbrev least : (ℕ → Program) → ℕ → Edge
least at n = record { kept = at (suc n); passed = at n }

abbrev spelling : List ℕ → List ℕ → Edge
spelling good bad = record {
  kept = of_sum (sum_of_term (own (example_name good)));
  passed = of_sum (sum_of_term (own (example_name bad)));
}

-- 32 levels, and one more, by each kind of opening
abbrev pub levels : List Edge
levels =
    edge (λ n. of_guard (times n negation yes)) 32
    ∷ edge (λ n. of_guard (times n (λ g. negation (and (g ∷ yes ∷ []))) yes)) 16
    ∷ edge (λ n. of_guard (times n (λ g. and (or (g ∷ yes ∷ []) ∷ yes ∷ [])) yes)) 32
    ∷ edge (λ n. of_guard (and (yes ∷ times n (λ g. and (yes ∷ g ∷ [])) (and (yes ∷ yes ∷ [])) ∷ []))) 31
    ∷ edge (λ n. of_guard (or (yes ∷ times n (λ g. or (yes ∷ g ∷ [])) (or (yes ∷ yes ∷ [])) ∷ []))) 31
    ∷ edge (λ n. of_guard (times n negation (some_port yes))) 31
    ∷ edge (λ n. of_sum (times n modulo (sum_of_term (number (literal 0))))) 32
    ∷ edge (λ n. of_sum (times n modulo (counted yes))) 31
    ∷ edge (λ n. of_port (times n turn p)) 32
    ∷ edge (λ n. of_port (times n turn (first_port yes))) 31
    ∷ edge (λ n. of_move (times n turn p)) 32
    ∷ edge
    (λ n. of_stmt (put_of (times n turn p) (example_name (codes "x")) (sum_of_term (number (literal 0))))) 32
    ∷ edge (λ n. of_stmt (let_be (example_name (codes "p")) (times n turn p))) 32
    ∷ edge (λ n. of_stmt (times n when_so set_x)) 32
    ∷ edge (λ n. of_stmt (if_then (times n negation yes) (stmts (set_x ∷ [])) no_stmts)) 31
    ∷ edge (λ n. of_stmt (if_then yes (stmts (set_x ∷ [])) (stmts (times n when_so set_x ∷ [])))) 31
    ∷ edge (λ n. of_stmt (times n when_so (for_p (set_x ∷ [])))) 30
    ∷ edge (λ n. of_stmt (for_p (times n when_so set_x ∷ []))) 31
    ∷ []

-- four names in force, and one more, by each kind of binding
abbrev pub name_edges : List Edge
name_edges =
    edge (λ n. of_guard (times n some_port yes)) 4
    ∷ edge (λ n. of_guard (times n each yes)) 4
    ∷ edge (λ n. of_guard (times n (λ g. comparison (counted g) Lt (counted yes)) yes)) 4
    ∷ edge (λ n. of_port (first_port (times n (λ g. tested linked (first_port g)) yes))) 3
    ∷ edge (λ n. of_stmt (times n (λ s. for_p (s ∷ [])) set_x)) 4
    ∷ edge
    (λ n. of_stmt (for_each (example_name (codes "p")) Ports (times n some_port yes) (stmts (set_x ∷ [])))) 3
    ∷ edge (λ n. of_body (copies n let_p)) 4
    ∷ edge (λ n. of_body (copies n let_p ++ when_so let_p ∷ set_x ∷ [])) 3
    ∷ edge (λ n. of_body (copies n let_p ++ let_be (example_name (codes "q")) (first_port yes) ∷ [])) 3
    ∷ edge (λ n. of_stmt (let_be (example_name (codes "q")) (first_port (times n some_port yes)))) 3
    ∷ edge (λ n. of_body (for_p (copies n let_p) ∷ for_p (copies n let_p) ∷ [])) 3
    ∷ edge (λ n. of_action yes (copies n let_p) (through push (first_port yes))) 3
    ∷ []

-- 64 elements, and one more; 8 variables, 32 actions
abbrev pub counts : List Edge
counts =
    edge (λ n. of_guard (and (copies n yes))) 64
    ∷ edge (λ n. of_guard (or (copies n yes))) 64
    ∷ edge (λ n. of_sum (terms (copies n zero_part))) 64
    ∷ edge (λ n. of_sum (modulo (terms (copies n zero_part)))) 64
    ∷ edge (λ n. of_body (copies n set_x)) 64
    ∷ edge (λ n. of_stmt (if_then yes (stmts (copies n set_x)) no_stmts)) 64
    ∷ edge (λ n. of_stmt (if_then yes (stmts (set_x ∷ [])) (stmts (copies n set_x)))) 64
    ∷ edge (λ n. of_stmt (for_p (copies n set_x))) 64
    ∷ edge (λ n. record { guard = false; vars = copies n (var (codes "x") 0); actions = [] }) 8
    ∷ edge
    (λ n. record { guard = false; vars = []; actions = copies n (action (codes "a") yes [] no_move) }) 32
    ∷ []

-- two elements, one term or statement, and one less
abbrev pub leasts : List Edge
leasts =
    least (λ n. of_guard (and (copies n yes))) 1
    ∷ least (λ n. of_guard (or (copies n yes))) 1
    ∷ least (λ n. of_sum (terms (copies n zero_part))) 0
    ∷ least (λ n. of_sum (modulo (terms (copies n zero_part)))) 0
    ∷ least (λ n. of_stmt (if_then yes (stmts (copies n set_x)) (stmts (set_x ∷ [])))) 0
    ∷ least (λ n. of_stmt (for_p (copies n set_x))) 0
    ∷ []

-- nine digits, and ten; words that are names, and others
abbrev pub spellings : List Edge
spellings =
    edge (λ n. of_sum (sum_of_term (number (literal n)))) 999999999
    ∷ edge (λ n. of_port (turned p (literal n))) 999999999
    ∷ edge (λ n. of_port (at_end Tail (fixed (literal n)))) 999999999
    ∷ edge (λ n. record { guard = false; vars = var (codes "x") n ∷ []; actions = [] }) 999999999
    ∷ edge (λ n. of_sum (sum_of_term (own (example_name (copies n 97))))) 24
    ∷ spelling (codes "a") []
    ∷ spelling (codes "_1") (codes "1_")
    ∷ spelling (codes "a_b") (codes "a-b")
    ∷ spelling (codes "And") (codes "and")
    ∷ spelling (codes "modulo") (codes "mod6")
    ∷ []

abbrev pub is_sharp : Edge → Bool
is_sharp e = is_writable e.kept && not (is_writable e.passed)
