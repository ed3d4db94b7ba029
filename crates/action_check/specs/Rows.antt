-- Small programs with their faults.
-- The lines are numbered as if each token to be told stood on a line of its own.
use Rattle.std.specs.Prelude.{ℕ, false, List, [], ◌∷◌, codes}
use Rattle.text_tokens.specs.declared.refusal.Refusal.{Refusal}
use Rattle.text_tokens.specs.declared.refusal.RefusalKind.{RefusalKind}
use Rattle.text_tokens.specs.declared.refusal.RefusalKind.TheVariants.{UnknownName, TwiceNamed, WrongType, BadRange}
use Rattle.amoebot_state.specs.declared.bot.End.TheVariants.{Head}
use Rattle.action_tree.specs.declared.expression.PortSet.TheVariants.{Ports}
use Rattle.action_tree.specs.declared.expression.Cmp.TheVariants.{Lt}
use Rattle.action_tree.specs.Trees as tree
use Rattle.action_tree.specs.Trees.{Name, Literal, Guard, Term, PortExpr, Stmt, Move, Var, Action, Program, conjunction, quantified, tested, comparison, guards, number, own, of_port, count, bound, at_end, fixed, held, turned, first, put, put_of, let_be, if_then, for_each, stmts, no_stmts, no_move, through}
use Rattle.action_tree.specs.Shipped.{sum_of_term, yes}

pub record CheckRow : Type 0 where
  pub program : Program
  pub faults : List Refusal

-- ---- parts

abbrev pub name_on : List ℕ → ℕ → Name
name_on text line = record { text = text; line = line }

abbrev pub x_on : ℕ → Name
x_on line = name_on (codes "x") line

abbrev pub p_on : ℕ → Name
p_on line = name_on (codes "p") line

abbrev pub q_on : ℕ → Name
q_on line = name_on (codes "q") line

abbrev pub literal_on : ℕ → ℕ → Literal
literal_on n line = record { value = n; line = line }

abbrev pub var_on : Name → ℕ → ℕ → Var
var_on v most line = record { name = v; max = literal_on most line }

abbrev pub action_on : Name → Guard → List Stmt → Move → Action
action_on v g body moved = record { name = v; guard = g; body = stmts body; moved = moved }

-- ---- programs

-- with the variable `x_on` on line 1, and then the action `a` on line 2
abbrev pub of_action : Guard → List Stmt → Move → Program
of_action g body moved =
    record {
      guard = false;
      vars = var_on (x_on 1) 1 1 ∷ [];
      actions = action_on (name_on (codes "a") 2) g body moved ∷ [];
    }

abbrev pub when : Guard → Program
when g = of_action g [] no_move

abbrev pub does : List Stmt → Program
does body = of_action yes body no_move

abbrev pub moves : PortExpr → Program
moves r = of_action yes [] (through tree.push r)

abbrev pub declares : List Var → List Action → Program
declares vs actions = record { guard = false; vars = vs; actions = actions }

abbrev pub asks : Term → Program
asks t = when (comparison (sum_of_term t) Lt (sum_of_term (number (literal_on 65535 9))))

-- `any p in ports ( .. )`, `first p in ports ( .. )`, `linked ..`
abbrev pub some_p : ℕ → Guard → Guard
some_p line g = quantified tree.any (p_on line) Ports g

abbrev pub first_p : ℕ → Guard → PortExpr
first_p line g = first (p_on line) Ports g

abbrev pub linked : PortExpr → Guard
linked r = tested tree.linked r

abbrev pub both : Guard → Guard → Guard
both g h = conjunction (guards (g ∷ h ∷ []))

-- ---- faults

abbrev at : RefusalKind → ℕ → Refusal
at kind line = record { line = line; kind = kind }

abbrev row : Program → List Refusal → CheckRow
row program faults = record { program = program; faults = faults }

abbrev pub rows : List CheckRow
rows =
    row (declares (var_on (x_on 1) 255 2 ∷ []) (action_on (x_on 3) yes [] no_move ∷ [])) []
    ∷ row (declares (var_on (x_on 1) 256 2 ∷ var_on (x_on 3) 256 4 ∷ []) [])
    (at BadRange 2 ∷ at TwiceNamed 3 ∷ at BadRange 4 ∷ [])
    ∷ row
    (declares [] (action_on (p_on 1) yes [] no_move ∷ action_on (q_on 2) (linked (bound (q_on 3))) [] no_move
    ∷ action_on (p_on 4) yes [] no_move ∷ [])) (at UnknownName 3 ∷ at TwiceNamed 4 ∷ [])
    ∷ row (asks (own (x_on 3))) []
    ∷ row (asks (own (p_on 3))) (at UnknownName 3 ∷ [])
    ∷ row (asks (number (literal_on 65536 3))) (at BadRange 3 ∷ [])
    ∷ row (asks (of_port (bound (x_on 3)) (p_on 4))) (at WrongType 3 ∷ at UnknownName 4 ∷ [])
    ∷ row (asks (count (p_on 3) Ports
    (comparison (sum_of_term (own (p_on 4))) Lt (sum_of_term (of_port (bound (p_on 5)) (x_on 6))))))
    (at WrongType 4 ∷ [])
    ∷ row (when (linked (at_end Head (fixed (literal_on 5 3))))) []
    ∷ row (when (linked (turned (at_end Head (fixed (literal_on 6 3))) (literal_on 6 4))))
    (at BadRange 3 ∷ at BadRange 4 ∷ [])
    ∷ row (when (linked (at_end Head (held (x_on 3))))) []
    ∷ row (when (both (some_p 3 (linked (bound (p_on 4)))) (linked (bound (p_on 5))))) (at UnknownName 5 ∷ [])
    ∷ row (when (some_p 3 (some_p 4 (linked (bound (p_on 5)))))) (at TwiceNamed 4 ∷ [])
    ∷ row (when (quantified tree.all (x_on 3) Ports yes)) (at TwiceNamed 3 ∷ [])
    ∷ row (does (let_be (q_on 3) (first (q_on 4) Ports (linked (bound (q_on 5))))
    ∷ put_of (bound (q_on 6)) (x_on 7) (sum_of_term (own (x_on 8))) ∷ [])) []
    ∷ row (does (let_be (q_on 3) (bound (q_on 4)) ∷ let_be (q_on 5) (bound (q_on 6)) ∷ []))
    (at UnknownName 4 ∷ at TwiceNamed 5 ∷ [])
    ∷ row (does (if_then yes (stmts (let_be (q_on 3) (first_p 4 yes) ∷ [])) no_stmts
    ∷ put_of (bound (q_on 5)) (q_on 6) (sum_of_term (own (q_on 7))) ∷ []))
    (at UnknownName 5 ∷ at UnknownName 6 ∷ at UnknownName 7 ∷ [])
    ∷ row (does (for_each (p_on 3) Ports (linked (bound (p_on 4)))
    (stmts (put_of (bound (p_on 5)) (x_on 6) (sum_of_term (own (x_on 7))) ∷ []))
    ∷ put (p_on 8) (sum_of_term (own (x_on 9))) ∷ []))
    (at UnknownName 8 ∷ [])
    ∷ row (of_action yes (let_be (q_on 3) (first_p 4 yes) ∷ []) (through tree.push (bound (q_on 5)))) []
    ∷ row (moves (bound (x_on 3))) (at WrongType 3 ∷ [])
    ∷ []
