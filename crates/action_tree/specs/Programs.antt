-- The grammar of movements, actions and programs.
use Rattle.std.specs.Prelude.{ℕ, Bool, false, List}
use Rattle.text_tokens.specs.Text.{Lexeme}
use Rattle.text_tokens.specs.Grammar.{Symbol, Lang, Then, Made, IsOptional, AtMost}
use Rattle.amoebot_state.specs.Limits.{most_vars}
use Rattle.action_tree.specs.Trees.{Guard, Stmts, no_stmts, Move, no_move, through, contract, Var, Action, Program}
use Rattle.action_tree.specs.Productions.{names_left_after_all}
use Rattle.action_tree.specs.Limits.{most_levels, most_names, most_actions}
use Rattle.action_tree.specs.declared.role.Role.TheVariants.{AName, ANumber, EndWord, DoWord, MoveWord, NoneWord, ThroughWord, ContractWord, ProgramWord, GuardWord, SwitchWord, VarWord, ActionWord, WhenWord, LastWord}
use Rattle.action_tree.specs.Roles.{as_name, as_literal, as_end, as_switch, as_port_move}
use Rattle.action_tree.specs.Expressions.{IsA, IsPort, IsExpr}
use Rattle.action_tree.specs.Statements.{IsStmts}

pub data IsMove (n left : ℕ) : List Symbol → Move → Type 0 where
  is_none : {xs : List Symbol} {m : Move} → Made (IsA NoneWord) (λ t. no_move) xs m → IsMove n left xs m
  is_through : {xs : List Symbol} {m : Move}
      → Then (IsA ThroughWord) (λ t. Made (IsPort n left) (λ p. through (as_port_move t) p)) xs m
      → IsMove n left xs m
  is_contract : {xs : List Symbol} {m : Move}
      → Then (IsA ContractWord) (λ t. Made (IsA EndWord) (λ e. contract (as_end e))) xs m
      → IsMove n left xs m

-- the statements and the movement of an action, which may be left out
abbrev pub IsBody : ℕ → ℕ → Lang Stmts
IsBody n left = IsOptional no_stmts (Then (IsA DoWord) (λ d. IsStmts n left))

abbrev pub IsMovement : ℕ → ℕ → Lang Move
IsMovement n left = IsOptional no_move (Then (IsA MoveWord) (λ m. IsMove n left))

abbrev pub parsed_action : Lexeme → Guard → Stmts → Move → Action
parsed_action v g body moved = record { name = as_name v; guard = g; body = body; moved = moved }

-- what a `let` of its list binds is in force in the movement
abbrev pub IsAction : ℕ → ℕ → Lang Action
IsAction n left =
    Then (IsA ActionWord) (λ a.
    Then (IsA AName) (λ v.
    Then (IsA WhenWord) (λ w.
    Then (IsExpr n left) (λ g.
    Then (IsBody n left) (λ body.
    Made (IsMovement n (names_left_after_all left body)) (parsed_action v g body))))))

abbrev pub parsed_var : Lexeme → Lexeme → Var
parsed_var v m = record { name = as_name v; max = as_literal m }

abbrev pub IsVar : Lang Var
IsVar = Then (IsA VarWord) (λ t. Then (IsA AName) (λ v. Made (IsA ANumber) (parsed_var v)))

-- whether movements are guarded
abbrev pub IsGuarded : Lang Bool
IsGuarded = IsOptional false (Then (IsA GuardWord) (λ g. Made (IsA SwitchWord) as_switch))

abbrev pub parsed_program : Bool → List Var → List Action → Program
parsed_program guard vars actions = record { guard = guard; vars = vars; actions = actions }

abbrev pub IsProgram : Lang Program
IsProgram =
    Then (IsA ProgramWord) (λ p.
    Then IsGuarded (λ guard.
    Then (AtMost most_vars IsVar) (λ vars.
    Then (AtMost most_actions (IsAction most_levels most_names)) (λ actions.
    Made (IsA LastWord) (λ e. parsed_program guard vars actions)))))
