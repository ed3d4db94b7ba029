-- Readers of movements, actions and programs.
use Rattle.std.specs.Prelude.{ℕ, Bool, false}
use Rattle.text_tokens.specs.Reading.{Reader, ◌>>=◌, pure, refuse, one, no_limit, optional, by_role, at_most}
use Rattle.amoebot_state.specs.Limits.{most_vars}
use Rattle.action_tree.specs.Trees.{Stmts, no_stmts, Move, no_move, through, contract, Var, Action, Program}
use Rattle.action_tree.specs.Productions.{names_left_after_all}
use Rattle.action_tree.specs.Limits.{most_levels, most_names, most_actions}
use Rattle.action_tree.specs.declared.role.Role.{Role}
use Rattle.action_tree.specs.declared.role.Role.TheVariants.{AName, ANumber, EndWord, DoWord, MoveWord, NoneWord, ThroughWord, ContractWord, ProgramWord, GuardWord, SwitchWord, VarWord, ActionWord, WhenWord, LastWord}
use Rattle.action_tree.specs.Roles.{role, is_a, as_end, as_switch, as_port_move}
use Rattle.action_tree.specs.ExpressionReaders.{port_at, expr_at}
use Rattle.action_tree.specs.StatementReaders.{stmts_at}
use Rattle.action_tree.specs.Programs.{parsed_action, parsed_var, parsed_program}

abbrev pub move_by : ℕ → ℕ → Role → Reader Move
move_by n left NoneWord = one (is_a NoneWord) >>= λ t. pure no_move
move_by n left ThroughWord =
    one (is_a ThroughWord) >>= λ t. port_at n left >>= λ p. pure (through (as_port_move t) p)
move_by n left ContractWord =
    one (is_a ContractWord) >>= λ t. one (is_a EndWord) >>= λ e. pure (contract (as_end e))
move_by n left _ = refuse

unfoldable pub a_move : ℕ → ℕ → Reader Move
a_move n left = by_role role (move_by n left)

abbrev pub a_body : ℕ → ℕ → Reader Stmts
a_body n left = optional (is_a DoWord) no_stmts (one (is_a DoWord) >>= λ d. stmts_at n left)

abbrev pub a_moved : ℕ → ℕ → Reader Move
a_moved n left = optional (is_a MoveWord) no_move (one (is_a MoveWord) >>= λ m. a_move n left)

unfoldable pub an_action : ℕ → ℕ → Reader Action
an_action n left = do
  a ← one (is_a ActionWord)
  v ← one (is_a AName)
  w ← one (is_a WhenWord)
  g ← expr_at n left
  body ← a_body n left
  moved ← a_moved n (names_left_after_all left body)
  pure (parsed_action v g body moved)

unfoldable pub a_var : Reader Var
a_var = one (is_a VarWord) >>= λ t. one (is_a AName) >>= λ v.
    one (is_a ANumber) >>= λ m. pure (parsed_var v m)

unfoldable pub a_guarded : Reader Bool
a_guarded = optional (is_a GuardWord) false (one (is_a GuardWord) >>= λ g.
    one (is_a SwitchWord) >>= λ t. pure (as_switch t))

unfoldable pub a_program : Reader Program
a_program = do
  p ← one (is_a ProgramWord)
  guard ← a_guarded
  vars ← at_most (is_a VarWord) no_limit most_vars a_var
  actions ← at_most (is_a ActionWord) no_limit most_actions (an_action most_levels most_names)
  e ← one (is_a LastWord)
  pure (parsed_program guard vars actions)
