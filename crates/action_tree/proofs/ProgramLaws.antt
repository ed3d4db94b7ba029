-- Movements, actions and programs are parts of the grammar.
use Rattle.std.proofs.Common.{◌≡◌, ℕ, Bool, true, false, List, [], refl}
use Rattle.text_tokens.specs.Text.{Lexeme}
use Rattle.text_tokens.specs.Reading.{Reader, ◌>>=◌, pure, one, no_limit, at_most, limited, less}
use Rattle.text_tokens.specs.Grammar.{Symbol, Lang, Then, then, Made, made, IsNothing, is_nothing, of_second, Limited, AtMost}
use Rattle.text_tokens.specs.Lawful.{Exact, IsPart, always, limit_at, SomeText, Starts, StartsIn, HasTokens, IsHandled, handled, no_role}
use Rattle.text_tokens.proofs.Exactness.{exact}
use Rattle.text_tokens.proofs.CarriedTexts.{part_made}
use Rattle.text_tokens.proofs.Parts.{part_less, part_before, some_text}
use Rattle.text_tokens.proofs.StartsLemmas.{starts_in, starts_some, starts_one, starts_made, starts_then, starts_in_nothing, starts_in_either, starts_in_then, starts_in_more, starts_in_made, starts_in_repeated, starts_limited, some_behind as tokens_behind}
use Rattle.text_tokens.proofs.ChoiceLemmas.{part_optional, part_roles}
use Rattle.text_tokens.proofs.RepeatedLemmas.{part_repeated, at_most_elements}
use Rattle.amoebot_state.specs.Limits.{most_vars}
use Rattle.action_tree.specs.Trees.{Guard, Stmts, no_stmts, Move, no_move, through, contract, Var, Action, Program}
use Rattle.action_tree.specs.Productions.{names_left_after_all}
use Rattle.action_tree.specs.Limits.{most_levels, most_names, most_actions}
use Rattle.action_tree.specs.declared.role.Role.{Role}
use Rattle.action_tree.specs.declared.role.Role.TheVariants.{AName, ANumber, EndWord, DoWord, MoveWord, NoneWord, ThroughWord, ContractWord, ProgramWord, GuardWord, SwitchWord, VarWord, ActionWord, WhenWord, LastWord}
use Rattle.action_tree.specs.Roles.{role, same_role, is_a, as_end, as_switch, as_port_move}
use Rattle.action_tree.specs.Expressions.{IsA, IsPort, IsExpr}
use Rattle.action_tree.specs.Statements.{IsStmts}
use Rattle.action_tree.specs.Programs.{IsMove, is_none, is_through, is_contract, IsBody, IsMovement, parsed_action, IsAction, parsed_var, IsVar, IsGuarded, parsed_program, IsProgram}
use Rattle.action_tree.specs.ExpressionReaders.{level_limit, port_at, expr_at}
use Rattle.action_tree.specs.StatementReaders.{stmts_at}
use Rattle.action_tree.specs.ProgramReaders.{move_by, a_move, a_body, a_moved, an_action, a_var, a_guarded, a_program}
use Rattle.action_tree.proofs.RolesLemmas.{example, an_example, ends, ends_at, other_role, stops_expr, some_made, some_then, some_a, some_token, some_behind, part_a, part_token, part_next, part_led, part_ended, part_any}
use Rattle.action_tree.proofs.ExpressionRoles.{some_port, some_expr, Formed, formed_alone, formed_more}
use Rattle.action_tree.proofs.ExpressionLaws.{parts_at}
use Rattle.action_tree.proofs.StatementRoles.{some_stmts}
use Rattle.action_tree.proofs.StatementLaws.{stops_stmts, part_stmts}

-- ---- movements

module _ (n left : ℕ) where
  abbrev MoveBy : Role → Lang Move
  MoveBy NoneWord = Made (IsA NoneWord) (λ t. no_move)
  MoveBy ThroughWord = Then (IsA ThroughWord) (λ t. Made (IsPort n left) (λ p. through (as_port_move t) p))
  MoveBy ContractWord = Then (IsA ContractWord) (λ t. Made (IsA EndWord) (λ e. contract (as_end e)))
  MoveBy _ = λ xs m. ⊥

  view_move : (xs : List Symbol) (m : Move) → IsMove n left xs m → Formed n MoveBy xs m
  view_move xs m (is_none (made t o)) = formed_alone n MoveBy NoneWord xs t no_move o refl (made t o)
  view_move us m (is_through (then {xs = xs} {ys = ys} t o is)) = formed_more n MoveBy ThroughWord xs ys t m o refl (then t o is)
  view_move us m (is_contract (then {xs = xs} {ys = ys} t o is)) = formed_more n MoveBy ContractWord xs ys t m o refl (then t o is)

  move_from : (r : Role) (xs : List Symbol) (m : Move) → MoveBy r xs m → IsMove n left xs m
  move_from NoneWord xs m is = is_none is
  move_from ThroughWord xs m is = is_through is
  move_from ContractWord xs m is = is_contract is
  move_from _ xs m is = absurd is

  some_move : SomeText (IsMove n left)
  some_move = record { text = _; whole = _; is = is_none (made (example NoneWord) (an_example NoneWord)) }

  move_roles : (r : Role) → IsHandled (MoveBy r) (move_by n left r) always
  move_roles NoneWord = handled (part_token NoneWord (λ t. no_move))
  move_roles ThroughWord = handled (part_led ThroughWord no_limit (IsPort n left) (port_at n left) (λ t p. through (as_port_move t) p) always (some_port n left) (λ t e. (parts_at n left).port))
  move_roles ContractWord = handled (part_led ContractWord no_limit (IsA EndWord) (one (is_a EndWord)) (λ t e. contract (as_end e)) always (some_a EndWord) (λ t e. part_a EndWord))
  move_roles _ = no_role (λ xs m is. is) refl

  part_move : IsPart (IsMove n left) (a_move n left) always
  unfolding a_move
  part_move = part_roles role (level_limit n) MoveBy (IsMove n left) (record { some = some_move; view = view_move; from = move_from }) (move_by n left) always move_roles

-- ---- actions. What stands behind an action is `action` or `end`.

abbrev pub stops_action : Role → Bool
stops_action ActionWord = true
stops_action LastWord = true
stops_action _ = false

action_expr : (r : Role) → stops_action r ≡ true → stops_expr r ≡ true
action_expr ActionWord e = refl
action_expr LastWord e = refl
action_expr _ e = absurd cc

action_move : (r : Role) → stops_action r ≡ true → same_role r MoveWord ≡ false
unfolding same_role
action_move ActionWord e = refl
action_move LastWord e = refl
action_move _ e = absurd cc

-- what stands behind the statements of an action
abbrev stops_body : Role → Bool
stops_body MoveWord = true
stops_body r = stops_action r

body_stmts : (r : Role) → stops_body r ≡ true → stops_stmts r ≡ true
body_stmts MoveWord e = refl
body_stmts ActionWord e = refl
body_stmts LastWord e = refl
body_stmts _ e = absurd cc

body_do : (r : Role) → stops_body r ≡ true → same_role r DoWord ≡ false
unfolding same_role
body_do MoveWord e = refl
body_do ActionWord e = refl
body_do LastWord e = refl
body_do _ e = absurd cc

action_body : (r : Role) → stops_action r ≡ true → stops_body r ≡ true
action_body MoveWord e = refl
action_body _ e = e

module _ (n left : ℕ) where
  abbrev Moves : Lang Move
  Moves = Then (IsA MoveWord) (λ m. IsMove n left)

  starts_moves : Starts Moves (is_a MoveWord) no_limit
  starts_moves = starts_then (IsA MoveWord) (λ m. IsMove n left) (is_a MoveWord) no_limit (starts_one (is_a MoveWord) no_limit) (λ m. some_move n left)

  part_moved : IsPart (IsMovement n left) (a_moved n left) (ends stops_action)
  part_moved = part_optional no_move Moves (one (is_a MoveWord) >>= λ m. a_move n left) (is_a MoveWord) no_limit (ends stops_action) starts_moves
      (part_any Moves (one (is_a MoveWord) >>= λ m. a_move n left) (ends stops_action) (part_next MoveWord no_limit (λ m. IsMove n left) (λ m. a_move n left) always (λ m. some_move n left) (λ m e. part_move n left)))
      (λ t e. action_move (role t) e)

  some_moved : SomeText (IsMovement n left)
  some_moved = record { text = []; whole = no_move; is = of_second is_nothing }

  moved_begins : StartsIn (IsMovement n left) (is_a MoveWord)
  moved_begins = starts_in_either Moves (IsNothing no_move) (is_a MoveWord) (starts_in Moves (is_a MoveWord) no_limit starts_moves) (starts_in_nothing no_move (is_a MoveWord))

  abbrev Does : Lang Stmts
  Does = Then (IsA DoWord) (λ d. IsStmts n left)

  starts_does : Starts Does (is_a DoWord) no_limit
  starts_does = starts_then (IsA DoWord) (λ d. IsStmts n left) (is_a DoWord) no_limit (starts_one (is_a DoWord) no_limit) (λ d. some_stmts n left)

  part_body : IsPart (IsBody n left) (a_body n left) (ends stops_body)
  part_body = part_optional no_stmts Does (one (is_a DoWord) >>= λ d. stmts_at n left) (is_a DoWord) no_limit (ends stops_body) starts_does
      (part_less Does (one (is_a DoWord) >>= λ d. stmts_at n left) (ends stops_stmts) (ends stops_body) (λ t e. body_stmts (role t) e) (part_next DoWord no_limit (λ d. IsStmts n left) (λ d. stmts_at n left) (ends stops_stmts) (λ d. some_stmts n left) (λ d e. part_stmts n left)))
      (λ t e. body_do (role t) e)

  some_body : SomeText (IsBody n left)
  some_body = record { text = []; whole = no_stmts; is = of_second is_nothing }

  body_begins : StartsIn (IsBody n left) (is_a DoWord)
  body_begins = starts_in_either Does (IsNothing no_stmts) (is_a DoWord) (starts_in Does (is_a DoWord) no_limit starts_does) (starts_in_nothing no_stmts (is_a DoWord))

module _ (n left : ℕ) where
  -- what stands behind the guard of an action
  module _ (v : Lexeme) (g : Guard) where
    abbrev MovedBehind : Stmts → Lang Action
    MovedBehind body = Made (IsMovement n (names_left_after_all left body)) (parsed_action v g body)

    abbrev Behind : Lang Action
    Behind = Then (IsBody n left) MovedBehind

    some_behind_guard : SomeText Behind
    some_behind_guard = some_then (IsBody n left) MovedBehind (some_body n left) (λ body. some_made (IsMovement n (names_left_after_all left body)) (parsed_action v g body) (some_moved n (names_left_after_all left body)))

    moved_behind_begins : (body : Stmts) → StartsIn (MovedBehind body) (is_a MoveWord)
    moved_behind_begins body = starts_in_made (IsMovement n (names_left_after_all left body)) (parsed_action v g body) (is_a MoveWord) (moved_begins n (names_left_after_all left body))

    part_behind_guard : IsPart Behind (a_body n left >>= λ body. a_moved n (names_left_after_all left body) >>= λ m. pure (parsed_action v g body m)) (ends stops_action)
    part_behind_guard = part_before (IsBody n left) (a_body n left) MovedBehind (λ body. a_moved n (names_left_after_all left body) >>= λ m. pure (parsed_action v g body m)) (ends stops_body) (ends stops_action) (part_body n left)
        (λ body. part_made (IsMovement n (names_left_after_all left body)) (parsed_action v g body) (a_moved n (names_left_after_all left body)) (ends stops_action) (part_moved n (names_left_after_all left body)))
        (λ body. record { begins = starts_in_more (MovedBehind body) (is_a MoveWord) (ends stops_body) (ends_at stops_body MoveWord refl) (moved_behind_begins body); empty = λ xs b t is e f. action_body (role t) f })

    behind_begins : StartsIn Behind (ends stops_expr)
    behind_begins = starts_in_then (IsBody n left) MovedBehind (ends stops_expr) (starts_in_more (IsBody n left) (is_a DoWord) (ends stops_expr) (ends_at stops_expr DoWord refl) (body_begins n left))
        (λ body. starts_in_more (MovedBehind body) (is_a MoveWord) (ends stops_expr) (ends_at stops_expr MoveWord refl) (moved_behind_begins body))

  module _ (v : Lexeme) where
    abbrev Guards : Lang Action
    Guards = Then (IsExpr n left) (Behind v)

    some_guards : SomeText Guards
    some_guards = some_then (IsExpr n left) (Behind v) (some_expr n left) (some_behind_guard v)

    part_guards : IsPart Guards (expr_at n left >>= λ g. a_body n left >>= λ body. a_moved n (names_left_after_all left body) >>= λ m. pure (parsed_action v g body m)) (ends stops_action)
    part_guards = part_before (IsExpr n left) (expr_at n left) (Behind v) _ (ends stops_expr) (ends stops_action) (parts_at n left).expr (part_behind_guard v)
        (λ g. record { begins = behind_begins v g; empty = λ xs b t is e f. action_expr (role t) f })

    abbrev When : Lang Action
    When = Then (IsA WhenWord) (λ w. Guards)

    some_when : SomeText When
    some_when = some_behind WhenWord no_limit (λ w. Guards) (λ w. some_guards)

    part_when : IsPart When (one (is_a WhenWord) >>= λ w. expr_at n left >>= λ g. a_body n left >>= λ body. a_moved n (names_left_after_all left body) >>= λ m. pure (parsed_action v g body m)) (ends stops_action)
    part_when = part_next WhenWord no_limit (λ w. Guards) _ (ends stops_action) (λ w. some_guards) (λ w e. part_guards)

  some_named : SomeText (Then (IsA AName) When)
  some_named = some_behind AName no_limit When some_when

  pub part_action : IsPart (IsAction n left) (an_action n left) (ends stops_action)
  unfolding an_action
  part_action = part_next ActionWord no_limit (λ a. Then (IsA AName) When) _ (ends stops_action) (λ a. some_named) (λ a e. part_next AName no_limit When _ (ends stops_action) some_when (λ v e. part_when v))

  pub starts_action : Starts (IsAction n left) (is_a ActionWord) no_limit
  starts_action = starts_then (IsA ActionWord) (λ a. Then (IsA AName) When) (is_a ActionWord) no_limit (starts_one (is_a ActionWord) no_limit) (λ a. some_named)

-- ---- variables

abbrev Most : Lexeme → Lang Var
Most v = Made (IsA ANumber) (parsed_var v)

some_var : SomeText (Then (IsA AName) Most)
some_var = some_behind AName no_limit Most (λ v. some_token ANumber (parsed_var v))

pub part_var : IsPart IsVar a_var always
unfolding a_var
part_var = part_next VarWord no_limit (λ t. Then (IsA AName) Most) _ always (λ t. some_var) (λ t e. part_led AName no_limit (IsA ANumber) (one (is_a ANumber)) parsed_var always (some_a ANumber) (λ v e. part_a ANumber))

pub starts_var : Starts IsVar (is_a VarWord) no_limit
starts_var = starts_then (IsA VarWord) (λ t. Then (IsA AName) Most) (is_a VarWord) no_limit (starts_one (is_a VarWord) no_limit) (λ t. some_var)

-- ---- the guard of movements

-- what stands behind it
abbrev stops_guarded : Role → Bool
stops_guarded VarWord = true
stops_guarded r = stops_action r

guarded_guard : (r : Role) → stops_guarded r ≡ true → same_role r GuardWord ≡ false
unfolding same_role
guarded_guard VarWord e = refl
guarded_guard ActionWord e = refl
guarded_guard LastWord e = refl
guarded_guard _ e = absurd cc

action_guarded : (r : Role) → stops_action r ≡ true → stops_guarded r ≡ true
action_guarded VarWord e = refl
action_guarded _ e = e

pub action_var : (r : Role) → stops_action r ≡ true → same_role r VarWord ≡ false
unfolding same_role
action_var ActionWord e = refl
action_var LastWord e = refl
action_var _ e = absurd cc

pub last_no_action : same_role LastWord ActionWord ≡ false
unfolding same_role
last_no_action = refl

abbrev Switched : Lang Bool
Switched = Then (IsA GuardWord) (λ g. Made (IsA SwitchWord) as_switch)

part_guarded : IsPart IsGuarded a_guarded (ends stops_guarded)
unfolding a_guarded
part_guarded = part_optional false Switched _ (is_a GuardWord) no_limit (ends stops_guarded)
    (starts_then (IsA GuardWord) (λ g. Made (IsA SwitchWord) as_switch) (is_a GuardWord) no_limit (starts_one (is_a GuardWord) no_limit) (λ g. some_token SwitchWord as_switch))
    (part_any Switched _ (ends stops_guarded) (part_led GuardWord no_limit (IsA SwitchWord) (one (is_a SwitchWord)) (λ g t. as_switch t) always (some_a SwitchWord) (λ g e. part_a SwitchWord)))
    (λ t e. guarded_guard (role t) e)

-- ---- the whole

abbrev Vars : Lang (List Var)
Vars = AtMost most_vars IsVar

abbrev vars_of : Reader (List Var)
vars_of = at_most (is_a VarWord) no_limit most_vars a_var

part_vars : IsPart Vars vars_of (ends stops_action)
part_vars = part_repeated (λ room. Limited IsVar room) (λ room. limited (is_a VarWord) no_limit room a_var) (λ room v. less room) (is_a VarWord) always (ends stops_action)
    (at_most_elements IsVar a_var (is_a VarWord) no_limit always (ends stops_action) starts_var part_var (λ t e. refl) (λ t e. refl) (λ t e. action_var (role t) e)) most_vars

vars_begin : StartsIn Vars (is_a VarWord)
vars_begin = starts_in_repeated (λ room. Limited IsVar room) (λ room v. less room) (is_a VarWord) (λ room. starts_in (Limited IsVar room) (is_a VarWord) (limit_at no_limit room) (starts_limited IsVar (is_a VarWord) no_limit starts_var room)) most_vars

abbrev Top : Lang Action
Top = IsAction most_levels most_names

abbrev Actions : Lang (List Action)
Actions = AtMost most_actions Top

abbrev actions_of : Reader (List Action)
actions_of = at_most (is_a ActionWord) no_limit most_actions (an_action most_levels most_names)

part_actions : IsPart Actions actions_of (is_a LastWord)
part_actions = part_repeated (λ room. Limited Top room) (λ room. limited (is_a ActionWord) no_limit room (an_action most_levels most_names)) (λ room a. less room) (is_a ActionWord) (ends stops_action) (is_a LastWord)
    (at_most_elements Top (an_action most_levels most_names) (is_a ActionWord) no_limit (ends stops_action) (is_a LastWord) (starts_action most_levels most_names) (part_action most_levels most_names) (ends_at stops_action ActionWord refl) (ends_at stops_action LastWord refl) (λ t e. other_role LastWord ActionWord t last_no_action e)) most_actions

actions_begin : StartsIn Actions (is_a ActionWord)
actions_begin = starts_in_repeated (λ room. Limited Top room) (λ room a. less room) (is_a ActionWord) (λ room. starts_in (Limited Top room) (is_a ActionWord) (limit_at no_limit room) (starts_limited Top (is_a ActionWord) no_limit (starts_action most_levels most_names) room)) most_actions

module _ (guard : Bool) (vars : List Var) where
  abbrev Ended : List Action → Lang Program
  Ended actions = Made (IsA LastWord) (λ e. parsed_program guard vars actions)

  starts_ended : (actions : List Action) → Starts (Ended actions) (is_a LastWord) no_limit
  starts_ended actions = starts_made (IsA LastWord) (λ e. parsed_program guard vars actions) (is_a LastWord) no_limit (starts_one (is_a LastWord) no_limit)

  abbrev Acting : Lang Program
  Acting = Then Actions Ended

  part_acting : IsPart Acting (actions_of >>= λ actions. one (is_a LastWord) >>= λ e. pure (parsed_program guard vars actions)) always
  part_acting = part_ended Actions actions_of (is_a LastWord) LastWord (λ actions e. parsed_program guard vars actions) part_actions (λ t e. e)

  acting_begins : StartsIn Acting (ends stops_action)
  acting_begins = starts_in_then Actions Ended (ends stops_action) (starts_in_more Actions (is_a ActionWord) (ends stops_action) (ends_at stops_action ActionWord refl) actions_begin)
      (λ actions. starts_in_more (Ended actions) (is_a LastWord) (ends stops_action) (ends_at stops_action LastWord refl) (starts_in (Ended actions) (is_a LastWord) no_limit (starts_ended actions)))

  acting_has : HasTokens Acting
  acting_has = tokens_behind Actions Ended (λ actions. starts_some (Ended actions) (is_a LastWord) no_limit (starts_ended actions))

module _ (guard : Bool) where
  abbrev Declaring : Lang Program
  Declaring = Then Vars (Acting guard)

  part_declaring : IsPart Declaring (vars_of >>= λ vars. actions_of >>= λ actions. one (is_a LastWord) >>= λ e. pure (parsed_program guard vars actions)) always
  part_declaring = part_before Vars vars_of (Acting guard) _ (ends stops_action) always part_vars (part_acting guard)
      (λ vars. record { begins = acting_begins guard vars; empty = λ xs p t is e f. absurd (acting_has guard vars xs p is e) })

  declaring_begins : StartsIn Declaring (ends stops_guarded)
  declaring_begins = starts_in_then Vars (Acting guard) (ends stops_guarded) (starts_in_more Vars (is_a VarWord) (ends stops_guarded) (ends_at stops_guarded VarWord refl) vars_begin)
      (λ vars. starts_in_more (Acting guard vars) (ends stops_action) (ends stops_guarded) (λ t e. action_guarded (role t) e) (acting_begins guard vars))

  declaring_has : HasTokens Declaring
  declaring_has = tokens_behind Vars (Acting guard) (acting_has guard)

abbrev Guarding : Lang Program
Guarding = Then IsGuarded Declaring

part_guarding : IsPart Guarding (a_guarded >>= λ guard. vars_of >>= λ vars. actions_of >>= λ actions. one (is_a LastWord) >>= λ e. pure (parsed_program guard vars actions)) always
part_guarding = part_before IsGuarded a_guarded Declaring _ (ends stops_guarded) always part_guarded part_declaring
    (λ guard. record { begins = declaring_begins guard; empty = λ xs p t is e f. absurd (declaring_has guard xs p is e) })

pub part_program : IsPart IsProgram a_program always
unfolding a_program
part_program = part_next ProgramWord no_limit (λ p. Guarding) _ always (λ p. some_text Guarding _ part_guarding.law) (λ p e. part_guarding)

pub exact_program : Exact IsProgram a_program
exact_program = exact IsProgram a_program part_program.law
