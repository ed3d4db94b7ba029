-- Readers of statements, by the role of the next token.
use Rattle.std.specs.Prelude.{ℕ, zero, suc, Bool, true, false}
use Rattle.text_tokens.specs.Text.{Lexeme}
use Rattle.text_tokens.specs.Reading.{Reader, ◌>>=◌, pure, refuse, one_within, one, opening_token, optional, by_role, limited, less, chained}
use Rattle.action_tree.specs.Trees.{PortExpr, bound, Stmt, put, put_of, let_be, if_then, for_each, Stmts, no_stmts, stmt_then, stmts}
use Rattle.action_tree.specs.Productions.{names_left_after}
use Rattle.action_tree.specs.Limits.{most_further}
use Rattle.action_tree.specs.declared.role.Role.{Role}
use Rattle.action_tree.specs.declared.role.Role.TheVariants.{AName, DotSign, BecomesSign, SemicolonSign, EndWord, TurnWord, FirstWord, LetWord, IfWord, ThenWord, ElseWord, FiWord, ForWord, DoWord, OdWord}
use Rattle.action_tree.specs.Roles.{role, is_a, as_name}
use Rattle.action_tree.specs.Expressions.{bound_at}
use Rattle.action_tree.specs.ExpressionReaders.{level_limit, port_at, selection_at, sum_at, expr_at}

abbrev pub begins_stmt : Role → Bool
begins_stmt AName = true
begins_stmt EndWord = true
begins_stmt TurnWord = true
begins_stmt FirstWord = true
begins_stmt LetWord = true
begins_stmt IfWord = true
begins_stmt ForWord = true
begins_stmt _ = false

-- behind the port of a neighbour
abbrev pub put_member : ℕ → ℕ → PortExpr → Reader Stmt
put_member n left p =
    one (is_a DotSign) >>= λ d.
    one (is_a AName) >>= λ v. one (is_a BecomesSign) >>= λ b.
    sum_at n left >>= λ s. pure (put_of p (as_name v) s)

-- behind a name, which is a variable, or the port of a neighbour where a dot comes behind it
abbrev pub put_by : ℕ → ℕ → Lexeme → Role → Reader Stmt
put_by n left v BecomesSign = one (is_a BecomesSign) >>= λ b. sum_at n left >>= λ s. pure (put (as_name v) s)
put_by n left v DotSign = put_member n left (bound (as_name v))
put_by n left v _ = refuse

-- `below` reads lists of statements one level deeper
abbrev pub else_part : (ℕ → Reader Stmts) → ℕ → Reader Stmts
else_part below left = optional (is_a ElseWord) no_stmts (one (is_a ElseWord) >>= λ e. below left)

unfoldable pub an_if : ℕ → ℕ → (ℕ → Reader Stmts) → Reader Stmt
an_if n left below = do
  i ← opening_token n (is_a IfWord)
  g ← expr_at (less n) left
  t ← one (is_a ThenWord)
  s ← below left
  e ← else_part below left
  f ← one (is_a FiWord)
  pure (if_then g s e)

unfoldable pub a_for : ℕ → ℕ → (ℕ → Reader Stmts) → Reader Stmt
a_for n left below = do
  f ← opening_token n (is_a ForWord)
  c ← selection_at (less n) left
  d ← one (is_a DoWord)
  s ← below (less left)
  o ← one (is_a OdWord)
  pure (for_each c.name c.set c.guard s)

abbrev pub stmt_by : ℕ → ℕ → (ℕ → Reader Stmts) → Role → Reader Stmt
stmt_by n left below AName = one (is_a AName) >>= λ v. by_role role (put_by n left v)
stmt_by n left below EndWord = port_at n left >>= put_member n left
stmt_by n left below TurnWord = port_at n left >>= put_member n left
stmt_by n left below FirstWord = port_at n left >>= put_member n left
stmt_by n left below LetWord =
    one (is_a LetWord) >>= λ l.
    one_within (is_a AName) (bound_at left) >>= λ v.
    one (is_a BecomesSign) >>= λ b. port_at n left >>= λ p. pure (let_be (as_name v) p)
stmt_by n left below IfWord = an_if n left below
stmt_by n left below ForWord = a_for n left below
stmt_by n left below _ = refuse

unfoldable pub a_stmt : ℕ → ℕ → (ℕ → Reader Stmts) → Reader Stmt
a_stmt n left below = by_role role (stmt_by n left below)

-- how many more statements may come, and how many more names may be bound in the next
pub record Room : Type 0 where
  pub room : ℕ
  pub left : ℕ

abbrev pub scope_behind : Room → Stmt → Room
scope_behind s a = record { room = less s.room; left = names_left_after s.left a }

-- a statement behind a semicolon
abbrev pub stmt_in : ℕ → (ℕ → Reader Stmts) → Lexeme → Room → Reader Stmt
stmt_in n below sign s = limited (λ t. begins_stmt (role t)) (level_limit n) s.room (a_stmt n s.left below)

unfoldable pub all_stmts : ℕ → ℕ → (ℕ → Reader Stmts) → Reader Stmts
all_stmts n left below =
    chained (a_stmt n left below) (is_a SemicolonSign) (stmt_in n below) scope_behind
    (λ s. record { room = most_further; left = names_left_after left s }) (λ s ss. stmt_then s (stmts ss))

-- what is read behind a token that opens one of so many levels
unfoldable pub stmts_inside : ℕ → ℕ → Reader Stmts
stmts_inside zero left = refuse
stmts_inside (suc n) left = all_stmts n left (stmts_inside n)

abbrev pub stmts_at : ℕ → ℕ → Reader Stmts
stmts_at n left = all_stmts n left (stmts_inside n)
