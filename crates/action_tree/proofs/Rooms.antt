-- Room for the names of a part, and behind it.
use Rattle.std.proofs.Common.{true, ◌≡◌, ◌≤◌, ℕ, suc, [], ◌∷◌, length-append, arith}
use Rattle.std.proofs.lemmas.Bool.{leb-true}
use Rattle.action_tree.specs.Limits.{most_names}
use Rattle.action_tree.specs.Scopes.{Scope, HasRoom, scope_with, scope_after, scope_after_all}
use Rattle.action_tree.specs.Trees.{Name, Stmt, put, put_of, let_be, if_then, for_each, Stmts, no_stmts, stmt_then, Action}
use Rattle.action_tree.specs.Writable.{with_let, stmts_names, action_names, is_action}
use Rattle.action_tree.proofs.Conditions.{right_of}

pub room_behind : (sc : Scope) (v : Name) (more : ℕ) → HasRoom sc (suc more) → HasRoom (scope_with sc v) more
room_behind sc v more room = omega (arith, length-append sc.bound (v.text ∷ []))

-- what a `let` leaves for the statements behind it
pub room_after : (sc : Scope) (s : Stmt) (more : ℕ) → HasRoom sc (with_let s more) → HasRoom (scope_after sc s) more
room_after sc (let_be v p) more room = room_behind sc v more room
room_after sc (put v s) more room = room
room_after sc (put_of p v s) more room = room
room_after sc (if_then g ss es) more room = room
room_after sc (for_each v s g ss) more room = room

pub room_after_all : (sc : Scope) (ss : Stmts) (more : ℕ) → HasRoom sc (stmts_names more ss) → HasRoom (scope_after_all sc ss) more
room_after_all sc no_stmts more room = room
room_after_all sc (stmt_then s ss) more room = room_after_all (scope_after sc s) ss more (room_after sc s _ (omega arith))

-- what goes on with less has fewer names
pub fewer_behind : (s : Stmt) (a b : ℕ) → a ≤ b → with_let s a ≤ with_let s b
fewer_behind (let_be v p) a b le = omega arith
fewer_behind (put v s) a b le = le
fewer_behind (put_of p v s) a b le = le
fewer_behind (if_then g ss es) a b le = le
fewer_behind (for_each v s g ss) a b le = le

pub fewer_names : (ss : Stmts) (a b : ℕ) → a ≤ b → stmts_names a ss ≤ stmts_names b ss
fewer_names no_stmts a b le = le
fewer_names (stmt_then s ss) a b le = omega (arith, fewer_behind s _ _ (fewer_names ss a b le))

pub few_names : (a : Action) → is_action a ≡ true → action_names a ≤ most_names
few_names a f = leb-true (action_names a) most_names (right_of _ _ f)
