-- The grammar of statements, over that of expressions.
use Rattle.std.specs.Prelude.{ℕ, List, [], ◌++◌}
use Rattle.text_tokens.specs.Text.{Lexeme}
use Rattle.text_tokens.specs.Reading.{less}
use Rattle.text_tokens.specs.Grammar.{Symbol}
use Rattle.action_tree.specs.Trees.{Guard, Sum, PortExpr, Stmt, put, put_of, let_be, if_then, for_each, Stmts, no_stmts, stmt_then}
use Rattle.action_tree.specs.Productions.{names_left_after}
use Rattle.action_tree.specs.Limits.{most_further}
use Rattle.action_tree.specs.declared.role.Role.TheVariants.{AName, DotSign, BecomesSign, SemicolonSign, LetWord, IfWord, ThenWord, ElseWord, FiWord, ForWord, DoWord, OdWord}
use Rattle.action_tree.specs.Roles.{as_name}
use Rattle.action_tree.specs.Expressions.{IsA, Opens, Binds, limited_text, Selection, IsPort, IsSelection, IsSum, IsExpr}

-- A name that `let` binds is in force from the next statement on,
-- one that `for` binds in its parenthesis and its statements.
mutual
  pub data IsStmt : ℕ → ℕ → List Symbol → Stmt → Type 0 where
    is_put : {n left : ℕ} {vs bs ss : List Symbol} {v b : Lexeme} {s : Sum}
        → IsA AName vs v
        → IsA BecomesSign bs b
        → IsSum n left ss s
        → IsStmt n left (vs ++ (bs ++ ss)) (put (as_name v) s)
    is_put_of : {n left : ℕ} {ps ds vs bs ss : List Symbol} {d v b : Lexeme} {p : PortExpr} {s : Sum}
        → IsPort n left ps p
        → IsA DotSign ds d
        → IsA AName vs v
        → IsA BecomesSign bs b
        → IsSum n left ss s
        → IsStmt n left (ps ++ (ds ++ (vs ++ (bs ++ ss)))) (put_of p (as_name v) s)
    is_let : {n left : ℕ} {ls vs bs ps : List Symbol} {l v b : Lexeme} {p : PortExpr}
        → IsA LetWord ls l
        → Binds left vs v
        → IsA BecomesSign bs b
        → IsPort n left ps p
        → IsStmt n left (ls ++ (vs ++ (bs ++ ps))) (let_be (as_name v) p)
    is_if : {n left : ℕ} {is gs ts ss es fs : List Symbol} {i t f : Lexeme} {g : Guard} {s e : Stmts}
        → Opens IfWord n is i
        → IsExpr (less n) left gs g
        → IsA ThenWord ts t
        → IsStmts (less n) left ss s
        → IsElse (less n) left es e
        → IsA FiWord fs f
        → IsStmt n left (is ++ (gs ++ (ts ++ (ss ++ (es ++ fs))))) (if_then g s e)
    is_for : {n left : ℕ} {fs cs ds ss os : List Symbol} {f d o : Lexeme} {c : Selection} {s : Stmts}
        → Opens ForWord n fs f
        → IsSelection (less n) left cs c
        → IsA DoWord ds d
        → IsStmts (less n) (less left) ss s
        → IsA OdWord os o
        → IsStmt n left (fs ++ (cs ++ (ds ++ (ss ++ os)))) (for_each c.name c.set c.guard s)

  -- the else part, which may be left out
  pub data IsElse : ℕ → ℕ → List Symbol → Stmts → Type 0 where
    no_else : {n left : ℕ} → IsElse n left [] no_stmts
    with_else : {n left : ℕ} {es ss : List Symbol} {e : Lexeme} {s : Stmts}
        → IsA ElseWord es e
        → IsStmts n left ss s
        → IsElse n left (es ++ ss) s

  pub data IsStmts : ℕ → ℕ → List Symbol → Stmts → Type 0 where
    is_stmts : {n left : ℕ} {xs ys : List Symbol} {s : Stmt} {ss : Stmts}
        → IsStmt n left xs s
        → IsMore n (names_left_after left s) most_further ys ss
        → IsStmts n left (xs ++ ys) (stmt_then s ss)

  -- further statements
  pub data IsMore : ℕ → ℕ → ℕ → List Symbol → Stmts → Type 0 where
    no_more_stmts : {n left room : ℕ} → IsMore n left room [] no_stmts
    more_stmts : {n left room : ℕ} {xs ys zs : List Symbol} {u : Lexeme} {s : Stmt} {ss : Stmts}
        → IsA SemicolonSign xs u
        → IsStmt n left ys s
        → IsMore n (names_left_after left s) (less room) zs ss
        → IsMore n left room ((xs ++ limited_text room ys) ++ zs) (stmt_then s ss)
