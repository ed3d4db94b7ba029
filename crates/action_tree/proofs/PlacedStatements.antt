-- A statement that is built again, of parts with the same trees whose names have their places.
-- It has the same tree, and its names have their places.
use Rattle.std.proofs.Common.{◌≡◌, ◌∙◌, Vec, List, true, ap, sym}
use Rattle.std.proofs.lemmas.Bool.{and_from}
use Rattle.std.specs.declared.alloc.Global.{Global}
use Rattle.action_tree.specs.declared.word.Word.{Word}
use Rattle.action_tree.specs.declared.expression.PortSet.{PortSet}
use Rattle.action_tree.specs.declared.expression.Guard.{Guard}
use Rattle.action_tree.specs.declared.expression.PortExpr.{PortExpr}
use Rattle.action_tree.specs.declared.expression.Sum.{Sum}
use Rattle.action_tree.specs.declared.statement.Stmt.{Stmt}
use Rattle.action_tree.specs.declared.statement.Stmt.TheVariants as stmt
use Rattle.action_tree.specs.declared.statement.Stmt.TheOpen.{Stmt-F}
use Rattle.action_tree.specs.declared.statement.Stmt.TheFolds.{fold-roll-Stmt}
use Rattle.action_tree.specs.Places.{StmtPlacing, stmt_placing, placing_of, stmt_placed, stmts_placed, is_at_place, guard_placed, port_placed, sum_placed}
use Rattle.action_tree.specs.Scopes.{Scope, scope_with}
use Rattle.action_tree.specs.Views.{name_of, guard_of, port_of, sum_of, stmt_of, stmts_of}
use Rattle.action_tree.proofs.Viewed.{stmt_put, stmt_put_of, stmt_let, stmt_if, stmt_for}

pub put_same : (s : Stmt) (w v : Word) (a b : Sum) → s ≡ stmt.Put w a → name_of v ≡ name_of w → sum_of b ≡ sum_of a → stmt_of (stmt.Put v b) ≡ stmt_of s
put_same s w v a b is ew ea = let old = stmt_put w a in let new = stmt_put v b in cc

pub put_of_same : (s : Stmt) (p q : PortExpr) (w v : Word) (a b : Sum) → s ≡ stmt.PutOf p w a → port_of q ≡ port_of p → name_of v ≡ name_of w → sum_of b ≡ sum_of a → stmt_of (stmt.PutOf q v b) ≡ stmt_of s
put_of_same s p q w v a b is ep ew ea = let old = stmt_put_of p w a in let new = stmt_put_of q v b in cc

pub let_same : (s : Stmt) (w : Word) (p q : PortExpr) → s ≡ stmt.Let w p → port_of q ≡ port_of p → stmt_of (stmt.Let w q) ≡ stmt_of s
let_same s w p q is ep = let old = stmt_let w p in let new = stmt_let w q in cc

pub if_same : (s : Stmt) (g h : Guard) (v w x y : Vec Stmt Global) → s ≡ stmt.If g v w → guard_of h ≡ guard_of g → stmts_of x.items ≡ stmts_of v.items → stmts_of y.items ≡ stmts_of w.items → stmt_of (stmt.If h x y) ≡ stmt_of s
if_same s g h v w x y is eg ev ew = let old = stmt_if g v w in let new = stmt_if h x y in cc

pub for_same : (s : Stmt) (w : Word) (p : PortSet) (g h : Guard) (v x : Vec Stmt Global) → s ≡ stmt.For w p g v → guard_of h ≡ guard_of g → stmts_of x.items ≡ stmts_of v.items → stmt_of (stmt.For w p h x) ≡ stmt_of s
for_same s w p g h v x is eg ev = let old = stmt_for w p g v in let new = stmt_for w p h x in cc

placing_at : (sc : Scope) {s t : StmtPlacing} → s ≡ t → s.placed sc ≡ t.placed sc
placing_at sc e = ap (λ (s : StmtPlacing). s.placed sc) e

pub put_placed : (w : Word) (a : Sum) (sc : Scope) → is_at_place sc.vars w ≡ true → sum_placed a sc ≡ true → stmt_placed (stmt.Put w a) sc ≡ true
put_placed w a sc fw fa =
    placing_at sc (ap placing_of (sym (stmt.rolls-Put w a)) ∙ fold-roll-Stmt StmtPlacing stmt_placing (Stmt-F.Put w a)) ∙ and_from _ _ fw fa

pub put_of_placed : (p : PortExpr) (w : Word) (a : Sum) (sc : Scope) → port_placed p sc ≡ true → is_at_place sc.vars w ≡ true → sum_placed a sc ≡ true → stmt_placed (stmt.PutOf p w a) sc ≡ true
put_of_placed p w a sc fp fw fa =
    placing_at sc (ap placing_of (sym (stmt.rolls-PutOf p w a)) ∙ fold-roll-Stmt StmtPlacing stmt_placing (Stmt-F.PutOf p w a))
    ∙ and_from _ _ fp (and_from _ _ fw fa)

pub let_placed : (w : Word) (p : PortExpr) (sc : Scope) → port_placed p sc ≡ true → stmt_placed (stmt.Let w p) sc ≡ true
let_placed w p sc fp =
    placing_at sc (ap placing_of (sym (stmt.rolls-Let w p)) ∙ fold-roll-Stmt StmtPlacing stmt_placing (Stmt-F.Let w p)) ∙ fp

pub if_placed : (g : Guard) (v w : Vec Stmt Global) (sc : Scope) → guard_placed g sc ≡ true → stmts_placed v.items sc ≡ true → stmts_placed w.items sc ≡ true → stmt_placed (stmt.If g v w) sc ≡ true
if_placed g v w sc fg fv fw =
    placing_at sc (ap placing_of (sym (stmt.rolls-If g v w)) ∙ fold-roll-Stmt StmtPlacing stmt_placing (Stmt-F.If g v w))
    ∙ and_from _ _ fg (and_from _ _ fv fw)

pub for_placed : (w : Word) (p : PortSet) (g : Guard) (v : Vec Stmt Global) (sc : Scope) → guard_placed g (scope_with sc (name_of w)) ≡ true → stmts_placed v.items (scope_with sc (name_of w)) ≡ true → stmt_placed (stmt.For w p g v) sc ≡ true
for_placed w p g v sc fg fv =
    placing_at sc (ap placing_of (sym (stmt.rolls-For w p g v)) ∙ fold-roll-Stmt StmtPlacing stmt_placing (Stmt-F.For w p g v))
    ∙ and_from _ _ fg fv

-- the statements of a vector, at what is known
pub stmts_at : {ss ts : List Stmt} {sc known : Scope} → ss ≡ ts → known ≡ sc → stmts_placed ts known ≡ true → stmts_placed ss sc ≡ true
stmts_at {ts} {sc} same leads fine = ap (λ xs. stmts_placed xs sc) same ∙ ap (stmts_placed ts) (sym leads) ∙ fine
