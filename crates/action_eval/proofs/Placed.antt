-- Names that have their places, in one of a list and inside a part.
use Rattle.std.proofs.Common.{◌≡◌, ◌<◌, ◌∙◌, ◌&&◌, ℕ, zero, suc, true, Box, Vec, List, [], ◌∷◌, length, map, get_or, sym, ap, arith}
use Rattle.std.specs.List.{list_all}
use Rattle.std.specs.declared.alloc.Global.{Global}
use Rattle.std.proofs.lemmas.Bool.{and_parts}
use Rattle.action_tree.specs.declared.word.Word.{Word}
use Rattle.action_tree.specs.declared.word.Lit.{Lit}
use Rattle.action_tree.specs.declared.expression.PortSet.{PortSet}
use Rattle.action_tree.specs.declared.expression.Guard.{Guard}
use Rattle.action_tree.specs.declared.expression.Guard.TheVariants as guard
use Rattle.action_tree.specs.declared.expression.Guard.TheOpen.{Guard-F, PortExpr-F, Term-F}
use Rattle.action_tree.specs.declared.expression.Guard.TheFolds.{fold_out-Part, fold_out-Sum, fold-roll-Guard, fold-roll-PortExpr, fold-roll-Term}
use Rattle.action_tree.specs.declared.expression.Part.{Part}
use Rattle.action_tree.specs.declared.expression.PortExpr.{PortExpr}
use Rattle.action_tree.specs.declared.expression.PortExpr.TheVariants as port
use Rattle.action_tree.specs.declared.expression.Sum.{Sum, out-Sum}
use Rattle.action_tree.specs.declared.expression.Term.{Term}
use Rattle.action_tree.specs.declared.expression.Term.TheVariants as term
use Rattle.action_tree.specs.declared.statement.Stmt.{Stmt}
use Rattle.action_tree.specs.declared.statement.Stmt.TheVariants as stmt
use Rattle.action_tree.specs.declared.statement.Stmt.TheOpen.{Stmt-F}
use Rattle.action_tree.specs.declared.statement.Stmt.TheFolds.{fold-roll-Stmt}
use Rattle.action_tree.specs.Places.{Placing, StmtPlacing, stmt_placing, placing_of, stmt_placed, stmts_placed, is_at_place, guard_placing, port_placing, term_placing, part_placing, sum_placing, guard_placed, port_placed, part_placed, parts_placed, sum_placed, term_placed}
use Rattle.action_tree.specs.Scopes.{Scope, scope_with}
use Rattle.action_tree.specs.Views.{name_of}

-- one of a list
pub placed_at : {X : Type 0} (placed : X → Placing) (sc : Scope) (xs : List X) (i : ℕ) (x : X) → list_all (λ is_placed. is_placed sc) (map placed xs) ≡ true → i < length xs → x ≡ get_or xs i x → placed x sc ≡ true
placed_at placed sc [] i x e l is = absurd (omega arith)
placed_at placed sc (y ∷ xs) zero x e l is = ap (λ z. placed z sc) is ∙ (and_parts _ _ e).0
placed_at placed sc (y ∷ xs) (suc i) x e l is = placed_at placed sc xs i x (and_parts _ _ e).1 (omega arith) is

-- a term of a sum
pub term_is_placed : (s : Sum) (ps : List Part) (sc : Scope) (i : ℕ) (p : Part) → ps ≡ (out-Sum s).parts.items → sum_placed s sc ≡ true → i < length ps → p ≡ get_or ps i p → term_placed p.term sc ≡ true
term_is_placed s ps sc i p parts e l is =
    let opened = ap (λ (f : Placing). f sc) (fold_out-Sum Placing Placing Placing Placing Placing guard_placing port_placing term_placing part_placing sum_placing s) in
    let all : parts_placed ps sc ≡ true = ap (λ qs. parts_placed qs sc) parts ∙ (sym opened ∙ e) in
    let part = placed_at part_placed sc ps i p all l is in
    sym (ap (λ (f : Placing). f sc) (fold_out-Part Placing Placing Placing Placing Placing guard_placing port_placing term_placing part_placing sum_placing p)) ∙ part

-- ---- inside a part whose variant is known, and of which what is in its box was read

pub in_any : (g : Guard) (w : Word) (s : PortSet) (b : Box Guard Global) (inner : Guard) (sc : Scope) → g ≡ guard.Any w s b → inner ≡ b.value → guard_placed g sc ≡ true → guard_placed inner (scope_with sc (name_of w)) ≡ true
in_any g w s b inner sc is at e =
    let opened = ap guard_placed (sym (guard.rolls-Any w s b)) ∙ fold-roll-Guard Placing Placing Placing Placing Placing guard_placing port_placing term_placing part_placing sum_placing (Guard-F.Any w s b) in
    let same : guard_placed g ≡ (λ known. guard_placed b.value (scope_with known (name_of w))) = ap guard_placed is ∙ opened in
    rw at (sym (ap (λ (f : Placing). f sc) same) ∙ e)

pub in_all : (g : Guard) (w : Word) (s : PortSet) (b : Box Guard Global) (inner : Guard) (sc : Scope) → g ≡ guard.All w s b → inner ≡ b.value → guard_placed g sc ≡ true → guard_placed inner (scope_with sc (name_of w)) ≡ true
in_all g w s b inner sc is at e =
    let opened = ap guard_placed (sym (guard.rolls-All w s b)) ∙ fold-roll-Guard Placing Placing Placing Placing Placing guard_placing port_placing term_placing part_placing sum_placing (Guard-F.All w s b) in
    let same : guard_placed g ≡ (λ known. guard_placed b.value (scope_with known (name_of w))) = ap guard_placed is ∙ opened in
    rw at (sym (ap (λ (f : Placing). f sc) same) ∙ e)

pub in_first : (p : PortExpr) (w : Word) (s : PortSet) (b : Box Guard Global) (inner : Guard) (sc : Scope) → p ≡ port.First w s b → inner ≡ b.value → port_placed p sc ≡ true → guard_placed inner (scope_with sc (name_of w)) ≡ true
in_first p w s b inner sc is at e =
    let opened = ap port_placed (sym (port.rolls-First w s b)) ∙ fold-roll-PortExpr Placing Placing Placing Placing Placing guard_placing port_placing term_placing part_placing sum_placing (PortExpr-F.First w s b) in
    let same : port_placed p ≡ (λ known. guard_placed b.value (scope_with known (name_of w))) = ap port_placed is ∙ opened in
    rw at (sym (ap (λ (f : Placing). f sc) same) ∙ e)

pub in_count : (t : Term) (w : Word) (s : PortSet) (b : Box Guard Global) (inner : Guard) (sc : Scope) → t ≡ term.Count w s b → inner ≡ b.value → term_placed t sc ≡ true → guard_placed inner (scope_with sc (name_of w)) ≡ true
in_count t w s b inner sc is at e =
    let opened = ap term_placed (sym (term.rolls-Count w s b)) ∙ fold-roll-Term Placing Placing Placing Placing Placing guard_placing port_placing term_placing part_placing sum_placing (Term-F.Count w s b) in
    let same : term_placed t ≡ (λ known. guard_placed b.value (scope_with known (name_of w))) = ap term_placed is ∙ opened in
    rw at (sym (ap (λ (f : Placing). f sc) same) ∙ e)

pub in_turned : (p : PortExpr) (b : Box PortExpr Global) (n : Lit) (inner : PortExpr) (sc : Scope) → p ≡ port.Turn b n → inner ≡ b.value → port_placed p sc ≡ true → port_placed inner sc ≡ true
in_turned p b n inner sc is at e =
    let opened = ap port_placed (sym (port.rolls-Turn b n)) ∙ fold-roll-PortExpr Placing Placing Placing Placing Placing guard_placing port_placing term_placing part_placing sum_placing (PortExpr-F.Turn b n) in
    let same : port_placed p ≡ port_placed b.value = ap port_placed is ∙ opened in
    rw at (sym (ap (λ (f : Placing). f sc) same) ∙ e)

pub in_member : (t : Term) (p : PortExpr) (w : Word) (sc : Scope) → t ≡ term.Of p w → term_placed t sc ≡ true → (port_placed p sc ≡ true) × (is_at_place sc.vars w ≡ true)
in_member t p w sc is e =
    let opened = ap term_placed (sym (term.rolls-Of p w)) ∙ fold-roll-Term Placing Placing Placing Placing Placing guard_placing port_placing term_placing part_placing sum_placing (Term-F.Of p w) in
    let same : term_placed t ≡ (λ known. port_placed p known && is_at_place known.vars w) = ap term_placed is ∙ opened in
    and_parts _ _ (sym (ap (λ (f : Placing). f sc) same) ∙ e)

pub in_for : (t : Stmt) (w : Word) (s : PortSet) (g : Guard) (v : Vec Stmt Global) (sc : Scope) → t ≡ stmt.For w s g v → stmt_placed t sc ≡ true → (guard_placed g (scope_with sc (name_of w)) ≡ true) × (stmts_placed v.items (scope_with sc (name_of w)) ≡ true)
in_for t w s g v sc is e =
    let opened = ap placing_of (sym (stmt.rolls-For w s g v)) ∙ fold-roll-Stmt StmtPlacing stmt_placing (Stmt-F.For w s g v) in
    and_parts _ _ (sym (ap (λ (p : StmtPlacing). p.placed sc) (ap placing_of is ∙ opened)) ∙ e)

pub in_put_of : (t : Stmt) (p : PortExpr) (w : Word) (s : Sum) (sc : Scope) → t ≡ stmt.PutOf p w s → stmt_placed t sc ≡ true → (is_at_place sc.vars w ≡ true) × (sum_placed s sc ≡ true)
in_put_of t p w s sc is e =
    let opened = ap placing_of (sym (stmt.rolls-PutOf p w s)) ∙ fold-roll-Stmt StmtPlacing stmt_placing (Stmt-F.PutOf p w s) in
    and_parts _ _ (and_parts _ _ (sym (ap (λ (q : StmtPlacing). q.placed sc) (ap placing_of is ∙ opened)) ∙ e)).1

-- the guard, and then each part
pub in_if : (t : Stmt) (g : Guard) (v w : Vec Stmt Global) (sc : Scope) → t ≡ stmt.If g v w → stmt_placed t sc ≡ true → (guard_placed g sc ≡ true) × (stmts_placed v.items sc ≡ true) × (stmts_placed w.items sc ≡ true)
in_if t g v w sc is e =
    let opened = ap placing_of (sym (stmt.rolls-If g v w)) ∙ fold-roll-Stmt StmtPlacing stmt_placing (Stmt-F.If g v w) in
    let parts = and_parts _ _ (sym (ap (λ (q : StmtPlacing). q.placed sc) (ap placing_of is ∙ opened)) ∙ e) in
    let lists = and_parts _ _ parts.1 in
    (parts.0, lists.0, lists.1)
