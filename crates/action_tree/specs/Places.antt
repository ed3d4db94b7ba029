-- The place that each name of a program has in the code: of a variable, among the variables;
-- of a name that stands for a port, among the names in force there.
-- The place is how many names come before the first that is spelled so, of all of them if none is.
-- The trees know nothing of places, so this is asked of the values of the code.
use Rattle.std.specs.Prelude.{ℕ, Bool, true, ◌&&◌, ◌==◌, List, [], ◌∷◌, map}
use Rattle.std.specs.List.{list_all, position_or_len}
use Rattle.std.specs.Str.{bytes_eq}
use Rattle.action_tree.specs.declared.word.Word.{Word}
use Rattle.action_tree.specs.declared.expression.DirTerm as directions
use Rattle.action_tree.specs.declared.expression.DirTerm.TheVariants as dirterm
use Rattle.action_tree.specs.declared.expression.Guard as guard
use Rattle.action_tree.specs.declared.expression.Guard.TheOpen.{Guard-F, PortExpr-F, Term-F, Part-F, Sum-F}
use Rattle.action_tree.specs.declared.expression.Guard.TheFolds.{fold-Guard, fold-PortExpr, fold-Term, fold-Part, fold-Sum}
use Rattle.action_tree.specs.declared.expression.PortExpr as port
use Rattle.action_tree.specs.declared.expression.Term as term
use Rattle.action_tree.specs.declared.expression.Part as part
use Rattle.action_tree.specs.declared.expression.Sum as sum
use Rattle.action_tree.specs.declared.statement.Stmt as stmt
use Rattle.action_tree.specs.declared.statement.Stmt.TheOpen.{Stmt-F}
use Rattle.action_tree.specs.declared.statement.Stmt.TheFolds.{fold-Stmt}
use Rattle.action_tree.specs.declared.statement.Move as move
use Rattle.action_tree.specs.declared.statement.Move.TheVariants as movement
use Rattle.action_tree.specs.declared.program.Action.{Action}
use Rattle.action_tree.specs.Scopes.{Scope, scope_with, scope_after_all}
use Rattle.action_tree.specs.Views.{name_of, stmts_of}

-- how many names come before the first that is spelled so
abbrev pub place_among : List (List ℕ) → List ℕ → ℕ
place_among names text = position_or_len (λ name. bytes_eq name text) names

abbrev pub is_at_place : List (List ℕ) → Word → Bool
is_at_place names w = w.place == place_among names w.text.bytes

abbrev pub dirterm_placed : directions.DirTerm → Scope → Bool
dirterm_placed (dirterm.Number n) sc = true
dirterm_placed (dirterm.Own w) sc = is_at_place sc.vars w

-- ---- guards, ports and sums: one level of each, where it is known of what is inside
-- whether its names have their places

-- whether the names of a part have their places, by what is known where it stands
abbrev pub Placing : Type 0
Placing = Scope → Bool

abbrev pub guard_placing : Guard-F Placing Placing Placing Placing Placing → Placing
guard_placing Guard-F.True sc = true
guard_placing Guard-F.False sc = true
guard_placing Guard-F.Contracted sc = true
guard_placing Guard-F.Expanded sc = true
guard_placing (Guard-F.Not b) sc = b.value sc
guard_placing (Guard-F.And v) sc = list_all (λ placed. placed sc) v.items
guard_placing (Guard-F.Or v) sc = list_all (λ placed. placed sc) v.items
guard_placing (Guard-F.Any w s b) sc = b.value (scope_with sc (name_of w))
guard_placing (Guard-F.All w s b) sc = b.value (scope_with sc (name_of w))
guard_placing (Guard-F.Linked p) sc = p sc
guard_placing (Guard-F.Free p) sc = p sc
guard_placing (Guard-F.AtHead p) sc = p sc
guard_placing (Guard-F.PeerExpanded p) sc = p sc
guard_placing (Guard-F.PeerHead p) sc = p sc
guard_placing (Guard-F.Compare a c b) sc = a sc && b sc

abbrev pub port_placing : PortExpr-F Placing Placing Placing Placing Placing → Placing
port_placing (PortExpr-F.Name w) sc = is_at_place sc.bound w
port_placing (PortExpr-F.At e d) sc = dirterm_placed d sc
port_placing (PortExpr-F.Turn b n) sc = b.value sc
port_placing (PortExpr-F.First w s b) sc = b.value (scope_with sc (name_of w))

abbrev pub term_placing : Term-F Placing Placing Placing Placing Placing → Placing
term_placing (Term-F.Number n) sc = true
term_placing (Term-F.Own w) sc = is_at_place sc.vars w
term_placing (Term-F.Of p w) sc = p sc && is_at_place sc.vars w
term_placing (Term-F.Count w s b) sc = b.value (scope_with sc (name_of w))
term_placing (Term-F.Dir p) sc = p sc
term_placing (Term-F.PeerDir p) sc = p sc
term_placing Term-F.Inner sc = true
term_placing (Term-F.Mod6 s) sc = s sc

abbrev pub part_placing : Part-F Placing Placing Placing Placing Placing → Placing
part_placing p sc = p.term sc

abbrev pub sum_placing : Sum-F Placing Placing Placing Placing Placing → Placing
sum_placing s sc = list_all (λ placed. placed sc) s.parts.items

abbrev pub guard_placed : guard.Guard → Placing
guard_placed = fold-Guard Placing Placing Placing Placing Placing
    guard_placing port_placing term_placing part_placing sum_placing

abbrev pub port_placed : port.PortExpr → Placing
port_placed = fold-PortExpr Placing Placing Placing Placing Placing
    guard_placing port_placing term_placing part_placing sum_placing

abbrev pub term_placed : term.Term → Placing
term_placed = fold-Term Placing Placing Placing Placing Placing
    guard_placing port_placing term_placing part_placing sum_placing

abbrev pub part_placed : part.Part → Placing
part_placed = fold-Part Placing Placing Placing Placing Placing
    guard_placing port_placing term_placing part_placing sum_placing

abbrev pub sum_placed : sum.Sum → Placing
sum_placed = fold-Sum Placing Placing Placing Placing Placing
    guard_placing port_placing term_placing part_placing sum_placing

-- each of a list
abbrev pub guards_placed : List guard.Guard → Placing
guards_placed gs sc = list_all (λ placed. placed sc) (map guard_placed gs)

abbrev pub parts_placed : List part.Part → Placing
parts_placed ps sc = list_all (λ placed. placed sc) (map part_placed ps)

-- ---- statements, and the movement

-- of a statement: whether its names have their places, and what is known behind it
pub record StmtPlacing : Type 0 where
  pub placed : Placing
  pub behind : Scope → Scope

-- each of a list, where what is known is what the one before leaves
abbrev pub in_turn : List StmtPlacing → Placing
in_turn [] sc = true
in_turn (s ∷ ss) sc = s.placed sc && in_turn ss (s.behind sc)

abbrev pub stmt_placing : Stmt-F StmtPlacing → StmtPlacing
stmt_placing (Stmt-F.Put w s) =
    record { placed = λ sc. is_at_place sc.vars w && sum_placed s sc; behind = λ sc. sc }
stmt_placing (Stmt-F.PutOf p w s) =
    record {
      placed = λ sc. port_placed p sc && (is_at_place sc.vars w && sum_placed s sc);
      behind = λ sc. sc;
    }
stmt_placing (Stmt-F.Let w p) = record { placed = port_placed p; behind = λ sc. scope_with sc (name_of w) }
stmt_placing (Stmt-F.If g v w) =
    record {
      placed = λ sc. guard_placed g sc && (in_turn v.items sc && in_turn w.items sc);
      behind = λ sc. sc;
    }
stmt_placing (Stmt-F.For w s g v) =
    record {
      placed = λ sc.
          guard_placed g (scope_with sc (name_of w)) && in_turn v.items (scope_with sc (name_of w));
      behind = λ sc. sc;
    }

abbrev pub placing_of : stmt.Stmt → StmtPlacing
placing_of = fold-Stmt StmtPlacing stmt_placing

abbrev pub stmt_placed : stmt.Stmt → Placing
stmt_placed s = (placing_of s).placed

abbrev pub stmts_placed : List stmt.Stmt → Placing
stmts_placed ss = in_turn (map placing_of ss)

abbrev pub move_placed : move.Move → Placing
move_placed movement.None sc = true
move_placed (movement.Expand p) sc = port_placed p sc
move_placed (movement.Contract e) sc = true
move_placed (movement.Push p) sc = port_placed p sc
move_placed (movement.Pull p) sc = port_placed p sc

-- ---- actions

abbrev pub action_placed : Action → Placing
action_placed a sc =
    guard_placed a.guard sc
    && (stmts_placed a.body.items sc && move_placed a.moved (scope_after_all sc (stmts_of a.body.items)))

abbrev pub actions_placed : List Action → Placing
actions_placed actions sc = list_all (λ placed. placed sc) (map action_placed actions)
