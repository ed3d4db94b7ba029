-- The trees that values stand for.
-- A `Vec` is seen as its list, a `Box` as what is in it, a word as its bytes.
use Rattle.std.specs.Prelude.{Bool, List, map}
use Rattle.action_tree.specs.declared.word.Word.{Word}
use Rattle.action_tree.specs.declared.word.Lit.{Lit}
use Rattle.action_tree.specs.declared.expression.DirTerm as directions
use Rattle.action_tree.specs.declared.expression.DirTerm.TheVariants as dirterm
use Rattle.action_tree.specs.declared.expression.Guard as guard
use Rattle.action_tree.specs.declared.expression.Guard.TheOpen.{Guard-F, PortExpr-F, Term-F, Part-F, Sum-F}
use Rattle.action_tree.specs.declared.expression.Guard.TheFolds.{fold-Guard, fold-PortExpr, fold-Term, fold-Part, fold-Sum}
use Rattle.action_tree.specs.declared.expression.PortExpr as port
use Rattle.action_tree.specs.declared.expression.Term as term
use Rattle.action_tree.specs.declared.expression.Part as part
use Rattle.action_tree.specs.declared.expression.Sum as sum
use Rattle.action_tree.specs.declared.statement.Stmt as stmt
use Rattle.action_tree.specs.declared.statement.Stmt.TheOpen.{Stmt-F}
use Rattle.action_tree.specs.declared.statement.Stmt.TheFolds.{fold-Stmt}
use Rattle.action_tree.specs.declared.statement.Move as move
use Rattle.action_tree.specs.declared.statement.Move.TheVariants as movement
use Rattle.action_tree.specs.declared.program.Var.{Var}
use Rattle.action_tree.specs.declared.program.Action.{Action}
use Rattle.action_tree.specs.Trees as tree
use Rattle.action_tree.specs.Trees.{guards, terms, stmts}

abbrev pub name_of : Word → tree.Name
name_of w = record { text = w.text.bytes; line = w.line }

abbrev pub literal_of : Lit → tree.Literal
literal_of n = record { value = n.value; line = n.line }

abbrev pub dirterm_of : directions.DirTerm → tree.DirTerm
dirterm_of (dirterm.Number n) = tree.fixed (literal_of n)
dirterm_of (dirterm.Own w) = tree.held (name_of w)

-- ---- guards, ports and sums: one level of each, with what is inside already seen as its tree

abbrev pub guard_step : Guard-F tree.Guard tree.PortExpr tree.Term tree.Part tree.Sum → tree.Guard
guard_step Guard-F.True = tree.atom tree.always
guard_step Guard-F.False = tree.atom tree.never
guard_step Guard-F.Contracted = tree.atom tree.contracted
guard_step Guard-F.Expanded = tree.atom tree.expanded
guard_step (Guard-F.Not b) = tree.negation b.value
guard_step (Guard-F.And v) = tree.conjunction (guards v.items)
guard_step (Guard-F.Or v) = tree.disjunction (guards v.items)
guard_step (Guard-F.Any w s b) = tree.quantified tree.any (name_of w) s b.value
guard_step (Guard-F.All w s b) = tree.quantified tree.all (name_of w) s b.value
guard_step (Guard-F.Linked p) = tree.tested tree.linked p
guard_step (Guard-F.Free p) = tree.tested tree.free p
guard_step (Guard-F.AtHead p) = tree.tested tree.at_head p
guard_step (Guard-F.PeerExpanded p) = tree.tested tree.peer_expanded p
guard_step (Guard-F.PeerHead p) = tree.tested tree.peer_head p
guard_step (Guard-F.Compare a c b) = tree.comparison a c b

abbrev pub port_step : PortExpr-F tree.Guard tree.PortExpr tree.Term tree.Part tree.Sum → tree.PortExpr
port_step (PortExpr-F.Name w) = tree.bound (name_of w)
port_step (PortExpr-F.At e d) = tree.at_end e (dirterm_of d)
port_step (PortExpr-F.Turn b n) = tree.turned b.value (literal_of n)
port_step (PortExpr-F.First w s b) = tree.first (name_of w) s b.value

abbrev pub term_step : Term-F tree.Guard tree.PortExpr tree.Term tree.Part tree.Sum → tree.Term
term_step (Term-F.Number n) = tree.number (literal_of n)
term_step (Term-F.Own w) = tree.own (name_of w)
term_step (Term-F.Of p w) = tree.of_port p (name_of w)
term_step (Term-F.Count w s b) = tree.count (name_of w) s b.value
term_step (Term-F.Dir p) = tree.direction tree.own_side p
term_step (Term-F.PeerDir p) = tree.direction tree.peer_side p
term_step Term-F.Inner = tree.inner
term_step (Term-F.Mod6 s) = tree.mod6 s

abbrev pub part_step : Part-F tree.Guard tree.PortExpr tree.Term tree.Part tree.Sum → tree.Part
part_step p = record { minus = p.minus; term = p.term }

abbrev pub sum_step : Sum-F tree.Guard tree.PortExpr tree.Term tree.Part tree.Sum → tree.Sum
sum_step s = terms s.parts.items

abbrev pub guard_of : guard.Guard → tree.Guard
guard_of = fold-Guard tree.Guard tree.PortExpr tree.Term tree.Part
    tree.Sum guard_step port_step term_step part_step sum_step

abbrev pub port_of : port.PortExpr → tree.PortExpr
port_of =
    fold-PortExpr tree.Guard tree.PortExpr tree.Term tree.Part
    tree.Sum guard_step port_step term_step part_step
    sum_step

abbrev pub term_of : term.Term → tree.Term
term_of = fold-Term tree.Guard tree.PortExpr tree.Term tree.Part
    tree.Sum guard_step port_step term_step part_step sum_step

abbrev pub part_of : part.Part → tree.Part
part_of = fold-Part tree.Guard tree.PortExpr tree.Term tree.Part
    tree.Sum guard_step port_step term_step part_step sum_step

abbrev pub sum_of : sum.Sum → tree.Sum
sum_of = fold-Sum tree.Guard tree.PortExpr tree.Term tree.Part
    tree.Sum guard_step port_step term_step part_step sum_step

-- a list of each
abbrev pub guards_of : List guard.Guard → tree.Guards
guards_of gs = guards (map guard_of gs)

abbrev pub terms_of : List part.Part → tree.Sum
terms_of ps = terms (map part_of ps)

-- ---- statements, and the movement

abbrev pub stmt_step : Stmt-F tree.Stmt → tree.Stmt
stmt_step (Stmt-F.Put w s) = tree.put (name_of w) (sum_of s)
stmt_step (Stmt-F.PutOf p w s) = tree.put_of (port_of p) (name_of w) (sum_of s)
stmt_step (Stmt-F.Let w p) = tree.let_be (name_of w) (port_of p)
stmt_step (Stmt-F.If g v w) = tree.if_then (guard_of g) (stmts v.items) (stmts w.items)
stmt_step (Stmt-F.For w s g v) = tree.for_each (name_of w) s (guard_of g) (stmts v.items)

abbrev pub stmt_of : stmt.Stmt → tree.Stmt
stmt_of = fold-Stmt tree.Stmt stmt_step

abbrev pub stmts_of : List stmt.Stmt → tree.Stmts
stmts_of ss = stmts (map stmt_of ss)

abbrev pub move_of : move.Move → tree.Move
move_of movement.None = tree.no_move
move_of (movement.Expand p) = tree.through tree.expand (port_of p)
move_of (movement.Contract e) = tree.contract e
move_of (movement.Push p) = tree.through tree.push (port_of p)
move_of (movement.Pull p) = tree.through tree.pull (port_of p)

-- ---- programs

abbrev pub var_of : Var → tree.Var
var_of v = record { name = name_of v.name; max = literal_of v.max }

abbrev pub action_of : Action → tree.Action
action_of a =
    record {
      name = name_of a.name;
      guard = guard_of a.guard;
      body = stmts_of a.body.items;
      moved = move_of a.moved;
    }

abbrev pub program_of : Bool → List Var → List Action → tree.Program
program_of guarded vs actions =
    record { guard = guarded; vars = map var_of vs; actions = map action_of actions }
