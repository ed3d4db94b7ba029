-- The tree of a value, by its variant and its parts: of one that code matches on or builds. A clause of a function computes so by itself; a proof
-- by hand cites these.
use Rattle.std.proofs.Common.{◌≡◌, Vec, Box, ap, sym, ◌∙◌}
use Rattle.std.specs.declared.alloc.Global.{Global}
use Rattle.amoebot_state.specs.declared.bot.End.{End}
use Rattle.action_tree.specs.declared.word.Word.{Word}
use Rattle.action_tree.specs.declared.word.Lit.{Lit}
use Rattle.action_tree.specs.declared.expression.PortSet.{PortSet}
use Rattle.action_tree.specs.declared.expression.Cmp.{Cmp}
use Rattle.action_tree.specs.declared.expression.DirTerm.{DirTerm}
use Rattle.action_tree.specs.declared.expression.Guard.{Guard}
use Rattle.action_tree.specs.declared.expression.Guard.TheVariants as guard
use Rattle.action_tree.specs.declared.expression.PortExpr.{PortExpr}
use Rattle.action_tree.specs.declared.expression.PortExpr.TheVariants as port
use Rattle.action_tree.specs.declared.expression.Term.TheVariants as term
use Rattle.action_tree.specs.declared.expression.Sum.{Sum, roll-Sum, out-Sum}
use Rattle.action_tree.specs.declared.expression.Part.{Part, roll-Part}
use Rattle.action_tree.specs.declared.expression.Term.{Term}
use Rattle.action_tree.specs.declared.expression.Guard.TheOpen.{Guard-F, PortExpr-F, Term-F, Part-F, Sum-F}
use Rattle.action_tree.specs.declared.expression.Guard.TheFolds.{fold-roll-Guard, fold-roll-PortExpr, fold-roll-Term, fold-roll-Part, fold-roll-Sum, fold_out-Part, fold_out-Sum}
use Rattle.action_tree.specs.declared.statement.Stmt.{Stmt}
use Rattle.action_tree.specs.declared.statement.Stmt.TheVariants as stmt
use Rattle.action_tree.specs.declared.statement.Stmt.TheOpen.{Stmt-F}
use Rattle.action_tree.specs.declared.statement.Stmt.TheFolds.{fold-roll-Stmt}
use Rattle.action_tree.specs.Trees as tree
use Rattle.action_tree.specs.Views.{guard_step, port_step, term_step, part_step, sum_step, stmt_step, name_of, literal_of, dirterm_of, guard_of, guards_of, sum_of, part_of, term_of, port_of, terms_of, stmt_of, stmts_of}

pub guard_contracted : guard_of guard.Contracted ≡ tree.atom tree.contracted
guard_contracted = ap guard_of (sym guard.rolls-Contracted) ∙ fold-roll-Guard tree.Guard tree.PortExpr tree.Term tree.Part tree.Sum guard_step port_step term_step part_step sum_step Guard-F.Contracted

pub guard_not : (b : Box Guard Global) → guard_of (guard.Not b) ≡ tree.negation (guard_of b.value)
guard_not b = ap guard_of (sym (guard.rolls-Not b)) ∙ fold-roll-Guard tree.Guard tree.PortExpr tree.Term tree.Part tree.Sum guard_step port_step term_step part_step sum_step (Guard-F.Not b)

pub guard_and : (v : Vec Guard Global) → guard_of (guard.And v) ≡ tree.conjunction (guards_of v.items)
guard_and v = ap guard_of (sym (guard.rolls-And v)) ∙ fold-roll-Guard tree.Guard tree.PortExpr tree.Term tree.Part tree.Sum guard_step port_step term_step part_step sum_step (Guard-F.And v)

pub guard_or : (v : Vec Guard Global) → guard_of (guard.Or v) ≡ tree.disjunction (guards_of v.items)
guard_or v = ap guard_of (sym (guard.rolls-Or v)) ∙ fold-roll-Guard tree.Guard tree.PortExpr tree.Term tree.Part tree.Sum guard_step port_step term_step part_step sum_step (Guard-F.Or v)

pub guard_any : (w : Word) (s : PortSet) (b : Box Guard Global) → guard_of (guard.Any w s b) ≡ tree.quantified tree.any (name_of w) s (guard_of b.value)
guard_any w s b = ap guard_of (sym (guard.rolls-Any w s b)) ∙ fold-roll-Guard tree.Guard tree.PortExpr tree.Term tree.Part tree.Sum guard_step port_step term_step part_step sum_step (Guard-F.Any w s b)

pub guard_all : (w : Word) (s : PortSet) (b : Box Guard Global) → guard_of (guard.All w s b) ≡ tree.quantified tree.all (name_of w) s (guard_of b.value)
guard_all w s b = ap guard_of (sym (guard.rolls-All w s b)) ∙ fold-roll-Guard tree.Guard tree.PortExpr tree.Term tree.Part tree.Sum guard_step port_step term_step part_step sum_step (Guard-F.All w s b)

pub guard_linked : (p : PortExpr) → guard_of (guard.Linked p) ≡ tree.tested tree.linked (port_of p)
guard_linked p = ap guard_of (sym (guard.rolls-Linked p)) ∙ fold-roll-Guard tree.Guard tree.PortExpr tree.Term tree.Part tree.Sum guard_step port_step term_step part_step sum_step (Guard-F.Linked p)

pub guard_free : (p : PortExpr) → guard_of (guard.Free p) ≡ tree.tested tree.free (port_of p)
guard_free p = ap guard_of (sym (guard.rolls-Free p)) ∙ fold-roll-Guard tree.Guard tree.PortExpr tree.Term tree.Part tree.Sum guard_step port_step term_step part_step sum_step (Guard-F.Free p)

pub guard_at_head : (p : PortExpr) → guard_of (guard.AtHead p) ≡ tree.tested tree.at_head (port_of p)
guard_at_head p = ap guard_of (sym (guard.rolls-AtHead p)) ∙ fold-roll-Guard tree.Guard tree.PortExpr tree.Term tree.Part tree.Sum guard_step port_step term_step part_step sum_step (Guard-F.AtHead p)

pub guard_peer_expanded : (p : PortExpr) → guard_of (guard.PeerExpanded p) ≡ tree.tested tree.peer_expanded (port_of p)
guard_peer_expanded p = ap guard_of (sym (guard.rolls-PeerExpanded p)) ∙ fold-roll-Guard tree.Guard tree.PortExpr tree.Term tree.Part tree.Sum guard_step port_step term_step part_step sum_step (Guard-F.PeerExpanded p)

pub guard_peer_head : (p : PortExpr) → guard_of (guard.PeerHead p) ≡ tree.tested tree.peer_head (port_of p)
guard_peer_head p = ap guard_of (sym (guard.rolls-PeerHead p)) ∙ fold-roll-Guard tree.Guard tree.PortExpr tree.Term tree.Part tree.Sum guard_step port_step term_step part_step sum_step (Guard-F.PeerHead p)

pub guard_compare : (a : Sum) (c : Cmp) (b : Sum) → guard_of (guard.Compare a c b) ≡ tree.comparison (sum_of a) c (sum_of b)
guard_compare a c b = ap guard_of (sym (guard.rolls-Compare a c b)) ∙ fold-roll-Guard tree.Guard tree.PortExpr tree.Term tree.Part tree.Sum guard_step port_step term_step part_step sum_step (Guard-F.Compare a c b)

pub term_number : (n : Lit) → term_of (term.Number n) ≡ tree.number (literal_of n)
term_number n = ap term_of (sym (term.rolls-Number n)) ∙ fold-roll-Term tree.Guard tree.PortExpr tree.Term tree.Part tree.Sum guard_step port_step term_step part_step sum_step (Term-F.Number n)

pub term_own : (w : Word) → term_of (term.Own w) ≡ tree.own (name_of w)
term_own w = ap term_of (sym (term.rolls-Own w)) ∙ fold-roll-Term tree.Guard tree.PortExpr tree.Term tree.Part tree.Sum guard_step port_step term_step part_step sum_step (Term-F.Own w)

pub term_member : (p : PortExpr) (w : Word) → term_of (term.Of p w) ≡ tree.of_port (port_of p) (name_of w)
term_member p w = ap term_of (sym (term.rolls-Of p w)) ∙ fold-roll-Term tree.Guard tree.PortExpr tree.Term tree.Part tree.Sum guard_step port_step term_step part_step sum_step (Term-F.Of p w)

pub term_count : (w : Word) (s : PortSet) (b : Box Guard Global) → term_of (term.Count w s b) ≡ tree.count (name_of w) s (guard_of b.value)
term_count w s b = ap term_of (sym (term.rolls-Count w s b)) ∙ fold-roll-Term tree.Guard tree.PortExpr tree.Term tree.Part tree.Sum guard_step port_step term_step part_step sum_step (Term-F.Count w s b)

pub term_dir : (p : PortExpr) → term_of (term.Dir p) ≡ tree.direction tree.own_side (port_of p)
term_dir p = ap term_of (sym (term.rolls-Dir p)) ∙ fold-roll-Term tree.Guard tree.PortExpr tree.Term tree.Part tree.Sum guard_step port_step term_step part_step sum_step (Term-F.Dir p)

pub term_peer_dir : (p : PortExpr) → term_of (term.PeerDir p) ≡ tree.direction tree.peer_side (port_of p)
term_peer_dir p = ap term_of (sym (term.rolls-PeerDir p)) ∙ fold-roll-Term tree.Guard tree.PortExpr tree.Term tree.Part tree.Sum guard_step port_step term_step part_step sum_step (Term-F.PeerDir p)

pub term_inner : term_of term.Inner ≡ tree.inner
term_inner = ap term_of (sym term.rolls-Inner) ∙ fold-roll-Term tree.Guard tree.PortExpr tree.Term tree.Part tree.Sum guard_step port_step term_step part_step sum_step Term-F.Inner

pub term_mod6 : (s : Sum) → term_of (term.Mod6 s) ≡ tree.mod6 (sum_of s)
term_mod6 s = ap term_of (sym (term.rolls-Mod6 s)) ∙ fold-roll-Term tree.Guard tree.PortExpr tree.Term tree.Part tree.Sum guard_step port_step term_step part_step sum_step (Term-F.Mod6 s)

pub port_name : (w : Word) → port_of (port.Name w) ≡ tree.bound (name_of w)
port_name w = ap port_of (sym (port.rolls-Name w)) ∙ fold-roll-PortExpr tree.Guard tree.PortExpr tree.Term tree.Part tree.Sum guard_step port_step term_step part_step sum_step (PortExpr-F.Name w)

pub port_at : (e : End) (d : DirTerm) → port_of (port.At e d) ≡ tree.at_end e (dirterm_of d)
port_at e d = ap port_of (sym (port.rolls-At e d)) ∙ fold-roll-PortExpr tree.Guard tree.PortExpr tree.Term tree.Part tree.Sum guard_step port_step term_step part_step sum_step (PortExpr-F.At e d)

pub port_turn : (b : Box PortExpr Global) (n : Lit) → port_of (port.Turn b n) ≡ tree.turned (port_of b.value) (literal_of n)
port_turn b n = ap port_of (sym (port.rolls-Turn b n)) ∙ fold-roll-PortExpr tree.Guard tree.PortExpr tree.Term tree.Part tree.Sum guard_step port_step term_step part_step sum_step (PortExpr-F.Turn b n)

pub port_first : (w : Word) (s : PortSet) (b : Box Guard Global) → port_of (port.First w s b) ≡ tree.first (name_of w) s (guard_of b.value)
port_first w s b = ap port_of (sym (port.rolls-First w s b)) ∙ fold-roll-PortExpr tree.Guard tree.PortExpr tree.Term tree.Part tree.Sum guard_step port_step term_step part_step sum_step (PortExpr-F.First w s b)

pub part_built : (p : Part-F Guard PortExpr Term Part Sum) → part_of (roll-Part p) ≡ record { minus = p.minus; term = term_of p.term }
part_built p = fold-roll-Part tree.Guard tree.PortExpr tree.Term tree.Part tree.Sum guard_step port_step term_step part_step sum_step p

pub sum_built : (s : Sum-F Guard PortExpr Term Part Sum) → sum_of (roll-Sum s) ≡ terms_of s.parts.items
sum_built s = fold-roll-Sum tree.Guard tree.PortExpr tree.Term tree.Part tree.Sum guard_step port_step term_step part_step sum_step s

pub part_opened : (p : Part) → part_of p ≡ record { minus = p.minus; term = term_of p.term }
part_opened = fold_out-Part tree.Guard tree.PortExpr tree.Term tree.Part tree.Sum guard_step port_step term_step part_step sum_step

pub sum_opened : (s : Sum) → sum_of s ≡ terms_of (out-Sum s).parts.items
sum_opened = fold_out-Sum tree.Guard tree.PortExpr tree.Term tree.Part tree.Sum guard_step port_step term_step part_step sum_step

-- ---- statements

pub stmt_put : (w : Word) (s : Sum) → stmt_of (stmt.Put w s) ≡ tree.put (name_of w) (sum_of s)
stmt_put w s = ap stmt_of (sym (stmt.rolls-Put w s)) ∙ fold-roll-Stmt tree.Stmt stmt_step (Stmt-F.Put w s)

pub stmt_put_of : (p : PortExpr) (w : Word) (s : Sum) → stmt_of (stmt.PutOf p w s) ≡ tree.put_of (port_of p) (name_of w) (sum_of s)
stmt_put_of p w s = ap stmt_of (sym (stmt.rolls-PutOf p w s)) ∙ fold-roll-Stmt tree.Stmt stmt_step (Stmt-F.PutOf p w s)

pub stmt_let : (w : Word) (p : PortExpr) → stmt_of (stmt.Let w p) ≡ tree.let_be (name_of w) (port_of p)
stmt_let w p = ap stmt_of (sym (stmt.rolls-Let w p)) ∙ fold-roll-Stmt tree.Stmt stmt_step (Stmt-F.Let w p)

pub stmt_if : (g : Guard) (v w : Vec Stmt Global) → stmt_of (stmt.If g v w) ≡ tree.if_then (guard_of g) (stmts_of v.items) (stmts_of w.items)
stmt_if g v w = ap stmt_of (sym (stmt.rolls-If g v w)) ∙ fold-roll-Stmt tree.Stmt stmt_step (Stmt-F.If g v w)

pub stmt_for : (w : Word) (s : PortSet) (g : Guard) (v : Vec Stmt Global) → stmt_of (stmt.For w s g v) ≡ tree.for_each (name_of w) s (guard_of g) (stmts_of v.items)
stmt_for w s g v = ap stmt_of (sym (stmt.rolls-For w s g v)) ∙ fold-roll-Stmt tree.Stmt stmt_step (Stmt-F.For w s g v)
