-- The tree of a value whose variant is known, and of which the part in its box was read.
use Rattle.std.proofs.Common.{◌≡◌, Box}
use Rattle.std.specs.declared.alloc.Global.{Global}
use Rattle.action_tree.specs.declared.word.Word.{Word}
use Rattle.action_tree.specs.declared.expression.PortSet.{PortSet}
use Rattle.action_tree.specs.declared.expression.Guard.{Guard}
use Rattle.action_tree.specs.declared.expression.Guard.TheVariants as guard
use Rattle.action_tree.specs.declared.expression.PortExpr.{PortExpr}
use Rattle.action_tree.specs.declared.expression.PortExpr.TheVariants as port
use Rattle.action_tree.specs.declared.expression.Term.{Term}
use Rattle.action_tree.specs.declared.expression.Term.TheVariants as term
use Rattle.action_tree.specs.Trees as tree
use Rattle.action_tree.specs.Views.{name_of, guard_of, port_of, term_of}
use Rattle.action_tree.proofs.Viewed.{guard_any, guard_all, term_member, term_count, port_first}

pub any_tree : (g : Guard) (w : Word) (s : PortSet) (b : Box Guard Global) (inner : Guard) → g ≡ guard.Any w s b → inner ≡ b.value → guard_of g ≡ tree.quantified tree.any (name_of w) s (guard_of inner)
any_tree g w s b inner is at = rw (is, at) (guard_any w s b)

pub all_tree : (g : Guard) (w : Word) (s : PortSet) (b : Box Guard Global) (inner : Guard) → g ≡ guard.All w s b → inner ≡ b.value → guard_of g ≡ tree.quantified tree.all (name_of w) s (guard_of inner)
all_tree g w s b inner is at = rw (is, at) (guard_all w s b)

pub first_tree : (p : PortExpr) (w : Word) (s : PortSet) (b : Box Guard Global) (inner : Guard) → p ≡ port.First w s b → inner ≡ b.value → port_of p ≡ tree.first (name_of w) s (guard_of inner)
first_tree p w s b inner is at = rw (is, at) (port_first w s b)

pub count_tree : (t : Term) (w : Word) (s : PortSet) (b : Box Guard Global) (inner : Guard) → t ≡ term.Count w s b → inner ≡ b.value → term_of t ≡ tree.count (name_of w) s (guard_of inner)
count_tree t w s b inner is at = rw (is, at) (term_count w s b)

pub member_tree : (t : Term) (p : PortExpr) (w : Word) → t ≡ term.Of p w → term_of t ≡ tree.of_port (port_of p) (name_of w)
member_tree t p w is = rw is (term_member p w)
