-- Parts of guards, sums and ports are smaller than what they are parts of.
use Rattle.std.proofs.Common.{◌≡◌, ◌<◌, ℕ, List, length, get_or, ap, arith}
use denote.Param.Weighed.{at_most}
use Rattle.action_tree.specs.declared.word.Word.{Word}
use Rattle.action_tree.specs.declared.word.Lit.{Lit}
use Rattle.action_tree.specs.declared.expression.PortSet.{PortSet}
use Rattle.action_tree.specs.declared.expression.Guard as code
use Rattle.action_tree.specs.declared.expression.Guard.TheViews.{sized-Any, sized-All, sized-Count, sized-First, sized-Turn, sized-Of, size_is-Sum, size_is-Part}
use Rattle.action_tree.specs.declared.expression.PortExpr as ports
use Rattle.action_tree.specs.declared.expression.Term as terms
use Rattle.action_tree.specs.declared.expression.Sum.{Sum, out-Sum}
use Rattle.action_tree.specs.declared.expression.Part.{Part}
use Rattle.action_tree.proofs.expression.Guard.TheLaws.{the_size}
use Rattle.action_tree.proofs.expression.PortExpr.TheLaws.{the_size as port_size}
use Rattle.action_tree.proofs.expression.Term.TheLaws.{the_size as term_size}
use Rattle.action_tree.proofs.expression.Part.TheLaws.{the_size as part_size}
use Rattle.action_tree.proofs.expression.Sum.TheLaws.{the_size as sum_size}

pub guard_in_any : (w : Word) (s : PortSet) (b : _) → the_size b.value < the_size (code.Any w s b)
guard_in_any w s b = omega (arith, sized-Any w s b)

pub guard_in_all : (w : Word) (s : PortSet) (b : _) → the_size b.value < the_size (code.All w s b)
guard_in_all w s b = omega (arith, sized-All w s b)

pub guard_in_count : (w : Word) (s : PortSet) (b : _) → the_size b.value < term_size (terms.Count w s b)
guard_in_count w s b = omega (arith, sized-Count w s b)

pub guard_in_first : (w : Word) (s : PortSet) (b : _) → the_size b.value < port_size (ports.First w s b)
guard_in_first w s b = omega (arith, sized-First w s b)

pub port_in_turn : (b : _) (n : Lit) → port_size b.value < port_size (ports.Turn b n)
port_in_turn b n = omega (arith, sized-Turn b n)

pub port_in_term : (p : ports.PortExpr) (w : Word) → port_size p < term_size (terms.Of p w)
port_in_term p w = omega (arith, sized-Of p w)

pub term_in_sum : (s : Sum) (ps : List Part) (i : ℕ) (p : Part) → ps ≡ (out-Sum s).parts.items → i < length ps → p ≡ get_or ps i p → term_size p.term < sum_size s
term_in_sum s ps i p parts l is =
    let among = at_most part_size ps i p l in
    let same = ap part_size is in
    let items = ap (denote.Param.Weighed.most part_size) parts in
    omega (arith, among, same, items, size_is-Sum s, size_is-Part p)
