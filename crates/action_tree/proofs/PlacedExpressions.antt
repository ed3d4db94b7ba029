-- A guard, a port or a term that is built again, of parts with the same trees whose names have their places.
-- It has the same tree, and its names have their places.
use Rattle.std.proofs.Common.{◌≡◌, ◌∙◌, Vec, Box, true, ap, sym}
use Rattle.std.proofs.lemmas.Bool.{and_from}
use Rattle.std.specs.declared.alloc.Global.{Global}
use Rattle.amoebot_state.specs.declared.bot.End.{End}
use Rattle.action_tree.specs.declared.word.Word.{Word}
use Rattle.action_tree.specs.declared.word.Lit.{Lit}
use Rattle.action_tree.specs.declared.expression.PortSet.{PortSet}
use Rattle.action_tree.specs.declared.expression.Cmp.{Cmp}
use Rattle.action_tree.specs.declared.expression.DirTerm.{DirTerm}
use Rattle.action_tree.specs.declared.expression.Guard.{Guard}
use Rattle.action_tree.specs.declared.expression.Guard.TheVariants as guard
use Rattle.action_tree.specs.declared.expression.PortExpr.{PortExpr}
use Rattle.action_tree.specs.declared.expression.PortExpr.TheVariants as port
use Rattle.action_tree.specs.declared.expression.Sum.{Sum}
use Rattle.action_tree.specs.declared.expression.Term.{Term}
use Rattle.action_tree.specs.declared.expression.Term.TheVariants as term
use Rattle.action_tree.specs.declared.expression.Guard.TheOpen.{Guard-F, PortExpr-F, Term-F}
use Rattle.action_tree.specs.declared.expression.Guard.TheFolds.{fold-roll-Guard, fold-roll-PortExpr, fold-roll-Term}
use Rattle.action_tree.specs.Places.{Placing, guard_placing, port_placing, term_placing, part_placing, sum_placing, is_at_place, dirterm_placed, guard_placed, guards_placed, port_placed, term_placed, sum_placed}
use Rattle.action_tree.specs.Scopes.{Scope, scope_with}
use Rattle.action_tree.specs.Views.{name_of, dirterm_of, guard_of, guards_of, port_of, term_of, sum_of}
use Rattle.action_tree.proofs.Viewed.{guard_not, guard_and, guard_or, guard_any, guard_all, guard_linked, guard_free, guard_at_head, guard_peer_expanded, guard_peer_head, guard_compare, term_own, term_member, term_count, term_dir, term_peer_dir, term_mod6, port_name, port_at, port_turn, port_first}

pub and_same : (s : Guard) (v x : Vec Guard Global) → s ≡ guard.And v → guards_of x.items ≡ guards_of v.items → guard_of (guard.And x) ≡ guard_of s
and_same s v x is same = let old = guard_and v in let new = guard_and x in cc

pub or_same : (s : Guard) (v x : Vec Guard Global) → s ≡ guard.Or v → guards_of x.items ≡ guards_of v.items → guard_of (guard.Or x) ≡ guard_of s
or_same s v x is same = let old = guard_or v in let new = guard_or x in cc

pub any_same : (s : Guard) (w : Word) (p : PortSet) (a b : Box Guard Global) → s ≡ guard.Any w p a → guard_of b.value ≡ guard_of a.value → guard_of (guard.Any w p b) ≡ guard_of s
any_same s w p a b is same = let old = guard_any w p a in let new = guard_any w p b in cc

pub all_same : (s : Guard) (w : Word) (p : PortSet) (a b : Box Guard Global) → s ≡ guard.All w p a → guard_of b.value ≡ guard_of a.value → guard_of (guard.All w p b) ≡ guard_of s
all_same s w p a b is same = let old = guard_all w p a in let new = guard_all w p b in cc

pub compare_same : (s : Guard) (a b x y : Sum) (c : Cmp) → s ≡ guard.Compare a c b → sum_of x ≡ sum_of a → sum_of y ≡ sum_of b → guard_of (guard.Compare x c y) ≡ guard_of s
compare_same s a b x y c is left right = let old = guard_compare a c b in let new = guard_compare x c y in cc

pub and_placed : (v : Vec Guard Global) (sc : Scope) → guards_placed v.items sc ≡ true → guard_placed (guard.And v) sc ≡ true
and_placed v sc fine =
    ap (λ (f : Placing). f sc) (ap guard_placed (sym (guard.rolls-And v)) ∙ fold-roll-Guard Placing Placing Placing Placing Placing guard_placing port_placing term_placing part_placing sum_placing (Guard-F.And v)) ∙ fine

pub or_placed : (v : Vec Guard Global) (sc : Scope) → guards_placed v.items sc ≡ true → guard_placed (guard.Or v) sc ≡ true
or_placed v sc fine =
    ap (λ (f : Placing). f sc) (ap guard_placed (sym (guard.rolls-Or v)) ∙ fold-roll-Guard Placing Placing Placing Placing Placing guard_placing port_placing term_placing part_placing sum_placing (Guard-F.Or v)) ∙ fine

pub any_placed : (w : Word) (p : PortSet) (b : Box Guard Global) (sc : Scope) → guard_placed b.value (scope_with sc (name_of w)) ≡ true → guard_placed (guard.Any w p b) sc ≡ true
any_placed w p b sc fine =
    ap (λ (f : Placing). f sc) (ap guard_placed (sym (guard.rolls-Any w p b)) ∙ fold-roll-Guard Placing Placing Placing Placing Placing guard_placing port_placing term_placing part_placing sum_placing (Guard-F.Any w p b)) ∙ fine

pub all_placed : (w : Word) (p : PortSet) (b : Box Guard Global) (sc : Scope) → guard_placed b.value (scope_with sc (name_of w)) ≡ true → guard_placed (guard.All w p b) sc ≡ true
all_placed w p b sc fine =
    ap (λ (f : Placing). f sc) (ap guard_placed (sym (guard.rolls-All w p b)) ∙ fold-roll-Guard Placing Placing Placing Placing Placing guard_placing port_placing term_placing part_placing sum_placing (Guard-F.All w p b)) ∙ fine

pub compare_placed : (a : Sum) (c : Cmp) (b : Sum) (sc : Scope) → sum_placed a sc ≡ true → sum_placed b sc ≡ true → guard_placed (guard.Compare a c b) sc ≡ true
compare_placed a c b sc left right =
    ap (λ (f : Placing). f sc) (ap guard_placed (sym (guard.rolls-Compare a c b)) ∙ fold-roll-Guard Placing Placing Placing Placing Placing guard_placing port_placing term_placing part_placing sum_placing (Guard-F.Compare a c b)) ∙ and_from _ _ left right

pub linked_same : (s : Guard) (p q : PortExpr) → s ≡ guard.Linked p → port_of q ≡ port_of p → guard_of (guard.Linked q) ≡ guard_of s
linked_same s p q is same = let old = guard_linked p in let new = guard_linked q in cc

pub linked_placed : (p : PortExpr) (sc : Scope) → port_placed p sc ≡ true → guard_placed (guard.Linked p) sc ≡ true
linked_placed p sc fine =
    ap (λ (f : Placing). f sc) (ap guard_placed (sym (guard.rolls-Linked p)) ∙ fold-roll-Guard Placing Placing Placing Placing Placing guard_placing port_placing term_placing part_placing sum_placing (Guard-F.Linked p)) ∙ fine

pub free_same : (s : Guard) (p q : PortExpr) → s ≡ guard.Free p → port_of q ≡ port_of p → guard_of (guard.Free q) ≡ guard_of s
free_same s p q is same = let old = guard_free p in let new = guard_free q in cc

pub free_placed : (p : PortExpr) (sc : Scope) → port_placed p sc ≡ true → guard_placed (guard.Free p) sc ≡ true
free_placed p sc fine =
    ap (λ (f : Placing). f sc) (ap guard_placed (sym (guard.rolls-Free p)) ∙ fold-roll-Guard Placing Placing Placing Placing Placing guard_placing port_placing term_placing part_placing sum_placing (Guard-F.Free p)) ∙ fine

pub at_head_same : (s : Guard) (p q : PortExpr) → s ≡ guard.AtHead p → port_of q ≡ port_of p → guard_of (guard.AtHead q) ≡ guard_of s
at_head_same s p q is same = let old = guard_at_head p in let new = guard_at_head q in cc

pub at_head_placed : (p : PortExpr) (sc : Scope) → port_placed p sc ≡ true → guard_placed (guard.AtHead p) sc ≡ true
at_head_placed p sc fine =
    ap (λ (f : Placing). f sc) (ap guard_placed (sym (guard.rolls-AtHead p)) ∙ fold-roll-Guard Placing Placing Placing Placing Placing guard_placing port_placing term_placing part_placing sum_placing (Guard-F.AtHead p)) ∙ fine

pub peer_expanded_same : (s : Guard) (p q : PortExpr) → s ≡ guard.PeerExpanded p → port_of q ≡ port_of p → guard_of (guard.PeerExpanded q) ≡ guard_of s
peer_expanded_same s p q is same = let old = guard_peer_expanded p in let new = guard_peer_expanded q in cc

pub peer_expanded_placed : (p : PortExpr) (sc : Scope) → port_placed p sc ≡ true → guard_placed (guard.PeerExpanded p) sc ≡ true
peer_expanded_placed p sc fine =
    ap (λ (f : Placing). f sc) (ap guard_placed (sym (guard.rolls-PeerExpanded p)) ∙ fold-roll-Guard Placing Placing Placing Placing Placing guard_placing port_placing term_placing part_placing sum_placing (Guard-F.PeerExpanded p)) ∙ fine

pub peer_head_same : (s : Guard) (p q : PortExpr) → s ≡ guard.PeerHead p → port_of q ≡ port_of p → guard_of (guard.PeerHead q) ≡ guard_of s
peer_head_same s p q is same = let old = guard_peer_head p in let new = guard_peer_head q in cc

pub peer_head_placed : (p : PortExpr) (sc : Scope) → port_placed p sc ≡ true → guard_placed (guard.PeerHead p) sc ≡ true
peer_head_placed p sc fine =
    ap (λ (f : Placing). f sc) (ap guard_placed (sym (guard.rolls-PeerHead p)) ∙ fold-roll-Guard Placing Placing Placing Placing Placing guard_placing port_placing term_placing part_placing sum_placing (Guard-F.PeerHead p)) ∙ fine

pub member_same : (s : Term) (p q : PortExpr) (w v : Word) → s ≡ term.Of p w → port_of q ≡ port_of p → name_of v ≡ name_of w → term_of (term.Of q v) ≡ term_of s
member_same s p q w v is same name = let old = term_member p w in let new = term_member q v in cc

pub member_placed : (p : PortExpr) (w : Word) (sc : Scope) → port_placed p sc ≡ true → is_at_place sc.vars w ≡ true → term_placed (term.Of p w) sc ≡ true
member_placed p w sc fp fw =
    ap (λ (f : Placing). f sc) (ap term_placed (sym (term.rolls-Of p w)) ∙ fold-roll-Term Placing Placing Placing Placing Placing guard_placing port_placing term_placing part_placing sum_placing (Term-F.Of p w)) ∙ and_from _ _ fp fw

pub count_same : (s : Term) (w : Word) (p : PortSet) (a b : Box Guard Global) → s ≡ term.Count w p a → guard_of b.value ≡ guard_of a.value → term_of (term.Count w p b) ≡ term_of s
count_same s w p a b is same = let old = term_count w p a in let new = term_count w p b in cc

pub count_placed : (w : Word) (p : PortSet) (b : Box Guard Global) (sc : Scope) → guard_placed b.value (scope_with sc (name_of w)) ≡ true → term_placed (term.Count w p b) sc ≡ true
count_placed w p b sc fine =
    ap (λ (f : Placing). f sc) (ap term_placed (sym (term.rolls-Count w p b)) ∙ fold-roll-Term Placing Placing Placing Placing Placing guard_placing port_placing term_placing part_placing sum_placing (Term-F.Count w p b)) ∙ fine

pub first_same : (s : PortExpr) (w : Word) (p : PortSet) (a b : Box Guard Global) → s ≡ port.First w p a → guard_of b.value ≡ guard_of a.value → port_of (port.First w p b) ≡ port_of s
first_same s w p a b is same = let old = port_first w p a in let new = port_first w p b in cc

pub first_placed : (w : Word) (p : PortSet) (b : Box Guard Global) (sc : Scope) → guard_placed b.value (scope_with sc (name_of w)) ≡ true → port_placed (port.First w p b) sc ≡ true
first_placed w p b sc fine =
    ap (λ (f : Placing). f sc) (ap port_placed (sym (port.rolls-First w p b)) ∙ fold-roll-PortExpr Placing Placing Placing Placing Placing guard_placing port_placing term_placing part_placing sum_placing (PortExpr-F.First w p b)) ∙ fine

pub true_placed : (sc : Scope) → guard_placed guard.True sc ≡ true
true_placed sc =
    ap (λ (f : Placing). f sc) (ap guard_placed (sym guard.rolls-True) ∙ fold-roll-Guard Placing Placing Placing Placing Placing guard_placing port_placing term_placing part_placing sum_placing Guard-F.True)

pub false_placed : (sc : Scope) → guard_placed guard.False sc ≡ true
false_placed sc =
    ap (λ (f : Placing). f sc) (ap guard_placed (sym guard.rolls-False) ∙ fold-roll-Guard Placing Placing Placing Placing Placing guard_placing port_placing term_placing part_placing sum_placing Guard-F.False)

pub contracted_placed : (sc : Scope) → guard_placed guard.Contracted sc ≡ true
contracted_placed sc =
    ap (λ (f : Placing). f sc) (ap guard_placed (sym guard.rolls-Contracted) ∙ fold-roll-Guard Placing Placing Placing Placing Placing guard_placing port_placing term_placing part_placing sum_placing Guard-F.Contracted)

pub expanded_placed : (sc : Scope) → guard_placed guard.Expanded sc ≡ true
expanded_placed sc =
    ap (λ (f : Placing). f sc) (ap guard_placed (sym guard.rolls-Expanded) ∙ fold-roll-Guard Placing Placing Placing Placing Placing guard_placing port_placing term_placing part_placing sum_placing Guard-F.Expanded)

pub not_same : (s : Guard) (a b : Box Guard Global) → s ≡ guard.Not a → guard_of b.value ≡ guard_of a.value → guard_of (guard.Not b) ≡ guard_of s
not_same s a b is same = let old = guard_not a in let new = guard_not b in cc

pub not_placed : (b : Box Guard Global) (sc : Scope) → guard_placed b.value sc ≡ true → guard_placed (guard.Not b) sc ≡ true
not_placed b sc f0 =
    ap (λ (f : Placing). f sc) (ap guard_placed (sym (guard.rolls-Not b)) ∙ fold-roll-Guard Placing Placing Placing Placing Placing guard_placing port_placing term_placing part_placing sum_placing (Guard-F.Not b)) ∙ f0

pub number_placed : (n : Lit) (sc : Scope) → term_placed (term.Number n) sc ≡ true
number_placed n sc =
    ap (λ (f : Placing). f sc) (ap term_placed (sym (term.rolls-Number n)) ∙ fold-roll-Term Placing Placing Placing Placing Placing guard_placing port_placing term_placing part_placing sum_placing (Term-F.Number n))

pub own_same : (s : Term) (w v : Word) → s ≡ term.Own w → name_of v ≡ name_of w → term_of (term.Own v) ≡ term_of s
own_same s w v is same = let old = term_own w in let new = term_own v in cc

pub own_placed : (w : Word) (sc : Scope) → is_at_place sc.vars w ≡ true → term_placed (term.Own w) sc ≡ true
own_placed w sc f0 =
    ap (λ (f : Placing). f sc) (ap term_placed (sym (term.rolls-Own w)) ∙ fold-roll-Term Placing Placing Placing Placing Placing guard_placing port_placing term_placing part_placing sum_placing (Term-F.Own w)) ∙ f0

pub dir_same : (s : Term) (p q : PortExpr) → s ≡ term.Dir p → port_of q ≡ port_of p → term_of (term.Dir q) ≡ term_of s
dir_same s p q is same = let old = term_dir p in let new = term_dir q in cc

pub dir_placed : (p : PortExpr) (sc : Scope) → port_placed p sc ≡ true → term_placed (term.Dir p) sc ≡ true
dir_placed p sc f0 =
    ap (λ (f : Placing). f sc) (ap term_placed (sym (term.rolls-Dir p)) ∙ fold-roll-Term Placing Placing Placing Placing Placing guard_placing port_placing term_placing part_placing sum_placing (Term-F.Dir p)) ∙ f0

pub peer_dir_same : (s : Term) (p q : PortExpr) → s ≡ term.PeerDir p → port_of q ≡ port_of p → term_of (term.PeerDir q) ≡ term_of s
peer_dir_same s p q is same = let old = term_peer_dir p in let new = term_peer_dir q in cc

pub peer_dir_placed : (p : PortExpr) (sc : Scope) → port_placed p sc ≡ true → term_placed (term.PeerDir p) sc ≡ true
peer_dir_placed p sc f0 =
    ap (λ (f : Placing). f sc) (ap term_placed (sym (term.rolls-PeerDir p)) ∙ fold-roll-Term Placing Placing Placing Placing Placing guard_placing port_placing term_placing part_placing sum_placing (Term-F.PeerDir p)) ∙ f0

pub inner_placed : (sc : Scope) → term_placed term.Inner sc ≡ true
inner_placed sc =
    ap (λ (f : Placing). f sc) (ap term_placed (sym term.rolls-Inner) ∙ fold-roll-Term Placing Placing Placing Placing Placing guard_placing port_placing term_placing part_placing sum_placing Term-F.Inner)

pub mod6_same : (s : Term) (a b : Sum) → s ≡ term.Mod6 a → sum_of b ≡ sum_of a → term_of (term.Mod6 b) ≡ term_of s
mod6_same s a b is same = let old = term_mod6 a in let new = term_mod6 b in cc

pub mod6_placed : (a : Sum) (sc : Scope) → sum_placed a sc ≡ true → term_placed (term.Mod6 a) sc ≡ true
mod6_placed a sc f0 =
    ap (λ (f : Placing). f sc) (ap term_placed (sym (term.rolls-Mod6 a)) ∙ fold-roll-Term Placing Placing Placing Placing Placing guard_placing port_placing term_placing part_placing sum_placing (Term-F.Mod6 a)) ∙ f0

pub bound_same : (s : PortExpr) (w v : Word) → s ≡ port.Name w → name_of v ≡ name_of w → port_of (port.Name v) ≡ port_of s
bound_same s w v is same = let old = port_name w in let new = port_name v in cc

pub bound_placed : (w : Word) (sc : Scope) → is_at_place sc.bound w ≡ true → port_placed (port.Name w) sc ≡ true
bound_placed w sc f0 =
    ap (λ (f : Placing). f sc) (ap port_placed (sym (port.rolls-Name w)) ∙ fold-roll-PortExpr Placing Placing Placing Placing Placing guard_placing port_placing term_placing part_placing sum_placing (PortExpr-F.Name w)) ∙ f0

pub at_same : (s : PortExpr) (e : End) (a b : DirTerm) → s ≡ port.At e a → dirterm_of b ≡ dirterm_of a → port_of (port.At e b) ≡ port_of s
at_same s e a b is same = let old = port_at e a in let new = port_at e b in cc

pub at_placed : (e : End) (d : DirTerm) (sc : Scope) → dirterm_placed d sc ≡ true → port_placed (port.At e d) sc ≡ true
at_placed e d sc f0 =
    ap (λ (f : Placing). f sc) (ap port_placed (sym (port.rolls-At e d)) ∙ fold-roll-PortExpr Placing Placing Placing Placing Placing guard_placing port_placing term_placing part_placing sum_placing (PortExpr-F.At e d)) ∙ f0

pub turn_same : (s : PortExpr) (a b : Box PortExpr Global) (n : Lit) → s ≡ port.Turn a n → port_of b.value ≡ port_of a.value → port_of (port.Turn b n) ≡ port_of s
turn_same s a b n is same = let old = port_turn a n in let new = port_turn b n in cc

pub turn_placed : (b : Box PortExpr Global) (n : Lit) (sc : Scope) → port_placed b.value sc ≡ true → port_placed (port.Turn b n) sc ≡ true
turn_placed b n sc f0 =
    ap (λ (f : Placing). f sc) (ap port_placed (sym (port.rolls-Turn b n)) ∙ fold-roll-PortExpr Placing Placing Placing Placing Placing guard_placing port_placing term_placing part_placing sum_placing (PortExpr-F.Turn b n)) ∙ f0
