use Rattle.std.proofs.Common.{◌≡◌, ℕ, ℤ, ◌<◌, ◌*◌, ◌/◌, ◌%◌, ◌∙◌, ap, pos, negsuc, ◌+ℤ◌, ◌≤ℤ◌, arith, to_z, of_z, w16}
use Rattle.std.proofs.lemmas.Int.{ints}
use Rattle.std.proofs.lemmas.Nat.{mod_below}
use Rattle.tri_lattice.specs.Extent.{Extent, IsArea}
use Rattle.tri_lattice.proofs.Boxes.{row_of}
use Rattle.tri_lattice.proofs.Nodes.{same_node}
use Rattle.tri_lattice.proofs.area.Area.node.Goals as goal

column_fits : (a : Extent) (k n : ℕ) → IsArea a → n ≡ a.w → k % n < 128
column_fits a k n area e = let column = mod_below k n (omega arith) in omega arith

row_fits : (a b : Extent) (k n : ℕ) → a ≡ b → IsArea a → k < b.w * b.h → n ≡ a.w → k / n < 128
row_fits a b k n same area l e =
    let h : a.h ≡ b.h = ap (λ (x : Extent). x.h) same in
    let row : k / n < b.h = rw (e ∙ ap (λ (x : Extent). x.w) same) (row_of b.w b.h k l) in
    omega arith

-- a coordinate of a node, from the beginning of the area and the node's place
coordinate : (x z : ℤ) (m n : ℕ) → x ≡ z → m ≡ n → (negsuc 4095 ≤ℤ x) → (x ≤ℤ pos 4096) → m < 128
    → to_z w16 (of_z w16 (to_z w16 (of_z w16 x) +ℤ to_z w16 m)) ≡ z +ℤ pos n
coordinate x z m n ex em low high l = omega (arith, ints)

pub nonzero_rem-column : goal.nonzero_rem-column
nonzero_rem-column c = omega arith

pub nonzero_div-row : goal.nonzero_div-row
nonzero_div-row c = omega arith

pub overflow_cast-column : goal.overflow_cast-column
overflow_cast-column c = let column = column_fits _ c.args.number _ c.self.invariant c.from-w.ensures in omega (arith, ints)

pub overflow_cast-row : goal.overflow_cast-row
overflow_cast-row c =
    let row = row_fits _ c.args.self.now c.args.number _ c.self.view_is c.self.invariant c.requires c.from-w.ensures in
    omega (arith, ints)

pub overflow_add-result : goal.overflow_add-result
overflow_add-result c = let column = column_fits _ c.args.number _ c.self.invariant c.from-w.ensures in omega (arith, ints)

pub overflow_add-result-2 : goal.overflow_add-result-2
overflow_add-result-2 c =
    let row = row_fits _ c.args.self.now c.args.number _ c.self.view_is c.self.invariant c.requires c.from-w.ensures in
    omega (arith, ints)

pub returns : goal.returns
returns c =
    let same = c.self.view_is in
    let w : c.from-w.result ≡ c.args.self.now.w = c.from-w.ensures ∙ ap (λ (a : Extent). a.w) same in
    let column = column_fits _ c.args.number _ c.self.invariant c.from-w.ensures in
    let row = row_fits _ c.args.self.now c.args.number _ same c.self.invariant c.requires c.from-w.ensures in
    same_node _ _
    (coordinate c.self.inside.x0 c.args.self.now.x0 _ _ (ap (λ (a : Extent). a.x0) same) (ap (λ n. c.args.number % n) w) c.self.invariant.x_low c.self.invariant.x_high column)
    (coordinate c.self.inside.y0 c.args.self.now.y0 _ _ (ap (λ (a : Extent). a.y0) same) (ap (λ n. c.args.number / n) w) c.self.invariant.y_low c.self.invariant.y_high row)
