use Rattle.std.proofs.Common.{◌≡◌, ◌∙◌, ap, ℕ, ℤ, ◌+ℤ◌, ◌-ℤ◌, max, arith, to_z, of_z, w32}
use Rattle.std.proofs.lemmas.Int.{ints}
use Rattle.std.specs.Prelude.{unsigned_abs}
use Rattle.tri_lattice.specs.Lattice.{distance}
use Rattle.tri_lattice.specs.declared.node.Node.{Node}
use Rattle.tri_lattice.proofs.node.distance.Goals as goal

-- the greatest of the three sizes, where x, y and s are the offsets and their sum
greatest : (a b : Node) (x y s : ℤ) (p q r m n : ℕ) → x ≡ b.x -ℤ a.x → y ≡ b.y -ℤ a.y → s ≡ (b.x -ℤ a.x) +ℤ (b.y -ℤ a.y)
    → p ≡ unsigned_abs x → q ≡ unsigned_abs y → r ≡ unsigned_abs s → m ≡ max p q → n ≡ max m r → n ≡ distance a b
greatest a b x y s p q r m n ex ey es ep eq er em en =
    en ∙ ap (λ k. max k r) (em ∙ ap (λ k. max k q) (ep ∙ ap unsigned_abs ex) ∙ ap (max _) (eq ∙ ap unsigned_abs ey)) ∙ ap (max _) (er ∙ ap unsigned_abs es)

pub returns : goal.returns
returns c =
    let x : to_z w32 (of_z w32 c.offset-dx.result) ≡ c.args.b.x -ℤ c.args.a.x = omega (arith, ints) in
    let y : to_z w32 (of_z w32 c.offset-dy.result) ≡ c.args.b.y -ℤ c.args.a.y = omega (arith, ints) in
    let both : to_z w32 (of_z w32 (to_z w32 (of_z w32 c.offset-dx.result) +ℤ to_z w32 (of_z w32 c.offset-dy.result))) ≡ (c.args.b.x -ℤ c.args.a.x) +ℤ (c.args.b.y -ℤ c.args.a.y) = omega (arith, ints) in
    greatest c.args.a c.args.b _ _ _ _ _ _ _ _ x y both c.unsigned_abs.ensures.value c.unsigned_abs-2.ensures.value c.unsigned_abs-3.ensures.value c.max.ensures c.max-2.ensures
