-- Going on from a node in one direction ends at the border of what is inside.
use Rattle.std.proofs.Common.{◌<◌, ◌≡◌, ℕ, zero, suc, ℤ, pos, negsuc, ◌-ℤ◌, ◌≤ℤ◌, ◌<ℤ◌, refl, arith}
use Rattle.std.proofs.lemmas.Int.{ints}
use Rattle.tri_lattice.specs.declared.node.Node.{Node}
use Rattle.tri_lattice.specs.Lattice.{step}
use Rattle.run_sample.specs.Sample.{IsInside}

-- how many steps in a direction lead beyond the border
abbrev pub beyond : Node → ℕ → ℤ
beyond v zero = pos 119 -ℤ v.x
beyond v (suc zero) = pos 119 -ℤ v.y
beyond v (suc (suc zero)) = pos 119 -ℤ v.y
beyond v (suc (suc (suc zero))) = v.x -ℤ pos 8
beyond v (suc (suc (suc (suc zero)))) = v.y -ℤ pos 8
beyond v (suc (suc (suc (suc (suc d))))) = pos 119 -ℤ v.x

-- a number that is not negative; else 0
abbrev pub count : ℤ → ℕ
count (pos n) = n
count (negsuc n) = 0

count_is : (z : ℤ) → pos 0 ≤ℤ z → pos (count z) ≡ z
count_is (pos n) low = refl
count_is (negsuc n) low = absurd (omega (arith, ints))

count_less : (a b : ℤ) → pos 0 ≤ℤ a → a <ℤ b → count a < count b
count_less a b low lt =
    let x : pos (count a) ≡ a = count_is a low in
    let y : pos (count b) ≡ b = count_is b (omega (arith, ints)) in
    omega (arith, ints)

one_less : (v : Node) (d : ℕ) → IsInside v → (pos 0 ≤ℤ beyond (step v d) d) × (beyond (step v d) d <ℤ beyond v d)
one_less v zero inside = let high = inside.x_high in (omega (arith, ints), omega (arith, ints))
one_less v (suc zero) inside = let high = inside.y_high in (omega (arith, ints), omega (arith, ints))
one_less v (suc (suc zero)) inside = let high = inside.y_high in (omega (arith, ints), omega (arith, ints))
one_less v (suc (suc (suc zero))) inside = let low = inside.x_low in (omega (arith, ints), omega (arith, ints))
one_less v (suc (suc (suc (suc zero)))) inside = let low = inside.y_low in (omega (arith, ints), omega (arith, ints))
one_less v (suc (suc (suc (suc (suc d))))) inside = let high = inside.x_high in (omega (arith, ints), omega (arith, ints))

-- a step leads nearer to the border
pub nearer : (v : Node) (d : ℕ) → IsInside v → count (beyond (step v d) d) < count (beyond v d)
nearer v d inside = let less = one_less v d inside in count_less (beyond (step v d) d) (beyond v d) less.0 less.1
