-- Which calls of a small plan fail.
use Rattle.std.proofs.Common.{◌≡◌, ℕ, [], ◌∷◌, zero, suc, refl, arith}
use Rattle.std.specs.List.{Contains}

-- a list of one number has that number, and no other
pub listed : (n : ℕ) → Contains (n ∷ []) n
listed n = (0, omega arith, refl)

pub unlisted : (listed n : ℕ) → (listed ≡ n → ⊥) → ¬ Contains (listed ∷ []) n
unlisted listed n other (zero, few, same) = other same
unlisted listed n other (suc k, few, same) = absurd (omega (arith, few))
