-- A tag determines its caller, its turn and its amoebot.
use Rattle.std.proofs.Common.{◌≡◌, ◌≢◌, ℕ, ◌+◌, ◌-◌, ◌*◌, ◌/◌, ◌%◌, ◌<◌, ap, sym, ◌∙◌, arith}
use Rattle.std.proofs.lemmas.Nat.{div-mul-add, mod-mul-add}
use Rattle.claim_core.specs.Tags.{tag, tag_caller, tag_turn, tag_bot}

pub tag-positive : (c t b : ℕ) → tag c t b ≢ 0
tag-positive c t b e = omega arith

parts : (n q r k : ℕ) → r < n → k ≡ q * n + r → (k % n ≡ r) × (k / n ≡ q)
parts n q r k below e = (ap (λ m. m % n) e ∙ mod-mul-add q n r below, ap (λ m. m / n) e ∙ div-mul-add q n r below)

pub tag-parts : (c t b : ℕ) → b < 4096 → t < 65536 → (tag_caller (tag c t b) ≡ c) × (tag_turn (tag c t b) ≡ t) × (tag_bot (tag c t b) ≡ b)
tag-parts c t b few turns =
    let one = parts 4096 (t + 65536 * c) b (tag c t b - 1) few (omega arith) in
    let two = parts 65536 c t (t + 65536 * c) turns (omega arith) in
    (ap (λ n. n / 65536) one.1 ∙ two.1, ap (λ n. n % 65536) one.1 ∙ two.0, one.0)

-- so two equal tags are of one caller
pub one_caller : (c d t u b o : ℕ) → b < 4096 → t < 65536 → o < 4096 → u < 65536 → tag c t b ≡ tag d u o → c ≡ d
one_caller c d t u b o few turns few' turns' e = sym ((tag-parts c t b few turns).0) ∙ ap tag_caller e ∙ (tag-parts d u o few' turns').0
