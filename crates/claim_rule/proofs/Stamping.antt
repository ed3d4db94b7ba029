-- What the word of a node says.
use Rattle.std.proofs.Common.{◌≡◌, ◌≢◌, ℕ, zero, suc, ◌+◌, ◌-◌, ◌*◌, ◌/◌, ◌%◌, ◌^◌, ◌<◌, ◌≤◌, ◌⊎◌, length, Option, Some, None, inl, inr, ap, sym, refl, ◌∙◌, arith, ne_eqb}
use Rattle.std.specs.Prelude.{if◌then◌else◌}
use Rattle.std.proofs.lemmas.Bool.{cases_eq}
use Rattle.std.proofs.lemmas.Option.{none-some, same_Some}
use Rattle.tri_lattice.specs.declared.node.Node.{Node}
use Rattle.amoebot_state.specs.Limits.{most_bots}
use Rattle.amoebot_state.specs.Configs.{Config, occupant}
use Rattle.amoebot_state.proofs.Occupants.{occupant_covers, covers_below}
use Rattle.claim_rule.specs.Words.{occ_number, occ_of, node_word, word_tag, word_occ, word_stamp}

some_occ : (n : ℕ) → occ_of (suc n) ≡ Some n
some_occ n = ap (λ b. if b then None else Some (suc n - 1)) (ne_eqb (suc n) 0 (λ e. omega (arith, e))) ∙ ap (λ (m : ℕ). Some m) (let e : suc n - 1 ≡ n = omega arith in e)

pub occ_back : (o : Option ℕ) → occ_of (occ_number o) ≡ o
occ_back None = refl
occ_back (Some i) = ap occ_of (let e : i + 1 ≡ suc i = omega arith in e) ∙ some_occ i

pub occ_cases : (a b : Option ℕ) → (a ≡ b) ⊎ (a ≢ b)
occ_cases None None = inl refl
occ_cases None (Some j) = inr (λ e. none-some j e)
occ_cases (Some i) None = inr (λ e. none-some i (sym e))
occ_cases (Some i) (Some j) = elim (cases_eq i j) [
  | inl e ↦ inl (ap Some e)
  | inr ne ↦ inr (λ e. ne (same_Some i j e))
]

-- a free word with a tag put in
pub tag_in : (w t : ℕ) → word_tag w ≡ 0 → t < 2 ^ 33 → (word_tag (w + t) ≡ t) × (word_occ (w + t) ≡ word_occ w) × (word_stamp (w + t) ≡ word_stamp w)
tag_in w t free few = (mods, ap (λ n. occ_of (n % 2 ^ 13)) divs, stamps)
  where
    mods : (w + t) % 2 ^ 33 ≡ t
    mods = omega (arith, free, few)

    divs : (w + t) / 2 ^ 33 ≡ w / 2 ^ 33
    divs = omega (arith, free, few)

    stamps : (w + t) / 2 ^ 46 ≡ w / 2 ^ 46
    stamps = omega (arith, free, few)

-- a made word says what it was made of
pub made_of : (t : ℕ) (o : Option ℕ) (s : ℕ) → t < 2 ^ 33 → occ_number o < 2 ^ 13 → (word_tag (node_word t o s) ≡ t) × (word_occ (node_word t o s) ≡ o) × (word_stamp (node_word t o s) ≡ s)
made_of t o s few small = (mods, ap occ_of occs ∙ occ_back o, stamps)
  where
    mods : (t + 2 ^ 33 * occ_number o + 2 ^ 46 * s) % 2 ^ 33 ≡ t
    mods = omega (arith, few, small)

    occs : (t + 2 ^ 33 * occ_number o + 2 ^ 46 * s) / 2 ^ 33 % 2 ^ 13 ≡ occ_number o
    occs = omega (arith, few, small)

    stamps : (t + 2 ^ 33 * occ_number o + 2 ^ 46 * s) / 2 ^ 46 ≡ s
    stamps = omega (arith, few, small)

-- two free words with one stamp and one occupant are one
pub free_same : (w v : ℕ) → word_tag w ≡ 0 → word_tag v ≡ 0 → word_occ w ≡ word_occ v → word_stamp w ≡ word_stamp v → w ≡ v
free_same w v fw fv occ stamp = omega (arith, fw, fv, stamp, same_occ (w / 2 ^ 33 % 2 ^ 13) (v / 2 ^ 33 % 2 ^ 13) occ)
  where
    same_occ : (n m : ℕ) → occ_of n ≡ occ_of m → n ≡ m
    same_occ zero zero e = refl
    same_occ zero (suc m) e = absurd (none-some m (e ∙ some_occ m))
    same_occ (suc n) zero e = absurd (none-some n (sym (sym (some_occ n) ∙ e)))
    same_occ (suc n) (suc m) e = let f = same_Some n m (sym (some_occ n) ∙ e ∙ some_occ m) in omega (arith, f)

-- a free word is made of what it says
pub free_made : (w : ℕ) → word_tag w ≡ 0 → w ≡ node_word 0 (word_occ w) (word_stamp w)
free_made w free = free_same w (node_word 0 (word_occ w) (word_stamp w)) free made.0 (sym made.1) (sym made.2)
  where
    numbered : (n : ℕ) → occ_number (occ_of n) ≡ n
    numbered zero = refl
    numbered (suc n) = ap occ_number (some_occ n) ∙ (let e : n + 1 ≡ suc n = omega arith in e)

    small : occ_number (word_occ w) < 2 ^ 13
    small = let e = numbered (w / 2 ^ 33 % 2 ^ 13) in omega (arith, e)

    made : (word_tag (node_word 0 (word_occ w) (word_stamp w)) ≡ 0) × (word_occ (node_word 0 (word_occ w) (word_stamp w)) ≡ word_occ w) × (word_stamp (node_word 0 (word_occ w) (word_stamp w)) ≡ word_stamp w)
    made = made_of 0 (word_occ w) (word_stamp w) (omega arith) small

-- the number of an occupant is small
pub small_occ : (c : Config) → length c.bots ≤ most_bots → (v : Node) → occ_number (occupant c v) < 2 ^ 13
small_occ c few v = by (occupant c v) refl
  where
    by : (o : Option ℕ) → occupant c v ≡ o → occ_number o < 2 ^ 13
    by None e = omega arith
    by (Some j) e = let below = covers_below c j v (occupant_covers c v j e) in omega (arith, below, few)
