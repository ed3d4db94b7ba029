-- Nodes that lie as far out as any of the first amoebots'.
use Rattle.std.proofs.Common.{◌≡◌, ◌<◌, ◌+◌, ℕ, ◌≤ℤ◌, ◌⊎◌, ◌≤◌, sym, ap, subst, inl, inr, arith, length}
use Rattle.std.specs.Prelude.{IsTrue}
use Rattle.std.specs.declared.option.Option.TheVariants.{Some}
use Rattle.std.proofs.lemmas.Int.{ints}
use Rattle.tri_lattice.specs.declared.node.Node.{Node}
use Rattle.amoebot_state.specs.declared.bot.Bot.{Bot}
use Rattle.amoebot_state.specs.Configs.{Config, IsValid, bot_at}
use Rattle.amoebot_state.specs.Occupied.{occupied}
use Rattle.shape_checks.specs.declared.hexagon.Extremes.{Extremes}
use Rattle.shape_checks.specs.Hexagons.{AreContracted}
use Rattle.shape_checks.specs.Candidates.{AreExtremes}
use Rattle.shape_checks.proofs.Bots.{bots_more, each_occupied}

-- a node lies within the extremes
pub record IsWithinEnds (e : Extremes) (v : Node) : Type 0 where
  pub left : e.left.x ≤ℤ v.x
  pub right : v.x ≤ℤ e.right.x
  pub low : e.low.y ≤ℤ v.y

pub record AreExtremesBelow (w : Config) (e : Extremes) (n : ℕ) : Type 0 where
  pub left_in : IsTrue (occupied w e.left)
  pub right_in : IsTrue (occupied w e.right)
  pub low_in : IsTrue (occupied w e.low)
  pub each : (i : ℕ) (b : Bot) → i < n → bot_at w i ≡ Some b → IsWithinEnds e b.head

pub extremes_none : (w : Config) (v : Node) (e : Extremes) → IsTrue (occupied w v) → e.left ≡ v → e.right ≡ v → e.low ≡ v → AreExtremesBelow w e 0
extremes_none w v e on l r b =
    let S : Node → Type 0 = λ u. IsTrue (occupied w u) in
    record { left_in = subst S (sym l) on; right_in = subst S (sym r) on; low_in = subst S (sym b) on; each = λ i o lt. absurd (omega arith) }

-- the new extreme is the old one or the new node, and lies at least as far out as both
pub extremes_more : (w : Config) (old new : Extremes) (n : ℕ) (b : Bot) → bot_at w n ≡ Some b → IsTrue (occupied w b.head) → AreExtremesBelow w old n
    → ((new.left ≡ old.left) × (old.left.x ≤ℤ b.head.x)) ⊎ ((new.left ≡ b.head) × (b.head.x ≤ℤ old.left.x))
    → ((new.right ≡ old.right) × (b.head.x ≤ℤ old.right.x)) ⊎ ((new.right ≡ b.head) × (old.right.x ≤ℤ b.head.x))
    → ((new.low ≡ old.low) × (old.low.y ≤ℤ b.head.y)) ⊎ ((new.low ≡ b.head) × (b.head.y ≤ℤ old.low.y))
    → AreExtremesBelow w new (n + 1)
extremes_more w old new n b at on was l r d =
    let S : Node → Type 0 = λ u. IsTrue (occupied w u) in
    let left : (new.left.x ≤ℤ old.left.x) × (new.left.x ≤ℤ b.head.x) = elim l [
      | inl e ↦ let x = ap (λ (v : Node). v.x) e.0 in let f = e.1 in (omega (arith, ints), omega (arith, ints))
      | inr e ↦ let x = ap (λ (v : Node). v.x) e.0 in let f = e.1 in (omega (arith, ints), omega (arith, ints))
    ] in
    let right : (old.right.x ≤ℤ new.right.x) × (b.head.x ≤ℤ new.right.x) = elim r [
      | inl e ↦ let x = ap (λ (v : Node). v.x) e.0 in let f = e.1 in (omega (arith, ints), omega (arith, ints))
      | inr e ↦ let x = ap (λ (v : Node). v.x) e.0 in let f = e.1 in (omega (arith, ints), omega (arith, ints))
    ] in
    let low : (new.low.y ≤ℤ old.low.y) × (new.low.y ≤ℤ b.head.y) = elim d [
      | inl e ↦ let x = ap (λ (v : Node). v.y) e.0 in let f = e.1 in (omega (arith, ints), omega (arith, ints))
      | inr e ↦ let x = ap (λ (v : Node). v.y) e.0 in let f = e.1 in (omega (arith, ints), omega (arith, ints))
    ] in
    record {
      left_in = elim l [ inl e ↦ subst S (sym e.0) was.left_in | inr e ↦ subst S (sym e.0) on ];
      right_in = elim r [ inl e ↦ subst S (sym e.0) was.right_in | inr e ↦ subst S (sym e.0) on ];
      low_in = elim d [ inl e ↦ subst S (sym e.0) was.low_in | inr e ↦ subst S (sym e.0) on ];
      each = bots_more w (λ o. IsWithinEnds new o.head) n b at (record { left = left.1; right = right.1; low = low.1 })
          (λ i o lt there. let h = was.each i o lt there in let hl = h.left in let hr = h.right in let hd = h.low in record { left = omega (arith, ints); right = omega (arith, ints); low = omega (arith, ints) });
    }

pub extremes_all : (w : Config) (e : Extremes) (n : ℕ) → IsValid w → AreContracted w → AreExtremesBelow w e n → length w.bots ≤ n → AreExtremes (occupied w) e
extremes_all w e n valid contracted was all =
    let each = each_occupied w valid (IsWithinEnds e) (λ i b lt at. let h = was.each i b (omega arith) at in (h, subst (IsWithinEnds e) (contracted i b at) h)) in
    record {
      left_in = was.left_in;
      right_in = was.right_in;
      low_in = was.low_in;
      left = λ v on. (each v on).left;
      right = λ v on. (each v on).right;
      low = λ v on. (each v on).low;
    }
