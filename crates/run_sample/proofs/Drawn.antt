-- What is drawn is below the number.
use Rattle.std.proofs.Common.{◌<◌, ◌≤◌, ℕ, arith}
use Rattle.std.proofs.lemmas.Nat.{mod_below}
use Rattle.rand_pcg.specs.Lcg.{Lcg}
use Rattle.rand_pcg.specs.Pcg.{pcg32}
use Rattle.run_sample.specs.Sample.{draw}

pub draw_below : (g : Lcg) (n : ℕ) → 1 ≤ n → draw g n < n
unfolding draw
draw_below g n some = mod_below (pcg32 g).0 n (omega arith)
