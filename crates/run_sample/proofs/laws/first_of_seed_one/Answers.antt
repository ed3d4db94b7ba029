use Rattle.std.proofs.Common.{arith}
use Rattle.rand_core.specs.Steps.{u32_at, word_bytes}
use Rattle.rand_core.specs.Pcg32Seed.{pcg32_seed}
use Rattle.run_sample.specs.Sample.{none, more, in_square, seeded, draw, drawn}
use Rattle.run_sample.proofs.laws.first_of_seed_one.Goals as goal

pub returns : goal.returns
unfolding u32_at pcg32_seed word_bytes seeded draw drawn
returns c = more (more none (in_square (omega arith))) (in_square (omega arith))
