use Rattle.std.proofs.Common.{ℕ, List, arith, rules, refl, subst}
use Rattle.std.proofs.lemmas.Grind.{common_steps}
use Rattle.std.proofs.lemmas.List.{take_rest}
use Rattle.outer_io.specs.Writings.{none}
use Rattle.outer_io.proofs.Grown.{Grows-take, Handed-more}
use Rattle.outer_io.proofs.sink.write_all.Goals as goal

pub loop-from-init : goal.loop-from-init
loop-from-init g c = record {
  in_range = omega arith;
  front = search rules;
  writes = none;
  nothing = λ _. refl;
  never_falls = omega arith;
}

pub loop-from-preserved : goal.loop-from-preserved
loop-from-preserved g c = record {
  in_range = omega (arith, c.in-Ok.ensures.bound.1);
  front = Grows-take _ _ _ c.args.bytes.now _ c.loop-from.from c.in-Ok.taken (take_rest c.args.bytes.now c.loop-from.from) c.loop-from.invariant.front c.in-Ok.ensures.bytes;
  writes = Handed-more c.args.bytes.now _ c.loop-from.from c.in-Ok.taken (take_rest c.args.bytes.now c.loop-from.from) c.loop-from.invariant.writes c.in-Ok.ensures.bound.0 c.in-Ok.ensures.call;
  nothing = λ none. absurd (omega (arith, c.in-Ok.ensures.bound.0));
  never_falls = omega arith;
}

pub returns-in-Err-clause-front : goal.returns-in-Err-clause-front
returns-in-Err-clause-front g c = record {
  count = c.loop-from.from;
  short = omega arith;
  told = grind (arith, common_steps);
  before = c.loop-from.sink;
  writes = c.loop-from.invariant.writes;
  failed = subst (λ (piece : List ℕ). g.K.Sink.fails c.loop-from.sink piece c.write.new.self) (take_rest c.args.bytes.now c.loop-from.from) c.in-Err.ensures.call;
}
