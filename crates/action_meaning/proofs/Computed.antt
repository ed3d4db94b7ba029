-- The tables of values, computed.
use Rattle.std.proofs.Common.{refl}
use Rattle.action_meaning.specs.Laws.{ValuesAreComputed}

pub values_are_computed : ValuesAreComputed
values_are_computed = record {
  guards = refl;
  compared = refl;
  sums = refl;
  verdicts = refl;
  unguarded = refl;
  guarded = refl;
  walled_guards = refl;
  walled_sums = refl;
  walled_verdicts = refl;
  shut_in = refl;
}
