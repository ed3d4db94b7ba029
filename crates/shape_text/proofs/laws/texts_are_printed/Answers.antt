use Rattle.std.proofs.Common.{refl}
use Rattle.std.specs.Fmt.{digits}
use Rattle.shape_text.proofs.laws.texts_are_printed.Goals as goal

pub returns : goal.returns
unfolding digits
returns c = record { no_amoebot = refl; last_shape = refl; no_value = refl; eight_values = refl; walls = refl }
