use Rattle.std.proofs.Common.{refl}
use Rattle.std.specs.Fmt.{digits}
use Rattle.journal_text.proofs.laws.texts_are_printed.Goals as goal

pub returns : goal.returns
unfolding digits
returns c = record { no_entry = refl; entries = refl; movements = refl; no_value = refl; eight_values = refl; no_change = refl; expansion = refl; two_values = refl; no_turn = refl; turns = refl }
