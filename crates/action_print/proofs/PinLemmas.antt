-- The canonical texts of a few programs are computed.
use Rattle.std.proofs.Common.{refl}
use Rattle.std.specs.Fmt.{digits}
use Rattle.action_print.specs.Pins.{CanonIsPinned}

pub canon_is_pinned : CanonIsPinned
unfolding digits
canon_is_pinned = record { counting = refl; line = refl; erosion = refl; hexagon = refl; every_form = refl; parentheses = refl }
