use Rattle.outer_io.proofs.KeptPieces.{pieces_kept}
use Rattle.outer_io.proofs.sure_sink.pieces_are_kept_as_one.Goals as goal

pub returns : goal.returns
returns c = pieces_kept
