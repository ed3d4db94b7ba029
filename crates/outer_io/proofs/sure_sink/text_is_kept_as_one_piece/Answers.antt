use Rattle.outer_io.proofs.KeptPieces.{kept_as_one}
use Rattle.outer_io.proofs.sure_sink.text_is_kept_as_one_piece.Goals as goal

pub returns : goal.returns
returns c = kept_as_one
