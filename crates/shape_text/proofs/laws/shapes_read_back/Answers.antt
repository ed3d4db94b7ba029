use Rattle.shape_text.proofs.ShapesReread.{shapes_reread}
use Rattle.shape_text.proofs.laws.shapes_read_back.Goals as goal

pub returns : goal.returns
returns c = shapes_reread
