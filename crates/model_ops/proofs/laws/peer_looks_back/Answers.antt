use Rattle.model_ops.proofs.PeerLooksBack.{peer_looks_back}
use Rattle.model_ops.proofs.laws.peer_looks_back.Goals as goal

pub returns : goal.returns
returns c = peer_looks_back
