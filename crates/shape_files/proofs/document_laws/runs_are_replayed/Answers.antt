use Rattle.shape_files.proofs.RunTextsLemmas as replaying
use Rattle.shape_files.proofs.document_laws.runs_are_replayed.Goals as goal

pub returns : goal.returns
returns c = replaying.runs_are_replayed
