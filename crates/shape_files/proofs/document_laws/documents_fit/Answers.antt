use Rattle.shape_files.proofs.FittingLemmas as fitting
use Rattle.shape_files.proofs.document_laws.documents_fit.Goals as goal

pub returns : goal.returns
returns c = fitting.documents_fit
