use Rattle.document_answers.proofs.Canonical.{canon_means_the_same}
use Rattle.document_answers.proofs.check.canon_means_the_same.Goals as goal

pub returns : goal.returns
returns c = canon_means_the_same
