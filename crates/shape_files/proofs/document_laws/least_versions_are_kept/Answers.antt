use Rattle.shape_files.proofs.DocumentsLemmas.{decided_from}
use Rattle.shape_files.proofs.LeastVersionsLemmas.{earlier_is_bad_range, later_is_document, document_is_later, later_has_old_values}
use Rattle.shape_files.proofs.document_laws.least_versions_are_kept.Goals as goal

pub returns-clause-decided : goal.returns-clause-decided
returns-clause-decided c = decided_from

pub returns-clause-earlier : goal.returns-clause-earlier
returns-clause-earlier c = earlier_is_bad_range

pub returns-clause-document : goal.returns-clause-document
returns-clause-document c = later_is_document

pub returns-clause-later : goal.returns-clause-later
returns-clause-later c = document_is_later

pub returns-clause-values : goal.returns-clause-values
returns-clause-values c = later_has_old_values
