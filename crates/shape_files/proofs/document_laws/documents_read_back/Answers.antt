use Rattle.shape_files.proofs.WholeTextsLemmas as whole
use Rattle.shape_files.proofs.WholeTextRowLemmas.{whole_text_rows}
use Rattle.shape_files.proofs.document_laws.documents_read_back.Goals as goal

pub returns-clause-law : goal.returns-clause-law
returns-clause-law c = whole.documents_read_back

pub returns-clause-small : goal.returns-clause-small
returns-clause-small c = whole_text_rows
