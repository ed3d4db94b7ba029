use Rattle.shape_files.specs.Frame.{course_of}
use Rattle.shape_files.specs.Documents.{nothing_yet, Body}
use Rattle.shape_files.proofs.StraightForms.{straight_texts, forms_are_distinct}
use Rattle.shape_files.proofs.SectionLemmas.{are_sections}
use Rattle.shape_files.proofs.DocumentsLemmas.{is_decided}
use Rattle.shape_files.proofs.HeaderLemmas.{header_is_decided}
use Rattle.shape_files.proofs.DocumentRowLemmas.{documents_are_read}
use Rattle.shape_files.proofs.document_laws.documents_are_decided.Goals as goal

pub returns-clause-decided : goal.returns-clause-decided
returns-clause-decided c = is_decided

pub returns-clause-header : goal.returns-clause-header
returns-clause-header c = header_is_decided

pub returns-clause-sections : goal.returns-clause-sections
returns-clause-sections c = are_sections

pub returns-clause-straight : goal.returns-clause-straight
returns-clause-straight c = λ form version. straight_texts Body are_sections.start (course_of form) (forms_are_distinct form) (nothing_yet version)

pub returns-clause-read : goal.returns-clause-read
returns-clause-read c = documents_are_read
