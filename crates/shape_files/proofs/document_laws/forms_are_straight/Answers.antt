use Rattle.shape_files.proofs.StraightForms.{straight_texts, forms_are_distinct}
use Rattle.shape_files.proofs.document_laws.forms_are_straight.Goals as goal

pub returns-clause-texts : goal.returns-clause-texts
returns-clause-texts g c = λ words form distinct s. straight_texts g.S.Sectioned.is words form distinct s

pub returns-clause-forms : goal.returns-clause-forms
returns-clause-forms g c = forms_are_distinct
