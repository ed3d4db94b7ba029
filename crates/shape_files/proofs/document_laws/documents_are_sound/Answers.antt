use Rattle.shape_files.proofs.SoundDocuments.{documents_are_sound}
use Rattle.shape_files.proofs.document_laws.documents_are_sound.Goals as goal

pub returns : goal.returns
returns c = documents_are_sound
