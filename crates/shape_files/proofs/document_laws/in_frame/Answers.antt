use Rattle.shape_files.specs.Frame.{least_version}
use Rattle.shape_files.proofs.FrameLemmas.{framed}
use Rattle.shape_files.proofs.document_laws.in_frame.Goals as goal

pub returns : goal.returns
returns g c = λ are form start. framed g.S.Sectioned.is g.S.Sectioned.reads are least_version form start
