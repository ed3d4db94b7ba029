use Rattle.std.proofs.Common.{ℕ}
use Rattle.text_tokens.proofs.ExactReaders.{tells_of, reads_of}
use Rattle.shape_files.specs.Frame.{IsHeader}
use Rattle.shape_files.specs.FrameReaders.{header}
use Rattle.shape_files.specs.Views.{as_read}
use Rattle.shape_files.proofs.HeaderLemmas.{exact_header}
use Rattle.shape_files.proofs.head.read_head.Goals as goal

pub returns-clause-tells : goal.returns-clause-tells
returns-clause-tells c = tells_of IsHeader (λ (v : ℕ). v) header exact_header c.args.tokens.now (as_read c.read_version.result) c.read_version.new.tokens c.read_version.ensures.reads

pub returns-clause-reads : goal.returns-clause-reads
returns-clause-reads c = reads_of IsHeader (λ (v : ℕ). v) header exact_header c.args.tokens.now (as_read c.read_version.result) c.read_version.new.tokens c.read_version.ensures.reads
