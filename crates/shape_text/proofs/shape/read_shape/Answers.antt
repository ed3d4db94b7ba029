use Rattle.text_tokens.proofs.ExactReaders.{tells_of, reads_of}
use Rattle.amoebot_state.specs.Configs.{Config}
use Rattle.shape_text.specs.Shapes.{IsShape}
use Rattle.shape_text.specs.Readers.{a_shape}
use Rattle.shape_text.proofs.ShapeLaws.{exact_shape}
use Rattle.shape_text.proofs.shape.read_shape.Goals as goal

pub returns-clause-tells : goal.returns-clause-tells
returns-clause-tells c = tells_of (IsShape c.args.version c.args.vars c.args.maxes) (λ (w : Config). w) (a_shape c.args.version c.args.vars c.args.maxes) (exact_shape c.args.version c.args.vars c.args.maxes) c.args.tokens.now c.read_under.result c.read_under.new.tokens c.read_under.ensures.reads

pub returns-clause-reads : goal.returns-clause-reads
returns-clause-reads c = reads_of (IsShape c.args.version c.args.vars c.args.maxes) (λ (w : Config). w) (a_shape c.args.version c.args.vars c.args.maxes) (exact_shape c.args.version c.args.vars c.args.maxes) c.args.tokens.now c.read_under.result c.read_under.new.tokens c.read_under.ensures.reads
