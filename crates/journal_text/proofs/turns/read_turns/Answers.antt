use Rattle.text_tokens.proofs.ExactReaders.{tells_of, reads_of}
use Rattle.journal_text.specs.Turns.{Nothing, IsTurns}
use Rattle.journal_text.specs.Readers.{the_turns}
use Rattle.journal_text.proofs.TurnLaws.{exact_turns}
use Rattle.journal_text.proofs.turns.read_turns.Goals as goal

pub returns-clause-tells : goal.returns-clause-tells
returns-clause-tells c =
    let version = c.args.version in
    tells_of (IsTurns version) (λ (u : Nothing). u) (the_turns version) (exact_turns version) c.args.tokens.now c.read_whole.result c.read_whole.new.tokens c.read_whole.ensures.reads

pub returns-clause-reads : goal.returns-clause-reads
returns-clause-reads c =
    let version = c.args.version in
    reads_of (IsTurns version) (λ (u : Nothing). u) (the_turns version) (exact_turns version) c.args.tokens.now c.read_whole.result c.read_whole.new.tokens c.read_whole.ensures.reads
