use Rattle.text_tokens.proofs.ExactReaders.{tells_of, reads_of}
use Rattle.claim_core.specs.Turns.{CallerLists}
use Rattle.schedule_text.specs.Lists.{IsLists}
use Rattle.schedule_text.specs.Readers.{the_lists}
use Rattle.schedule_text.proofs.ListLaws.{exact_lists}
use Rattle.schedule_text.proofs.lists.read_lists.Goals as goal

pub returns-clause-tells : goal.returns-clause-tells
returns-clause-tells c = tells_of (IsLists c.args.bots) (λ (a : CallerLists). a) (the_lists c.args.bots) (exact_lists c.args.bots) c.args.tokens.now c.read_whole.result c.read_whole.new.tokens c.read_whole.ensures.reads

pub returns-clause-reads : goal.returns-clause-reads
returns-clause-reads c = reads_of (IsLists c.args.bots) (λ (a : CallerLists). a) (the_lists c.args.bots) (exact_lists c.args.bots) c.args.tokens.now c.read_whole.result c.read_whole.new.tokens c.read_whole.ensures.reads
