use Rattle.std.proofs.Common.{arith}
use Rattle.run_sample.proofs.NextBotLemmas.{comes_in_square}
use Rattle.run_sample.proofs.Laid.{laid, inside}
use Rattle.run_sample.proofs.amoebots.next.Goals as goal

pub beside-requires-clause-inside : goal.beside-requires-clause-inside
beside-requires-clause-inside c =
    let placed = c.requires.placed in
    let behind = c.requires.behind in
    let few = c.requires.few in
    inside c.args.bots.now (omega arith) (laid placed.0 c.args.bots.now c.args.generator.now (omega arith) placed.1)

pub returns-then-id-lt-SQUARE : goal.returns-then-id-lt-SQUARE
returns-then-id-lt-SQUARE c =
    comes_in_square c.args.bots.now c.args.generator.now c.in_square.new.generator c.args.id c.in_square.result c.requires.behind c.if-id-lt-SQUARE.true c.in_square.ensures.value c.in_square.ensures.left
