use Rattle.run_sample.proofs.NextBotLemmas.{comes_beside}
use Rattle.run_sample.proofs.amoebots.beside.Goals as goal

pub returns : goal.returns
returns c =
    comes_beside c.args.bots.now c.args.generator.now c.draw-index.new.generator c.draw_dir-dir.new.generator c.draw-rot.new.generator c.args.id c.draw-index.result c.draw_dir-dir.result c.draw-rot.result c.first_empty-node.result c.bot.result
    c.requires.behind c.requires.low c.draw-index.ensures.value c.draw-index.ensures.left c.draw_dir-dir.ensures.value c.draw_dir-dir.ensures.left c.first_empty-node.ensures c.draw-rot.ensures.value c.draw-rot.ensures.left c.bot.ensures
