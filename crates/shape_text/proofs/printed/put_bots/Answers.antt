use Rattle.std.proofs.Common.{◌<◌, length, None, Some, ap, sym, ◌∙◌, codes, arith}
use Rattle.std.proofs.lemmas.Option.{slice_get-get_or}
use Rattle.shape_text.specs.PartTexts.{bot_words}
use Rattle.shape_text.specs.Texts.{bot_line}
use Rattle.text_tokens.proofs.LineLemmas.{line_made, line_more}
use Rattle.shape_text.proofs.NextLines.{bot_next}
use Rattle.shape_text.proofs.printed.put_bots.Goals as goal

pub loop-id-preserved : goal.loop-id-preserved
loop-id-preserved c =
    let inside : c.loop-id.id < length c.args.world.now.bots = omega arith in
    let bot = c.bot.result.now in
    line_more _ _ _ _ (bot_line c.args.vars bot) _ c.loop-id.invariant (line_made _ _ _ _ (codes "bot") (bot_words c.args.vars bot) c.in_ok-begin.ensures c.in_ok-put_bot.ensures c.in_ok-end.ensures) (bot_next (bot_line c.args.vars) c.args.world.now.bots c.loop-id.id bot (slice_get-get_or _ _ None inside ∙ ap Some (sym c.bot.ensures.value)))
