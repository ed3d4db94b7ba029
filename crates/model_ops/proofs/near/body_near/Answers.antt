use Rattle.std.proofs.Common.{◌∙◌, sym}
use Rattle.model_ops.proofs.Drafts.{other_near, own_near}
use Rattle.model_ops.proofs.near.body_near.Goals as goal

pub returns-then-id-bot-clause-value : goal.returns-then-id-bot-clause-value
returns-then-id-bot-clause-value c = own_near c.args.found.now c.args.own.now c.args.id c.requires.there (c.if-id-bot.true ∙ c.bot.ensures)

pub returns-else-id-bot-clause-value : goal.returns-else-id-bot-clause-value
returns-else-id-bot-clause-value c = other_near c.args.found.now c.args.own.now c.found_near.result.now c.args.id (λ e. c.if-id-bot.false (e ∙ sym c.bot.ensures)) c.found_near.ensures.value
