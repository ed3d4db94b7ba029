use Rattle.std.proofs.Common.{Some, codes}
use Rattle.std.proofs.lemmas.Result.{err_from_is_err_and}
use Rattle.amoebot_state.specs.declared.bot.Bot.{Bot}
use Rattle.amoebot_state.specs.declared.cell.Cell.TheVariants as cell
use Rattle.shape_text.specs.PartReaders.{a_word, a_bot}
use Rattle.journal_text.specs.Readers.{a_bot_value}
use Rattle.text_tokens.specs.Reading.{pure}
use Rattle.text_tokens.proofs.StepsLemmas.{fails, on_made}
use Rattle.text_tokens.proofs.Rows.{past_part, part_fails, made_left}
use Rattle.journal_text.proofs.OldValues.{behind_old, with_old_value, without_old_value}
use Rattle.journal_text.proofs.journal.read_old_bot.Goals as goal

pub returns-then-not-old : goal.returns-then-not-old
returns-then-not-old c = without_old_value (a_bot_value c.args.vars) c.args.tokens.now c.args.old c.if-not-old.true

pub returns-in_err-bot : goal.returns-in_err-bot
returns-in_err-bot c =
    let p = err_from_is_err_and c.from_residual.result c.from_residual.ensures.1 in
    let part = a_bot_value c.args.vars in
    let l = with_old_value part c.args.tokens.now c.args.old c.if-not-old.false in
    let failed = fails (a_bot c.args.vars) (λ b. pure (cell.Body b)) c.in_err-bot.field-0.0 c.args.tokens.now c.read_bot.new.tokens c.in_err-bot.ensures.reads in
    rw (p.1, p.2) (part_fails part behind_old l c.in_err-bot.field-0.0 c.read_bot.new.tokens failed)

pub returns-in_err-read_word : goal.returns-in_err-read_word
returns-in_err-read_word c =
    let p = err_from_is_err_and c.from_residual-in_err-read_word.result c.from_residual-in_err-read_word.ensures.1 in
    let part = a_bot_value c.args.vars in
    let l = with_old_value part c.args.tokens.now c.args.old c.if-not-old.false in
    let reached = on_made (a_bot c.args.vars) (λ (b : Bot). cell.Body b) c.args.tokens.now c.read_bot.new.tokens c.in_ok-bot.bot c.in_ok-bot.ensures.reads in
    let m = past_part part behind_old l (cell.Body c.in_ok-bot.bot) c.read_bot.new.tokens reached in
    rw (p.1, p.2) (part_fails (a_word (codes "to")) (λ line. pure (Some (cell.Body c.in_ok-bot.bot))) m c.in_err-read_word.field-0.0 c.read_word.new.tokens c.in_err-read_word.ensures.reads)

pub returns : goal.returns
returns c =
    let part = a_bot_value c.args.vars in
    let l = with_old_value part c.args.tokens.now c.args.old c.if-not-old.false in
    let reached = on_made (a_bot c.args.vars) (λ (b : Bot). cell.Body b) c.args.tokens.now c.read_bot.new.tokens c.in_ok-bot.bot c.in_ok-bot.ensures.reads in
    let m = past_part part behind_old l (cell.Body c.in_ok-bot.bot) c.read_bot.new.tokens reached in
    made_left (a_word (codes "to")) (λ line. Some (cell.Body c.in_ok-bot.bot)) m c.in_ok-read_word.field-0 c.read_word.new.tokens c.in_ok-read_word.ensures.reads
