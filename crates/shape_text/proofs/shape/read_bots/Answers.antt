use Rattle.std.proofs.Common.{◌≡◌, ◌<◌, ◌+◌, ℕ, suc, List, [], ◌∷◌, ◌++◌, length, map, ap, sym, ◌∙◌, subst, arith}
use Rattle.std.specs.List.{All}
use Rattle.std.proofs.lemmas.List.{map-append}
use Rattle.std.proofs.lemmas.List.Elements.{All-push}
use Rattle.std.proofs.lemmas.Result.{err_from_is_err_and}
use Rattle.text_tokens.specs.Reading.{repeated}
use Rattle.text_tokens.specs.Lawful.{always}
use Rattle.text_tokens.proofs.LoopLemmas.{StillReads, loop_begins, loop_goes_on, loop_is_over, loop_fails}
use Rattle.amoebot_state.specs.Limits.{most_bots}
use Rattle.amoebot_state.specs.Refusals.{IsBotInRange}
use Rattle.shape_text.specs.Parts.{is_end, one_more}
use Rattle.shape_text.specs.declared.shape.WrittenBot.{WrittenBot}
use Rattle.shape_text.specs.Shapes.{is_bot, IsBotLine}
use Rattle.shape_text.specs.Readers.{a_bot_line, bots_from, all_bots}
use Rattle.shape_text.specs.Views as view
use Rattle.shape_text.proofs.ShapeLaws.{bot_elements}
use Rattle.shape_text.proofs.shape.read_bots.Goals as goal

abbrev InRange : WrittenBot → Type 0
InRange b = IsBotInRange b.bot

pub loop-found-init : goal.loop-found-init
unfolding bots_from
loop-found-init c =
    let none = c.new-found.ensures.items in
    let size = ap length none in
    record {
      reads = loop_begins (all_bots c.args.vars) c.args.tokens.now (map view.bot_view c.new-found.result.items) (ap (map view.bot_view) none);
      few = omega arith;
      same = omega (arith, c.new-found.ensures.len);
      in_range = λ k d lt. absurd (omega (arith, size));
    }

pub returns-in_err-bot-clause-reads : goal.returns-in_err-bot-clause-reads
returns-in_err-bot-clause-reads c =
    let p = err_from_is_err_and c.from_residual.result c.from_residual.ensures.1 in
    rw (p.1, p.2) (loop_fails (IsBotLine c.args.vars) (a_bot_line c.args.vars) one_more is_bot always is_end (bot_elements c.args.vars) (all_bots c.args.vars) c.args.tokens.now (map view.bot_view c.loop-found.found.items) c.loop-found.before c.loop-found.tokens c.loop-found.invariant.reads
    c.in_err-bot.field-0.0 c.more_bot.new.tokens c.in_err-bot.ensures.reads)

pub loop-found-preserved : goal.loop-found-preserved
loop-found-preserved c =
    let vars = c.args.vars in
    let next = rw c.in-Some.is at c.in_ok-bot.ensures.reads in
    let few : c.loop-found.before < most_bots = rw c.in-Some.is at c.in_ok-bot.ensures.room in
    let in_range : InRange c.in-Some.bot = rw c.in-Some.is at c.in_ok-bot.ensures.in_range in
    let pushed = c.in_ok-push.ensures.items in
    let more : map view.bot_view c.push.new.self.items ≡ map view.bot_view c.loop-found.found.items ++ view.bot_view c.in-Some.bot ∷ [] = ap (map view.bot_view) pushed ∙ map-append view.bot_view c.loop-found.found.items (c.in-Some.bot ∷ []) in
    let reads = loop_goes_on (IsBotLine vars) (a_bot_line vars) one_more is_bot always is_end (bot_elements vars) (all_bots vars) c.args.tokens.now (map view.bot_view c.loop-found.found.items) c.loop-found.before c.loop-found.tokens c.loop-found.invariant.reads
    (view.bot_view c.in-Some.bot) c.more_bot.new.tokens next (map view.bot_view c.push.new.self.items) more in
    let one : suc c.loop-found.before ≡ c.loop-found.before + 1 = omega arith in
    record {
      reads = subst (λ (n : ℕ). StillReads (all_bots vars) c.args.tokens.now (map view.bot_view c.push.new.self.items) (repeated is_bot (a_bot_line vars) one_more n) c.more_bot.new.tokens) one reads;
      few = omega (arith, few);
      same = omega (arith, c.in_ok-push.ensures.len, c.loop-found.invariant.same);
      in_range = subst (λ (bots : List WrittenBot). All InRange bots) (sym pushed) (All-push InRange c.loop-found.found.items c.in-Some.bot c.loop-found.invariant.in_range in_range);
    }

pub returns-clause-reads : goal.returns-clause-reads
returns-clause-reads c = loop_is_over (IsBotLine c.args.vars) (a_bot_line c.args.vars) one_more is_bot always is_end (bot_elements c.args.vars) (all_bots c.args.vars) c.args.tokens.now (map view.bot_view c.loop-found.found.items) c.loop-found.before c.loop-found.tokens c.loop-found.invariant.reads
    c.more_bot.new.tokens (rw c.in_default.is at c.in_ok-bot.ensures.reads)
