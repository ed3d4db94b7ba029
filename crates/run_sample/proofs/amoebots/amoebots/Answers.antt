use Rattle.std.proofs.Common.{List, [], length, ap, sym, subst, arith}
use Rattle.std.proofs.lemmas.List.{length_push}
use Rattle.amoebot_state.specs.declared.bot.Bot.{Bot}
use Rattle.rand_pcg.specs.Lcg.{Lcg}
use Rattle.run_sample.specs.Sample.{Placed, none}
use Rattle.run_sample.proofs.NextBotLemmas.{one_more}
use Rattle.run_sample.proofs.amoebots.amoebots.Goals as goal

pub loop-id-init : goal.loop-id-init
loop-id-init c =
    let empty = c.new-bots.ensures.items in
    let size = ap (λ (bs : List Bot). length bs) empty in
    record {
      placed = subst (λ (bs : List Bot). Placed c.args.seed bs c.seeded-generator.result) (sym empty) (subst (λ (g : Lcg). Placed c.args.seed [] g) (sym c.seeded-generator.ensures) none);
      many = omega arith;
    }

pub loop-id-preserved : goal.loop-id-preserved
loop-id-preserved c =
    let old = c.loop-id.bots.items in
    let items = c.in_ok-push.ensures.items in
    let size = ap (λ (bs : List Bot). length bs) items in
    let long = length_push old c.next-bot.result in
    record {
      placed = one_more c.args.seed old _ _ c.next-bot.result c.loop-id.generator c.next-bot.new.generator c.loop-id.invariant.placed c.as_slice.ensures.value c.next-bot.ensures items;
      many = omega arith;
    }

pub returns : goal.returns
returns c = record { many = omega arith; left = c.loop-id.generator; placed = c.loop-id.invariant.placed }
