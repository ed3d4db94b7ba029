use Rattle.std.proofs.Common.{◌≡◌, ◌++◌, ◌∷◌, [], ap, sym, ◌∙◌, arith, length}
use Rattle.std.specs.Prelude.{unwrap_or}
use Rattle.amoebot_state.specs.declared.cell.Cell.TheVariants as cell
use Rattle.amoebot_state.specs.Configs.{blank}
use Rattle.claim_core.specs.Turns.{Kept}
use Rattle.claim_rule.specs.declared.views.Slot.TheVariants as slot
use Rattle.claim_rule.proofs.FirstSlots.{bodies_so_far, one_more_body}
use Rattle.claim_rule.proofs.make.first_slots.Goals as goal

pub loop-id-preserved : goal.loop-id-preserved
loop-id-preserved c =
    let w = c.args.world.now in
    let body = ap (λ o. unwrap_or o blank) c.bot.ensures.value in
    c.in_ok-push.ensures.items ∙ (λ i. c.loop-id.invariant i ++ slot.Cell (cell.Body (body i)) ∷ []) ∙ sym (one_more_body w c.loop-id.id)

pub returns : goal.returns
returns c =
    let w = c.args.world.now in
    let all : c.loop-id.id ≡ length w.bots = omega (arith, c.loop-id-test.false, c.loop-id.auto.id-end, c.bots-id-end.ensures.value) in
    record {
      journal = c.reserve.new.self;
      are = c.in_ok-push-2.ensures.items ∙ ap (λ (j : Kept). c.loop-id.slots.items ++ slot.Journal j ∷ []) c.in_ok-boxed.ensures ∙ ap (λ xs. xs ++ slot.Journal c.reserve.new.self ∷ []) (c.loop-id.invariant ∙ ap (bodies_so_far w) all);
      first = ap (λ (j : Kept). j.first) c.in_ok-reserve.ensures.ok ∙ c.in_ok-journal.ensures.first;
      entries = ap (λ (j : Kept). j.entries) c.in_ok-reserve.ensures.ok ∙ c.in_ok-journal.ensures.entries;
      room = omega (arith, ap (λ (j : Kept). j.spare) c.in_ok-reserve.ensures.ok, c.all_turns.ensures);
    }
