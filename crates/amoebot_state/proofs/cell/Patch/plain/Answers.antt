use Rattle.std.proofs.Common.{◌≡◌, ◌+◌, ◌∙◌, ap, sym, length, take, arith}
use Rattle.std.proofs.lemmas.List.{take_all, length_push}
use Rattle.amoebot_state.specs.Pairs.{plain_patch}
use Rattle.amoebot_state.proofs.Stored.{plain_more}
use Rattle.amoebot_state.proofs.cell.Patch.plain.Goals as goal

pub loop-name-preserved : goal.loop-name-preserved
loop-name-preserved c =
    let was = c.loop-name.invariant in
    let grown : length c.push.new.self ≡ length c.loop-name.plain + 1 = ap length c.push.ensures ∙ length_push c.loop-name.plain _ in (
      plain_more c.args.self.now c.triples-name-items.result.now c.loop-name.plain c.push.new.self c.loop-name.name-index _ c.triples-name-items.ensures.value c.loop-name-test.true was.0 c.push.ensures,
      omega (arith, grown, was.1),
    )

pub returns : goal.returns
returns c =
    c.loop-name.invariant.0
    ∙ ap (λ ts. plain_patch (take c.loop-name.name-index ts)) (sym c.triples-name-items.ensures.value)
    ∙ ap plain_patch (take_all c.loop-name.name-index c.triples-name-items.result.now c.loop-name-test.false)
    ∙ ap plain_patch c.triples-name-items.ensures.value
