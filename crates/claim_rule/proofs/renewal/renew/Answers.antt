use Rattle.std.proofs.Common.{◌<◌, length, get_or, set, ap, ◌∙◌, arith}
use Rattle.std.specs.Prelude.{unwrap_or}
use Rattle.std.proofs.lemmas.List.{get_or_default}
use Rattle.std.proofs.lemmas.List.Edits.{map_over_more}
use Rattle.amoebot_state.specs.declared.cell.CellName.{CellName}
use Rattle.amoebot_state.specs.declared.cell.CellName.TheVariants as name
use Rattle.amoebot_state.specs.declared.cell.Cell.{Cell}
use Rattle.amoebot_state.specs.declared.cell.Cell.TheVariants as cell
use Rattle.claim_core.specs.Machine.{patched_pair}
use Rattle.claim_rule.proofs.renewal.renew.Goals as goal

pub loop-pair-preserved : goal.loop-pair-preserved
loop-pair-preserved c =
    let d : CellName × Cell = (name.Spot (record { x = lib.IntN.pos 0; y = lib.IntN.pos 0 }), cell.Spot Rattle.std.proofs.Common.None) in
    let x = get_or c.loop-pair.held c.loop-pair.pair-index d in
    let inside : c.loop-pair.pair-index < length c.loop-pair.held = omega arith in
    ap (λ v. set c.loop-pair.held c.loop-pair.pair-index (x.0, v)) (c.unwrap_or-pair.ensures ∙ ap (λ o. unwrap_or o x.1) c.given.ensures)
    ∙ map_over_more (patched_pair c.args.patch.now) c.args.held.now c.loop-pair.held c.loop-pair.pair-index x (omega arith) c.loop-pair.invariant (get_or_default c.loop-pair.held c.loop-pair.pair-index d x inside)
