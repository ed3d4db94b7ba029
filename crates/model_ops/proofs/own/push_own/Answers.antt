use Rattle.std.proofs.Common.{◌∙◌, ◌++◌, ◌∷◌, [], ap, sym}
use Rattle.amoebot_state.specs.declared.cell.CellName.TheVariants as name
use Rattle.amoebot_state.specs.declared.cell.Cell.TheVariants as cell
use Rattle.amoebot_state.specs.Pairs.{CellChange, Triples}
use Rattle.model_ops.proofs.OwnChange.{body_differs, nothing_differs}
use Rattle.model_ops.proofs.own.push_own.Goals as goal

pub returns-then-is_same : goal.returns-then-is_same
returns-then-is_same c =
    let s = c.args.found.now in
    let own = c.args.own.now in
    c.requires.none ∙ nothing_differs s own c.own-before.result.now c.requires.own (sym c.own-before.ensures.value) c.own-before.ensures.valid c.requires.reaches (sym c.is_same.ensures ∙ c.if-is_same.true)

pub returns : goal.returns
returns c =
    let s = c.args.found.now in
    let own = c.args.own.now in
    let was = c.own-before.result.now in
    let t : CellChange = (name.Body c.bot.result, cell.Body was, cell.Body own) in
    c.push.ensures ∙ ap (λ (ts : Triples). ts ++ t ∷ []) c.requires.none
    ∙ ap (λ i. let ts : Triples = (name.Body i, cell.Body was, cell.Body own) ∷ [] in ts) c.bot.ensures
    ∙ body_differs s own was c.requires.own (sym c.own-before.ensures.value) c.own-before.ensures.valid c.requires.reaches (sym c.is_same.ensures ∙ c.if-is_same.false)
