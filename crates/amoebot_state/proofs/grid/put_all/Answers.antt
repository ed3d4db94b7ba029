use Rattle.std.proofs.Common.{◌∙◌, None, ap, get_or, pos, sym}
use Rattle.std.proofs.lemmas.List.{take_all}
use Rattle.tri_lattice.specs.declared.node.Node.{Node}
use Rattle.amoebot_state.specs.declared.cell.CellName.TheVariants as name
use Rattle.amoebot_state.specs.declared.cell.Cell.TheVariants as cell
use Rattle.amoebot_state.specs.Pairs.{CellChange, plain_patch}
use Rattle.amoebot_state.specs.Storage.{put_bot, put_bots, put_spot, put_spots}
use Rattle.amoebot_state.proofs.Stored.{each_more}
use Rattle.amoebot_state.proofs.grid.put_all.Goals as goal

pub loop-triple-preserved : goal.loop-triple-preserved
loop-triple-preserved c =
    let ts = c.args.triples.now in
    let i = c.loop-triple.triple-index in
    let lt = c.loop-triple-test.true in
    let origin : Node = record { x = pos 0; y = pos 0 } in
    let d : CellChange = (name.Spot origin, cell.Spot None, cell.Spot None) in
    let t = get_or ts i d in (
      c.put.ensures.bots
          ∙ ap (λ bs. put_bot bs t.0 t.2) c.loop-triple.invariant.0
          ∙ sym (each_more put_bot c.args.amoebots.now.items ts i d lt),
      c.put.ensures.grid
          ∙ ap (λ g. put_spot c.args.area.now g t.0 t.2) c.loop-triple.invariant.1
          ∙ sym (each_more (put_spot c.args.area.now) c.args.occupants.now.items ts i d lt),
    )

pub returns-clause-bots : goal.returns-clause-bots
returns-clause-bots c =
    c.loop-triple.invariant.0
    ∙ ap (λ ts. put_bots c.args.amoebots.now.items (plain_patch ts)) (take_all c.loop-triple.triple-index c.args.triples.now c.loop-triple-test.false)

pub returns-clause-grid : goal.returns-clause-grid
returns-clause-grid c =
    c.loop-triple.invariant.1
    ∙ ap (λ ts. put_spots c.args.area.now c.args.occupants.now.items (plain_patch ts)) (take_all c.loop-triple.triple-index c.args.triples.now c.loop-triple-test.false)
