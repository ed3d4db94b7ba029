use Rattle.std.proofs.Common.{◌∙◌, ◌&&◌, ap, sym}
use Rattle.std.specs.Prelude.{is_some}
use Rattle.tri_lattice.specs.Extent.{is_in}
use Rattle.amoebot_state.specs.Configs.{is_wall}
use Rattle.amoebot_state.specs.Walls.{has_node}
use Rattle.amoebot_state.proofs.Frames.{wall_told}
use Rattle.model_ops.specs.WorkingCopies.{WorkingCopy}
use Rattle.model_ops.proofs.draft.Draft.is_wall.Goals as goal

pub returns-then-has_node : goal.returns-then-has_node
returns-then-has_node c =
    let mine = c.self.inside in
    let inside = is_in mine.area c.args.node in
    let among = ap (λ vs. has_node vs c.args.node) (sym c.as_slice.ensures.value) ∙ sym c.has_node.ensures ∙ c.if-has_node.true in
    c.is_some.ensures ∙ ap is_some c.index.ensures.value ∙ ap (λ t. t && inside) (sym among)
    ∙ wall_told mine.area mine.walls.items c.args.node
    ∙ ap (λ (w : WorkingCopy). is_wall w.reached c.args.node) c.self.view_is

pub returns-else-has_node : goal.returns-else-has_node
returns-else-has_node c =
    let mine = c.self.inside in
    let inside = is_in mine.area c.args.node in
    let among = ap (λ vs. has_node vs c.args.node) (sym c.as_slice.ensures.value) ∙ sym c.has_node.ensures ∙ c.if-has_node.false in
    c.if-has_node.false ∙ ap (λ t. t && inside) (sym among)
    ∙ wall_told mine.area mine.walls.items c.args.node
    ∙ ap (λ (w : WorkingCopy). is_wall w.reached c.args.node) c.self.view_is
