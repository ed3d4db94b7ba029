use Rattle.std.proofs.Common.{◌∙◌, ap, [], List, ℕ}
use Rattle.std.specs.List.{fold}
use Rattle.std.proofs.lemmas.List.{take_all}
use Rattle.tri_lattice.specs.declared.node.Node.{Node}
use Rattle.amoebot_state.specs.Known.{read_on}
use Rattle.amoebot_state.specs.Storage.{with_other}
use Rattle.amoebot_state.proofs.Zones.{others_taken_up}
use Rattle.amoebot_state.proofs.next.others_read.Goals as goal

pub returns-clause-value : goal.returns-clause-value
returns-clause-value c =
    let add : List ℕ → Node → List ℕ = λ is v. with_other c.args.bot is (read_on c.args.cells.now v) in
    c.loop-node.invariant.0
    ∙ ap (fold add []) (take_all c.loop-node.node-index c.args.nodes.now c.loop-node-test.false)
    ∙ others_taken_up (read_on c.args.cells.now) c.args.bot c.args.nodes.now
