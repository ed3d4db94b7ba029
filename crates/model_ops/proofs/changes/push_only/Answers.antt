use Rattle.std.proofs.Common.{◌∙◌, ◌++◌, [], ◌∷◌, ap, sym, map, List}
use Rattle.std.specs.List.{find}
use Rattle.tri_lattice.specs.declared.node.Node.{Node}
use Rattle.amoebot_state.specs.Pairs.{Triples}
use Rattle.model_ops.specs.declared.member.Member.{Member}
use Rattle.model_ops.specs.Members.{body_change, changed_spot, has_changed, nodes_of, ranked}
use Rattle.model_ops.proofs.changes.push_only.Goals as goal

pub returns : goal.returns
returns c =
    let ms = c.args.members.now in
    let only = c.args.only.now in
    let spot : List Node → Triples = λ vs. changed_spot ms (find (has_changed ms) vs) in
    c.push_body.ensures
    ∙ ap (λ (t : Triples). t ++ body_change only ∷ []) (c.push_crossed.ensures.value ∙ ap (λ (t : Triples). t ++ spot c.nodes_of.result) c.requires.none ∙ ap spot c.nodes_of.ensures)
    ∙ sym (ap (λ (xs : List Member). spot (nodes_of c.args.own.now) ++ map body_change (ranked xs)) c.requires.alone)
