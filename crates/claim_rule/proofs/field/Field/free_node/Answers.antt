use Rattle.std.proofs.Common.{subst, arith}
use Rattle.claim_rule.specs.Plays.{IsToFreeNode}
use Rattle.claim_rule.proofs.NodeReleases.{node_release_allowed}
use Rattle.claim_rule.proofs.TokensLemmas.{of_table, alone_of}
use Rattle.claim_rule.proofs.field.Field.free_node.Goals as goal

pub store-requires : goal.store-requires
store-requires g c =
    let me = c.args.seat.now.me in
    let alone = alone_of c.self.view_is c.requires.may.alone in
    let to = subst (IsToFreeNode g.D.Decider.verdict c.args.cell c.args.word) alone c.requires.last in (
      of_table c.self.view_is c.requires.may.table,
      omega (arith, to.placed.1, c.self.invariant.words),
      node_release_allowed g.D.Decider.verdict _ c.self.invariant.run _ c.requires.words _ _ me c.args.cell c.args.word alone c.requires.last,
    )
