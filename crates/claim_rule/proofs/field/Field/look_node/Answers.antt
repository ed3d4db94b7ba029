use Rattle.std.proofs.Common.{subst, arith}
use Rattle.claim_rule.specs.Plays.{IsToTryNode}
use Rattle.claim_rule.proofs.NodeClaims.{look_allowed}
use Rattle.claim_rule.proofs.TokensLemmas.{of_table, alone_of}
use Rattle.claim_rule.proofs.field.Field.look_node.Goals as goal

pub load-requires : goal.load-requires
load-requires g c =
    let me = c.args.seat.now.me in
    let alone = alone_of c.self.view_is c.requires.may.alone in
    let to = subst (IsToTryNode g.D.Decider.verdict c.args.cell) alone c.requires.next in (
      of_table c.self.view_is c.requires.may.table,
      omega (arith, to.placed.1, c.self.invariant.words),
      look_allowed g.D.Decider.verdict _ c.self.invariant.run _ c.requires.words _ _ me c.args.cell alone c.requires.next,
    )
