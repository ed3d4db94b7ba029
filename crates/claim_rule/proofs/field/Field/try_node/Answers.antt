use Rattle.std.proofs.Common.{subst, arith}
use Rattle.claim_rule.specs.Plays.{IsToWin}
use Rattle.claim_rule.proofs.NodeClaims.{try_allowed}
use Rattle.claim_rule.proofs.TokensLemmas.{of_table, alone_of}
use Rattle.claim_rule.proofs.field.Field.try_node.Goals as goal

pub compare_exchange-requires : goal.compare_exchange-requires
compare_exchange-requires g c =
    let me = c.args.seat.now.me in
    let alone = alone_of c.self.view_is c.requires.may.alone in
    let to = subst (IsToWin g.D.Decider.verdict c.args.cell c.args.noted c.args.tagged) alone c.requires.next in (
      of_table c.self.view_is c.requires.may.table,
      omega (arith, to.tries.placed.1, c.self.invariant.words),
      try_allowed g.D.Decider.verdict _ c.self.invariant.run _ c.requires.words _ _ me c.args.cell c.args.noted c.args.tagged alone c.requires.next,
    )
