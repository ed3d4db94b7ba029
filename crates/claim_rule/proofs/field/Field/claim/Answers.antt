use Rattle.std.proofs.Common.{subst, arith}
use Rattle.claim_rule.specs.Plays.{IsToTry}
use Rattle.claim_rule.proofs.Claims.{claim_allowed}
use Rattle.claim_rule.proofs.TokensLemmas.{of_table, alone_of}
use Rattle.claim_rule.proofs.field.Field.claim.Goals as goal

pub compare_exchange-requires : goal.compare_exchange-requires
compare_exchange-requires g c =
    let me = c.args.seat.now.me in
    let alone = alone_of c.self.view_is c.requires.may.alone in
    let to = subst (IsToTry g.D.Decider.verdict g.W.Manner.way c.args.cell c.args.tag) alone c.requires.next in (
      of_table c.self.view_is c.requires.may.table,
      omega (arith, to.placed.1, c.self.invariant.words),
      claim_allowed g.D.Decider.verdict _ g.W.Manner.way c.self.invariant.run _ _ me c.args.cell c.args.tag alone c.requires.next,
    )
