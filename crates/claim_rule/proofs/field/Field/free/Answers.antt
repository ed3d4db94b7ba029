use Rattle.std.proofs.Common.{subst, arith}
use Rattle.claim_rule.specs.Views.{Seated}
use Rattle.claim_rule.specs.Plays.{IsToFree}
use Rattle.claim_rule.proofs.Releases.{release_allowed}
use Rattle.claim_rule.proofs.TokensLemmas.{of_table, alone_of}
use Rattle.claim_rule.proofs.field.Field.free.Goals as goal

pub store-requires : goal.store-requires
store-requires g c =
    let me = c.args.seat.now.me in
    let alone = alone_of c.self.view_is c.requires.may.alone in
    let to = subst (λ (m : Seated _). IsToFree g.D.Decider.verdict g.W.Manner.way c.args.cell m) (λ i. (alone i, me.1)) c.requires.last in (
      of_table c.self.view_is c.requires.may.table,
      omega (arith, to.inside, c.self.invariant.words),
      release_allowed g.D.Decider.verdict _ g.W.Manner.way c.self.invariant.run _ _ me c.args.cell alone c.requires.last,
    )
