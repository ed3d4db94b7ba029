use Rattle.atomic_table.specs.Table.{step, Allows}
use mathlib.Core.Option.{none}
use Rattle.claim_rule.specs.Views.{field_terms}
use Rattle.claim_rule.specs.Stands.{KeepsRule}
use Rattle.claim_rule.specs.Plays.{ReadsLength}
use Rattle.claim_rule.proofs.Looks.{look_allowed}
use Rattle.claim_rule.proofs.TokensLemmas.{alone_of, on_journal}
use Rattle.claim_rule.proofs.field.Field.read.Goals as goal

pub load-requires : goal.load-requires
load-requires g c =
    let me = c.args.seat.now.me in
    let slots = c.self.inside.table.shared.table_id.slots in
    let z = field_terms c.self.inside.table.shared.key.decider.now c.self.inside.table.shared.key.world c.self.inside.table.shared.key.lists.now in
    let alone = alone_of c.self.view_is c.requires.may.alone in
    on_journal c.self.view_is (λ w. Allows (KeepsRule g.D.Decider.verdict z g.W.Manner.way) slots c.args.seat.now.id me w (λ x. x) (ReadsLength g.D.Decider.verdict g.W.Manner.way (step slots w 0 0 none) me)) c.requires.may.table c.journal_number-journal.ensures.word c.journal_number-journal.ensures.number
    (look_allowed g.D.Decider.verdict z g.W.Manner.way c.self.invariant.run slots _ me alone c.requires.reads)
