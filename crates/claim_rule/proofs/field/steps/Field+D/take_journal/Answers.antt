use Rattle.std.proofs.Common.{bit_or}
use Rattle.atomic_table.specs.Table.{step, Allows}
use mathlib.Core.Option.{none}
use Rattle.claim_rule.specs.Manners.{by_journal}
use Rattle.claim_rule.specs.Views.{field_terms}
use Rattle.claim_rule.specs.Stands.{KeepsRule}
use Rattle.claim_rule.specs.Commits.{TriesJournal}
use Rattle.claim_rule.proofs.Takings.{take_allowed}
use Rattle.claim_rule.proofs.TokensLemmas.{alone_of, on_journal}
use Rattle.claim_rule.proofs.field.steps.Field+D.take_journal.Goals as goal

pub fetch_or-requires : goal.fetch_or-requires
fetch_or-requires g c =
    let me = c.args.seat.now.me in
    let slots = c.self.inside.table.shared.table_id.slots in
    let z = field_terms c.self.inside.table.shared.key.decider.now c.self.inside.table.shared.key.world c.self.inside.table.shared.key.lists.now in
    let alone = alone_of c.self.view_is c.requires.may.alone in
    on_journal c.self.view_is (λ w. Allows (KeepsRule g.D.Decider.verdict z by_journal) slots c.args.seat.now.id me w (λ x. bit_or x 1) (TriesJournal g.D.Decider.verdict (step slots w 1 0 none) me)) c.requires.may.table c.journal_number-journal.ensures.word c.journal_number-journal.ensures.number
    (take_allowed g.D.Decider.verdict z c.self.invariant.run slots _ me alone c.requires.takes)
