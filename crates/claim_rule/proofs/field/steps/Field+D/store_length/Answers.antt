use Rattle.std.proofs.Common.{◌*◌, sym, subst}
use Rattle.atomic_table.specs.Table.{step, Allows}
use mathlib.Core.Option.{none}
use Rattle.claim_rule.specs.Manners.{by_journal}
use Rattle.claim_rule.specs.Tokens.{FieldOf}
use Rattle.claim_rule.specs.Views.{field_terms}
use Rattle.claim_rule.specs.Stands.{KeepsRule, journal_slot}
use Rattle.claim_rule.specs.Commits.{IsToCommit, stored}
use Rattle.claim_rule.proofs.Commits.{commit_allowed}
use Rattle.claim_rule.proofs.TokensLemmas.{alone_of, on_journal}
use Rattle.claim_rule.proofs.field.steps.Field+D.store_length.Goals as goal

pub store-requires : goal.store-requires
store-requires g c =
    let me = c.args.seat.now.me in
    let slots = c.self.inside.table.shared.table_id.slots in
    let z = field_terms c.self.inside.table.shared.key.decider.now c.self.inside.table.shared.key.world c.self.inside.table.shared.key.lists.now in
    let alone = alone_of c.self.view_is c.requires.may.alone in
    let to = subst (λ (f : FieldOf _). IsToCommit g.D.Decider.verdict (journal_slot f.terms.world) (2 * c.args.length) me) (sym c.self.view_is) c.requires.commits in
    on_journal c.self.view_is (λ w. Allows (KeepsRule g.D.Decider.verdict z by_journal) slots c.args.seat.now.id me w (λ _. 2 * c.args.length) (λ _. stored g.D.Decider.verdict (step slots w (2 * c.args.length) 0 none) me (2 * c.args.length))) c.requires.may.table c.journal_number-journal.ensures.word c.journal_number-journal.ensures.number
    (commit_allowed g.D.Decider.verdict z c.self.invariant.run slots _ me (2 * c.args.length) alone to)
