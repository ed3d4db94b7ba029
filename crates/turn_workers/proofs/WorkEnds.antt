-- What is left once all turns are made and the field is closed.
use Rattle.std.proofs.Common.{◌≡◌, List, subst}
use Rattle.amoebot_state.specs.declared.verdict.Verdict.{Verdict}
use Rattle.amoebot_state.specs.Configs.{Config}
use Rattle.amoebot_state.specs.Zones.{Shown}
use Rattle.claim_core.specs.Turns.{MarkLists, Kept}
use Rattle.claim_core.specs.Good.{Good}
use Rattle.claim_core.specs.Reached.{Reached}
use Rattle.claim_core.specs.Soundness.{IsSetup}
use Rattle.claim_rule.specs.Manners.{by_journal}
use Rattle.claim_rule.specs.Views.{setup_of_terms}
use Rattle.claim_rule.specs.Tokens.{FieldOf}
use Rattle.claim_rule.specs.declared.views.Terms.{Terms}
use Rattle.claim_rule.specs.Seating.{SeatsOf}
use Rattle.claim_rule.specs.Closing.{ClosesAs}
use Rattle.claim_rule.specs.Laws as laws
use Rattle.claim_rule.specs.declared.manner.ByJournal.{ByJournal}
use Rattle.node_claims.specs.declared.turn.Turn.{Turn}
use Rattle.caller_workers.specs.WorkerStates.{AreAllMade}
use Rattle.caller_workers.proofs.MadeTurns.{of_all_made}

-- they are a report that some interleaving gives
pub is_report : {D : Type 0} (verdict : D → Shown → Verdict) (f : FieldOf D) (seats : SeatsOf D) (marks : MarkLists) (turns : List (List (Turn ByJournal))) → AreAllMade f seats marks turns
    → (z : Terms D) → f.terms ≡ z → laws.EndedFieldIsReached verdict → IsSetup (setup_of_terms verdict z) → (world : Config) (journal : Kept) → ClosesAs by_journal verdict f.terms seats.seats world journal
    → Reached (setup_of_terms verdict z) (record { world = world; journal = journal; turns = marks }) × Good (verdict z.decider) z.world z.lists (record { world = world; journal = journal; turns = marks })
is_report {D} verdict f seats marks turns made z terms law run world journal closes =
    of_all_made f seats marks turns made z terms (λ ms. Reached (setup_of_terms verdict z) (record { world = world; journal = journal; turns = ms }) × Good (verdict z.decider) z.world z.lists (record { world = world; journal = journal; turns = ms }))
    (λ count there ended. law z seats.seats world journal run count there ended (subst (λ (y : Terms D). ClosesAs by_journal verdict y seats.seats world journal) terms closes))
