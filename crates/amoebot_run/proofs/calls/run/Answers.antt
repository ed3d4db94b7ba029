use Rattle.std.proofs.Common.{◌≤◌, length, subst, sym}
use Rattle.commands.specs.Commands.{limit_for}
use Rattle.amoebot_run.proofs.Endings.{told, serves}
use Rattle.amoebot_run.proofs.EndingTells.{ending_tells}
use Rattle.amoebot_run.proofs.Fronts.{reads_all}
use Rattle.amoebot_run.proofs.Parts.{ended_of, its_turns, ready_of, finished, finished_turns, from_first, unworked}
use Rattle.amoebot_run.proofs.calls.run.Goals as goal

-- ---- the call has ended at once

pub returns-in-Ended-clause-ending : goal.returns-in-Ended-clause-ending
returns-in-Ended-clause-ending g c = ended_of _ c.in-Ended.ensures.begun

pub returns-in-Ended-clause-turns : goal.returns-in-Ended-clause-turns
returns-in-Ended-clause-turns g c = (its_turns _ c.in-Ended.ensures.begun).turns_there

pub returns-in-Ended-clause-tickets : goal.returns-in-Ended-clause-tickets
returns-in-Ended-clause-tickets g c = (its_turns _ c.in-Ended.ensures.begun).tickets_there

pub returns-in-Ended-clause-headline : goal.returns-in-Ended-clause-headline
returns-in-Ended-clause-headline g c = told c.reports_are_of_runs.ensures.document c.reports_are_of_runs.ensures.sample _ _ _ _ _ (returns-in-Ended-clause-ending g c)

pub returns-in-Ended-clause-complete : goal.returns-in-Ended-clause-complete
returns-in-Ended-clause-complete g c = λ command document a is left few holds. serves c.documents_have_outcomes.ensures document a _ (reads_all g.S.Source.left g.S.Source.gives g.S.Source.fails g.S.Source.faults _ _ _ _ left (subst (λ o. length document ≤ limit_for o) (sym is) few)) command _ _ _ is holds (returns-in-Ended-clause-ending g c)

pub returns-in-Ended-clause-tells : goal.returns-in-Ended-clause-tells
returns-in-Ended-clause-tells g c = ending_tells c.owed_is_one.ensures c.reports_are_of_runs.ensures.exactly c.reports_are_of_runs.ensures.sample _
    (reads_all g.S.Source.left g.S.Source.gives g.S.Source.fails g.S.Source.faults _ _ _) (λ got reads. reads.0) (λ text cuts. cuts.0) _ _ (returns-in-Ended-clause-ending g c)

-- ---- workers run lists

pub make_turns-requires : goal.make_turns-requires
make_turns-requires g c = (record { shared = c.type_bounds.sync-R.shared }, (record { shared = c.type_bounds.sync-G.shared }, (ready_of _ c.in-Run.ensures.begun).prepared.there))

pub finish-requires-clause-good : goal.finish-requires-clause-good
finish-requires-clause-good g c = from_first c.in-Run.prepared c.in-Ok.made.report c.in-Ok.ensures.good

pub finish-requires-clause-few : goal.finish-requires-clause-few
finish-requires-clause-few g c = (ready_of _ c.in-Run.ensures.begun).prepared.few c.in-Ok.made.report c.in-Ok.ensures.good

pub returns-in-Ok-clause-ending : goal.returns-in-Ok-clause-ending
returns-in-Ok-clause-ending g c = finished g.K.Sink _ _ _ _ c.in-Run.prepared (ready_of _ c.in-Run.ensures.begun) c.in-Ok.made c.in-Ok.ensures _ c.finish.ensures

pub returns-in-Ok-clause-turns : goal.returns-in-Ok-clause-turns
returns-in-Ok-clause-turns g c = (finished_turns g.K.Sink _ _ _ _ c.in-Run.prepared (ready_of _ c.in-Run.ensures.begun) c.in-Ok.made c.in-Ok.ensures _ c.finish.ensures).turns_there

pub returns-in-Ok-clause-tickets : goal.returns-in-Ok-clause-tickets
returns-in-Ok-clause-tickets g c = (finished_turns g.K.Sink _ _ _ _ c.in-Run.prepared (ready_of _ c.in-Run.ensures.begun) c.in-Ok.made c.in-Ok.ensures _ c.finish.ensures).tickets_there

pub returns-in-Ok-clause-headline : goal.returns-in-Ok-clause-headline
returns-in-Ok-clause-headline g c = told c.reports_are_of_runs.ensures.document c.reports_are_of_runs.ensures.sample _ _ _ _ _ (returns-in-Ok-clause-ending g c)

pub returns-in-Ok-clause-complete : goal.returns-in-Ok-clause-complete
returns-in-Ok-clause-complete g c = λ command document a is left few holds. serves c.documents_have_outcomes.ensures document a _ (reads_all g.S.Source.left g.S.Source.gives g.S.Source.fails g.S.Source.faults _ _ _ _ left (subst (λ o. length document ≤ limit_for o) (sym is) few)) command _ _ _ is holds (returns-in-Ok-clause-ending g c)

pub returns-in-Ok-clause-tells : goal.returns-in-Ok-clause-tells
returns-in-Ok-clause-tells g c = ending_tells c.owed_is_one.ensures c.reports_are_of_runs.ensures.exactly c.reports_are_of_runs.ensures.sample _
    (reads_all g.S.Source.left g.S.Source.gives g.S.Source.fails g.S.Source.faults _ _ _) (λ got reads. reads.0) (λ text cuts. cuts.0) _ _ (returns-in-Ok-clause-ending g c)

-- ---- or they are out of memory

pub returns-clause-ending : goal.returns-clause-ending
returns-clause-ending g c = unworked _ c.in-Run.prepared _ (ready_of _ c.in-Run.ensures.begun) c.end_with.ensures

pub returns-clause-tells : goal.returns-clause-tells
returns-clause-tells g c = ending_tells c.owed_is_one.ensures c.reports_are_of_runs.ensures.exactly c.reports_are_of_runs.ensures.sample _
    (reads_all g.S.Source.left g.S.Source.gives g.S.Source.fails g.S.Source.faults _ _ _) (λ got reads. reads.0) (λ text cuts. cuts.0) _ _ (returns-clause-ending g c)
