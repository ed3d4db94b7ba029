use Rattle.action_eval.proofs.SharedRunner.{runner_sync}
use Rattle.amoebot_run.proofs.turns.make_turns.Goals as goal

pub work-requires : goal.work-requires
work-requires g c = (record { shared = c.type_bounds.sync-R.shared }, (record { shared = runner_sync.shared }, (record { shared = c.type_bounds.sync-G.shared }, c.requires)))

pub work_tickets-requires : goal.work_tickets-requires
work_tickets-requires g c = (record { shared = c.type_bounds.sync-R.shared }, (record { shared = runner_sync.shared }, (record { shared = c.type_bounds.sync-G.shared }, c.requires)))
