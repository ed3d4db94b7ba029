use Rattle.commands.proofs.Outcomes.{reports_are_of_turns, reports_are_of_documents, reports_are_of_samples}
use Rattle.commands.proofs.laws.reports_are_of_runs.Goals as goal

pub returns : goal.returns
returns c = record {
  exactly = reports_are_of_turns;
  document = reports_are_of_documents c.good_stays_connected.ensures c.one_list_is_serial.ensures c.ticket_reached_is_reached.ensures;
  sample = reports_are_of_samples c.good_stays_connected.ensures c.sample_is_fit.ensures;
}
