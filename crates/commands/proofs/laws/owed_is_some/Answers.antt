use Rattle.commands.proofs.SomethingOwedLemmas.{Exists, owed_is_some}
use Rattle.commands.proofs.laws.owed_is_some.Goals as goal

pub returns : goal.returns
returns c =
    let laws : Exists = record {
      documents = c.least_versions_are_kept.ensures.decided;
      later = c.least_versions_are_kept.ensures.document;
      values = c.least_versions_are_kept.ensures.values;
      fit = c.documents_fit.ensures;
      sound = c.documents_are_sound.ensures;
      rounds = c.rounds_leave_a_report.ensures;
      goods = c.reached_is_good.ensures;
      tickets = c.tickets_leave_a_report.ensures;
      fine = c.ticket_reached_is_good.ensures;
      serials = c.one_list_is_serial.ensures;
      full = c.replay_is_decided.ensures;
      plain = c.replay_is_decided-2.ensures;
      measures = c.measures_are_decided.ensures;
      stays = c.good_stays_connected.ensures;
      samples = c.sample_is_some.ensures;
      fits = c.sample_is_fit.ensures;
      acts = c.changes_are_acts.ensures.acts;
      decide = c.acts_decide.ensures.laws;
      backs = c.unwound_is_some.ensures;
      counts = c.each_run_is_rounded.ensures;
      erosions = c.election_laws.ensures.decided;
      starts = c.start_laws.ensures.decided;
      ready = c.start_laws.ensures.ready;
    } in
    owed_is_some laws
