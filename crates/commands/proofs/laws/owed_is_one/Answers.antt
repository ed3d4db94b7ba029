use Rattle.commands.proofs.OwedLemmas.{OneOfEach, owed_is_one}
use Rattle.commands.proofs.laws.owed_is_one.Goals as goal

pub returns : goal.returns
returns c =
    let laws : OneOfEach = record {
      documents = c.least_versions_are_kept.ensures.decided;
      later = c.least_versions_are_kept.ensures.document;
      together = c.documents_fit.ensures;
      runs = c.run_report_is_one.ensures;
      claimed = c.ticket_reached_is_reached.ensures;
      interleaves = c.interleave_report_is_one.ensures.text;
      full = c.replay_is_decided.ensures;
      plain = c.replay_is_decided-2.ensures;
      unique = c.plain_run_is_unique.ensures;
      measures = c.measure_text_is_one.ensures;
      stays = c.good_stays_connected.ensures;
      fit = c.sample_is_fit.ensures;
      acts = c.changes_are_acts.ensures.acts;
      decide = c.acts_decide.ensures.laws;
      backs = c.unwound_is_unique.ensures;
      counts = c.rounds_are_unique.ensures;
    } in
    owed_is_one laws
