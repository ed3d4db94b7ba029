use Rattle.commands.proofs.Replayed.{Laws, run_texts_are_replayed, ticket_texts_are_replayed, interleave_texts_are_replayed, what_is_owed_is_replayed}
use Rattle.commands.proofs.replays.run_texts_are_replayed.Goals as goal

pub returns : goal.returns
returns c =
    let laws : Laws = record {
      fit = c.documents_fit.ensures;
      sound = c.documents_are_sound.ensures;
      replayed = c.runs_are_replayed.ensures;
      few = c.good_is_few.ensures;
      acts = c.changes_are_acts.ensures.acts;
      blocked = c.blocked_is_shown.ensures;
      decide = c.acts_decide.ensures.laws;
      nine = c.zone_has_at_most_nine_bodies.ensures;
      plain_limits = c.plain_keeps_limits.ensures;
    } in
    record { run = run_texts_are_replayed laws; tickets = ticket_texts_are_replayed laws; interleave = interleave_texts_are_replayed laws; owed = what_is_owed_is_replayed laws }
