use Rattle.commands.proofs.Renewed.{RenewRules, renewed_is_replayed, renewed_stays, renew_ends_as_replay}
use Rattle.commands.proofs.replays.renewed_is_replayed.Goals as goal

pub returns : goal.returns
returns c =
    let rules : RenewRules = record {
      fit = c.documents_fit.ensures;
      sound = c.documents_are_sound.ensures;
      read_back = c.documents_read_back.ensures.law;
      acts = c.changes_are_acts.ensures.acts;
      decide = c.acts_decide.ensures.laws;
      nine = c.zone_has_at_most_nine_bodies.ensures;
      verdicts = c.verdict_ignores_lines.ensures;
      canons = c.canon_ignores_lines.ensures;
    } in
    record { replayed = renewed_is_replayed rules c.least_versions_are_kept.ensures.decided; stays = renewed_stays rules; ends = renew_ends_as_replay }
