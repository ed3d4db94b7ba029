use Rattle.std.proofs.Common.{◌∙◌, ◌+◌, length, take, get_or, ap, sym, arith}
use Rattle.std.specs.Prelude.{slice_set}
use Rattle.std.proofs.lemmas.List.Sums.{fold_more}
use Rattle.round_meter.specs.Rounds.{is_change}
use Rattle.round_meter.specs.Meters.{standing_of}
use Rattle.round_meter.specs.Tallies.{Tallied}
use Rattle.round_meter.specs.Asking.{after_asking, asked_again}
use Rattle.round_meter.proofs.StandingsLemmas.{length-asked}
use Rattle.round_meter.proofs.progress.ask_each.Goals as goal

pub note-requires-clause-there : goal.note-requires-clause-there
note-requires-clause-there g c =
    let size = ap length c.loop-id.invariant.standings in
    let asked = length-asked (g.D.Decider.verdict c.args.decider.now) c.args.world.now (c.args.tally.now.rounds + 1) (take c.loop-id.id-index c.args.ids.now) c.args.tally.now.standings in
    omega (arith, size, asked, c.requires.size, c.requires.there c.loop-id.id-index 0 c.loop-id-test.true)

pub note-requires-clause-few : goal.note-requires-clause-few
note-requires-clause-few g c = omega (arith, c.requires.few, c.loop-id.invariant.rounds)

pub loop-id-preserved : goal.loop-id-preserved
loop-id-preserved g c =
    let f = g.D.Decider.verdict c.args.decider.now in
    let world = c.args.world.now in
    let round = c.args.tally.now.rounds + 1 in
    let was = c.loop-id.tally in
    let id = get_or c.args.ids.now c.loop-id.id-index 0 in
    record {
      standings =
          ap (λ (t : Tallied). t.standings) c.note.ensures
          ∙ ap (λ now. slice_set was.standings id (after_asking (was.rounds + 1) now (standing_of was.standings id))) (c.is_enabled.ensures ∙ ap (λ s. is_change (f s)) c.show.ensures)
          ∙ ap (λ r. asked_again f world (r + 1) was.standings id) c.loop-id.invariant.rounds
          ∙ ap (λ ss. asked_again f world round ss id) c.loop-id.invariant.standings
          ∙ sym (fold_more (asked_again f world round) c.args.tally.now.standings c.args.ids.now c.loop-id.id-index 0 c.loop-id-test.true);
      rounds = ap (λ (t : Tallied). t.rounds) c.note.ensures ∙ c.loop-id.invariant.rounds;
    }
