use Rattle.std.proofs.Common.{◌∙◌, ◌++◌, [], ◌∷◌, length, Bool, ap, sym, arith}
use Rattle.std.proofs.lemmas.List.FromFn.{map-range_with_len_more}
use Rattle.round_meter.specs.declared.standing.Standing.{Standing}
use Rattle.round_meter.specs.Rounds.{is_change}
use Rattle.round_meter.specs.Tallies.{Tallied}
use Rattle.round_meter.specs.Asking.{first_standing, first_standings}
use Rattle.round_meter.proofs.MeterLemmas.{length-first}
use Rattle.round_meter.proofs.progress.first_tally.Goals as goal

pub push-requires : goal.push-requires
push-requires g c =
    let f = g.D.Decider.verdict c.args.decider.now in
    omega (arith, ap length c.loop-bot.invariant.standings, length-first f c.args.world.now c.loop-bot.bot)

pub loop-bot-preserved : goal.loop-bot-preserved
loop-bot-preserved g c =
    let f = g.D.Decider.verdict c.args.decider.now in
    let world = c.args.world.now in
    let bot = c.loop-bot.bot in
    let standing : Bool → Standing = λ now. record { enabled = now; settled_in = 0 } in
    record {
      standings =
          ap (λ (t : Tallied). t.standings) c.in_ok-push.ensures
          ∙ ap (λ ss. ss ++ standing c.is_enabled.result ∷ []) c.loop-bot.invariant.standings
          ∙ ap (λ now. first_standings f world bot ++ standing now ∷ []) (c.is_enabled.ensures ∙ ap (λ s. is_change (f s)) c.show.ensures)
          ∙ sym (map-range_with_len_more (first_standing f world) 0 bot bot (omega arith));
      rounds = ap (λ (t : Tallied). t.rounds) c.in_ok-push.ensures ∙ c.loop-bot.invariant.rounds;
    }
