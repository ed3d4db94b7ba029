use Rattle.std.proofs.Common.{◌∙◌, length, [], ap, sym, subst, arith}
use Rattle.round_meter.specs.Meters.{IsMetered}
use Rattle.round_meter.specs.Tallies.{Tallied, metered}
use Rattle.round_meter.proofs.MeterLemmas.{first_is_metered, length-first}
use Rattle.round_meter.proofs.progress.Progress.make.Goals as goal

pub invariant_of-result : goal.invariant_of-result
invariant_of-result g c = record {
  size = ap (λ (t : Tallied). length t.standings) c.in_ok-tally.ensures ∙ length-first (g.D.Decider.verdict c.args.decider.now) c.args.start (length c.args.start.bots);
  ended = omega (arith, ap (λ (t : Tallied). t.rounds) c.in_ok-tally.ensures);
}

pub returns : goal.returns
returns g c =
    let f = g.D.Decider.verdict c.args.decider.now in
    subst (λ (t : Tallied). IsMetered f c.args.start [] (metered c.args.start t 0)) (sym c.in_ok-tally.ensures) (first_is_metered f c.args.start c.keeps.ensures.valid c.keeps.ensures.no_gaps)
