use Rattle.std.proofs.Common.{◌<◌, ◌∙◌, ◌+◌, length, ap, sym, subst, arith}
use Rattle.std.specs.List.{All, Contains}
use Rattle.amoebot_state.specs.declared.cell.Cell.{Cell}
use Rattle.amoebot_state.specs.declared.cell.CellName.{CellName}
use Rattle.amoebot_state.specs.Pairs.{cell_of, plain_patch}
use Rattle.amoebot_state.specs.Patches.{HasPatched}
use Rattle.amoebot_state.specs.Steps.{DecidesChange}
use Rattle.amoebot_state.specs.Zones.{shown, zone}
use Rattle.round_meter.specs.Meters.{Metered}
use Rattle.round_meter.specs.Tallies.{metered}
use Rattle.round_meter.specs.Asking.{IsEntered, IsInReach, cells_among, ids_asked}
use Rattle.round_meter.proofs.AskingLemmas.{asked_still, number_kept, zone_in_reach}
use Rattle.round_meter.proofs.MeterLemmas.{entered, entered_in_step}
use Rattle.round_meter.proofs.progress.Progress.enter.Goals as goal

pub ids_near-near-requires-clause-reach : goal.ids_near-near-requires-clause-reach
ids_near-near-requires-clause-reach g c =
    let world = c.self.inside.world in
    let below : c.args.bot < length world.bots = omega (arith, c.requires.there, ap (λ (m : Metered). length m.world.bots) c.self.view_is) in
    let there = c.keeps.ensures.no_gaps c.args.bot below in
    let decides : DecidesChange (g.D.Decider.verdict c.args.decider.now) world c.args.bot c.requires.decided.0 = record {
      valid = c.keeps.ensures.valid;
      there = there;
      decided = ap (λ (m : Metered). g.D.Decider.verdict c.args.decider.now (shown m.world c.args.bot)) c.self.view_is ∙ c.requires.decided.2;
    } in
    let within = subst (λ ts. All (λ (p : CellName × Cell). Contains (zone world c.args.bot) (cell_of p)) (plain_patch ts)) c.requires.decided.1 (c.touches_zone.ensures world c.args.bot c.requires.decided.0 decides) in
    subst (λ ts. All (IsInReach world) (cells_among ts)) (sym c.triples.ensures.value) (zone_in_reach world c.args.bot c.args.patch.now c.keeps.ensures.valid there within)

pub apply-requires : goal.apply-requires
apply-requires g c =
    let world = c.self.inside.world in
    let below : c.args.bot < length world.bots = omega (arith, c.requires.there, ap (λ (m : Metered). length m.world.bots) c.self.view_is) in
    subst (λ ts. HasPatched world (plain_patch ts)) c.requires.decided.1 (c.has_next.ensures world c.args.bot c.requires.decided.0 (record {
      valid = c.keeps.ensures.valid;
      there = c.keeps.ensures.no_gaps c.args.bot below;
      decided = ap (λ (m : Metered). g.D.Decider.verdict c.args.decider.now (shown m.world c.args.bot)) c.self.view_is ∙ c.requires.decided.2;
    }))

pub ask_each-requires-clause-there : goal.ask_each-requires-clause-there
ask_each-requires-clause-there g c = λ lifetimes outlives.
    let world = c.self.inside.world in
    asked_still world c.apply.new.self c.args.patch.now c.as_slice.result.now c.apply.ensures (c.as_slice.ensures.value ∙ c.ids_near-near.ensures ∙ ap (λ ts. ids_asked world (cells_among ts)) c.triples.ensures.value)

pub invariant_of-self : goal.invariant_of-self
invariant_of-self g c =
    let f = g.D.Decider.verdict c.args.decider.now in
    let world = c.self.inside.world in
    let next = c.apply.new.self in
    let tally = c.self.inside.tally in
    let ids = ids_asked world (cells_among c.args.patch.now) in
    let asked = c.as_slice.ensures.value ∙ c.ids_near-near.ensures ∙ ap (λ ts. ids_asked world (cells_among ts)) c.triples.ensures.value in
    entered_in_step f next tally c.end_round.new.self c.self.inside.fed (length world.bots) c.args.bot ids c.self.invariant.size (number_kept world next (plain_patch c.args.patch.now) c.apply.ensures) c.self.invariant.ended
    (entered f next tally c.enter.new.self c.ask_each.new.tally c.end_round.new.self c.args.bot c.as_slice.result.now ids c.enter.ensures c.ask_each.ensures asked c.end_round.ensures)

pub returns : goal.returns
returns g c =
    let f = g.D.Decider.verdict c.args.decider.now in
    let world = c.self.inside.world in
    let next = c.apply.new.self in
    let tally = c.self.inside.tally in
    let fed = c.self.inside.fed in
    let patch = c.args.patch.now in
    let ids = ids_asked world (cells_among patch) in
    let asked = c.as_slice.ensures.value ∙ c.ids_near-near.ensures ∙ ap (λ ts. ids_asked world (cells_among ts)) c.triples.ensures.value in
    let by : IsEntered f (metered world tally fed) c.args.bot patch (metered next c.end_round.new.self (fed + 1)) = record {
      valid = c.keeps.ensures.valid;
      no_gaps = c.keeps.ensures.no_gaps;
      size = c.self.invariant.size;
      patched = c.apply.ensures;
      next = ap (λ t. metered next t (fed + 1)) (entered f next tally c.enter.new.self c.ask_each.new.tally c.end_round.new.self c.args.bot c.as_slice.result.now ids c.enter.ensures c.ask_each.ensures asked c.end_round.ensures);
    } in
    subst (λ (m : Metered). IsEntered f m c.args.bot patch (metered next c.end_round.new.self (fed + 1))) c.self.view_is by
