use Rattle.std.proofs.Common.{◌∙◌, ap, refl, sym}
use Rattle.serial_model.proofs.Runs.{no_step}
use Rattle.round_meter.specs.Meters.{Metered}
use Rattle.round_meter.proofs.MeterLemmas.{goes_on_told, still_stands}
use Rattle.round_meter.proofs.progress.Progress.feed.Goals as goal

pub returns-in_default-clause-differs : goal.returns-in_default-clause-differs
returns-in_default-clause-differs g c =
    let f = g.D.Decider.verdict c.args.decider.now in (
      ap (λ (m : Metered). m.fed) c.self.view_is,
      no_step g.met.E.EntryForm.is_form f c.args.self.now.world c.args.told.now (λ change tells decided. c.in_default.ensures.none change tells (ap f c.requires.shown ∙ decided)),
      refl,
    )

pub returns-clause-goes_on : goal.returns-clause-goes_on
returns-clause-goes_on g c =
    let f = g.D.Decider.verdict c.args.decider.now in
    goes_on_told g.met.E.EntryForm.is_form f c.args.told.now c.in-Some.change c.bot.result c.args.self.now c.enter.new.self c.bot.ensures c.enter.ensures c.requires.there c.in-Some.ensures.told (ap f (sym c.requires.shown) ∙ c.in-Some.ensures.decided) c.requires.stands

pub returns-clause-stands : goal.returns-clause-stands
returns-clause-stands g c =
    let f = g.D.Decider.verdict c.args.decider.now in
    let on = goes_on_told g.met.E.EntryForm.is_form f c.args.told.now c.in-Some.change c.bot.result c.args.self.now c.enter.new.self c.bot.ensures c.enter.ensures c.requires.there c.in-Some.ensures.told (ap f (sym c.requires.shown) ∙ c.in-Some.ensures.decided) c.requires.stands in
    still_stands f on.source c.args.self.now c.enter.new.self on.holds
