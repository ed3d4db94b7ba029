use Rattle.std.proofs.Common.{ap, sym, ◌∙◌}
use Rattle.serial_model.proofs.Runs.{makes}
use Rattle.serial_model.proofs.replays.make_step_on.Goals as goal

pub apply-requires : goal.apply-requires
apply-requires g c =
    let bot = g.E.EntryForm.bot c.args.told.now in
    c.has_next.ensures c.args.world.now bot c.in_ok-change.change (record {
      valid = c.keeps.ensures.valid;
      there = c.keeps.ensures.no_gaps bot c.requires.there;
      decided = ap (g.D.Decider.verdict c.args.decider.now) (sym c.requires.found) ∙ c.in_ok-change.ensures.decided;
    })

pub returns-clause-step : goal.returns-clause-step
returns-clause-step g c =
    let f = g.D.Decider.verdict c.args.decider.now in
    let bot = g.E.EntryForm.bot c.args.told.now in
    makes g.met.E.EntryForm.is_form f c.args.world.now c.apply.new.self c.args.told.now c.in_ok-change.change (c.keeps.ensures.no_gaps bot c.requires.there) (ap f (sym c.requires.found) ∙ c.in_ok-change.ensures.decided) c.apply.ensures
