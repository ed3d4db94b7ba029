use Rattle.std.proofs.Common.{ap, sym, ◌∙◌}
use Rattle.serial_model.proofs.replays.makes_step.Goals as goal

pub apply-requires : goal.apply-requires
apply-requires g c =
    let bot = g.E.EntryForm.bot c.args.told.now in
    c.has_next.ensures c.args.world.now bot c.in-Change.change (record {
      valid = c.keeps.ensures.valid;
      there = c.keeps.ensures.no_gaps bot c.requires.there;
      decided = ap (g.D.Decider.verdict c.args.decider.now) (sym c.requires.found) ∙ sym c.decide-verdict.ensures ∙ c.in-Change.is;
    })
