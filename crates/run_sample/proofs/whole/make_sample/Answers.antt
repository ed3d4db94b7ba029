use Rattle.std.proofs.Common.{List, ap, sym, ◌∙◌, subst}
use Rattle.tri_lattice.specs.Sets.{IsConnected}
use Rattle.amoebot_state.specs.declared.bot.Bot.{Bot}
use Rattle.amoebot_state.specs.Configs.{Config, with_these, IsValid}
use Rattle.amoebot_state.specs.Occupied.{occupied}
use Rattle.run_sample.specs.Sample.{sample_frame}
use Rattle.run_sample.proofs.Laid.{sample_laid, connected}
use Rattle.run_sample.proofs.whole.make_sample.Goals as goal

pub world_of-requires-clause-valid : goal.world_of-requires-clause-valid
world_of-requires-clause-valid c =
    subst (λ (bs : List Bot). IsValid (with_these sample_frame bs)) (sym c.as_slice.ensures.value) (sample_laid c.args.seed c.in_ok-bots.bots.items c.in_ok-bots.ensures).valid

pub returns-clause-sample : goal.returns-clause-sample
returns-clause-sample c = record {
  program = c.in_ok-checked.ensures;
  bots = c.in_ok-bots.bots.items;
  come = c.in_ok-bots.ensures;
  world = c.in_ok-world.ensures ∙ ap (with_these sample_frame) c.as_slice.ensures.value;
  lists = c.in_ok-lists.ensures;
}

pub returns-clause-connected : goal.returns-clause-connected
returns-clause-connected c =
    subst (λ (w : Config). IsConnected (occupied w)) (sym (c.in_ok-world.ensures ∙ ap (with_these sample_frame) c.as_slice.ensures.value))
    (connected c.in_ok-bots.bots.items (sample_laid c.args.seed c.in_ok-bots.bots.items c.in_ok-bots.ensures))
