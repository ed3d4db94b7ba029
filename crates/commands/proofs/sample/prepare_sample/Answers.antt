use Rattle.std.proofs.Common.{refl, subst, sym}
use Rattle.action_tree.specs.Trees.{Program}
use Rattle.run_sample.specs.Whole.{IsSample}
use Rattle.commands.specs.declared.prepared.Maker.TheVariants as maker
use Rattle.commands.specs.declared.prepared.Telling.TheVariants as telling
use Rattle.commands.proofs.PreparedRuns.{prepares_sample}
use Rattle.commands.proofs.sample.prepare_sample.Goals as goal

pub returns : goal.returns
returns c = prepares_sample c.sample_is_fit.ensures c.good_is_few.ensures c.args.seed
    (record { runner = c.new.result; world = c.in_ok-sample.sample.world; lists = c.in_ok-sample.sample.lists; telling = telling.Sample c.args.seed; maker = maker.Workers })
    (subst (λ (p : Program). IsSample c.args.seed (record { checked = p; world = c.in_ok-sample.sample.world; lists = c.in_ok-sample.sample.lists })) (sym c.new.ensures) c.in_ok-sample.ensures.sample)
    refl refl
