use Rattle.std.proofs.Common.{Some, refl, ap, sym, ◌∙◌}
use Rattle.shape_files.specs.Views.{contents}
use Rattle.commands.specs.declared.prepared.Maker.TheVariants as maker
use Rattle.commands.specs.declared.prepared.Telling.TheVariants as telling
use Rattle.commands.proofs.OwedTexts.{are_there}
use Rattle.commands.proofs.PreparedRuns.{prepares}
use Rattle.commands.proofs.run.prepare.Goals as goal

pub returns : goal.returns
returns c = λ bytes h. prepares c.one_list_is_serial.ensures (contents c.args.parts) bytes
    (record { runner = c.new-runner.result; world = c.unwrap-world.result; lists = c.unwrap-lists.result; telling = telling.Report (contents c.args.parts).version; maker = maker.Workers }) h
    (c.unwrap-checked.ensures ∙ ap Some (sym c.new-runner.ensures)) c.unwrap-world.ensures c.unwrap-lists.ensures refl refl
    (are_there (contents c.args.parts) c.unwrap-world.result c.unwrap-lists.result c.requires.together c.unwrap-world.ensures c.unwrap-lists.ensures c.keeps.ensures.no_gaps)
