use Rattle.std.proofs.Common.{◌∙◌, ap, length}
use Rattle.std.proofs.lemmas.Result.{IfOk-weaker}
use Rattle.amoebot_state.specs.Configs.{Config}
use Rattle.commands.proofs.SampleTexts.{is_text}
use Rattle.commands.proofs.sample.print_sample.Goals as goal

pub returns : goal.returns
returns g c = IfOk-weaker _ _ _ (λ text is. is_text _ _ _ _ _ _ _ _ _ text c.in_ok-connected.ensures c.in_ok-agrees.ensures (c.bots.ensures.value ∙ ap (λ (w : Config). length w.bots) c.first.ensures) c.callers-callers.ensures.value c.all_turns.ensures is) c.print_told.ensures
