use Rattle.commands.proofs.ExampleLemmas.{small_answers}
use Rattle.commands.proofs.laws.small_answers.Goals as goal

pub returns : goal.returns
returns c = small_answers c.reached_is_good.ensures c.one_list_is_serial.ensures
