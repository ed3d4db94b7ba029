use Rattle.commands.proofs.WordsLemmas.{command_is_its_words}
use Rattle.commands.proofs.words.command_is_its_words.Goals as goal

pub returns : goal.returns
returns c = command_is_its_words
