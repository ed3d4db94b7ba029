use Rattle.commands.proofs.WordsLemmas.{small_words}
use Rattle.commands.proofs.words.small_words.Goals as goal

pub returns : goal.returns
returns c = small_words
