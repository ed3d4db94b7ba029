use Rattle.std.proofs.Common.{codes}
use Rattle.commands.proofs.WordsLemmas.{other_word}
use Rattle.commands.proofs.words.of_subcommand.Goals as goal

pub returns-in_default : goal.returns-in_default
returns-in_default c =
    let word = c.args.word.now in
    let not = c.in_default in
    rw (other_word (codes "show") word not.not-show, other_word (codes "sample") word not.not-sample, other_word (codes "rewind") word not.not-rewind) c.of_word.ensures
