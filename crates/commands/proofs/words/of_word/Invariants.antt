use Rattle.std.proofs.Common.{◌≡◌, drop}
use Rattle.commands.specs.Words.{document_in, documents}
use Rattle.commands.proofs.words.of_word.Given as goal

-- no command so far has this word
abbrev pub invariant-loop-command : goal.invariant-loop-command
invariant-loop-command l = document_in documents l.word ≡ document_in (drop l.command-index documents) l.word
