use Rattle.std.proofs.lemmas.Str.{IsUtf8-from_ascii}
use Rattle.action_tree.proofs.WordsLemmas.{word_is_ascii}
use Rattle.action_tree.proofs.word.Word.new.Goals as goal

pub unreachable-requires-in_default : goal.unreachable-requires-in_default
unreachable-requires-in_default c = c.in_default.ensures.cases.0 (IsUtf8-from_ascii c.args.text.now (word_is_ascii c.args.text.now c.requires))
