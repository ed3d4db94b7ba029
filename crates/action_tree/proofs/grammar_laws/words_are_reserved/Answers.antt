use Rattle.std.proofs.Common.{refl}
use Rattle.action_tree.proofs.NameLemmas.{names}
use Rattle.action_tree.proofs.grammar_laws.words_are_reserved.Goals as goal

pub returns-clause-table : goal.returns-clause-table
returns-clause-table c = refl

pub returns-clause-names : goal.returns-clause-names
returns-clause-names c = names
