use Rattle.action_tree.proofs.ProductionsLemmas.{texts_give_writable, bytes_give_writable}
use Rattle.action_tree.proofs.grammar_laws.texts_give_writable_trees.Goals as goal

pub returns-clause-tokens : goal.returns-clause-tokens
returns-clause-tokens c = texts_give_writable

pub returns-clause-bytes : goal.returns-clause-bytes
returns-clause-bytes c = bytes_give_writable
