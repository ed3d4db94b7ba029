use Rattle.action_tree.proofs.TextLines.{lines_follow_text}
use Rattle.action_tree.proofs.grammar_laws.lines_follow_text.Goals as goal

pub returns : goal.returns
returns c = lines_follow_text
