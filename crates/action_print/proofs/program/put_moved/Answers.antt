use Rattle.std.proofs.Common.{codes}
use Rattle.std.proofs.lemmas.Result.{on_ok_weaker}
use Rattle.text_tokens.proofs.LineLemmas.{line_made}
use Rattle.action_tree.specs.Views.{move_of}
use Rattle.action_print.specs.Canon.{move_words}
use Rattle.action_print.proofs.program.put_moved.Goals as goal

pub returns : goal.returns
returns c = on_ok_weaker c.end.result (λ end. line_made _ _ _ _ (codes "move") (move_words (move_of c.args.moved.now)) c.in_ok-begin.ensures c.in_ok-put_move.ensures end) c.end.ensures
