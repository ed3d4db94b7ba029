use Rattle.std.proofs.Common.{codes}
use Rattle.std.proofs.lemmas.Result.{on_ok_weaker}
use Rattle.text_tokens.proofs.LineLemmas.{line_made}
use Rattle.action_tree.specs.Views.{guard_of}
use Rattle.action_print.specs.Canon.{guard_words}
use Rattle.action_print.proofs.program.put_when.Goals as goal

pub returns : goal.returns
returns c = on_ok_weaker c.end.result (λ end. line_made _ _ _ _ (codes "when") (guard_words (guard_of c.args.guard.now)) c.in_ok-begin.ensures c.in_ok-put_guard.ensures end) c.end.ensures
