use Rattle.std.proofs.Common.{◌++◌, ap, ◌∙◌}
use Rattle.std.proofs.lemmas.Result.{on_ok_weaker}
use Rattle.journal_text.proofs.ChangeWords.{plain_section}
use Rattle.journal_text.proofs.printed.put_plain.Goals as goal

pub returns : goal.returns
returns c = on_ok_weaker c.put_section.result (λ e. e ∙ ap (λ text. c.args.lines.now ++ text) (plain_section c.args.vars c.args.entries.now)) c.put_section.ensures
