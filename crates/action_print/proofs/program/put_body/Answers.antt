use Rattle.std.proofs.Common.{◌++◌, ◌∷◌, codes, ap, sym, ◌∙◌}
use Rattle.std.proofs.lemmas.Result.{on_ok_weaker}
use Rattle.text_tokens.specs.Lines.{lines_text}
use Rattle.text_tokens.proofs.LineLemmas.{line_made}
use Rattle.action_tree.specs.Views.{stmts_of}
use Rattle.action_print.specs.Canon.{stmts_words}
use Rattle.action_print.proofs.RowLemmas.{alone, do_some}
use Rattle.action_print.proofs.program.put_body.Goals as goal

pub returns : goal.returns
returns c =
    let words = stmts_words (stmts_of c.args.stmts.now) in
    on_ok_weaker c.end.result (λ end. alone _ _ (codes "do" ∷ words) (line_made _ _ _ _ (codes "do") words c.in_ok-begin.ensures c.in_ok-put_stmts.ensures end)
    ∙ ap (λ lines. c.args.lines.now ++ lines_text lines) (sym (do_some c.args.stmts.now (sym c.is_empty.ensures ∙ c.if-is_empty.false)))) c.end.ensures
