use Rattle.std.proofs.Common.{◌++◌, codes, take, ap, sym, refl, ◌∙◌}
use Rattle.std.proofs.lemmas.Result.{on_ok_weaker}
use Rattle.std.proofs.lemmas.Option.{slice_get_read}
use Rattle.text_tokens.specs.Lines.{spaced}
use Rattle.action_tree.specs.Views.{stmt_of, stmts_of}
use Rattle.action_print.specs.Canon.{stmt_words, stmts_words}
use Rattle.action_print.specs.Rows.{between}
use Rattle.action_print.proofs.RowLemmas.{token_then, row_more, stmts_next, else_some}
use Rattle.action_print.proofs.statement.+statement.Goals as goal

pub put_else-returns : goal.put_else-returns
put_else-returns t c =
    on_ok_weaker c.put_stmts.result (λ end. token_then _ _ _ (codes "else") (stmts_words (stmts_of c.args.stmts.now)) c.in_ok-word.ensures end ∙ ap (λ ws. c.args.lines.now ++ spaced ws) (sym (else_some c.args.stmts.now (sym c.is_empty.ensures ∙ c.if-is_empty.false)))) c.put_stmts.ensures

pub put_stmts-loop-place-preserved : goal.put_stmts-loop-place-preserved
put_stmts-loop-place-preserved t c =
    let s = c.index-stmts-place.result in
    let i = c.loop-place.place in
    row_more _ _ _ _ (stmts_words (stmts_of (take i c.args.stmts.now))) (between i (codes ";")) (stmt_words (stmt_of s)) _ c.loop-place.invariant c.in_ok-put_between.ensures
    c.in_ok-put_stmt.ensures (stmts_next (codes ";") c.args.stmts.now i s (slice_get_read _ _ _ _ refl c.loop-place-test.true c.index-stmts-place.is))
