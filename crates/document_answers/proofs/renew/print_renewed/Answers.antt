use Rattle.std.proofs.Common.{ℕ, length, [], ◌∷◌, ap, sym, ◌∙◌}
use Rattle.std.specs.Prelude.{codes}
use Rattle.std.proofs.lemmas.List.{length-map}
use Rattle.text_tokens.specs.Lines.{line_text}
use Rattle.action_print.specs.Canon.{canon}
use Rattle.action_tree.specs.Views.{var_of}
use Rattle.journal_text.specs.Texts.{journal_text}
use Rattle.shape_text.specs.Texts.{shape_text}
use Rattle.document_answers.proofs.RenewedTexts.{joined}
use Rattle.document_answers.proofs.renew.print_renewed.Goals as goal

pub returns : goal.returns
returns c =
    joined (line_text (codes "amoebot" ∷ codes "3" ∷ [])) (canon c.args.program.now)
    (λ (n : ℕ). shape_text (codes "shape") n c.args.start.now) (λ (n : ℕ). journal_text n c.args.entries.now) (λ (n : ℕ). shape_text (codes "final") n c.args.last.now)
    (length c.vars.result.now) (length c.args.program.now.vars) _ _ _ _ _ _ c.text.result
    (sym (length-map c.vars.result.now var_of) ∙ ap length c.vars.ensures)
    c.new-lines.ensures c.in_ok-put_word.ensures c.in_ok-put_program.ensures.text c.in_ok-put_shape.ensures c.in_ok-put_journal.ensures c.in_ok-put_shape-2.ensures c.text.ensures
