use Rattle.std.proofs.Common.{◌≡◌, ◌∙◌, Bool, true, false, List, [], ◌∷◌, refl, sym}
use Rattle.std.specs.Prelude.{◌||◌}
use Rattle.text_tokens.specs.Text.{Lexeme}
use Rattle.text_tokens.specs.Cursor.{next_passes}
use Rattle.journal_text.specs.Journals.{is_spot_word, is_body_word}
use Rattle.journal_text.proofs.journal.is_cell_next.Goals as goal

module _ (a b : Lexeme → Bool) where
  passes_first : (ts : List Lexeme) → next_passes a ts ≡ true → next_passes (λ t. a t || b t) ts ≡ true
  passes_first [] e = e
  passes_first (t ∷ ts) e = rw e refl

  passes_second : (ts : List Lexeme) → next_passes a ts ≡ false → next_passes (λ t. a t || b t) ts ≡ next_passes b ts
  passes_second [] e = refl
  passes_second (t ∷ ts) e = rw e refl

pub returns-then-is_next : goal.returns-then-is_next
returns-then-is_next c = c.if-is_next.true ∙ sym (passes_first is_spot_word is_body_word c.args.tokens.now.ahead (sym c.is_next.ensures ∙ c.if-is_next.true))

pub returns-else-is_next : goal.returns-else-is_next
returns-else-is_next c = c.is_next-else-is_next.ensures ∙ sym (passes_second is_spot_word is_body_word c.args.tokens.now.ahead (sym c.is_next.ensures ∙ c.if-is_next.false))
