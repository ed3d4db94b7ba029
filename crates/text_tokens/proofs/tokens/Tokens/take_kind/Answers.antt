use Rattle.std.proofs.Common.{◌≡◌, ◌∙◌, List, [], ◌∷◌, true, ap, sym, subst, refl, Result, Ok, Err}
use Rattle.std.specs.Prelude.{IfOk, OnOk}
use Rattle.std.proofs.lemmas.Bool.{false≢true}
use Rattle.text_tokens.specs.declared.refusal.Refusal.{Refusal}
use Rattle.text_tokens.specs.declared.token.Token.{Token}
use Rattle.text_tokens.specs.declared.token.TokenKind.{TokenKind}
use Rattle.text_tokens.specs.declared.token.TokenKind.TheVariants.{Number}
use Rattle.text_tokens.specs.Text.{Lexeme}
use Rattle.text_tokens.specs.Cursor.{Cursor, IsDigits, Spells, past_token, expect, expect_by, is_kind, next_passes}
use Rattle.text_tokens.proofs.StepsLemmas.{is_number_of, kind_taken}
use Rattle.text_tokens.proofs.tokens.Tokens.take_kind.Goals as goal

-- a next token that passes is taken as any would be
as_any : (kind : TokenKind) (ls : List Lexeme) (last : Refusal) → next_passes (is_kind kind) ls ≡ true → expect_by (is_kind kind) ls last ≡ expect_by (λ _. true) ls last
as_any kind [] last passes = absurd (false≢true passes)
as_any kind (l ∷ ls) last passes = rw passes refl

number_taken : (kind : TokenKind) (old new : Cursor) (r : Result Token Refusal) → r ≡ expect (λ _. true) old → next_passes (is_kind kind) old.ahead ≡ true → OnOk r (new ≡ past_token old) → IfOk r (Spells old) → IfOk r (λ token. kind ≡ Number → IsDigits new.source token)
number_taken kind old new (Err e) answer passes moves spells = tt
number_taken kind old new (Ok t) answer passes moves spells = λ k.
    subst (λ source. IsDigits source t) (sym (ap (λ (c : Cursor). c.source) moves)) (is_number_of old t spells (kind_taken kind old t (as_any kind old.ahead old.last passes ∙ sym answer) ∙ k))

pub returns-clause-number : goal.returns-clause-number
returns-clause-number c = number_taken c.args.kind c.args.self.now c.take_any.new.self c.take_any.result c.take_any.ensures.answer (sym c.is_next_kind.ensures ∙ c.if-not-is_next_kind.false) c.take_any.ensures.moves c.take_any.ensures.spells
