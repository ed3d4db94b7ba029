use Rattle.std.proofs.Common.{◌≡◌, List, [], ◌∷◌, Some, Err, Ok, refl, sym, ap, ◌∙◌}
use Rattle.text_tokens.specs.declared.token.Token.{Token}
use Rattle.text_tokens.specs.declared.refusal.Refusal.{Refusal}
use Rattle.text_tokens.specs.declared.refusal.RefusalKind.{RefusalKind}
use Rattle.text_tokens.specs.declared.refusal.RefusalKind.TheVariants.{BadByte, WordTooLong, Unexpected, TooDeep, TooMany, Truncated, UnknownName, TwiceNamed, WrongType, BadRange, BadId, OutOfBox, Overlap, NotAdjacent, BadValue, Trailing, WrongSection, BadEntry, BadPlace, TooLong, BadWall, OnWall, NotErosion, BadStart}
use Rattle.text_tokens.specs.Text.{Lexeme}
use Rattle.text_tokens.specs.Cursor.{end_or, answer_by, refusal_at, at_end}
use Rattle.text_tokens.proofs.tokens.Tokens.end.Goals as goal

-- at the end there is no token, whatever is wrong there
no_token : (last : Refusal) (t : Token) (kind : RefusalKind) → end_or last kind ≡ Ok (Some t) → ⊥
no_token last t BadByte e = absurd cc
no_token last t WordTooLong e = absurd cc
no_token last t Unexpected e = absurd cc
no_token last t TooDeep e = absurd cc
no_token last t TooMany e = absurd cc
no_token last t Truncated e = absurd cc
no_token last t UnknownName e = absurd cc
no_token last t TwiceNamed e = absurd cc
no_token last t WrongType e = absurd cc
no_token last t BadRange e = absurd cc
no_token last t BadId e = absurd cc
no_token last t OutOfBox e = absurd cc
no_token last t Overlap e = absurd cc
no_token last t NotAdjacent e = absurd cc
no_token last t BadValue e = absurd cc
no_token last t Trailing e = absurd cc
no_token last t WrongSection e = absurd cc
no_token last t BadEntry e = absurd cc
no_token last t BadPlace e = absurd cc
no_token last t TooLong e = absurd cc
no_token last t BadWall e = absurd cc
no_token last t OnWall e = absurd cc
no_token last t NotErosion e = absurd cc
no_token last t BadStart e = absurd cc

token_left : (kind : RefusalKind) (last : Refusal) (ts : List Lexeme) (t : Token) → answer_by ts last ≡ Ok (Some t) → at_end kind last ts ≡ Err (refusal_at last kind ts)
token_left kind last [] t e = absurd (no_token last t last.kind e)
token_left kind last (l ∷ ls) t e = refl

pub returns-in-Some : goal.returns-in-Some
returns-in-Some c =
    let now = c.args.self.now in
    ap (λ (r : Refusal). Err r) c.refusal.ensures ∙ sym (token_left c.args.kind now.last now.ahead c.in-Some.field-0 (sym c.peek.ensures.answer ∙ c.in_ok-peek.was ∙ ap (λ o. Ok o) c.in-Some.is))
