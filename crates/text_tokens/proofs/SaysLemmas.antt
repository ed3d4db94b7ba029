-- What a grammar says of a text: what an exact reader answers of its tokens, and what its lines are read as.
use Rattle.std.proofs.Common.{◌≡◌, ℕ, List, Result, Ok, sym, subst}
use Rattle.std.proofs.lemmas.List.{append-nil}
use Rattle.text_tokens.specs.declared.refusal.Refusal.{Refusal}
use Rattle.text_tokens.specs.declared.refusal.RefusalKind.TheVariants.{Trailing}
use Rattle.text_tokens.specs.Text.{Lexeme}
use Rattle.text_tokens.specs.Scan.{ahead_of, last_of}
use Rattle.text_tokens.specs.Reading.{Reader, whole_input}
use Rattle.text_tokens.specs.Grammar.{Lang}
use Rattle.text_tokens.specs.Lines.{Words, lines_text}
use Rattle.text_tokens.specs.Lawful.{Exact, IsWhole}
use Rattle.text_tokens.specs.Inputs.{TellsInput}
use Rattle.text_tokens.proofs.Blanks.{point}
use Rattle.text_tokens.proofs.PromisesLemmas.{one_reading, tokens_of_text}
use Rattle.text_tokens.proofs.InputLemmas.{exact_input}
use Rattle.text_tokens.proofs.Exactness.{none_stops}
use Rattle.text_tokens.proofs.LinesLemmas.{Is, RereadsLines, lines_found}
use Rattle.text_tokens.specs.Inputs.{Says}

-- what the reader answers of a text is what the grammar says of it
abbrev pub IsSaid : {A : Type 0} → Lang A → Reader A → Type 0
IsSaid {A} P p = (text : List ℕ) (answer : Result A Refusal) → whole_input Trailing p (last_of (point text 0)) (ahead_of (point text 0)) ≡ answer → Says P text answer

pub says : {A : Type 0} (P : Lang A) (p : Reader A) → Exact P p → IsSaid P p
says {A} P p e text answer same ts last are =
    let one = one_reading text (ahead_of (point text 0)) ts (last_of (point text 0)) last (tokens_of_text text) are in
    subst (λ (l : Refusal). TellsInput P Trailing l ts answer) one.last
    (subst (λ (us : List Lexeme). TellsInput P Trailing (last_of (point text 0)) us answer) one.tokens
    (subst (λ (r : Result A Refusal). TellsInput P Trailing (last_of (point text 0)) (ahead_of (point text 0)) r) same ((exact_input P Trailing p e).tells (last_of (point text 0)) (ahead_of (point text 0)))))

-- lines of which all tokens are a text
pub lines_say : {A : Type 0} (P : Lang A) (a : A) (lines : List Words) → RereadsLines P (Is a) lines → Says P (lines_text lines) (Ok a)
lines_say P a lines p ts last are =
    let found = lines_found lines p ts last are in
    let f = found.0 in
    record { text = record { us = ts; parts = sym (append-nil ts); whole = subst (λ x. IsWhole P ts x) f.holds f.whole; stops = none_stops P ts }; ends = found.1 }
