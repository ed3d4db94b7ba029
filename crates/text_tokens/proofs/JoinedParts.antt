-- Parts put together, where their grammars and readers are known from the parts.
use Rattle.std.proofs.Common.{◌≡◌, Bool, true, false, Option}
use Rattle.text_tokens.specs.declared.refusal.RefusalKind.{RefusalKind}
use Rattle.text_tokens.specs.Text.{Lexeme}
use Rattle.text_tokens.specs.Reading.{Reader, ◌>>=◌, pure, either}
use Rattle.text_tokens.specs.Grammar.{Lang, Then, Made, Either}
use Rattle.text_tokens.specs.Lawful.{IsPart, Starts, always}
use Rattle.text_tokens.proofs.CarriedTexts.{part_made}
use Rattle.text_tokens.proofs.Parts.{some_text, part_behind}
use Rattle.text_tokens.proofs.StartsLemmas.{starts_in, starts_some, starts_made, starts_then}
use Rattle.text_tokens.proofs.ChoiceLemmas.{part_either}

-- behind a part with which no token goes on
pub one_behind : {A B : Type 0} {P : Lang A} {p : Reader A} {Q : A → Lang B} {q : A → Reader B} {stop : Lexeme → Bool} → IsPart P p always → ((a : A) → IsPart (Q a) (q a) stop) → IsPart (Then P Q) (p >>= q) stop
one_behind {P = P} {p = p} {Q = Q} {q = q} {stop = stop} before part = part_behind P p Q q stop before part

-- what is made of a part
pub into : {A B : Type 0} {P : Lang A} {p : Reader A} {stop : Lexeme → Bool} (f : A → B) → IsPart P p stop → IsPart (Made P f) (p >>= λ a. pure (f a)) stop
into {P = P} {p = p} {stop = stop} f part = part_made P f p stop part

-- one of two that begin with different tokens
pub one_of_two : {A : Type 0} {P Q : Lang A} {p q : Reader A} {starts other : Lexeme → Bool} {over under : Lexeme → Option RefusalKind} → Starts P starts over → Starts Q other under → ((t : Lexeme) → other t ≡ true → starts t ≡ false) → IsPart P p always → IsPart Q q always → IsPart (Either P Q) (either starts p q) always
one_of_two {P = P} {Q = Q} {p = p} {q = q} {starts = starts} {other = other} {over = over} {under = under} first second differ part behind = part_either P Q p q starts over always (record {
  one = part;
  other = behind;
  start = first;
  differ = λ xs a t is e. differ t (starts_in Q other under second xs a t is e);
  ends = λ xs a t is e f. absurd (starts_some Q other under second xs a is e);
})

-- what begins with a part begins as that does
pub starts_behind : {A B : Type 0} {P : Lang A} {Q : A → Lang B} {q : A → Reader B} {starts stop : Lexeme → Bool} {over : Lexeme → Option RefusalKind} → Starts P starts over → ((a : A) → IsPart (Q a) (q a) stop) → Starts (Then P Q) starts over
starts_behind {P = P} {Q = Q} {q = q} {starts = starts} {over = over} first part = starts_then P Q starts over first (λ a. some_text (Q a) (q a) (part a).law)

-- so does what is made of it
pub starts_into : {A B : Type 0} {P : Lang A} {starts : Lexeme → Bool} {over : Lexeme → Option RefusalKind} (f : A → B) → Starts P starts over → Starts (Made P f) starts over
starts_into {P = P} {starts = starts} {over = over} f first = starts_made P f starts over first
