-- What stands before an element of a row, by its place in the row.
use Rattle.std.specs.Prelude.{ℕ, Bool, ◌==◌, if◌then◌else◌, List, [], ◌∷◌}
use Rattle.text_tokens.specs.Lines.{Words}
use Rattle.action_print.specs.Canon.{first_sign, further_sign}

-- this token, but nothing before the first
abbrev pub between : ℕ → List ℕ → Words
between place word = if place == 0 then [] else word ∷ []

-- the sign of a term
abbrev pub sign_words : ℕ → Bool → Words
sign_words place minus = if place == 0 then first_sign minus else further_sign minus ∷ []
