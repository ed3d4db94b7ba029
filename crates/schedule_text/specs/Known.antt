-- Numbers, each of one of so many that are known.
use Rattle.std.specs.Prelude.{ℕ, nat_lt, if◌then◌else◌, Option, Some, None}
use Rattle.text_tokens.specs.declared.refusal.RefusalKind.{RefusalKind}
use Rattle.text_tokens.specs.declared.refusal.RefusalKind.TheVariants.{TooMany, BadId}
use Rattle.text_tokens.specs.Text.{Lexeme}
use Rattle.text_tokens.specs.Reading.{lexeme_value}

-- behind so many, where so many may come: one too many, or the number of none of so many
abbrev pub past_known : ℕ → ℕ → ℕ → Lexeme → Option RefusalKind
past_known most known before t =
    if nat_lt before most then if nat_lt (lexeme_value t) known then None else Some BadId else Some TooMany
