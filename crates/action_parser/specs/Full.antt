-- How a token is refused with which one too many may begin.
use Rattle.std.specs.Prelude.{ℕ, zero, suc, Bool, if◌then◌else◌, Option, Some, None}
use Rattle.text_tokens.specs.declared.refusal.RefusalKind.{RefusalKind}
use Rattle.text_tokens.specs.declared.refusal.RefusalKind.TheVariants.{Unexpected, TooDeep}
use Rattle.text_tokens.specs.Reading.{past_kind}
use Rattle.action_tree.specs.declared.role.Role.{Role}
use Rattle.action_tree.specs.ExpressionReaders.{opens_level}

abbrev pub deep_kind : ℕ → Option RefusalKind
deep_kind zero = Some TooDeep
deep_kind (suc n) = None

-- whether anything begins with it; its role; how many more levels may be opened
abbrev pub full_kind : Bool → Role → ℕ → RefusalKind
full_kind begins r n = if begins then past_kind (if opens_level r then deep_kind n else None) else Unexpected
