-- A caller that walks through its turn step by step.
use Rattle.std.specs.Prelude.{◌≡◌, ℕ, MatchResult}
use Rattle.std.specs.declared.result.Result.{Result}
use Rattle.amoebot_state.specs.declared.cell.CellName.{CellName}
use Rattle.claim_core.specs.declared.state.Phase.TheVariants.{Refusing}
use Rattle.claim_rule.specs.Tokens.{FieldOf, Token, IsOf, doing}

-- it is of the field; and where it was refused, its phase has the cell and the tag
abbrev pub IsWalker : {D : Type 0} → FieldOf D → Result (Token D) (Token D × CellName × ℕ) → Type 0
IsWalker f walker =
    MatchResult walker (λ held. IsOf f held) (λ by. IsOf f by.0 × ((doing by.0).phase ≡ Refusing by.1 by.2))
