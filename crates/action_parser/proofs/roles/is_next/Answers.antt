use Rattle.std.proofs.Common.{◌≡◌, List, [], ◌∷◌, Option, Some, refl, ◌∙◌, ap}
use Rattle.std.specs.Prelude.{option_map}
use Rattle.std.specs.Option.{option_eq}
use Rattle.text_tokens.specs.Text.{Lexeme}
use Rattle.text_tokens.specs.Cursor.{next_passes}
use Rattle.text_tokens.specs.Reading.{first}
use Rattle.action_tree.specs.contracts.role.RolePartialEq.TheImpl.{eq-value}
use Rattle.action_tree.specs.declared.role.Role.{Role}
use Rattle.action_tree.specs.Roles.{is_a, role, same_role}
use Rattle.action_parser.proofs.roles.is_next.Goals as goal

same_next : (r : Role) (ts : List Lexeme) → option_eq eq-value.it (option_map role (first ts)) (Some r) ≡ next_passes (is_a r) ts
unfolding same_role
same_next r [] = refl
same_next r (t ∷ ts) = refl

pub returns : goal.returns
returns c = c.eq.ensures ∙ ap (λ (o : Option Role). option_eq eq-value.it o (Some c.args.role)) c.next_role.ensures ∙ same_next c.args.role c.args.tokens.now.ahead
