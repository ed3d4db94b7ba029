use Rattle.std.proofs.Common.{subst, sym, List, ℕ}
use Rattle.text_tokens.specs.Cursor.{IsDigits}
use Rattle.text_tokens.specs.Reading.{no_limit}
use Rattle.text_tokens.specs.Steps.{lexeme_of}
use Rattle.action_tree.specs.declared.role.Role.TheVariants as role
use Rattle.action_tree.specs.Roles.{is_a}
use Rattle.action_parser.proofs.Tokens.{passes}
use Rattle.action_parser.proofs.RoleFacts.{number_spells}
use Rattle.action_parser.proofs.words.literal.Goals as goal

pub number-requires : goal.number-requires
number-requires c =
    let now = c.args.tokens.now in
    let t = c.in_ok-found.found in
    subst (λ (source : List ℕ). IsDigits source t) (sym c.in_ok-found.ensures.reads.1.source)
    (number_spells now t c.in_ok-found.ensures.spells (passes (is_a role.ANumber) no_limit now c.token.new.tokens (lexeme_of now.source t) c.in_ok-found.ensures.reads))
