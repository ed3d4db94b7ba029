use Rattle.std.proofs.Common.{sym, ◌∙◌, Bor, List, ℕ}
use Rattle.text_tokens.specs.Text.{Lexeme}
use Rattle.text_tokens.specs.Reading.{one}
use Rattle.text_tokens.proofs.StepsLemmas.{gives_as}
use Rattle.action_tree.specs.declared.role.Role.TheVariants as role
use Rattle.action_tree.specs.Roles.{is_a, is_test}
use Rattle.action_parser.specs.Readings.{made}
use Rattle.action_parser.proofs.Tokens.{left_same, right_same}
use Rattle.action_parser.proofs.words.test.Goals as goal

abbrev spelled : Lexeme → List ℕ
spelled t = t.text

pub returns-then-is_next : goal.returns-then-is_next
returns-then-is_next c =
    gives_as (λ (w : Bor (List ℕ)). w.now) (made (one is_test) spelled) (made (one (is_a role.TestWord)) spelled) c.args.tokens.now c.text.new.tokens c.text.result
    (left_same (is_a role.TestWord) (is_a role.FreeWord) spelled c.args.tokens.now (sym c.is_next.ensures ∙ c.if-is_next.true)) c.text.ensures

pub returns-else-is_next : goal.returns-else-is_next
returns-else-is_next c =
    gives_as (λ (w : Bor (List ℕ)). w.now) (made (one is_test) spelled) (made (one (is_a role.FreeWord)) spelled) c.args.tokens.now c.text-else-is_next.new.tokens c.text-else-is_next.result
    (right_same (is_a role.TestWord) (is_a role.FreeWord) spelled c.args.tokens.now (sym c.is_next.ensures ∙ c.if-is_next.false)) c.text-else-is_next.ensures
