use Rattle.std.proofs.Common.{◌∙◌, ap}
use Rattle.action_tree.specs.Roles.{role_by}
use Rattle.action_parser.proofs.RoleFacts.{seen}
use Rattle.action_parser.proofs.roles.next_role.Goals as goal

pub returns-in-Ok-Some : goal.returns-in-Ok-Some
returns-in-Ok-Some c =
    let t = c.in-Ok-Some.token in
    seen c.args.tokens.now t c.role_of.result (rw c.in-Ok-Some.field-0-is at c.in-Ok-Some.ensures.answer) (rw c.in-Ok-Some.field-0-is at c.in-Ok-Some.ensures.spells) (c.role_of.ensures ∙ ap (role_by t.kind) c.text.ensures)
