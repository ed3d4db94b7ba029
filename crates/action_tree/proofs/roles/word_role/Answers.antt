use Rattle.std.proofs.Common.{◌∙◌, ◌≤◌, map, length, arith}
use Rattle.action_tree.specs.Roles.{entry, words}
use Rattle.action_tree.specs.declared.role.Role.TheVariants.{AName}
use Rattle.action_tree.proofs.Tables.{agrees}
use Rattle.action_tree.proofs.roles.word_role.Goals as goal

pub returns-in-len1-up : goal.returns-in-len1-up
returns-in-len1-up c =
    let some : 1 ≤ length c.args.text.now = (let more = c.in-len1-up.len_at_least in omega arith) in
    c.look_up.ensures ∙ agrees AName (map (λ e. entry e.0.now e.1) c.words_from.result.now) words c.args.text.now some c.words_from.ensures
