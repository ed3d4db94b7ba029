use Rattle.std.proofs.Common.{◌≡◌, map, drop}
use Rattle.action_tree.specs.Roles.{look_up, entry}
use Rattle.tests_texts.proofs.roles.look_up.Given as goal

-- the rest of the table says the same
abbrev pub invariant-loop-word : goal.invariant-loop-word
invariant-loop-word l = look_up l.otherwise (map (λ e. entry e.0.now e.1) l.table) l.text ≡ look_up l.otherwise (map (λ e. entry e.0.now e.1) (drop l.word-index l.table)) l.text
