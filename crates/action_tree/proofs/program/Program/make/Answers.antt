use Rattle.std.proofs.Common.{◌≡◌, ◌≤◌, List, true, map, length, drop, ap, sym, subst, ◌∙◌, arith}
use Rattle.std.proofs.lemmas.List.{take-append-le, take_all}
use Rattle.action_tree.specs.declared.program.Action.{Action}
use Rattle.action_tree.specs.Trees as tree
use Rattle.action_tree.specs.Views.{var_of, action_of}
use Rattle.action_tree.specs.Writable.{is_writable}
use Rattle.action_tree.proofs.program.Program.make.Goals as goal

pub invariant_of-result : goal.invariant_of-result
invariant_of-result c =
    let new : List Action = c.place_actions.new.actions in
    let few : c.args.actions.len ≤ length new = omega arith in
    let all : length new ≤ c.args.actions.len = omega arith in
    let P : List tree.Action → Type 0 = λ actions. is_writable (record { guard = c.args.guard; vars = map var_of c.args.vars.items; actions = actions }) ≡ true in
    let same = c.place_actions.ensures.same ∙ ap (map action_of) c.deref_mut.ensures.value in
    rw (take-append-le c.args.actions.len new (drop (length new) c.args.actions.items) few, take_all c.args.actions.len new all)
    (subst P (sym same) c.requires, rw c.deref.ensures.value at c.place_actions.ensures.placed)
