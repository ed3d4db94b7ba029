use Rattle.std.proofs.Common.{List, map, ap}
use Rattle.std.proofs.lemmas.Result.{err_from_is_err_and}
use Rattle.text_tokens.specs.Reading.{no_limit, less, at_most}
use Rattle.text_tokens.proofs.LoopLemmas.{loop_begins}
use Rattle.amoebot_state.specs.Limits.{most_vars}
use Rattle.action_tree.specs.declared.program.Var.{Var}
use Rattle.action_tree.specs.Views.{var_of}
use Rattle.action_tree.specs.declared.role.Role.TheVariants.{VarWord}
use Rattle.action_tree.specs.Roles.{is_a}
use Rattle.action_tree.specs.ProgramReaders.{a_var}
use Rattle.action_parser.proofs.Elements.{var_elements}
use Rattle.action_parser.proofs.ListsLemmas.{all_found, next_fails, counted_found, view_pushed}
use Rattle.action_parser.proofs.program.read_vars.Goals as goal

pub loop-found-init : goal.loop-found-init
loop-found-init c = loop_begins (at_most (is_a VarWord) no_limit most_vars a_var) c.args.tokens.now (map var_of c.new-found.result.items) (ap (λ (xs : List Var). map var_of xs) c.new-found.ensures.items)

pub returns-in_err-var : goal.returns-in_err-var
returns-in_err-var c =
    let p = err_from_is_err_and c.from_residual.result c.from_residual.ensures.1 in
    rw (p.1, p.2) (next_fails var_elements (λ room a. less room) c.loop-found.room c.loop-found.invariant c.in_err-var.field-0.0 c.in_err-var.ensures.reads)

pub loop-found-preserved : goal.loop-found-preserved
loop-found-preserved c =
    let next = rw c.in-Some.is at c.in_ok-var.ensures.reads in
    counted_found var_elements c.loop-found.room c.loop-found.invariant next (map var_of c.push.new.self.items) (view_pushed var_of c.loop-found.found.items c.in-Some.var c.in_ok-push.ensures.items)

pub returns : goal.returns
returns c =
    let next = rw c.in_default.is at c.in_ok-var.ensures.reads in
    all_found var_elements (λ room a. less room) c.loop-found.room c.loop-found.invariant next
