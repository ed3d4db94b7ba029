use Rattle.std.proofs.Common.{List, map, ap}
use Rattle.std.proofs.lemmas.Result.{err_from_is_err_and}
use Rattle.text_tokens.specs.Reading.{no_limit, less, at_most}
use Rattle.text_tokens.proofs.LoopLemmas.{loop_begins}
use Rattle.action_tree.specs.declared.program.Action.{Action}
use Rattle.action_tree.specs.Limits.{most_levels, most_names, most_actions}
use Rattle.action_tree.specs.Views.{action_of}
use Rattle.action_tree.specs.declared.role.Role.TheVariants.{ActionWord}
use Rattle.action_tree.specs.Roles.{is_a}
use Rattle.action_tree.specs.ProgramReaders.{an_action}
use Rattle.action_parser.proofs.Elements.{action_elements}
use Rattle.action_parser.proofs.ListsLemmas.{all_found, next_fails, counted_found, view_pushed}
use Rattle.action_parser.proofs.program.read_actions.Goals as goal

pub loop-found-init : goal.loop-found-init
loop-found-init c = loop_begins (at_most (is_a ActionWord) no_limit most_actions (an_action most_levels most_names)) c.args.tokens.now (map action_of c.new-found.result.items) (ap (λ (xs : List Action). map action_of xs) c.new-found.ensures.items)

pub returns-in_err-action : goal.returns-in_err-action
returns-in_err-action c =
    let p = err_from_is_err_and c.from_residual.result c.from_residual.ensures.1 in
    rw (p.1, p.2) (next_fails action_elements (λ room a. less room) c.loop-found.room c.loop-found.invariant c.in_err-action.field-0.0 c.in_err-action.ensures.reads)

pub loop-found-preserved : goal.loop-found-preserved
loop-found-preserved c =
    let next = rw c.in-Some.is at c.in_ok-action.ensures.reads in
    counted_found action_elements c.loop-found.room c.loop-found.invariant next (map action_of c.push.new.self.items) (view_pushed action_of c.loop-found.found.items c.in-Some.action c.in_ok-push.ensures.items)

pub returns : goal.returns
returns c =
    let next = rw c.in_default.is at c.in_ok-action.ensures.reads in
    all_found action_elements (λ room a. less room) c.loop-found.room c.loop-found.invariant next
