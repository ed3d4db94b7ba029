use Rattle.std.proofs.Common.{◌≡◌, ◌++◌, ◌∷◌, [], List, map, ap}
use Rattle.std.proofs.lemmas.Result.{err_from_is_err_and}
use Rattle.std.proofs.lemmas.List.{map_push}
use Rattle.text_tokens.specs.declared.groups.Group.{Group}
use Rattle.text_tokens.specs.Groups.{is_group, is_groups_end, same_state, group_in, all_groups}
use Rattle.text_tokens.specs.GroupViews.{written_group}
use Rattle.text_tokens.proofs.GroupLaws.{EntryIn, no_pair, entry_elements}
use Rattle.text_tokens.proofs.LoopLemmas.{loop_begins, loop_goes_on, loop_falls, loop_is_over, loop_fails}
use Rattle.text_tokens.proofs.groups.read_group_list.Goals as goal

pub loop-found-init : goal.loop-found-init
unfolding all_groups
loop-found-init c = loop_begins all_groups c.args.tokens.now (map written_group c.new-found.result.items) (ap (λ (es : List Group). map written_group es) c.new-found.ensures.items)

pub returns-in_err-entry : goal.returns-in_err-entry
returns-in_err-entry c =
    let p = err_from_is_err_and c.from_residual.result c.from_residual.ensures.1 in
    rw (p.1, p.2) (loop_fails EntryIn group_in same_state is_group no_pair is_groups_end entry_elements all_groups c.args.tokens.now (map written_group c.loop-found.found.items) tt c.loop-found.tokens c.loop-found.invariant
    c.in_err-entry.field-0.0 c.more_group.new.tokens c.in_err-entry.ensures)

pub loop-found-preserved : goal.loop-found-preserved
loop-found-preserved c =
    let pushed : map written_group c.push.new.self.items ≡ map written_group c.loop-found.found.items ++ written_group c.in-Some.entry ∷ [] = rw c.in_ok-push.ensures.items (map_push written_group c.loop-found.found.items c.in-Some.entry) in
    loop_goes_on EntryIn group_in same_state is_group no_pair is_groups_end entry_elements all_groups c.args.tokens.now (map written_group c.loop-found.found.items) tt c.loop-found.tokens c.loop-found.invariant
    (written_group c.in-Some.entry) c.more_group.new.tokens (rw c.in-Some.is at c.in_ok-entry.ensures) (map written_group c.push.new.self.items) pushed

pub loop-found-smaller : goal.loop-found-smaller
loop-found-smaller c = loop_falls EntryIn group_in same_state is_group no_pair is_groups_end entry_elements all_groups c.args.tokens.now (map written_group c.loop-found.found.items) tt c.loop-found.tokens c.loop-found.invariant
    (written_group c.in-Some.entry) c.more_group.new.tokens (rw c.in-Some.is at c.in_ok-entry.ensures)

pub returns : goal.returns
returns c = loop_is_over EntryIn group_in same_state is_group no_pair is_groups_end entry_elements all_groups c.args.tokens.now (map written_group c.loop-found.found.items) tt c.loop-found.tokens c.loop-found.invariant
    c.more_group.new.tokens (rw c.in_default.is at c.in_ok-entry.ensures)
