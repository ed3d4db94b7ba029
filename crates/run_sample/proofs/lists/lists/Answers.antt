use Rattle.std.proofs.Common.{◌∙◌, subst, sym, ℕ, List, arith}
use Rattle.claim_core.specs.Turns.{IsList}
use Rattle.run_sample.proofs.Ids.{ids_list, few_so_far, list_comes}
use Rattle.run_sample.proofs.lists.lists.Goals as goal

pub add-requires-clause-list : goal.add-requires-clause-list
add-requires-clause-list c = subst (λ (ids : List ℕ). IsList ids) (sym (c.as_slice.ensures.value ∙ c.in_ok-ids.ensures)) (ids_list c.loop-caller.caller (omega arith))

pub add-requires-clause-few : goal.add-requires-clause-few
add-requires-clause-few c = few_so_far c.loop-caller.caller c.loop-caller.lists c.loop-caller.invariant (omega arith)

pub loop-caller-preserved : goal.loop-caller-preserved
loop-caller-preserved c = list_comes c.loop-caller.caller c.loop-caller.lists c.add.new.self c.as_slice.result.now c.in_ok-ids.ids.items c.loop-caller.invariant c.in_ok-ids.ensures c.as_slice.ensures.value c.in_ok-add.ensures.ok
