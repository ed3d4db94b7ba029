use denote.Param.Weighed.{at_most}
use Rattle.std.proofs.Common.{◌≡◌, ◌<◌, true, length, ap, sym, subst, ◌∙◌, rules, arith}
use Rattle.std.proofs.lemmas.List.{with_items_is}
use Rattle.action_tree.specs.PlacedScope.{placed_scope}
use Rattle.action_tree.specs.Places.{guard_placed, guards_placed}
use Rattle.action_tree.specs.Scopes.{Scope}
use Rattle.action_tree.specs.Views.{guard_of, guards_of, term_of, part_of}
use Rattle.action_tree.specs.Trees.{guards, terms}
use Rattle.action_tree.proofs.expression.Guard.TheLaws.{the_size}
use Rattle.action_tree.proofs.expression.Part.TheLaws.{the_size as part_size}
use Rattle.action_tree.proofs.PlacedExpressions.{true_placed, false_placed, contracted_placed, expanded_placed, not_same, not_placed, number_placed, own_same, own_placed, dir_same, dir_placed, peer_dir_same, peer_dir_placed, inner_placed, mod6_same, mod6_placed, bound_same, bound_placed, at_same, at_placed, turn_same, turn_placed, and_same, and_placed, or_same, or_placed, any_same, any_placed, all_same, all_placed, compare_same, compare_placed, linked_same, linked_placed, free_same, free_placed, at_head_same, at_head_placed, peer_expanded_same, peer_expanded_placed, peer_head_same, peer_head_placed, member_same, member_placed, count_same, count_placed, first_same, first_placed}
use Rattle.action_tree.proofs.PlacesLemmas.{passed_next, all_passed, guard_room, part_room}
use Rattle.action_tree.proofs.places.+places.Goals as goal

pub place_guards-placed_guard-requires : goal.place_guards-placed_guard-requires
place_guards-placed_guard-requires t c =
    let sc = placed_scope c.args.scope.now in
    let here : c.loop-guard.guard-index < length c.loop-guard.guards = omega arith in
    let room = guard_room sc c.args.guards.now c.loop-guard.guards c.loop-guard.guard-index c.guard-item.result c.requires c.loop-guard.invariant.passed.same here c.guard-item.is in
    let e = c.replace-bare.ensures.value ∙ sym c.guard-item.is in
    let old = c.loop-guard.invariant.unvisited.1 c.loop-guard.guard-index c.guard-item.result (omega arith) in
    let small = at_most the_size c.args.guards.now c.loop-guard.guard-index c.guard-item.result (omega arith) in
    let same = ap the_size (e ∙ c.guard-item.is ∙ old) in
    (omega (arith, c.decreases), rw e room)

pub place_guards-loop-guard-preserved : goal.place_guards-loop-guard-preserved
place_guards-loop-guard-preserved t c =
    let here : c.loop-guard.guard-index < length c.loop-guard.guards = omega arith in
    let e = c.replace-bare.ensures.value ∙ sym c.guard-item.is in
    let after = c.replace.ensures.after in
    record {
      unvisited = search rules;
      passed = passed_next c.guard-item.result c.replace.new.dest c.loop-guard.invariant.passed here c.guard-item.is (ap guard_of after ∙ c.placed_guard.ensures.same ∙ ap guard_of e) (rw after c.placed_guard.ensures.placed);
    }

pub place_parts-placed_part-requires : goal.place_parts-placed_part-requires
place_parts-placed_part-requires t c =
    let sc = placed_scope c.args.scope.now in
    let here : c.loop-part.part-index < length c.loop-part.parts = omega arith in
    let room = part_room sc c.args.parts.now c.loop-part.parts c.loop-part.part-index c.part-item.result c.requires c.loop-part.invariant.passed.same here c.part-item.is in
    let e = c.replace-bare.ensures.value ∙ sym c.part-item.is in
    let old = c.loop-part.invariant.unvisited.1 c.loop-part.part-index c.part-item.result (omega arith) in
    let small = at_most part_size c.args.parts.now c.loop-part.part-index c.part-item.result (omega arith) in
    let same = ap part_size (e ∙ c.part-item.is ∙ old) in
    (omega (arith, c.decreases), rw e room)

pub place_parts-loop-part-preserved : goal.place_parts-loop-part-preserved
place_parts-loop-part-preserved t c =
    let here : c.loop-part.part-index < length c.loop-part.parts = omega arith in
    let e = c.replace-bare.ensures.value ∙ sym c.part-item.is in
    let after = c.replace.ensures.after in
    record {
      unvisited = search rules;
      passed = passed_next c.part-item.result c.replace.new.dest c.loop-part.invariant.passed here c.part-item.is (ap part_of after ∙ c.placed_part.ensures.same ∙ ap part_of e) (rw after c.placed_part.ensures.placed);
    }

pub placed_guard-returns-in-And-clause-same : goal.placed_guard-returns-in-And-clause-same
placed_guard-returns-in-And-clause-same t c =
    let items = with_items_is c.in-And.guards c.place_guards.new.guards (omega (arith, ap length c.deref_mut.ensures.value)) in
    and_same c.args.guard _ _ c.in-And.is (ap guards_of items ∙ c.place_guards.ensures.same ∙ ap guards_of c.deref_mut.ensures.value)

pub placed_guard-returns-in-And-clause-placed : goal.placed_guard-returns-in-And-clause-placed
placed_guard-returns-in-And-clause-placed t c =
    let items = with_items_is c.in-And.guards c.place_guards.new.guards (omega (arith, ap length c.deref_mut.ensures.value)) in
    and_placed _ _ (ap (λ gs. guards_placed gs (placed_scope c.args.scope.now)) items ∙ c.place_guards.ensures.placed)

pub placed_guard-returns-in-Or-clause-same : goal.placed_guard-returns-in-Or-clause-same
placed_guard-returns-in-Or-clause-same t c =
    let items = with_items_is c.in-Or.guards c.place_guards-in-Or.new.guards (omega (arith, ap length c.deref_mut-in-Or.ensures.value)) in
    or_same c.args.guard _ _ c.in-Or.is (ap guards_of items ∙ c.place_guards-in-Or.ensures.same ∙ ap guards_of c.deref_mut-in-Or.ensures.value)

pub placed_guard-returns-in-Or-clause-placed : goal.placed_guard-returns-in-Or-clause-placed
placed_guard-returns-in-Or-clause-placed t c =
    let items = with_items_is c.in-Or.guards c.place_guards-in-Or.new.guards (omega (arith, ap length c.deref_mut-in-Or.ensures.value)) in
    or_placed _ _ (ap (λ gs. guards_placed gs (placed_scope c.args.scope.now)) items ∙ c.place_guards-in-Or.ensures.placed)

pub placed_guard-returns-in-Any-clause-same : goal.placed_guard-returns-in-Any-clause-same
placed_guard-returns-in-Any-clause-same t c = any_same c.args.guard _ _ _ _ c.in-Any.is c.placed_box-guard.ensures.same

pub placed_guard-returns-in-Any-clause-placed : goal.placed_guard-returns-in-Any-clause-placed
placed_guard-returns-in-Any-clause-placed t c =
    let P : Scope → Type 0 = λ sc. guard_placed c.placed_box-guard.result.value sc ≡ true in
    any_placed _ _ _ _ (subst P c.bind.ensures c.placed_box-guard.ensures.placed)

pub placed_guard-returns-in-All-clause-same : goal.placed_guard-returns-in-All-clause-same
placed_guard-returns-in-All-clause-same t c = all_same c.args.guard _ _ _ _ c.in-All.is c.placed_box-guard-in-All.ensures.same

pub placed_guard-returns-in-All-clause-placed : goal.placed_guard-returns-in-All-clause-placed
placed_guard-returns-in-All-clause-placed t c =
    let P : Scope → Type 0 = λ sc. guard_placed c.placed_box-guard-in-All.result.value sc ≡ true in
    all_placed _ _ _ _ (subst P c.bind-in-All.ensures c.placed_box-guard-in-All.ensures.placed)

pub placed_guard-returns-in-Compare-clause-same : goal.placed_guard-returns-in-Compare-clause-same
placed_guard-returns-in-Compare-clause-same t c =
    compare_same c.args.guard _ _ _ _ _ c.in-Compare.is c.placed_sum-left.ensures.same c.placed_sum-right.ensures.same

pub placed_guard-returns-in-Compare-clause-placed : goal.placed_guard-returns-in-Compare-clause-placed
placed_guard-returns-in-Compare-clause-placed t c =
    compare_placed _ _ _ _ c.placed_sum-left.ensures.placed c.placed_sum-right.ensures.placed

pub placed_guard-returns-in-Linked-clause-same : goal.placed_guard-returns-in-Linked-clause-same
placed_guard-returns-in-Linked-clause-same t c = linked_same c.args.guard _ _ c.in-Linked.is c.placed_port.ensures.same

pub placed_guard-returns-in-Linked-clause-placed : goal.placed_guard-returns-in-Linked-clause-placed
placed_guard-returns-in-Linked-clause-placed t c = linked_placed _ _ c.placed_port.ensures.placed

pub placed_guard-returns-in-Free-clause-same : goal.placed_guard-returns-in-Free-clause-same
placed_guard-returns-in-Free-clause-same t c = free_same c.args.guard _ _ c.in-Free.is c.placed_port-in-Free.ensures.same

pub placed_guard-returns-in-Free-clause-placed : goal.placed_guard-returns-in-Free-clause-placed
placed_guard-returns-in-Free-clause-placed t c = free_placed _ _ c.placed_port-in-Free.ensures.placed

pub placed_guard-returns-in-AtHead-clause-same : goal.placed_guard-returns-in-AtHead-clause-same
placed_guard-returns-in-AtHead-clause-same t c = at_head_same c.args.guard _ _ c.in-AtHead.is c.placed_port-in-AtHead.ensures.same

pub placed_guard-returns-in-AtHead-clause-placed : goal.placed_guard-returns-in-AtHead-clause-placed
placed_guard-returns-in-AtHead-clause-placed t c = at_head_placed _ _ c.placed_port-in-AtHead.ensures.placed

pub placed_guard-returns-in-PeerExpanded-clause-same : goal.placed_guard-returns-in-PeerExpanded-clause-same
placed_guard-returns-in-PeerExpanded-clause-same t c = peer_expanded_same c.args.guard _ _ c.in-PeerExpanded.is c.placed_port-in-PeerExpanded.ensures.same

pub placed_guard-returns-in-PeerExpanded-clause-placed : goal.placed_guard-returns-in-PeerExpanded-clause-placed
placed_guard-returns-in-PeerExpanded-clause-placed t c = peer_expanded_placed _ _ c.placed_port-in-PeerExpanded.ensures.placed

pub placed_guard-returns-in-PeerHead-clause-same : goal.placed_guard-returns-in-PeerHead-clause-same
placed_guard-returns-in-PeerHead-clause-same t c = peer_head_same c.args.guard _ _ c.in-PeerHead.is c.placed_port-in-PeerHead.ensures.same

pub placed_guard-returns-in-PeerHead-clause-placed : goal.placed_guard-returns-in-PeerHead-clause-placed
placed_guard-returns-in-PeerHead-clause-placed t c = peer_head_placed _ _ c.placed_port-in-PeerHead.ensures.placed

pub placed_term-returns-in-Of-clause-same : goal.placed_term-returns-in-Of-clause-same
placed_term-returns-in-Of-clause-same t c = member_same c.args.term _ _ _ _ c.in-Of.is c.placed_port.ensures.same c.placed_var-in-Of.ensures.same

pub placed_term-returns-in-Of-clause-placed : goal.placed_term-returns-in-Of-clause-placed
placed_term-returns-in-Of-clause-placed t c = member_placed _ _ _ c.placed_port.ensures.placed c.placed_var-in-Of.ensures.placed

pub placed_term-returns-in-Count-clause-same : goal.placed_term-returns-in-Count-clause-same
placed_term-returns-in-Count-clause-same t c = count_same c.args.term _ _ _ _ c.in-Count.is c.placed_box-guard.ensures.same

pub placed_term-returns-in-Count-clause-placed : goal.placed_term-returns-in-Count-clause-placed
placed_term-returns-in-Count-clause-placed t c =
    let P : Scope → Type 0 = λ sc. guard_placed c.placed_box-guard.result.value sc ≡ true in
    count_placed _ _ _ _ (subst P c.bind.ensures c.placed_box-guard.ensures.placed)

pub placed_port-returns-in-First-clause-same : goal.placed_port-returns-in-First-clause-same
placed_port-returns-in-First-clause-same t c = first_same c.args.port _ _ _ _ c.in-First.is c.placed_box-guard.ensures.same

pub placed_port-returns-in-First-clause-placed : goal.placed_port-returns-in-First-clause-placed
placed_port-returns-in-First-clause-placed t c =
    let P : Scope → Type 0 = λ sc. guard_placed c.placed_box-guard.result.value sc ≡ true in
    first_placed _ _ _ _ (subst P c.bind.ensures c.placed_box-guard.ensures.placed)

pub placed_guard-returns-in-True-clause-same : goal.placed_guard-returns-in-True-clause-same
placed_guard-returns-in-True-clause-same t c = ap guard_of (sym c.in-True.is)

pub placed_guard-returns-in-True-clause-placed : goal.placed_guard-returns-in-True-clause-placed
placed_guard-returns-in-True-clause-placed t c = true_placed _

pub placed_guard-returns-in-False-clause-same : goal.placed_guard-returns-in-False-clause-same
placed_guard-returns-in-False-clause-same t c = ap guard_of (sym c.in-False.is)

pub placed_guard-returns-in-False-clause-placed : goal.placed_guard-returns-in-False-clause-placed
placed_guard-returns-in-False-clause-placed t c = false_placed _

pub placed_guard-returns-in-Contracted-clause-same : goal.placed_guard-returns-in-Contracted-clause-same
placed_guard-returns-in-Contracted-clause-same t c = ap guard_of (sym c.in-Contracted.is)

pub placed_guard-returns-in-Contracted-clause-placed : goal.placed_guard-returns-in-Contracted-clause-placed
placed_guard-returns-in-Contracted-clause-placed t c = contracted_placed _

pub placed_guard-returns-in-Expanded-clause-same : goal.placed_guard-returns-in-Expanded-clause-same
placed_guard-returns-in-Expanded-clause-same t c = ap guard_of (sym c.in-Expanded.is)

pub placed_guard-returns-in-Expanded-clause-placed : goal.placed_guard-returns-in-Expanded-clause-placed
placed_guard-returns-in-Expanded-clause-placed t c = expanded_placed _

pub placed_guard-returns-in-Not-clause-same : goal.placed_guard-returns-in-Not-clause-same
placed_guard-returns-in-Not-clause-same t c = not_same c.args.guard _ _ c.in-Not.is c.placed_box.ensures.same

pub placed_guard-returns-in-Not-clause-placed : goal.placed_guard-returns-in-Not-clause-placed
placed_guard-returns-in-Not-clause-placed t c = not_placed _ _ c.placed_box.ensures.placed

pub placed_term-returns-in-Number-clause-same : goal.placed_term-returns-in-Number-clause-same
placed_term-returns-in-Number-clause-same t c = ap term_of (sym c.in-Number.is)

pub placed_term-returns-in-Number-clause-placed : goal.placed_term-returns-in-Number-clause-placed
placed_term-returns-in-Number-clause-placed t c = number_placed _ _

pub placed_term-returns-in-Inner-clause-same : goal.placed_term-returns-in-Inner-clause-same
placed_term-returns-in-Inner-clause-same t c = ap term_of (sym c.in-Inner.is)

pub placed_term-returns-in-Inner-clause-placed : goal.placed_term-returns-in-Inner-clause-placed
placed_term-returns-in-Inner-clause-placed t c = inner_placed _

pub placed_term-returns-in-Own-clause-same : goal.placed_term-returns-in-Own-clause-same
placed_term-returns-in-Own-clause-same t c = own_same c.args.term _ _ c.in-Own.is c.placed_var.ensures.same

pub placed_term-returns-in-Own-clause-placed : goal.placed_term-returns-in-Own-clause-placed
placed_term-returns-in-Own-clause-placed t c = own_placed _ _ c.placed_var.ensures.placed

pub placed_term-returns-in-Dir-clause-same : goal.placed_term-returns-in-Dir-clause-same
placed_term-returns-in-Dir-clause-same t c = dir_same c.args.term _ _ c.in-Dir.is c.placed_port-in-Dir.ensures.same

pub placed_term-returns-in-Dir-clause-placed : goal.placed_term-returns-in-Dir-clause-placed
placed_term-returns-in-Dir-clause-placed t c = dir_placed _ _ c.placed_port-in-Dir.ensures.placed

pub placed_term-returns-in-PeerDir-clause-same : goal.placed_term-returns-in-PeerDir-clause-same
placed_term-returns-in-PeerDir-clause-same t c = peer_dir_same c.args.term _ _ c.in-PeerDir.is c.placed_port-in-PeerDir.ensures.same

pub placed_term-returns-in-PeerDir-clause-placed : goal.placed_term-returns-in-PeerDir-clause-placed
placed_term-returns-in-PeerDir-clause-placed t c = peer_dir_placed _ _ c.placed_port-in-PeerDir.ensures.placed

pub placed_term-returns-in-Mod6-clause-same : goal.placed_term-returns-in-Mod6-clause-same
placed_term-returns-in-Mod6-clause-same t c = mod6_same c.args.term _ _ c.in-Mod6.is c.placed_sum.ensures.same

pub placed_term-returns-in-Mod6-clause-placed : goal.placed_term-returns-in-Mod6-clause-placed
placed_term-returns-in-Mod6-clause-placed t c = mod6_placed _ _ c.placed_sum.ensures.placed

pub placed_port-returns-in-Name-clause-same : goal.placed_port-returns-in-Name-clause-same
placed_port-returns-in-Name-clause-same t c = bound_same c.args.port _ _ c.in-Name.is c.placed_bound.ensures.same

pub placed_port-returns-in-Name-clause-placed : goal.placed_port-returns-in-Name-clause-placed
placed_port-returns-in-Name-clause-placed t c = bound_placed _ _ c.placed_bound.ensures.placed

pub placed_port-returns-in-At-clause-same : goal.placed_port-returns-in-At-clause-same
placed_port-returns-in-At-clause-same t c = at_same c.args.port _ _ _ c.in-At.is c.placed_direction.ensures.same

pub placed_port-returns-in-At-clause-placed : goal.placed_port-returns-in-At-clause-placed
placed_port-returns-in-At-clause-placed t c = at_placed _ _ _ c.placed_direction.ensures.placed

pub placed_port-returns-in-Turn-clause-same : goal.placed_port-returns-in-Turn-clause-same
placed_port-returns-in-Turn-clause-same t c = turn_same c.args.port _ _ _ c.in-Turn.is c.placed_turned.ensures.same

pub placed_port-returns-in-Turn-clause-placed : goal.placed_port-returns-in-Turn-clause-placed
placed_port-returns-in-Turn-clause-placed t c = turn_placed _ _ _ c.placed_turned.ensures.placed

pub place_guards-returns-clause-same : goal.place_guards-returns-clause-same
place_guards-returns-clause-same t c = ap guards c.loop-guard.invariant.passed.same

pub place_guards-returns-clause-placed : goal.place_guards-returns-clause-placed
place_guards-returns-clause-placed t c = all_passed c.loop-guard.invariant.passed (omega arith)

pub place_parts-returns-clause-same : goal.place_parts-returns-clause-same
place_parts-returns-clause-same t c = ap terms c.loop-part.invariant.passed.same

pub place_parts-returns-clause-placed : goal.place_parts-returns-clause-placed
place_parts-returns-clause-placed t c = all_passed c.loop-part.invariant.passed (omega arith)
