use denote.Param.Weighed.{at_most}
use Rattle.std.proofs.Common.{◌≡◌, ◌≤◌, ◌+◌, ◌∙◌, ℕ, length, ap, sym, subst, arith, rules, Ok}
use Rattle.std.specs.Prelude.{◌+ℤ◌}
use Rattle.std.specs.Int.RustNames.{FitsSigned}
use mir.Syntax.{w32}
use mir.Val.{to_z}
use Rattle.std.proofs.lemmas.Bool.{and_parts}
use Rattle.std.proofs.lemmas.Int.{ints, to_z-of_z}
use Rattle.std.proofs.lemmas.Result.{err_from_is_err_and}
use Rattle.action_tree.specs.Trees.{Sum, negation, conjunction, disjunction, mod6, at_end, comparison, tested, linked, free, at_head, peer_expanded, peer_head, turned}
use Rattle.action_tree.specs.Views.{name_of, literal_of, dirterm_of, sum_of, terms_of, guard_of, guards_of, term_of, port_of}
use Rattle.action_tree.specs.Writable.{is_sum}
use Rattle.action_check.specs.Rules.{SumKept}
use Rattle.action_tree.proofs.Viewed.{guard_not, guard_and, guard_or, term_mod6, port_at, guard_compare, guard_linked, guard_free, guard_at_head, guard_peer_expanded, guard_peer_head, sum_opened, port_turn}
use Rattle.amoebot_state.specs.declared.bot.End.TheVariants.{Head}
use Rattle.amoebot_state.specs.Ports.{port}
use Rattle.action_meaning.specs.Values.{signed, each_value, some_value}
use Rattle.action_tree.specs.Places.{guard_placed}
use Rattle.action_meaning.specs.Choices.{any_of_ports, all_of_ports, first_of_ports, count_of_ports}
use Rattle.action_eval.specs.Known.{known, scope_of, sight_of}
use Rattle.action_eval.specs.UnderNames.{guard_at}
use Rattle.action_eval.proofs.UnderNamesLemmas.{has_last, kept_under, placed_under, asked_at}
use Rattle.action_eval.proofs.RunningLemmas.{room_to_bind}
use Rattle.action_eval.proofs.SumLoops.{TermsLeft, terms_fit, terms_start, term_kept, term_counted, terms_next, terms_fail, terms_over}
use Rattle.action_eval.proofs.ChoicesLemmas.{and_none, and_so_many, any_goes_on, any_is_true, any_fails, all_goes_on, all_is_false, all_fails, first_goes_on, first_is_here, first_fails}
use Rattle.action_eval.proofs.PortsOf.{told_here, told_behind, told_over}
use Rattle.action_eval.proofs.GuardLoops.{guard_kept, each_next, each_decided, each_fails, each_over, some_next, some_decided, some_fails, some_over, count_next, count_here, count_stops, count_over}
use Rattle.action_eval.proofs.Nodes.{any_tree, all_tree, first_tree, count_tree, member_tree}
use Rattle.action_tree.proofs.expression.Guard.TheLaws.{the_size}
use Rattle.action_tree.proofs.expression.PortExpr.TheLaws.{the_size as port_size}
use Rattle.action_tree.proofs.expression.Term.TheLaws.{the_size as term_size}
use Rattle.action_eval.proofs.Thens.{then_fails, then_goes}
use Rattle.action_eval.proofs.Terms.{of_port_fails, of_port_is, count_fails, count_is}
use Rattle.action_eval.proofs.Placed.{placed_at, term_is_placed, in_any, in_all, in_first, in_count, in_turned, in_member}
use Rattle.action_eval.proofs.PartSizes.{guard_in_any, guard_in_all, guard_in_count, guard_in_first, port_in_turn, port_in_term, term_in_sum}
use Rattle.action_eval.proofs.value.+values.Goals as goal
use Rattle.action_eval.proofs.value.+values.Goals.{count_value-then-is_one, count_value-else-is_one}

pub any_value-bind-inner-requires : goal.any_value-bind-inner-requires
any_value-bind-inner-requires t c = room_to_bind (known c.args.names.now) _ c.requires.new

pub any_value-loop-port-init : goal.any_value-loop-port-init
any_value-loop-port-init t c =
    let asked = guard_at (sight_of c.args.site.now) (known c.args.names.now) c.args.name.now c.args.guard.now in
    (record { port = _; bound = c.bind-inner.ensures }, ap (any_of_ports asked) (c.pairs-port-items.ensures.whole c.args.set))

pub any_value-set_last-requires : goal.any_value-set_last-requires
any_value-set_last-requires t c = has_last _ _ _ c.loop-port.invariant.0

pub any_value-quick_value-requires : goal.any_value-quick_value-requires
any_value-quick_value-requires t c = (omega (arith, c.decreases), (kept_under _ _ _ _ _ c.requires (c.set_last.ensures (known c.args.names.now) c.args.name.now c.loop-port.invariant.0), (placed_under _ _ _ _ _ c.requires (c.set_last.ensures (known c.args.names.now) c.args.name.now c.loop-port.invariant.0), c.requires.counted)))

pub all_value-bind-inner-requires : goal.all_value-bind-inner-requires
all_value-bind-inner-requires t c = room_to_bind (known c.args.names.now) _ c.requires.new

pub all_value-loop-port-init : goal.all_value-loop-port-init
all_value-loop-port-init t c =
    let asked = guard_at (sight_of c.args.site.now) (known c.args.names.now) c.args.name.now c.args.guard.now in
    (record { port = _; bound = c.bind-inner.ensures }, ap (all_of_ports asked) (c.pairs-port-items.ensures.whole c.args.set))

pub all_value-set_last-requires : goal.all_value-set_last-requires
all_value-set_last-requires t c = has_last _ _ _ c.loop-port.invariant.0

pub all_value-quick_value-requires : goal.all_value-quick_value-requires
all_value-quick_value-requires t c = (omega (arith, c.decreases), (kept_under _ _ _ _ _ c.requires (c.set_last.ensures (known c.args.names.now) c.args.name.now c.loop-port.invariant.0), (placed_under _ _ _ _ _ c.requires (c.set_last.ensures (known c.args.names.now) c.args.name.now c.loop-port.invariant.0), c.requires.counted)))

pub first_value-bind-inner-requires : goal.first_value-bind-inner-requires
first_value-bind-inner-requires t c = room_to_bind (known c.args.names.now) _ c.requires.new

pub first_value-loop-port-init : goal.first_value-loop-port-init
first_value-loop-port-init t c =
    let asked = guard_at (sight_of c.args.site.now) (known c.args.names.now) c.args.name.now c.args.guard.now in
    (record { port = _; bound = c.bind-inner.ensures }, ap (first_of_ports asked) (c.pairs-port-items.ensures.whole c.args.set))

pub first_value-set_last-requires : goal.first_value-set_last-requires
first_value-set_last-requires t c = has_last _ _ _ c.loop-port.invariant.0

pub first_value-quick_value-requires : goal.first_value-quick_value-requires
first_value-quick_value-requires t c = (omega (arith, c.decreases), (kept_under _ _ _ _ _ c.requires (c.set_last.ensures (known c.args.names.now) c.args.name.now c.loop-port.invariant.0), (placed_under _ _ _ _ _ c.requires (c.set_last.ensures (known c.args.names.now) c.args.name.now c.loop-port.invariant.0), c.requires.counted)))

pub count_value-bind-inner-requires : goal.count_value-bind-inner-requires
count_value-bind-inner-requires t c = room_to_bind (known c.args.names.now) _ c.requires.new

pub count_value-loop-port-init : goal.count_value-loop-port-init
count_value-loop-port-init t c =
    let asked = guard_at (sight_of c.args.site.now) (known c.args.names.now) c.args.name.now c.args.guard.now in
    (record { port = _; bound = c.bind-inner.ensures }, ap (count_of_ports asked) (c.pairs-port-items.ensures.whole c.args.set) ∙ and_none _, omega arith, c.pairs-port-items.ensures.few)

pub count_value-set_last-requires : goal.count_value-set_last-requires
count_value-set_last-requires t c = has_last _ _ _ c.loop-port.invariant.0

pub count_value-quick_value-requires : goal.count_value-quick_value-requires
count_value-quick_value-requires t c = (omega (arith, c.decreases), (kept_under _ _ _ _ _ c.requires (c.set_last.ensures (known c.args.names.now) c.args.name.now c.loop-port.invariant.0), (placed_under _ _ _ _ _ c.requires (c.set_last.ensures (known c.args.names.now) c.args.name.now c.loop-port.invariant.0), c.requires.counted)))

pub any_value-loop-port-preserved-then-not-is_one_of : goal.any_value-loop-port-preserved-then-not-is_one_of
any_value-loop-port-preserved-then-not-is_one_of t c =
    let asked = guard_at (sight_of c.args.site.now) (known c.args.names.now) c.args.name.now c.args.guard.now in
    (c.loop-port.invariant.0, told_behind (any_of_ports asked) _ (sight_of c.args.site.now) c.args.set _ _ (port Head 0) c.loop-port.invariant.1 c.loop-port-test.true (sym c.is_one_of.ensures ∙ c.if-not-is_one_of.true))

pub any_value-loop-port-preserved : goal.any_value-loop-port-preserved
any_value-loop-port-preserved t c =
    let asked = guard_at (sight_of c.args.site.now) (known c.args.names.now) c.args.name.now c.args.guard.now in
    let under = c.set_last.ensures (known c.args.names.now) c.args.name.now c.loop-port.invariant.0 in
    (record { port = _; bound = under }, told_here (any_of_ports asked) _ (sight_of c.args.site.now) c.args.set _ _ (port Head 0) _ c.loop-port.invariant.1 c.loop-port-test.true (sym c.is_one_of.ensures ∙ c.if-not-is_one_of.false) (any_goes_on asked _ _ (asked_at _ (known c.args.names.now) c.args.name.now c.args.guard.now _ _ _ under c.quick_value.ensures ∙ c.in-Ok-false.is ∙ ap Ok c.in-Ok-false.field-0-test)))

pub any_value-returns-in-Ok-true : goal.any_value-returns-in-Ok-true
any_value-returns-in-Ok-true t c =
    let asked = guard_at (sight_of c.args.site.now) (known c.args.names.now) c.args.name.now c.args.guard.now in
    let under = c.set_last.ensures (known c.args.names.now) c.args.name.now c.loop-port.invariant.0 in
    sym (told_here (any_of_ports asked) _ (sight_of c.args.site.now) c.args.set _ _ (port Head 0) _ c.loop-port.invariant.1 c.loop-port-test.true (sym c.is_one_of.ensures ∙ c.if-not-is_one_of.false) (any_is_true asked _ _ (asked_at _ (known c.args.names.now) c.args.name.now c.args.guard.now _ _ _ under c.quick_value.ensures ∙ c.in-Ok-true.is ∙ ap Ok c.in-Ok-true.field-0-test)))

pub any_value-returns-in-Err : goal.any_value-returns-in-Err
any_value-returns-in-Err t c =
    let asked = guard_at (sight_of c.args.site.now) (known c.args.names.now) c.args.name.now c.args.guard.now in
    let under = c.set_last.ensures (known c.args.names.now) c.args.name.now c.loop-port.invariant.0 in
    sym (told_here (any_of_ports asked) _ (sight_of c.args.site.now) c.args.set _ _ (port Head 0) _ c.loop-port.invariant.1 c.loop-port-test.true (sym c.is_one_of.ensures ∙ c.if-not-is_one_of.false) (any_fails asked _ _ _ (asked_at _ (known c.args.names.now) c.args.name.now c.args.guard.now _ _ _ under c.quick_value.ensures ∙ c.in-Err.is)))

pub any_value-returns : goal.any_value-returns
any_value-returns t c =
    let asked = guard_at (sight_of c.args.site.now) (known c.args.names.now) c.args.name.now c.args.guard.now in
    sym (told_over (any_of_ports asked) _ (sight_of c.args.site.now) c.args.set _ _ c.loop-port.invariant.1 c.loop-port-test.false)

pub all_value-loop-port-preserved-then-not-is_one_of : goal.all_value-loop-port-preserved-then-not-is_one_of
all_value-loop-port-preserved-then-not-is_one_of t c =
    let asked = guard_at (sight_of c.args.site.now) (known c.args.names.now) c.args.name.now c.args.guard.now in
    (c.loop-port.invariant.0, told_behind (all_of_ports asked) _ (sight_of c.args.site.now) c.args.set _ _ (port Head 0) c.loop-port.invariant.1 c.loop-port-test.true (sym c.is_one_of.ensures ∙ c.if-not-is_one_of.true))

pub all_value-loop-port-preserved : goal.all_value-loop-port-preserved
all_value-loop-port-preserved t c =
    let asked = guard_at (sight_of c.args.site.now) (known c.args.names.now) c.args.name.now c.args.guard.now in
    let under = c.set_last.ensures (known c.args.names.now) c.args.name.now c.loop-port.invariant.0 in
    (record { port = _; bound = under }, told_here (all_of_ports asked) _ (sight_of c.args.site.now) c.args.set _ _ (port Head 0) _ c.loop-port.invariant.1 c.loop-port-test.true (sym c.is_one_of.ensures ∙ c.if-not-is_one_of.false) (all_goes_on asked _ _ (asked_at _ (known c.args.names.now) c.args.name.now c.args.guard.now _ _ _ under c.quick_value.ensures ∙ c.in-Ok-true.is ∙ ap Ok c.in-Ok-true.field-0-test)))

pub all_value-returns-in-Ok-false : goal.all_value-returns-in-Ok-false
all_value-returns-in-Ok-false t c =
    let asked = guard_at (sight_of c.args.site.now) (known c.args.names.now) c.args.name.now c.args.guard.now in
    let under = c.set_last.ensures (known c.args.names.now) c.args.name.now c.loop-port.invariant.0 in
    sym (told_here (all_of_ports asked) _ (sight_of c.args.site.now) c.args.set _ _ (port Head 0) _ c.loop-port.invariant.1 c.loop-port-test.true (sym c.is_one_of.ensures ∙ c.if-not-is_one_of.false) (all_is_false asked _ _ (asked_at _ (known c.args.names.now) c.args.name.now c.args.guard.now _ _ _ under c.quick_value.ensures ∙ c.in-Ok-false.is ∙ ap Ok c.in-Ok-false.field-0-test)))

pub all_value-returns-in-Err : goal.all_value-returns-in-Err
all_value-returns-in-Err t c =
    let asked = guard_at (sight_of c.args.site.now) (known c.args.names.now) c.args.name.now c.args.guard.now in
    let under = c.set_last.ensures (known c.args.names.now) c.args.name.now c.loop-port.invariant.0 in
    sym (told_here (all_of_ports asked) _ (sight_of c.args.site.now) c.args.set _ _ (port Head 0) _ c.loop-port.invariant.1 c.loop-port-test.true (sym c.is_one_of.ensures ∙ c.if-not-is_one_of.false) (all_fails asked _ _ _ (asked_at _ (known c.args.names.now) c.args.name.now c.args.guard.now _ _ _ under c.quick_value.ensures ∙ c.in-Err.is)))

pub all_value-returns : goal.all_value-returns
all_value-returns t c =
    let asked = guard_at (sight_of c.args.site.now) (known c.args.names.now) c.args.name.now c.args.guard.now in
    sym (told_over (all_of_ports asked) _ (sight_of c.args.site.now) c.args.set _ _ c.loop-port.invariant.1 c.loop-port-test.false)

pub first_value-loop-port-preserved-then-not-is_one_of : goal.first_value-loop-port-preserved-then-not-is_one_of
first_value-loop-port-preserved-then-not-is_one_of t c =
    let asked = guard_at (sight_of c.args.site.now) (known c.args.names.now) c.args.name.now c.args.guard.now in
    (c.loop-port.invariant.0, told_behind (first_of_ports asked) _ (sight_of c.args.site.now) c.args.set _ _ (port Head 0) c.loop-port.invariant.1 c.loop-port-test.true (sym c.is_one_of.ensures ∙ c.if-not-is_one_of.true))

pub first_value-loop-port-preserved : goal.first_value-loop-port-preserved
first_value-loop-port-preserved t c =
    let asked = guard_at (sight_of c.args.site.now) (known c.args.names.now) c.args.name.now c.args.guard.now in
    let under = c.set_last.ensures (known c.args.names.now) c.args.name.now c.loop-port.invariant.0 in
    (record { port = _; bound = under }, told_here (first_of_ports asked) _ (sight_of c.args.site.now) c.args.set _ _ (port Head 0) _ c.loop-port.invariant.1 c.loop-port-test.true (sym c.is_one_of.ensures ∙ c.if-not-is_one_of.false) (first_goes_on asked _ _ (asked_at _ (known c.args.names.now) c.args.name.now c.args.guard.now _ _ _ under c.quick_value.ensures ∙ c.in-Ok-false.is ∙ ap Ok c.in-Ok-false.field-0-test)))

pub first_value-returns-in-Ok-true : goal.first_value-returns-in-Ok-true
first_value-returns-in-Ok-true t c =
    let asked = guard_at (sight_of c.args.site.now) (known c.args.names.now) c.args.name.now c.args.guard.now in
    let under = c.set_last.ensures (known c.args.names.now) c.args.name.now c.loop-port.invariant.0 in
    sym (told_here (first_of_ports asked) _ (sight_of c.args.site.now) c.args.set _ _ (port Head 0) _ c.loop-port.invariant.1 c.loop-port-test.true (sym c.is_one_of.ensures ∙ c.if-not-is_one_of.false) (first_is_here asked _ _ (asked_at _ (known c.args.names.now) c.args.name.now c.args.guard.now _ _ _ under c.quick_value.ensures ∙ c.in-Ok-true.is ∙ ap Ok c.in-Ok-true.field-0-test)))

pub first_value-returns-in-Err : goal.first_value-returns-in-Err
first_value-returns-in-Err t c =
    let asked = guard_at (sight_of c.args.site.now) (known c.args.names.now) c.args.name.now c.args.guard.now in
    let under = c.set_last.ensures (known c.args.names.now) c.args.name.now c.loop-port.invariant.0 in
    sym (told_here (first_of_ports asked) _ (sight_of c.args.site.now) c.args.set _ _ (port Head 0) _ c.loop-port.invariant.1 c.loop-port-test.true (sym c.is_one_of.ensures ∙ c.if-not-is_one_of.false) (first_fails asked _ _ _ (asked_at _ (known c.args.names.now) c.args.name.now c.args.guard.now _ _ _ under c.quick_value.ensures ∙ c.in-Err.is)))

pub first_value-returns : goal.first_value-returns
first_value-returns t c =
    let asked = guard_at (sight_of c.args.site.now) (known c.args.names.now) c.args.name.now c.args.guard.now in
    sym (told_over (first_of_ports asked) _ (sight_of c.args.site.now) c.args.set _ _ c.loop-port.invariant.1 c.loop-port-test.false)

pub count_value-loop-port-preserved-then-not-is_one_of : goal.count_value-loop-port-preserved-then-not-is_one_of
count_value-loop-port-preserved-then-not-is_one_of t c =
    let asked = guard_at (sight_of c.args.site.now) (known c.args.names.now) c.args.name.now c.args.guard.now in
    (c.loop-port.invariant.0, told_behind (λ ps. and_so_many c.loop-port.count (count_of_ports asked ps)) _ (sight_of c.args.site.now) c.args.set _ _ (port Head 0) c.loop-port.invariant.1 c.loop-port-test.true (sym c.is_one_of.ensures ∙ c.if-not-is_one_of.true), omega arith, c.loop-port.invariant.3)

pub count_value-loop-port-preserved : goal.count_value-loop-port-preserved
count_value-loop-port-preserved t c =
    let asked = guard_at (sight_of c.args.site.now) (known c.args.names.now) c.args.name.now c.args.guard.now in
    let under = c.set_last.ensures (known c.args.names.now) c.args.name.now c.loop-port.invariant.0 in
    let e = asked_at _ (known c.args.names.now) c.args.name.now c.args.guard.now _ _ _ under c.quick_value.ensures ∙ c.in-Ok.is in
    let in_set = sym c.is_one_of.ensures ∙ c.if-not-is_one_of.false in
    elim c.if-is_one.branch [
      | count_value-then-is_one w ↦ rw w.count-is (record { port = _; bound = under }, count_here asked _ (sight_of c.args.site.now) c.args.set _ _ _ (port Head 0) c.loop-port.invariant.1 c.loop-port-test.true in_set (e ∙ ap Ok w.if-is_one.true), omega arith, c.loop-port.invariant.3)
      | count_value-else-is_one w ↦ rw w.count-is (record { port = _; bound = under }, count_next asked _ (sight_of c.args.site.now) c.args.set _ _ _ (port Head 0) c.loop-port.invariant.1 c.loop-port-test.true in_set (e ∙ ap Ok w.if-is_one.false), omega arith, c.loop-port.invariant.3)
    ]

pub count_value-returns-in-Err-clause-value : goal.count_value-returns-in-Err-clause-value
count_value-returns-in-Err-clause-value t c =
    let asked = guard_at (sight_of c.args.site.now) (known c.args.names.now) c.args.name.now c.args.guard.now in
    let under = c.set_last.ensures (known c.args.names.now) c.args.name.now c.loop-port.invariant.0 in
    sym (count_stops asked _ (sight_of c.args.site.now) c.args.set _ _ _ (port Head 0) _ c.loop-port.invariant.1 c.loop-port-test.true (sym c.is_one_of.ensures ∙ c.if-not-is_one_of.false) (asked_at _ (known c.args.names.now) c.args.name.now c.args.guard.now _ _ _ under c.quick_value.ensures ∙ c.in-Err.is))

pub count_value-returns-clause-value : goal.count_value-returns-clause-value
count_value-returns-clause-value t c =
    let asked = guard_at (sight_of c.args.site.now) (known c.args.names.now) c.args.name.now c.args.guard.now in
    sym (count_over asked _ (sight_of c.args.site.now) c.args.set _ _ _ c.loop-port.invariant.1 c.loop-port-test.false)

pub each_value-quick_value-requires : goal.each_value-quick_value-requires
each_value-quick_value-requires t c =
    let sc = scope_of (known c.args.names.now) in
    let deeper = at_most the_size c.args.guards.now c.loop-guard.guard-index c.guard-item.result c.loop-guard-test.true in
    let same = ap the_size c.guard-item.is in
    let kept = guard_kept (each_value (sight_of c.args.site.now) (known c.args.names.now)) sc _ _ _ c.loop-guard.invariant c.loop-guard-test.true c.guard-item.is in
    (omega (arith, c.decreases, deeper, same), (kept.0, (placed_at guard_placed sc _ _ _ c.requires.placed c.loop-guard-test.true c.guard-item.is, kept.1)))

pub each_value-loop-guard-preserved : goal.each_value-loop-guard-preserved
each_value-loop-guard-preserved t c = each_next _ _ _ _ _ _ c.loop-guard.invariant c.loop-guard-test.true c.guard-item.is (sym c.quick_value.ensures ∙ c.in-Ok-true.is ∙ ap Ok c.in-Ok-true.field-0-test)

pub each_value-returns-in-Ok-false : goal.each_value-returns-in-Ok-false
each_value-returns-in-Ok-false t c = sym (each_decided _ _ _ _ _ _ c.loop-guard.invariant c.loop-guard-test.true c.guard-item.is (sym c.quick_value.ensures ∙ c.in-Ok-false.is ∙ ap Ok c.in-Ok-false.field-0-test))

pub each_value-returns-in-Err : goal.each_value-returns-in-Err
each_value-returns-in-Err t c = sym (each_fails _ _ _ _ _ _ _ c.loop-guard.invariant c.loop-guard-test.true c.guard-item.is (sym c.quick_value.ensures ∙ c.in-Err.is))

pub each_value-returns : goal.each_value-returns
each_value-returns t c = sym (each_over _ _ _ _ _ c.loop-guard.invariant c.loop-guard-test.false)

pub some_value-quick_value-requires : goal.some_value-quick_value-requires
some_value-quick_value-requires t c =
    let sc = scope_of (known c.args.names.now) in
    let deeper = at_most the_size c.args.guards.now c.loop-guard.guard-index c.guard-item.result c.loop-guard-test.true in
    let same = ap the_size c.guard-item.is in
    let kept = guard_kept (some_value (sight_of c.args.site.now) (known c.args.names.now)) sc _ _ _ c.loop-guard.invariant c.loop-guard-test.true c.guard-item.is in
    (omega (arith, c.decreases, deeper, same), (kept.0, (placed_at guard_placed sc _ _ _ c.requires.placed c.loop-guard-test.true c.guard-item.is, kept.1)))

pub some_value-loop-guard-preserved : goal.some_value-loop-guard-preserved
some_value-loop-guard-preserved t c = some_next _ _ _ _ _ _ c.loop-guard.invariant c.loop-guard-test.true c.guard-item.is (sym c.quick_value.ensures ∙ c.in-Ok-false.is ∙ ap Ok c.in-Ok-false.field-0-test)

pub some_value-returns-in-Ok-true : goal.some_value-returns-in-Ok-true
some_value-returns-in-Ok-true t c = sym (some_decided _ _ _ _ _ _ c.loop-guard.invariant c.loop-guard-test.true c.guard-item.is (sym c.quick_value.ensures ∙ c.in-Ok-true.is ∙ ap Ok c.in-Ok-true.field-0-test))

pub some_value-returns-in-Err : goal.some_value-returns-in-Err
some_value-returns-in-Err t c = sym (some_fails _ _ _ _ _ _ _ c.loop-guard.invariant c.loop-guard-test.true c.guard-item.is (sym c.quick_value.ensures ∙ c.in-Err.is))

pub some_value-returns : goal.some_value-returns
some_value-returns t c = sym (some_over _ _ _ _ _ c.loop-guard.invariant c.loop-guard-test.false)

pub sum_value-loop-part-init : goal.sum_value-loop-part-init
sum_value-loop-part-init t c =
    let o : sum_of c.args.sum.now ≡ terms_of c.deref-part-items.result.now = sum_opened c.args.sum.now ∙ ap terms_of (sym c.deref-part-items.ensures.value) in
    let KeepsRules : Sum → Type 0 = SumKept (scope_of (known c.args.names.now)) in
    terms_start _ _ _ _ (subst KeepsRules o c.requires.kept) (ap is_sum (sym o) ∙ c.requires.counted)

pub sum_value-term_value-requires : goal.sum_value-term_value-requires
sum_value-term_value-requires t c =
    let smaller = term_in_sum c.args.sum.now _ c.loop-part.part-index c.part-item.result c.deref-part-items.ensures.value c.loop-part-test.true c.part-item.is in
    (omega (arith, c.decreases, smaller), (term_kept _ _ _ _ _ _ _ c.loop-part.invariant c.loop-part-test.true c.part-item.is, (term_is_placed c.args.sum.now _ _ c.loop-part.part-index c.part-item.result c.deref-part-items.ensures.value c.requires.placed c.loop-part-test.true c.part-item.is, term_counted _ _ _ _ _ _ _ c.loop-part.invariant c.loop-part-test.true c.part-item.is)))

pub sum_value-returns-in_err-value : goal.sum_value-returns-in_err-value
sum_value-returns-in_err-value t c =
    let p = err_from_is_err_and c.from_residual.result c.from_residual.ensures.1 in
    let e = terms_fail _ _ _ _ _ _ _ _ c.loop-part.invariant c.loop-part-test.true c.part-item.is (sym c.in_err-value.ensures.value) in
    let o = sum_opened c.args.sum.now in
    let v = c.deref-part-items.ensures.value in
    cc

pub sum_value-signed-total-requires : goal.sum_value-signed-total-requires
sum_value-signed-total-requires t c =
    let r = c.in_ok-value.ensures.range in
    (omega (arith, ints, r.0, r.1), omega (arith, ints, r.0, r.1))

-- with one more term
added : (t : ℕ) (c : goal.sum_value-After-signed-total t) → TermsLeft (sight_of c.args.site.now) (known c.args.names.now) (scope_of (known c.args.names.now)) c.deref-part-items.result.now (c.loop-part.part-index + 1) (to_z w32 c.loop-part.total-bits +ℤ c.signed-total.result)
added t c =
    let fits : FitsSigned w32 c.in_ok-value.value = search rules in
    let sign = c.signed-total.ensures.value ∙ ap (signed c.part-item.result.minus) (to_z-of_z w32 c.in_ok-value.value fits) in
    terms_next _ _ _ _ _ _ _ _ _ c.loop-part.invariant c.loop-part-test.true c.part-item.is (sym c.in_ok-value.ensures.value) sign c.signed-total.ensures.range.0 c.signed-total.ensures.range.1

total_fits : (t : ℕ) (c : goal.sum_value-After-signed-total t) → FitsSigned w32 (to_z w32 c.loop-part.total-bits +ℤ c.signed-total.result)
total_fits t c =
    let l : c.loop-part.part-index + 1 ≤ length c.deref-part-items.result.now = omega arith in
    terms_fit _ _ _ _ _ _ (added t c) l

pub sum_value-overflow_add-total : goal.sum_value-overflow_add-total
sum_value-overflow_add-total t c =
    let fits : FitsSigned w32 c.signed-total.result = search rules in
    rw (to_z-of_z w32 c.signed-total.result fits) (total_fits t c)

pub sum_value-loop-part-preserved : goal.sum_value-loop-part-preserved
sum_value-loop-part-preserved t c =
    let fits : FitsSigned w32 c.signed-total.result = search rules in
    rw (to_z-of_z w32 c.signed-total.result fits, to_z-of_z w32 _ (total_fits t c)) (added t c)

pub sum_value-returns : goal.sum_value-returns
sum_value-returns t c =
    let e = terms_over _ _ _ _ _ _ c.loop-part.invariant c.loop-part-test.false in
    let o = sum_opened c.args.sum.now in
    let v = c.deref-part-items.ensures.value in
    cc

pub guard_value-any_value-requires : goal.guard_value-any_value-requires
guard_value-any_value-requires t c =
    let e = any_tree _ _ _ _ _ c.in-Any.is c.deref-in-Any.ensures in
    let kept = rw e at c.requires.kept in
    let counted = rw e at c.requires.counted in
    let smaller = guard_in_any c.in-Any.name c.in-Any.set c.in-Any.guard in
    let is = ap the_size c.in-Any.is in
    let at = ap the_size c.deref-in-Any.ensures in
    (omega (arith, c.decreases, smaller, is, at), record { new = kept.0; kept = kept.1; placed = in_any _ _ _ _ _ _ c.in-Any.is c.deref-in-Any.ensures c.requires.placed; counted = (and_parts _ _ counted).1 })

pub guard_value-returns-in-Any : goal.guard_value-returns-in-Any
guard_value-returns-in-Any t c =
    let e = any_tree _ _ _ _ _ c.in-Any.is c.deref-in-Any.ensures in
    rw e c.any_value.ensures

pub guard_value-all_value-requires : goal.guard_value-all_value-requires
guard_value-all_value-requires t c =
    let e = all_tree _ _ _ _ _ c.in-All.is c.deref-in-All.ensures in
    let kept = rw e at c.requires.kept in
    let counted = rw e at c.requires.counted in
    let smaller = guard_in_all c.in-All.name c.in-All.set c.in-All.guard in
    let is = ap the_size c.in-All.is in
    let at = ap the_size c.deref-in-All.ensures in
    (omega (arith, c.decreases, smaller, is, at), record { new = kept.0; kept = kept.1; placed = in_all _ _ _ _ _ _ c.in-All.is c.deref-in-All.ensures c.requires.placed; counted = (and_parts _ _ counted).1 })

pub guard_value-returns-in-All : goal.guard_value-returns-in-All
guard_value-returns-in-All t c =
    let e = all_tree _ _ _ _ _ c.in-All.is c.deref-in-All.ensures in
    rw e c.all_value.ensures

pub port_value-first_value-requires : goal.port_value-first_value-requires
port_value-first_value-requires t c =
    let e = first_tree _ _ _ _ _ c.in-First.is c.deref-in-First.ensures in
    let kept = rw e at c.requires.kept in
    let counted = rw e at c.requires.counted in
    let smaller = guard_in_first c.in-First.name c.in-First.set c.in-First.guard in
    let is = ap port_size c.in-First.is in
    let at = ap the_size c.deref-in-First.ensures in
    (omega (arith, c.decreases, smaller, is, at), record { new = kept.0; kept = kept.1; placed = in_first _ _ _ _ _ _ c.in-First.is c.deref-in-First.ensures c.requires.placed; counted = (and_parts _ _ counted).1 })

pub port_value-returns-in-First : goal.port_value-returns-in-First
port_value-returns-in-First t c =
    let e = first_tree _ _ _ _ _ c.in-First.is c.deref-in-First.ensures in
    rw e c.first_value.ensures

pub term_value-count_value-requires : goal.term_value-count_value-requires
term_value-count_value-requires t c =
    let e = count_tree _ _ _ _ _ c.in-Count.is c.deref.ensures in
    let kept = rw e at c.requires.kept in
    let counted = rw e at c.requires.counted in
    let smaller = guard_in_count c.in-Count.name c.in-Count.set c.in-Count.guard in
    let is = ap term_size c.in-Count.is in
    let at = ap the_size c.deref.ensures in
    (omega (arith, c.decreases, smaller, is, at), record { new = kept.0; kept = kept.1; placed = in_count _ _ _ _ _ _ c.in-Count.is c.deref.ensures c.requires.placed; counted = (and_parts _ _ counted).1 })

pub port_value-port_value-requires : goal.port_value-port_value-requires
port_value-port_value-requires t c =
    let e : port_of c.args.port.now ≡ turned (port_of c.deref.result.now) (literal_of c.in-Turn.number) = rw (c.in-Turn.is, c.deref.ensures) (port_turn c.in-Turn.port c.in-Turn.number) in
    let kept = rw e at c.requires.kept in
    let counted = rw e at c.requires.counted in
    let smaller = port_in_turn c.in-Turn.port c.in-Turn.number in
    let is = ap port_size c.in-Turn.is in
    let at = ap port_size c.deref.ensures in
    (omega (arith, c.decreases, smaller, is, at), (kept.0, (in_turned _ _ _ _ _ c.in-Turn.is c.deref.ensures c.requires.placed, (and_parts _ _ counted).0)))

pub term_value-port_value-requires : goal.term_value-port_value-requires
term_value-port_value-requires t c =
    let e = member_tree _ _ _ c.in-Of.is in
    let kept = rw e at c.requires.kept in
    let counted = rw e at c.requires.counted in
    let smaller = port_in_term c.in-Of.port c.in-Of.name in
    let is = ap term_size c.in-Of.is in
    (omega (arith, c.decreases, smaller, is), (kept.0, ((in_member _ _ _ _ c.in-Of.is c.requires.placed).0, (and_parts _ _ counted).0)))

pub term_value-var_number-requires-in-Of-clause-placed : goal.term_value-var_number-requires-in-Of-clause-placed
term_value-var_number-requires-in-Of-clause-placed t c = (in_member _ _ _ _ c.in-Of.is c.requires.placed).1

pub term_value-returns-in_err-value-in-Of-clause-value : goal.term_value-returns-in_err-value-in-Of-clause-value
term_value-returns-in_err-value-in-Of-clause-value t c =
    let s = sight_of c.args.site.now in
    let xs = known c.args.names.now in
    let r = c.from_residual-in_err-value-in-Of in
    let p = err_from_is_err_and r.result r.ensures.1 in
    let e = member_tree _ _ _ c.in-Of.is in
    rw (p.1, p.2, e) (sym (of_port_fails s xs (port_of c.in-Of.port) (name_of c.in-Of.name) c.in_ok-port-in-Of.port c.var_number-in-Of.result _ (sym c.in_ok-port-in-Of.ensures) c.var_number-in-Of.ensures.value (sym c.in_err-value-in-Of.ensures)))

pub term_value-returns-in_ok-value-in-Of-clause-value : goal.term_value-returns-in_ok-value-in-Of-clause-value
term_value-returns-in_ok-value-in-Of-clause-value t c =
    let s = sight_of c.args.site.now in
    let xs = known c.args.names.now in
    let fits : FitsSigned w32 c.from-in-Of.result = search rules in
    let e = member_tree _ _ _ c.in-Of.is in
    rw (to_z-of_z w32 c.from-in-Of.result fits, e) (ap Ok c.from-in-Of.ensures ∙ sym (of_port_is s xs (port_of c.in-Of.port) (name_of c.in-Of.name) c.in_ok-port-in-Of.port c.var_number-in-Of.result c.in_ok-value-in-Of.value (sym c.in_ok-port-in-Of.ensures) c.var_number-in-Of.ensures.value (sym c.in_ok-value-in-Of.ensures)))

pub term_value-returns-in_err-count-in-Count-clause-value : goal.term_value-returns-in_err-count-in-Count-clause-value
term_value-returns-in_err-count-in-Count-clause-value t c =
    let s = sight_of c.args.site.now in
    let xs = known c.args.names.now in
    let r = c.from_residual-in_err-count-in-Count in
    let p = err_from_is_err_and r.result r.ensures.1 in
    let e = count_tree _ _ _ _ _ c.in-Count.is c.deref.ensures in
    rw (p.1, p.2, e) (sym (count_fails s xs (name_of c.in-Count.name) c.in-Count.set (guard_of c.deref.result.now) _ (sym c.in_err-count-in-Count.ensures.value)))

pub term_value-returns-in_ok-count-in-Count-clause-value : goal.term_value-returns-in_ok-count-in-Count-clause-value
term_value-returns-in_ok-count-in-Count-clause-value t c =
    let s = sight_of c.args.site.now in
    let xs = known c.args.names.now in
    let fits : FitsSigned w32 c.from-in-Count.result = search rules in
    let e = count_tree _ _ _ _ _ c.in-Count.is c.deref.ensures in
    rw (to_z-of_z w32 c.from-in-Count.result fits, e) (ap Ok c.from-in-Count.ensures ∙ sym (count_is s xs (name_of c.in-Count.name) c.in-Count.set (guard_of c.deref.result.now) c.in_ok-count-in-Count.count (sym c.in_ok-count-in-Count.ensures.value)))

pub guard_value-returns-in_err-value-in-Not : goal.guard_value-returns-in_err-value-in-Not
guard_value-returns-in_err-value-in-Not t c =
    let r = c.from_residual in
    let p = err_from_is_err_and r.result r.ensures.1 in
    let e : guard_of c.args.guard.now ≡ negation (guard_of c.deref.result.now) = rw (c.in-Not.is, c.deref.ensures) (guard_not c.in-Not.guard) in
    rw (p.1, p.2, e) (sym (then_fails _ _ _ (sym c.in_err-value-in-Not.ensures)))

pub guard_value-returns-in_ok-value-in-Not : goal.guard_value-returns-in_ok-value-in-Not
guard_value-returns-in_ok-value-in-Not t c =
    let e : guard_of c.args.guard.now ≡ negation (guard_of c.deref.result.now) = rw (c.in-Not.is, c.deref.ensures) (guard_not c.in-Not.guard) in
    rw e (sym (then_goes _ _ _ (sym c.in_ok-value-in-Not.ensures)))

pub guard_value-returns-in_err-left-in-Compare : goal.guard_value-returns-in_err-left-in-Compare
guard_value-returns-in_err-left-in-Compare t c =
    let r = c.from_residual-in_err-left-in-Compare in
    let p = err_from_is_err_and r.result r.ensures.1 in
    let e : guard_of c.args.guard.now ≡ comparison (sum_of c.in-Compare.left) c.in-Compare.cmp (sum_of c.in-Compare.right) = rw c.in-Compare.is (guard_compare c.in-Compare.left c.in-Compare.cmp c.in-Compare.right) in
    rw (p.1, p.2, e) (sym (then_fails _ _ _ (sym c.in_err-left-in-Compare.ensures)))

pub guard_value-returns-in_err-right-in-Compare : goal.guard_value-returns-in_err-right-in-Compare
guard_value-returns-in_err-right-in-Compare t c =
    let r = c.from_residual-in_err-right-in-Compare in
    let p = err_from_is_err_and r.result r.ensures.1 in
    let e : guard_of c.args.guard.now ≡ comparison (sum_of c.in-Compare.left) c.in-Compare.cmp (sum_of c.in-Compare.right) = rw c.in-Compare.is (guard_compare c.in-Compare.left c.in-Compare.cmp c.in-Compare.right) in
    rw (p.1, p.2, e) (sym (then_goes _ _ _ (sym c.in_ok-left-in-Compare.ensures) ∙ then_fails _ _ _ (sym c.in_err-right-in-Compare.ensures)))

pub guard_value-returns-in-Linked : goal.guard_value-returns-in-Linked
guard_value-returns-in-Linked t c =
    let e : guard_of c.args.guard.now ≡ tested linked (port_of c.in-Linked.port) = rw c.in-Linked.is (guard_linked c.in-Linked.port) in
    rw e c.test_value.ensures

pub guard_value-returns-in-Free : goal.guard_value-returns-in-Free
guard_value-returns-in-Free t c =
    let e : guard_of c.args.guard.now ≡ tested free (port_of c.in-Free.port) = rw c.in-Free.is (guard_free c.in-Free.port) in
    rw e c.test_value-in-Free.ensures

pub guard_value-returns-in-AtHead : goal.guard_value-returns-in-AtHead
guard_value-returns-in-AtHead t c =
    let e : guard_of c.args.guard.now ≡ tested at_head (port_of c.in-AtHead.port) = rw c.in-AtHead.is (guard_at_head c.in-AtHead.port) in
    rw e c.test_value-in-AtHead.ensures

pub guard_value-returns-in-PeerExpanded : goal.guard_value-returns-in-PeerExpanded
guard_value-returns-in-PeerExpanded t c =
    let e : guard_of c.args.guard.now ≡ tested peer_expanded (port_of c.in-PeerExpanded.port) = rw c.in-PeerExpanded.is (guard_peer_expanded c.in-PeerExpanded.port) in
    rw e c.test_value-in-PeerExpanded.ensures

pub guard_value-returns-in-PeerHead : goal.guard_value-returns-in-PeerHead
guard_value-returns-in-PeerHead t c =
    let e : guard_of c.args.guard.now ≡ tested peer_head (port_of c.in-PeerHead.port) = rw c.in-PeerHead.is (guard_peer_head c.in-PeerHead.port) in
    rw e c.test_value-in-PeerHead.ensures

pub test_value-returns-in_err-port : goal.test_value-returns-in_err-port
test_value-returns-in_err-port t c =
    let r = c.from_residual in
    let p = err_from_is_err_and r.result r.ensures.1 in
    rw (p.1, p.2) (sym (then_fails _ _ _ (sym c.in_err-port.ensures)))

pub term_value-returns-in_err-port-in-Of-clause-value : goal.term_value-returns-in_err-port-in-Of-clause-value
term_value-returns-in_err-port-in-Of-clause-value t c =
    let r = c.from_residual-in_err-port-in-Of in
    let p = err_from_is_err_and r.result r.ensures.1 in
    let e = member_tree _ _ _ c.in-Of.is in
    rw (p.1, p.2, e) (sym (then_fails _ _ _ (sym c.in_err-port-in-Of.ensures)))

pub port_value-returns-in_err-port-in-Turn : goal.port_value-returns-in_err-port-in-Turn
port_value-returns-in_err-port-in-Turn t c =
    let r = c.from_residual-in_err-port-in-Turn in
    let p = err_from_is_err_and r.result r.ensures.1 in
    let e : port_of c.args.port.now ≡ turned (port_of c.deref.result.now) (literal_of c.in-Turn.number) = rw (c.in-Turn.is, c.deref.ensures) (port_turn c.in-Turn.port c.in-Turn.number) in
    rw (p.1, p.2, e) (sym (then_fails _ _ _ (sym c.in_err-port-in-Turn.ensures)))

pub test_value-returns-in-Linked : goal.test_value-returns-in-Linked
test_value-returns-in-Linked t c =
    rw c.in-Linked.is (c.connected.ensures ∙ sym (then_goes _ _ _ (sym c.in_ok-port.ensures)))

pub test_value-returns-in-Free : goal.test_value-returns-in-Free
test_value-returns-in-Free t c =
    rw c.in-Free.is (c.is_free.ensures ∙ sym (then_goes _ _ _ (sym c.in_ok-port.ensures)))

pub test_value-returns-in_err-seen-in-PeerExpanded : goal.test_value-returns-in_err-seen-in-PeerExpanded
test_value-returns-in_err-seen-in-PeerExpanded t c =
    let r = c.from_residual-in_err-seen-in-PeerExpanded in
    let p = err_from_is_err_and r.result r.ensures.1 in
    rw (p.1, p.2, c.in-PeerExpanded.is) (sym (then_goes _ _ _ (sym c.in_ok-port.ensures) ∙ then_fails _ _ _ (sym c.in_err-seen-in-PeerExpanded.ensures)))

pub test_value-returns-in_ok-seen-in-PeerExpanded : goal.test_value-returns-in_ok-seen-in-PeerExpanded
test_value-returns-in_ok-seen-in-PeerExpanded t c =
    rw c.in-PeerExpanded.is (sym (then_goes _ _ _ (sym c.in_ok-port.ensures) ∙ then_goes _ _ _ (sym c.in_ok-seen-in-PeerExpanded.ensures)))

pub test_value-returns-in_err-seen-in-PeerHead : goal.test_value-returns-in_err-seen-in-PeerHead
test_value-returns-in_err-seen-in-PeerHead t c =
    let r = c.from_residual-in_err-seen-in-PeerHead in
    let p = err_from_is_err_and r.result r.ensures.1 in
    rw (p.1, p.2, c.in-PeerHead.is) (sym (then_goes _ _ _ (sym c.in_ok-port.ensures) ∙ then_fails _ _ _ (sym c.in_err-seen-in-PeerHead.ensures)))

pub test_value-returns-in_ok-seen-in-PeerHead : goal.test_value-returns-in_ok-seen-in-PeerHead
test_value-returns-in_ok-seen-in-PeerHead t c =
    rw c.in-PeerHead.is (sym (then_goes _ _ _ (sym c.in_ok-port.ensures) ∙ then_goes _ _ _ (sym c.in_ok-seen-in-PeerHead.ensures)))

pub guard_value-returns-in-And : goal.guard_value-returns-in-And
guard_value-returns-in-And t c =
    let e : guard_of c.args.guard.now ≡ conjunction (guards_of c.deref-in-And.result.now) = rw (c.in-And.is, c.deref-in-And.ensures.value) (guard_and c.in-And.guards) in
    rw e c.each_value.ensures

pub guard_value-returns-in-Or : goal.guard_value-returns-in-Or
guard_value-returns-in-Or t c =
    let e : guard_of c.args.guard.now ≡ disjunction (guards_of c.deref-in-Or.result.now) = rw (c.in-Or.is, c.deref-in-Or.ensures.value) (guard_or c.in-Or.guards) in
    rw e c.some_value.ensures

pub term_value-returns-in_err-value-in-Mod6-clause-value : goal.term_value-returns-in_err-value-in-Mod6-clause-value
term_value-returns-in_err-value-in-Mod6-clause-value t c =
    let r = c.from_residual-in_err-value-in-Mod6 in
    let p = err_from_is_err_and r.result r.ensures.1 in
    let e : term_of c.args.term.now ≡ mod6 (sum_of c.in-Mod6.sum) = rw c.in-Mod6.is (term_mod6 c.in-Mod6.sum) in
    rw (p.1, p.2, e) (sym (then_fails _ _ _ (sym c.in_err-value-in-Mod6.ensures)))

pub port_value-returns-in_err-dir-in-At : goal.port_value-returns-in_err-dir-in-At
port_value-returns-in_err-dir-in-At t c =
    let r = c.from_residual in
    let p = err_from_is_err_and r.result r.ensures.1 in
    let e : port_of c.args.port.now ≡ at_end c.in-At.end (dirterm_of c.in-At.direction) = rw c.in-At.is (port_at c.in-At.end c.in-At.direction) in
    rw (p.1, p.2, e) (sym (then_fails _ _ _ (sym c.in_err-dir-in-At.ensures)))

pub port_value-returns-in_ok-dir-in-At : goal.port_value-returns-in_ok-dir-in-At
port_value-returns-in_ok-dir-in-At t c =
    let e : port_of c.args.port.now ≡ at_end c.in-At.end (dirterm_of c.in-At.direction) = rw c.in-At.is (port_at c.in-At.end c.in-At.direction) in
    rw e (sym (then_goes _ _ _ (sym c.in_ok-dir-in-At.ensures)))
