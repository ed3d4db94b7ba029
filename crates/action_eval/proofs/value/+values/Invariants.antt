use Rattle.std.proofs.Common.{◌≡◌, ◌≤◌, length}
use Rattle.action_meaning.specs.Choices.{any_of_ports, all_of_ports, first_of_ports, count_of_ports}
use Rattle.action_meaning.specs.Values.{ports_of}
use Rattle.action_eval.specs.Known.{known, scope_of, sight_of}
use Rattle.action_eval.specs.UnderNames.{IsUnder, guard_at}
use Rattle.action_eval.proofs.ChoicesLemmas.{and_so_many}
use Rattle.action_eval.proofs.PortsOf.{ports_from}
use Rattle.action_eval.proofs.SumLoops.{TermsLeft}
use Rattle.action_eval.proofs.GuardLoops.{EachLeft, SomeLeft}
use Rattle.action_eval.proofs.value.+values.Given as goal

abbrev pub invariant-each_value-loop-guard : goal.invariant-each_value-loop-guard
invariant-each_value-loop-guard l = EachLeft (sight_of l.site) (known l.names) (scope_of (known l.names)) l.guards l.guard-index

abbrev pub invariant-some_value-loop-guard : goal.invariant-some_value-loop-guard
invariant-some_value-loop-guard l = SomeLeft (sight_of l.site) (known l.names) (scope_of (known l.names)) l.guards l.guard-index

abbrev pub invariant-any_value-loop-port : goal.invariant-any_value-loop-port
invariant-any_value-loop-port l =
    let s = sight_of l.site in
    let asked = guard_at s (known l.names) l.name l.guard in
    IsUnder (known l.names) l.name (known l.inner) × (any_of_ports asked (ports_of s l.set) ≡ any_of_ports asked (ports_from s l.set l.port-items l.port-index))

abbrev pub invariant-all_value-loop-port : goal.invariant-all_value-loop-port
invariant-all_value-loop-port l =
    let s = sight_of l.site in
    let asked = guard_at s (known l.names) l.name l.guard in
    IsUnder (known l.names) l.name (known l.inner) × (all_of_ports asked (ports_of s l.set) ≡ all_of_ports asked (ports_from s l.set l.port-items l.port-index))

abbrev pub invariant-first_value-loop-port : goal.invariant-first_value-loop-port
invariant-first_value-loop-port l =
    let s = sight_of l.site in
    let asked = guard_at s (known l.names) l.name l.guard in
    IsUnder (known l.names) l.name (known l.inner) × (first_of_ports asked (ports_of s l.set) ≡ first_of_ports asked (ports_from s l.set l.port-items l.port-index))

abbrev pub invariant-count_value-loop-port : goal.invariant-count_value-loop-port
invariant-count_value-loop-port l =
    let s = sight_of l.site in
    let asked = guard_at s (known l.names) l.name l.guard in
    IsUnder (known l.names) l.name (known l.inner) × (count_of_ports asked (ports_of s l.set) ≡ and_so_many l.count (count_of_ports asked (ports_from s l.set l.port-items l.port-index))) × (l.count ≤ l.port-index) × (length l.port-items ≤ 12)

abbrev pub invariant-sum_value-loop-part : goal.invariant-sum_value-loop-part
invariant-sum_value-loop-part l = TermsLeft (sight_of l.site) (known l.names) (scope_of (known l.names)) l.part-items l.part-index l.total
