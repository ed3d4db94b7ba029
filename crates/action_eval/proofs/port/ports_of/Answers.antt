use Rattle.std.proofs.Common.{◌≡◌, ◌∙◌, ap, arith, take}
use Rattle.std.specs.List.{filter}
use Rattle.std.proofs.lemmas.List.{append-nil}
use Rattle.std.proofs.lemmas.List.Elements.{filter_more}
use Rattle.amoebot_state.specs.declared.bot.End.TheVariants.{Head}
use Rattle.amoebot_state.specs.Ports.{all_ports, port}
use Rattle.action_eval.specs.Known.{sight_of, is_in_set}
use Rattle.action_eval.proofs.PortsOf.{all_in_set}
use Rattle.action_eval.proofs.port.ports_of.Goals as goal
use Rattle.action_eval.proofs.port.ports_of.Goals.{then-is_one_of, else-is_one_of}

pub returns : goal.returns
returns c =
    let s = sight_of c.args.site.now in
    let set = c.args.set in
    let all : c.loop-port.port-index ≡ 12 = omega arith in
    c.loop-port.invariant.0 ∙ ap (λ k. filter (is_in_set s set) (take k all_ports)) all ∙ all_in_set s set

pub loop-port-preserved : goal.loop-port-preserved
loop-port-preserved c =
    let p = is_in_set (sight_of c.args.site.now) c.args.set in
    let more = filter_more p all_ports c.loop-port.port-index (port Head 0) c.loop-port-test.true in
    elim c.if-is_one_of.branch [
      | then-is_one_of w ↦ (grind (arith, more, append-nil), rw w.ports-is (omega arith))
      | else-is_one_of w ↦ (grind (arith, more, append-nil), rw w.ports-is (omega arith))
    ]
