use Rattle.std.proofs.Common.{◌≡◌, ◌∙◌, ap, arith, take, sym, get_or}
use Rattle.std.proofs.lemmas.List.Sums.{fold_more}
use Rattle.std.specs.List.{fold}
use Rattle.amoebot_state.specs.declared.bot.End.TheVariants.{Head}
use Rattle.amoebot_state.specs.Ports.{own_nodes, all_ports, port}
use Rattle.amoebot_state.specs.Storage.{with_port}
use Rattle.amoebot_state.proofs.Zones.{ports_taken_up}
use Rattle.amoebot_state.proofs.zone.zone_nodes.Goals as goal

pub loop-port-preserved : goal.loop-port-preserved
loop-port-preserved c =
    let add = with_port c.args.area.now c.args.bot.now in
    let own = own_nodes c.args.bot.now in (
      c.push_port.ensures.value
          ∙ ap (λ vs. add vs (get_or all_ports c.loop-port.port-index (port Head 0))) c.loop-port.invariant.0
          ∙ sym (fold_more add own all_ports c.loop-port.port-index (port Head 0) c.loop-port-test.true),
      omega arith,
    )

pub returns-clause-value : goal.returns-clause-value
returns-clause-value c =
    let all : c.loop-port.port-index ≡ 12 = omega arith in
    c.loop-port.invariant.0
    ∙ ap (λ k. fold (with_port c.args.area.now c.args.bot.now) (own_nodes c.args.bot.now) (take k all_ports)) all
    ∙ ports_taken_up c.args.area.now c.args.bot.now
