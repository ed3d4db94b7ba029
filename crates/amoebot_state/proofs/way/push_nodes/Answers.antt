use Rattle.std.proofs.Common.{◌≡◌, ◌<◌, ◌∙◌, ◌++◌, ◌+◌, ap, sym, arith, drop, [], inl, inr, map, set, take}
use Rattle.std.specs.Prelude.{if◌then◌else◌}
use Rattle.std.specs.List.{fold}
use Rattle.std.proofs.Math.ListN.{length-set}
use Rattle.std.proofs.lemmas.Bool.{cases_Bool}
use Rattle.std.proofs.lemmas.List.{drop-set-lt, take-append-drop, take_all}
use Rattle.amoebot_state.specs.declared.bot.End.TheVariants.{Head, Tail}
use Rattle.amoebot_state.specs.Ports.{own_nodes, all_ports, is_contracted, port}
use Rattle.amoebot_state.specs.Storage.{with_port}
use Rattle.amoebot_state.specs.Zones.{zone_nodes}
use Rattle.amoebot_state.specs.Ways.{way_among}
use Rattle.amoebot_state.proofs.Ways.{head_pair, tail_pair, port_next, port_room, ways_next, tail_adds_none}
use Rattle.amoebot_state.proofs.Zones.{ports_taken_up}
use Rattle.amoebot_state.proofs.way.push_nodes.Goals as goal

pub push_head_way-requires-clause-room : goal.push_head_way-requires-clause-room
push_head_way-requires-clause-room c =
    let d = c.loop-dir.dir in
    port_room c.args.area.now c.args.bot.now d c.loop-dir.nodes.items (port Head d) (omega (arith, c.loop-dir-test.true)) (head_pair d c.loop-dir-test.true) c.loop-dir.invariant.0 c.requires.few

pub loop-dir-preserved : goal.loop-dir-preserved
loop-dir-preserved c =
    let a = c.args.area.now in
    let b = c.args.bot.now in
    let d = c.loop-dir.dir in
    let vs = c.loop-dir.nodes.items in
    let below : d < 12 = omega (arith, c.loop-dir-test.true) in
    let at = head_pair d c.loop-dir-test.true in (
      c.push_head_way.ensures.nodes ∙ port_next a b d vs (port Head d) below at c.loop-dir.invariant.0,
      ways_next a b d vs c.push_head_way.new.nodes.items (port Head d) c.loop-dir.ways c.push_head_way.result below at c.loop-dir.invariant.0 c.push_head_way.ensures.nodes c.push_head_way.ensures.way c.loop-dir.invariant.2 c.loop-dir.invariant.1,
      length-set c.loop-dir.ways d _ ∙ c.loop-dir.invariant.2,
      drop-set-lt 6 c.loop-dir.ways d c.push_head_way.result c.loop-dir-test.true ∙ c.loop-dir.invariant.3,
    )

pub loop-dir-2-init : goal.loop-dir-2-init
loop-dir-2-init c =
    let a = c.args.area.now in
    let b = c.args.bot.now in
    let f = way_among a b (zone_nodes a b) in
    let six : c.loop-dir.dir ≡ 6 = omega arith in (
      c.loop-dir.invariant.0 ∙ ap (λ k. fold (with_port a b) (own_nodes b) (take k all_ports)) six,
      ap (λ k. take k c.loop-dir.ways) (sym six) ∙ c.loop-dir.invariant.1 ∙ ap (λ k. map f (take k all_ports)) six,
      c.loop-dir.invariant.2,
      λ _. c.loop-dir.invariant.3,
    )

pub push_tail_way-requires-clause-room : goal.push_tail_way-requires-clause-room
push_tail_way-requires-clause-room c =
    let d = c.loop-dir-2.dir in
    let below : d < 6 = omega (arith, c.loop-dir-2-test.true, c.tail_pairs-dir-end.ensures.most) in
    port_room c.args.area.now c.args.bot.now (6 + d) c.loop-dir-2.nodes.items (port Tail d) (omega (arith, below)) (tail_pair d below) c.loop-dir-2.invariant.0 c.requires.few

pub loop-dir-2-preserved : goal.loop-dir-2-preserved
loop-dir-2-preserved c =
    let a = c.args.area.now in
    let b = c.args.bot.now in
    let d = c.loop-dir-2.dir in
    let vs = c.loop-dir-2.nodes.items in
    let below : d < 6 = omega (arith, c.loop-dir-2-test.true, c.tail_pairs-dir-end.ensures.most) in
    let place : 6 + d < 12 = omega (arith, below) in
    let at = tail_pair d below in
    let one : (6 + d) + 1 ≡ 6 + (d + 1) = omega arith in
    let ways = set c.loop-dir-2.ways (6 + d) c.push_tail_way.result in (
      c.push_tail_way.ensures.nodes
          ∙ port_next a b (6 + d) vs (port Tail d) place at c.loop-dir-2.invariant.0
          ∙ ap (λ k. fold (with_port a b) (own_nodes b) (take k all_ports)) one,
      ap (λ k. take k ways) (sym one)
          ∙ ways_next a b (6 + d) vs c.push_tail_way.new.nodes.items (port Tail d) c.loop-dir-2.ways c.push_tail_way.result place at c.loop-dir-2.invariant.0 c.push_tail_way.ensures.nodes c.push_tail_way.ensures.way c.loop-dir-2.invariant.2 c.loop-dir-2.invariant.1
          ∙ ap (λ k. map (way_among a b (zone_nodes a b)) (take k all_ports)) one,
      length-set c.loop-dir-2.ways (6 + d) _ ∙ c.loop-dir-2.invariant.2,
      λ t. absurd (let none : c.tail_pairs-dir-end.result ≡ 0 = c.tail_pairs-dir-end.ensures.value ∙ ap (λ s. if s then 0 else 6) t in omega arith),
    )

pub returns-clause-nodes : goal.returns-clause-nodes
returns-clause-nodes c =
    let a = c.args.area.now in
    let b = c.args.bot.now in
    elim (cases_Bool (is_contracted b)) [
      | inl t ↦
          let none : c.tail_pairs-dir-end.result ≡ 0 = c.tail_pairs-dir-end.ensures.value ∙ ap (λ s. if s then 0 else 6) t in
          let all : 6 + c.loop-dir-2.dir ≡ 6 = omega arith in
          c.loop-dir-2.invariant.0
          ∙ ap (λ k. fold (with_port a b) (own_nodes b) (take k all_ports)) all
          ∙ sym (tail_adds_none a b (fold (with_port a b) (own_nodes b) (take 6 all_ports)) [] t).0
          ∙ ports_taken_up a b
      | inr f ↦
          let whole : c.tail_pairs-dir-end.result ≡ 6 = c.tail_pairs-dir-end.ensures.value ∙ ap (λ s. if s then 0 else 6) f in
          let all : 6 + c.loop-dir-2.dir ≡ 12 = omega arith in
          c.loop-dir-2.invariant.0 ∙ ap (λ k. fold (with_port a b) (own_nodes b) (take k all_ports)) all ∙ ports_taken_up a b
    ]

pub returns-clause-ways : goal.returns-clause-ways
returns-clause-ways c =
    let a = c.args.area.now in
    let b = c.args.bot.now in
    let f = way_among a b (zone_nodes a b) in
    let ws = c.loop-dir-2.ways in
    elim (cases_Bool (is_contracted b)) [
      | inl t ↦
          let none : c.tail_pairs-dir-end.result ≡ 0 = c.tail_pairs-dir-end.ensures.value ∙ ap (λ s. if s then 0 else 6) t in
          let all : 6 + c.loop-dir-2.dir ≡ 6 = omega arith in
          sym (take-append-drop 6 ws)
          ∙ ap (λ xs. xs ++ drop 6 ws) (ap (λ k. take k ws) (sym all) ∙ c.loop-dir-2.invariant.1 ∙ ap (λ k. map f (take k all_ports)) all)
          ∙ ap (λ xs. map f (take 6 all_ports) ++ xs) (c.loop-dir-2.invariant.3 t ∙ sym (tail_adds_none a b [] (zone_nodes a b) t).1)
      | inr g ↦
          let whole : c.tail_pairs-dir-end.result ≡ 6 = c.tail_pairs-dir-end.ensures.value ∙ ap (λ s. if s then 0 else 6) g in
          let all : 6 + c.loop-dir-2.dir ≡ 12 = omega arith in
          sym (take_all (6 + c.loop-dir-2.dir) ws (omega (arith, all, c.loop-dir-2.invariant.2))) ∙ c.loop-dir-2.invariant.1 ∙ ap (λ k. map f (take k all_ports)) all
    ]
