use Rattle.std.proofs.Common.{◌≡◌, length, take, ◌+◌, ◌-◌, ap, sym, ◌∙◌, arith}
use Rattle.std.proofs.lemmas.List.{take_more, length-take-le}
use Rattle.amoebot_state.specs.Pairs.{Pairs}
use Rattle.claim_rule.proofs.cells.Cells.last.Goals as goal

pub returns : goal.returns
returns c =
    let all = c.self.inside.all in
    let k = c.self.inside.count in
    let small = c.self.invariant.0 in
    let room = c.self.invariant.1 in
    let some = c.requires in
    let count = length-take-le k all (omega (arith, small, room)) in
    let long = ap (λ (ps : Pairs). length ps) c.self.view_is in
    let next : k ≡ (k - 1) + 1 = omega (arith, some, count, long) in
    (take (k - 1) all, sym c.self.view_is ∙ ap (λ n. take n all) next ∙ take_more all (k - 1) _ (omega (arith, small, room, next)))
