use Rattle.std.proofs.Common.{◌≡◌, ◌≤◌, ◌∷◌, ◌++◌, [], length, take, ◌-◌, ap, sym, ◌∙◌, arith}
use Rattle.std.proofs.lemmas.List.{take_at, take-take, length-take-le, length-append}
use Rattle.claim_rule.proofs.cells.Cells.drop_last.Goals as goal

pub returns : goal.returns
returns c = λ front last e.
    let all = c.self.inside.all in
    let k = c.self.inside.count in
    let whole : take k all ≡ front ++ last ∷ [] = c.self.view_is ∙ e in
    let small = c.self.invariant.0 in
    let room = c.self.invariant.1 in
    let within : k ≤ length all = omega (arith, small, room) in
    let long = ap length whole ∙ length-append front (last ∷ []) in
    let count = length-take-le k all within in
    let short : length front ≡ k - 1 = omega (arith, long, count) in
    sym (take-take (k - 1) k all (omega arith)) ∙ ap (take (k - 1)) whole ∙ take_at front (last ∷ []) (k - 1) short
