use Rattle.std.proofs.Common.{◌≡◌, ◌<◌, length, sym, arith}
use Rattle.std.proofs.lemmas.Option.{IfSome_then}
use Rattle.action_eval.specs.Known.{known, scope_of, sight_of}
use Rattle.action_eval.proofs.Placed.{term_is_placed}
use Rattle.action_eval.proofs.SimpleSums.{one_value}
use Rattle.action_eval.proofs.simple.simple_sum.Goals as goal

pub simple_term-requires-clause-placed : goal.simple_term-requires-clause-placed
simple_term-requires-clause-placed c =
    let ps = c.as_slice-parts.result.now in
    let p = c.index-parts-0-2.result in
    let l : 0 < length ps = omega arith in
    let placed = term_is_placed c.args.sum.now ps (scope_of (known c.args.names.now)) 0 p c.as_slice-parts.ensures.value c.requires.placed l c.index-parts-0-2.is in
    let is = c.index-parts-0-2.is in
    rw (sym is) placed

pub returns : goal.returns
returns c =
    let ps = c.as_slice-parts.result.now in
    let one : length ps ≡ 1 = omega arith in
    IfSome_then c.simple_term.result c.simple_term.ensures (λ x e. one_value (sight_of c.args.site.now) (known c.args.names.now) c.args.sum.now ps c.index-parts-0.result c.index-parts-0-2.result x c.as_slice-parts.ensures.value one c.if-parts-offset0.false e)
