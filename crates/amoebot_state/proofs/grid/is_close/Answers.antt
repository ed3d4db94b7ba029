use Rattle.std.proofs.Common.{◌∙◌, ◌||◌, ap, sym}
use Rattle.tri_lattice.specs.Lattice.{is_adjacent}
use Rattle.amoebot_state.proofs.Owns.{adjacent_is}
use Rattle.amoebot_state.proofs.grid.is_close.Goals as goal

pub returns-else-eq : goal.returns-else-eq
returns-else-eq c =
    let a = c.args.a in
    let b = c.args.b in
    c.is_some.ensures ∙ adjacent_is c.adjacent.result a b c.adjacent.ensures.some c.adjacent.ensures.none ∙ sym (ap (λ t. t || is_adjacent a b) (sym c.eq.ensures ∙ c.if-eq.false))
