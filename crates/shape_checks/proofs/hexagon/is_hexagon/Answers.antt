use Rattle.std.proofs.Common.{◌<◌, ◌/◌, ◌+◌, sym, arith, inl, inr, length}
use Rattle.std.proofs.lemmas.Bool.{both_ways}
use Rattle.shape_checks.proofs.Centres.{hexagon_found, hexagon_made}
use Rattle.shape_checks.proofs.hexagon.is_hexagon.Goals as goal
use Rattle.shape_checks.proofs.hexagon.is_hexagon.Goals.{else-half-gt0-via-then-half-gt0+in_ok-has_centre+else-branch, else-half-gt0-via-else-half-gt0}

pub returns : goal.returns
returns c =
    let w = c.args.world.now in
    let count = c.bots.ensures.value in
    let any = c.if-bots-eq0.false in
    let some : 0 < length w.bots = omega arith in (
      λ t. hexagon_made w c.extremes_of-ends.result (c.width-half.result / 2 + 1) some (c.are_contracted.ensures.0 c.if-not-are_contracted.false) (c.in_ok-has_centre-2.ensures.0 t),
      λ h. elim (hexagon_found w c.extremes_of-ends.result c.width-half.result c.extremes_of-ends.ensures.extremes (sym c.width-half.ensures.value) h) [
        | inl found ↦ elim c.else-half-gt0.branch [
          | else-half-gt0-via-then-half-gt0+in_ok-has_centre+else-branch k ↦ absurd (both_ways _ k.if-branch.false (k.in_ok-has_centre.ensures.1 found.1))
          | else-half-gt0-via-else-half-gt0 k ↦ let none = k.if-half-gt0.false in let more = found.0 in absurd (omega arith)
        ]
        | inr found ↦ c.in_ok-has_centre-2.ensures.1 found
      ],
    )
