use Rattle.std.proofs.Common.{◌≡◌, [], ◌∷◌, ◌++◌, codes, decimal, arith}
use Rattle.std.specs.Fmt.{signed_decimal}
use Rattle.std.proofs.lemmas.Grind.{common_steps}
use Rattle.std.proofs.lemmas.Result.{on_ok_weaker}
use Rattle.text_tokens.specs.Lines.{Words, spaced}
use Rattle.text_tokens.proofs.LineLemmas.{line_made}
use Rattle.shape_text.proofs.printed.put_area.Goals as goal

pub returns : goal.returns
returns c =
    let a = c.args.area in
    let words : Words = signed_decimal a.x0 ∷ signed_decimal a.y0 ∷ decimal a.w ∷ decimal a.h ∷ [] in
    let others : c.number-4.new.self ≡ c.begin.new.self ++ spaced words = grind (arith, common_steps) in
    on_ok_weaker c.end.result (λ end. line_made _ _ _ _ (codes "area") words c.in_ok-begin.ensures others end) c.end.ensures
