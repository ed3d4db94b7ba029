use Rattle.std.proofs.Common.{◌≡◌, ◌∙◌, ap, sym, subst}
use Rattle.std.specs.Bool.{Decides}
use Rattle.std.specs.Cmp.{booleans_Decides}
use Rattle.std.proofs.lemmas.Slice.Eq.{slice_eq-Decides}
use Rattle.amoebot_state.specs.Configs.{Config}
use Rattle.amoebot_state.proofs.Frames.{walls_same}
use Rattle.amoebot_state.proofs.Values.{same_extent}
use Rattle.amoebot_state.proofs.frame.Frame.has_area_and_walls_of.Goals as goal

pub returns-then-eq : goal.returns-then-eq
returns-then-eq c =
    let mine = c.self.inside in
    let other = c.other.inside in
    let areas = same_extent mine.area other.area (sym c.eq.ensures ∙ c.if-eq.true) in
    let told = slice_eq-Decides booleans_Decides c.as_slice.result.now c.as_slice-then-eq.result.now c.eq-then-eq.result c.eq-then-eq.ensures in
    let grids : Decides c.eq-then-eq.result (mine.walls.items ≡ other.walls.items) =
    subst (λ ys. Decides c.eq-then-eq.result (mine.walls.items ≡ ys)) c.as_slice-then-eq.ensures.value
    (subst (λ xs. Decides c.eq-then-eq.result (xs ≡ c.as_slice-then-eq.result.now)) c.as_slice.ensures.value told) in
    let whole = walls_same mine.area other.area mine.maxes other.maxes mine.walls.items other.walls.items c.eq-then-eq.result
    c.self.invariant c.other.invariant areas grids in (
      λ t.
          let same = whole.0 t in (
            sym (ap (λ (d : Config). d.area) c.self.view_is) ∙ same.0 ∙ ap (λ (d : Config). d.area) c.other.view_is,
            sym (ap (λ (d : Config). d.walls) c.self.view_is) ∙ same.1 ∙ ap (λ (d : Config). d.walls) c.other.view_is,
          ),
      λ e. whole.1 (
        ap (λ (d : Config). d.area) c.self.view_is ∙ e.0 ∙ sym (ap (λ (d : Config). d.area) c.other.view_is),
        ap (λ (d : Config). d.walls) c.self.view_is ∙ e.1 ∙ sym (ap (λ (d : Config). d.walls) c.other.view_is),
      ),
    )
