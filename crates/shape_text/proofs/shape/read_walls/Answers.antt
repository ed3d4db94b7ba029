use Rattle.std.proofs.Common.{◌≡◌, ℕ, Bool, true, false, List, [], Ok, sym, ap, map, refl, ◌∙◌}
use Rattle.text_tokens.specs.Cursor.{Cursor}
use Rattle.text_tokens.specs.Steps.{Gives}
use Rattle.shape_text.specs.Shapes.{WrittenWall}
use Rattle.shape_text.specs.Readers.{walls_from, all_walls}
use Rattle.shape_text.specs.Views as view
use Rattle.shape_text.proofs.shape.read_walls.Goals as goal

pub returns-else-may_have_walls-clause-reads : goal.returns-else-may_have_walls-clause-reads
unfolding walls_from
returns-else-may_have_walls-clause-reads c =
    let none = ap (map view.wall_view) c.new.ensures.items in
    rw (sym c.may_have_walls.ensures ∙ c.if-may_have_walls.false, none) (refl, record { source = refl; last = refl })
