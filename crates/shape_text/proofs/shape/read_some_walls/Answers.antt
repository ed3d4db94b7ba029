use Rattle.std.proofs.Common.{◌≡◌, ◌<◌, ◌+◌, ℕ, suc, true, List, [], ◌∷◌, ◌++◌, length, map, ap, sym, ◌∙◌, subst, arith}
use Rattle.std.proofs.lemmas.List.{map-append}
use Rattle.std.proofs.lemmas.Result.{err_from_is_err_and}
use Rattle.text_tokens.specs.Reading.{repeated}
use Rattle.text_tokens.specs.Lawful.{always}
use Rattle.text_tokens.proofs.LoopLemmas.{StillReads, loop_begins, loop_goes_on, loop_is_over, loop_fails}
use Rattle.amoebot_state.specs.Limits.{most_walls}
use Rattle.shape_text.specs.Parts.{one_more}
use Rattle.shape_text.specs.Shapes.{is_wall_word, IsWallLine}
use Rattle.shape_text.specs.Readers.{a_wall_line, walls_from, all_walls}
use Rattle.shape_text.specs.Views as view
use Rattle.shape_text.proofs.ShapeLaws.{is_behind_walls, wall_elements}
use Rattle.shape_text.proofs.shape.read_some_walls.Goals as goal

pub loop-found-init : goal.loop-found-init
unfolding walls_from
loop-found-init c =
    let none = c.new-found.ensures.items in
    let size = ap length none in
    record {
      reads = loop_begins (all_walls true) c.args.tokens.now (map view.wall_view c.new-found.result.items) (ap (map view.wall_view) none);
      few = omega arith;
      same = omega (arith, c.new-found.ensures.len);
    }

pub returns-in_err-wall-clause-reads : goal.returns-in_err-wall-clause-reads
returns-in_err-wall-clause-reads c =
    let p = err_from_is_err_and c.from_residual.result c.from_residual.ensures.1 in
    rw (p.1, p.2) (loop_fails IsWallLine a_wall_line one_more is_wall_word always is_behind_walls wall_elements (all_walls true) c.args.tokens.now (map view.wall_view c.loop-found.found.items) c.loop-found.before c.loop-found.tokens c.loop-found.invariant.reads
    c.in_err-wall.field-0.0 c.more_wall.new.tokens c.in_err-wall.ensures.reads)

pub loop-found-preserved : goal.loop-found-preserved
loop-found-preserved c =
    let next = rw c.in-Some.is at c.in_ok-wall.ensures.reads in
    let few : c.loop-found.before < most_walls = rw c.in-Some.is at c.in_ok-wall.ensures.room in
    let pushed = c.in_ok-push.ensures.items in
    let more : map view.wall_view c.push.new.self.items ≡ map view.wall_view c.loop-found.found.items ++ view.wall_view c.in-Some.wall ∷ [] = ap (map view.wall_view) pushed ∙ map-append view.wall_view c.loop-found.found.items (c.in-Some.wall ∷ []) in
    let reads = loop_goes_on IsWallLine a_wall_line one_more is_wall_word always is_behind_walls wall_elements (all_walls true) c.args.tokens.now (map view.wall_view c.loop-found.found.items) c.loop-found.before c.loop-found.tokens c.loop-found.invariant.reads
    (view.wall_view c.in-Some.wall) c.more_wall.new.tokens next (map view.wall_view c.push.new.self.items) more in
    let one : suc c.loop-found.before ≡ c.loop-found.before + 1 = omega arith in
    record {
      reads = subst (λ (n : ℕ). StillReads (all_walls true) c.args.tokens.now (map view.wall_view c.push.new.self.items) (repeated is_wall_word a_wall_line one_more n) c.more_wall.new.tokens) one reads;
      few = omega (arith, few);
      same = omega (arith, c.in_ok-push.ensures.len, c.loop-found.invariant.same);
    }

pub returns-clause-reads : goal.returns-clause-reads
returns-clause-reads c = loop_is_over IsWallLine a_wall_line one_more is_wall_word always is_behind_walls wall_elements (all_walls true) c.args.tokens.now (map view.wall_view c.loop-found.found.items) c.loop-found.before c.loop-found.tokens c.loop-found.invariant.reads
    c.more_wall.new.tokens (rw c.in_default.is at c.in_ok-wall.ensures.reads)
