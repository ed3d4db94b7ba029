use Rattle.std.proofs.Common.{◌≡◌, ◌<◌, ◌+◌, ◌*◌, ℕ, true, false, List, [], ◌∷◌, ◌++◌, Some, ap, sym, ◌∙◌, codes, arith}
use Rattle.std.proofs.lemmas.List.{map-append, append-nil}
use Rattle.tri_lattice.specs.declared.node.Node.{Node}
use Rattle.tri_lattice.specs.Extent.{Extent, node_at}
use Rattle.tri_lattice.proofs.Boxes.{index_of_node_at}
use Rattle.amoebot_state.specs.Walls.{has_number}
use Rattle.amoebot_state.proofs.Members.{Has}
use Rattle.amoebot_state.proofs.RisingLists.{Rising}
use Rattle.amoebot_state.proofs.Walls.{rising_numbers, has_number-Has}
use Rattle.shape_text.specs.PartTexts.{node_words}
use Rattle.text_tokens.specs.Lines.{spaced, lines_text}
use Rattle.text_tokens.proofs.LineLemmas.{line_made, line_more}
use Rattle.shape_text.specs.Texts.{wall_words, wall_lines}
use Rattle.shape_text.proofs.WallNumbers.{below, none_below, all_below, next_below, same_below, has_below}
use Rattle.shape_text.proofs.printed.put_walls.Goals as goal
use Rattle.shape_text.proofs.printed.put_walls.Goals.{then-is_wall_number+in_ok-begin+in_ok-put_node+in_ok-end, else-is_wall_number}

next_lines : (a : Extent) (n : ℕ) (ns : List ℕ) → Rising (λ n. n) ns → has_number ns (Some n) ≡ true → wall_lines a (below (n + 1) ns) ≡ wall_lines a (below n ns) ++ wall_words (node_at a n) ∷ []
next_lines a n ns rising is = ap (wall_lines a) (next_below n ns rising (has_number-Has ns n is)) ∙ map-append (λ k. wall_words (node_at a k)) (below n ns) (n ∷ [])

pub loop-number-init : goal.loop-number-init
loop-number-init c =
    let rising = rising_numbers c.args.world.now.walls c.keeps.ensures.valid.rising in
    sym (append-nil c.args.lines.now) ∙ ap (λ (lines : List ℕ). c.args.lines.now ++ lines) (sym (ap (λ (ns : List ℕ). lines_text (wall_lines c.args.world.now.area ns)) (none_below c.args.world.now.walls rising)))

pub loop-number-preserved : goal.loop-number-preserved
loop-number-preserved c =
    let rising = rising_numbers c.args.world.now.walls c.keeps.ensures.valid.rising in
    let a = c.args.world.now.area in
    let n = c.loop-number.number in
    let size : c.size-number-end.result ≡ a.w * a.h = c.size-number-end.ensures.value ∙ ap (λ (x : Extent). x.w * x.h) c.area-area.ensures in
    let inside : n < a.w * a.h = let lt = c.loop-number-test.true in omega (arith, size) in
    let is : c.is_wall_number.result ≡ has_number c.args.world.now.walls (Some n) = c.is_wall_number.ensures (node_at a n) (index_of_node_at a n inside) ∙ ap (has_number c.args.world.now.walls) (index_of_node_at a n inside) in
    elim c.if-is_wall_number.branch [
      | then-is_wall_number+in_ok-begin+in_ok-put_node+in_ok-end w ↦ rw w.lines-is (line_more _ _ _ _ (wall_words (node_at a n)) _ c.loop-number.invariant (line_made _ _ _ _ (codes "wall") (node_words (node_at a n)) w.in_ok-begin.ensures (w.in_ok-put_node.ensures ∙ ap (λ (v : Node). w.begin.new.self ++ spaced (node_words v)) (w.node.ensures ∙ ap (λ (x : Extent). node_at x n) c.area-area.ensures)) w.in_ok-end.ensures) (next_lines a n c.args.world.now.walls rising (sym is ∙ w.if-is_wall_number.true)))
      | else-is_wall_number w ↦ rw w.lines-is (c.loop-number.invariant ∙ ap (λ (ns : List ℕ). c.args.lines.now ++ lines_text (wall_lines a ns)) (sym (same_below n c.args.world.now.walls rising (sym is ∙ w.if-is_wall_number.false))))
    ]

pub returns : goal.returns
returns c =
    let a = c.args.world.now.area in
    let rising = rising_numbers c.args.world.now.walls c.keeps.ensures.valid.rising in
    let size : c.size-number-end.result ≡ a.w * a.h = c.size-number-end.ensures.value ∙ ap (λ (x : Extent). x.w * x.h) c.area-area.ensures in
    let all = has_below a c.args.world.now.walls c.keeps.ensures.valid.walled in
    let ends : (k : ℕ) → Has k c.args.world.now.walls → k < c.loop-number.number = λ k has. (let lt = all k has in let far = c.loop-number-test.false in omega (arith, size)) in
    c.loop-number.invariant ∙ ap (λ (ns : List ℕ). c.args.lines.now ++ lines_text (wall_lines c.args.world.now.area ns)) (all_below c.loop-number.number c.args.world.now.walls rising ends)
