use Rattle.std.proofs.Common.{◌≡◌, arith, w16}
use Rattle.std.proofs.lemmas.Int.{to_z-of_z, ints}
use mir.Val.{to_z, of_z}
use Rattle.text_tokens.specs.Reading.{◌>>=◌, pure}
use Rattle.shape_text.specs.Parts.{a_node_of}
use Rattle.shape_text.specs.PartReaders.{an_int, a_node}
use Rattle.text_tokens.proofs.Rows.{all_left, past_part}
use Rattle.shape_text.proofs.parts.read_node.Goals as goal

pub returns-clause-reads : goal.returns-clause-reads
unfolding a_node
returns-clause-reads c =
    let l0 = all_left a_node c.args.tokens.now in
    let x = c.in_ok-x.x in
    let l1 = past_part (an_int 9999) (λ x. an_int 9999 >>= λ y. pure (a_node_of x y)) l0 x c.read_int.new.tokens c.in_ok-x.ensures.reads in
    let y = c.in_ok-y.y in
    let l2 = past_part (an_int 9999) (λ y. pure (a_node_of x y)) l1 y c.read_int-2.new.tokens c.in_ok-y.ensures.reads in
    let as_x : to_z w16 (of_z w16 x) ≡ x = to_z-of_z w16 x (omega (arith, ints, c.in_ok-x.ensures.low, c.in_ok-x.ensures.high)) in
    let as_y : to_z w16 (of_z w16 y) ≡ y = to_z-of_z w16 y (omega (arith, ints, c.in_ok-y.ensures.low, c.in_ok-y.ensures.high)) in
    rw (as_x, as_y) (l2.reads, l2.stays)
