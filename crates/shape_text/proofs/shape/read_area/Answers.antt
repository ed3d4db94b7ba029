use Rattle.std.proofs.Common.{◌≡◌, ℕ, Option, Some, None, Ok, sym, ap, ◌∙◌, arith, w16}
use Rattle.std.specs.Prelude.{ℤ, codes, IfSome}
use Rattle.std.specs.Option.{IsSome, ok_or}
use Rattle.std.proofs.lemmas.Int.{to_z-of_z, ints}
use mir.Val.{to_z, of_z}
use Rattle.text_tokens.specs.declared.refusal.ReadRefusal.{ReadRefusal}
use Rattle.text_tokens.specs.Cursor.{Cursor}
use Rattle.text_tokens.specs.Reading.{Reader, ◌>>=◌, pure}
use Rattle.text_tokens.specs.Steps.{Gives}
use Rattle.text_tokens.proofs.StepsLemmas.{Reached}
use Rattle.tri_lattice.specs.Extent.{Extent, IsArea}
use Rattle.shape_text.specs.PartReaders.{a_word, an_int}
use Rattle.shape_text.specs.Readers.{a_side, an_area}
use Rattle.shape_text.specs.Shapes.{an_area_of}
use Rattle.text_tokens.proofs.Rows.{all_left, past_part}
use Rattle.shape_text.proofs.shape.read_area.Goals as goal

-- what is left behind each part
abbrev behind_w : ℤ → ℤ → ℕ → Reader Extent
behind_w x0 y0 w = a_side >>= λ h. pure (an_area_of x0 y0 w h)

abbrev behind_y0 : ℤ → ℤ → Reader Extent
behind_y0 x0 y0 = a_side >>= behind_w x0 y0

abbrev behind_x0 : ℤ → Reader Extent
behind_x0 x0 = an_int 4096 >>= behind_y0 x0

abbrev behind_word : ℕ → Reader Extent
behind_word line = an_int 4096 >>= behind_x0

-- numbers of these ranges make an area
gives_area : (start new : Cursor) (o : Option Extent) (a : Extent) (e : ReadRefusal) → IsSome o → IfSome o (λ x. x ≡ a) → Reached an_area start a new → Gives (λ (x : Extent). x) an_area start (ok_or o e) new
gives_area start new (Some x) a e is same r = (r.0 ∙ ap (λ (y : Extent). Ok (y, new.ahead)) (sym same), r.1)
gives_area start new None a e is same r = absurd cc

pub returns : goal.returns
unfolding an_area
returns c =
    let l0 = all_left an_area c.args.tokens.now in
    let l1 = past_part (a_word (codes "area")) behind_word l0 c.in_ok-line.line c.read_word.new.tokens c.in_ok-line.ensures.reads in
    let x0 = c.in_ok-x0.x0 in
    let l2 = past_part (an_int 4096) behind_x0 l1 x0 c.read_int.new.tokens c.in_ok-x0.ensures.reads in
    let y0 = c.in_ok-y0.y0 in
    let l3 = past_part (an_int 4096) (behind_y0 x0) l2 y0 c.read_int-2.new.tokens c.in_ok-y0.ensures.reads in
    let w = c.in_ok-w.w in
    let l4 = past_part (a_side) (behind_w x0 y0) l3 w c.read_side.new.tokens c.in_ok-w.ensures.reads in
    let h = c.in_ok-h.h in
    let l5 = past_part (a_side) (λ h. pure (an_area_of x0 y0 w h)) l4 h c.read_side-2.new.tokens c.in_ok-h.ensures.reads in
    let as_x0 : to_z w16 (of_z w16 x0) ≡ x0 = to_z-of_z w16 x0 (omega (arith, ints, c.in_ok-x0.ensures.low, c.in_ok-x0.ensures.high)) in
    let as_y0 : to_z w16 (of_z w16 y0) ≡ y0 = to_z-of_z w16 y0 (omega (arith, ints, c.in_ok-y0.ensures.low, c.in_ok-y0.ensures.high)) in
    let area : IsArea (an_area_of x0 y0 w h) = record {
      x_low = omega (arith, ints, c.in_ok-x0.ensures.low);
      x_high = c.in_ok-x0.ensures.high;
      y_low = omega (arith, ints, c.in_ok-y0.ensures.low);
      y_high = c.in_ok-y0.ensures.high;
      w_low = c.in_ok-w.ensures.low;
      w_high = c.in_ok-w.ensures.high;
      h_low = c.in_ok-h.ensures.low;
      h_high = c.in_ok-h.ensures.high;
    } in
    let some : IsArea (an_area_of (to_z w16 (of_z w16 x0)) (to_z w16 (of_z w16 y0)) w h) → IsSome c.new.result = c.new.ensures.some.1 in
    let value : IfSome c.new.result (λ a. a ≡ an_area_of (to_z w16 (of_z w16 x0)) (to_z w16 (of_z w16 y0)) w h) = c.new.ensures.value in
    let is : IsSome c.new.result = (rw (as_x0, as_y0) at some) area in
    rw c.ok_or.ensures.value (gives_area c.args.tokens.now c.read_side-2.new.tokens c.new.result (an_area_of x0 y0 w h) c.refused.result is (rw (as_x0, as_y0) at value) (l5.reads, l5.stays))
