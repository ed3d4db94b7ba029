use Rattle.std.proofs.Common.{◌≡◌, ◌<◌, ℕ, true, false, Ok, sym, ap, ◌∙◌, arith, w16}
use Rattle.std.specs.Prelude.{ℤ, pos, ◌-ℤ◌}
use Rattle.std.proofs.lemmas.Result.{err_from_is_err_and}
use Rattle.std.proofs.Math.Facts.{to_z_pos}
use Rattle.std.proofs.lemmas.Int.{to_z-of_z, ints}
use mir.Val.{to_z, of_z}
use Rattle.text_tokens.specs.Cursor.{Cursor, next_passes}
use Rattle.text_tokens.specs.Reading.{Reader, ◌>>=◌, pure, the_line}
use Rattle.shape_text.specs.Parts.{is_minus, negative}
use Rattle.shape_text.specs.PartReaders.{up_to, an_int}
use Rattle.text_tokens.proofs.Rows.{Left, all_left, first_left, second_left, past_part, part_fails, made_left}
use Rattle.shape_text.proofs.parts.read_int.Goals as goal

abbrev plain : ℕ → Reader ℤ
plain most = up_to most >>= λ n. pure (pos n)

abbrev negated : ℕ → Reader ℤ
negated most = up_to most >>= λ n. pure (negative n)

abbrev signed : ℕ → Reader ℤ
signed most = the_line is_minus >>= λ line. negated most

module _ (most : ℕ) (here : Cursor) where
  with_sign : next_passes is_minus here.ahead ≡ true → Left (an_int most) here (signed most) here
  unfolding an_int
  with_sign e = first_left is_minus (signed most) (plain most) (all_left (an_int most) here) e

  with_none : next_passes is_minus here.ahead ≡ false → Left (an_int most) here (plain most) here
  unfolding an_int
  with_none e = second_left is_minus (signed most) (plain most) (all_left (an_int most) here) e

-- the code's number
as_code : (n : ℕ) → n < 32768 → to_z w16 (of_z w16 (pos 0 -ℤ to_z w16 n)) ≡ negative n
as_code n small = ap (λ (z : ℤ). to_z w16 (of_z w16 (pos 0 -ℤ z))) (to_z_pos w16 small) ∙ to_z-of_z w16 (negative n) (omega (arith, ints))

pub returns-in_err-the_line-clause-reads : goal.returns-in_err-the_line-clause-reads
returns-in_err-the_line-clause-reads c =
    let p = err_from_is_err_and c.from_residual.result c.from_residual.ensures.1 in
    let l0 = with_sign c.args.most c.args.tokens.now (sym c.is_next.ensures ∙ c.if-is_next.true) in
    rw (p.1, p.2) (part_fails (the_line is_minus) (λ line. negated c.args.most) l0 c.in_err-the_line.field-0.0 c.the_line.new.tokens c.in_err-the_line.ensures.reads)

pub returns-in_err-read_up_to-clause-reads : goal.returns-in_err-read_up_to-clause-reads
returns-in_err-read_up_to-clause-reads c =
    let p = err_from_is_err_and c.from_residual-in_err-read_up_to.result c.from_residual-in_err-read_up_to.ensures.1 in
    let l0 = with_sign c.args.most c.args.tokens.now (sym c.is_next.ensures ∙ c.if-is_next.true) in
    let l1 = past_part (the_line is_minus) (λ line. negated c.args.most) l0 c.in_ok-the_line.field-0 c.the_line.new.tokens c.in_ok-the_line.ensures.reads in
    rw (p.1, p.2) (part_fails (up_to c.args.most) (λ n. pure (negative n)) l1 c.in_err-read_up_to.field-0.0 c.read_up_to.new.tokens (rw c.from.ensures at c.in_err-read_up_to.ensures.reads))

pub returns-in_err-read_up_to-2-clause-reads : goal.returns-in_err-read_up_to-2-clause-reads
returns-in_err-read_up_to-2-clause-reads c =
    let p = err_from_is_err_and c.from_residual-in_err-read_up_to-2.result c.from_residual-in_err-read_up_to-2.ensures.1 in
    let l0 = with_none c.args.most c.args.tokens.now (sym c.is_next.ensures ∙ c.if-is_next.false) in
    rw (p.1, p.2) (part_fails (up_to c.args.most) (λ n. pure (pos n)) l0 c.in_err-read_up_to-2.field-0.0 c.read_up_to-else-is_next.new.tokens (rw c.from-else-is_next.ensures at c.in_err-read_up_to-2.ensures.reads))

pub returns-in_ok-read_up_to-clause-reads : goal.returns-in_ok-read_up_to-clause-reads
returns-in_ok-read_up_to-clause-reads c =
    let l0 = with_sign c.args.most c.args.tokens.now (sym c.is_next.ensures ∙ c.if-is_next.true) in
    let l1 = past_part (the_line is_minus) (λ line. negated c.args.most) l0 c.in_ok-the_line.field-0 c.the_line.new.tokens c.in_ok-the_line.ensures.reads in
    let m = made_left (up_to c.args.most) negative l1 c.in_ok-read_up_to.field-0 c.read_up_to.new.tokens (rw c.from.ensures at c.in_ok-read_up_to.ensures.reads) in
    let small : c.in_ok-read_up_to.field-0 < 32768 = omega (arith, c.in_ok-read_up_to.ensures.within) in
    (m.0 ∙ ap (λ (z : ℤ). Ok (z, c.read_up_to.new.tokens.ahead)) (sym (as_code c.in_ok-read_up_to.field-0 small)), m.1)

pub returns-in_ok-read_up_to-2-clause-reads : goal.returns-in_ok-read_up_to-2-clause-reads
returns-in_ok-read_up_to-2-clause-reads c =
    let l0 = with_none c.args.most c.args.tokens.now (sym c.is_next.ensures ∙ c.if-is_next.false) in
    let m = made_left (up_to c.args.most) (λ n. pos n) l0 c.in_ok-read_up_to-2.field-0 c.read_up_to-else-is_next.new.tokens (rw c.from-else-is_next.ensures at c.in_ok-read_up_to-2.ensures.reads) in
    let small : c.in_ok-read_up_to-2.field-0 < 32768 = omega (arith, c.in_ok-read_up_to-2.ensures.within) in
    (m.0 ∙ ap (λ (z : ℤ). Ok (z, c.read_up_to-else-is_next.new.tokens.ahead)) (sym (to_z_pos w16 small)), m.1)
