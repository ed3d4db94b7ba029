-- One of two tokens, each for what it stands for.
use Rattle.std.proofs.Common.{◌≡◌, ℕ, Bool, true, false}
use Rattle.text_tokens.specs.declared.refusal.ReadRefusal.{ReadRefusal}
use Rattle.text_tokens.specs.Text.{Lexeme}
use Rattle.text_tokens.specs.Cursor.{Cursor, next_passes}
use Rattle.text_tokens.specs.Reading.{Reader, pure, the_line, either}
use Rattle.text_tokens.proofs.StepsLemmas.{Reached, Failed}
use Rattle.text_tokens.proofs.Rows.{Left, all_left, first_left, second_left, part_fails, made_left}
use Rattle.shape_text.specs.PartReaders.{means}

module _ {A : Type 0} (one other : Lexeme → Bool) (a b : A) (here new : Cursor) where
  abbrev OneOfTwo : Reader A
  OneOfTwo = either one (means one a) (means other b)

  module _ (comes : next_passes one here.ahead ≡ true) where
    first_comes : Left OneOfTwo here (means one a) here
    first_comes = first_left one (means one a) (means other b) (all_left OneOfTwo here) comes

    pub first_fails : (e : ReadRefusal) → Failed (the_line one) e here new → Failed OneOfTwo e here new
    first_fails e f = part_fails (the_line one) (λ line. pure a) first_comes e new f

    pub first_read : (line : ℕ) → Reached (the_line one) here line new → Reached OneOfTwo here a new
    first_read line r = made_left (the_line one) (λ line. a) first_comes line new r

  module _ (comes_not : next_passes one here.ahead ≡ false) where
    second_comes : Left OneOfTwo here (means other b) here
    second_comes = second_left one (means one a) (means other b) (all_left OneOfTwo here) comes_not

    pub second_fails : (e : ReadRefusal) → Failed (the_line other) e here new → Failed OneOfTwo e here new
    second_fails e f = part_fails (the_line other) (λ line. pure b) second_comes e new f

    pub second_read : (line : ℕ) → Reached (the_line other) here line new → Reached OneOfTwo here b new
    second_read line r = made_left (the_line other) (λ line. b) second_comes line new r
