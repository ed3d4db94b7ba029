-- The reader of the value before, where texts have it and where they have not.
use Rattle.std.proofs.Common.{◌≡◌, Bool, true, false, Option, Some, None, codes, refl}
use Rattle.text_tokens.specs.Cursor.{Cursor}
use Rattle.text_tokens.specs.Reading.{Reader, ◌>>=◌, pure}
use Rattle.text_tokens.proofs.StepsLemmas.{Reached, stays}
use Rattle.text_tokens.proofs.Rows.{Left, all_left}
use Rattle.amoebot_state.specs.declared.cell.Cell.{Cell}
use Rattle.shape_text.specs.PartReaders.{a_word}
use Rattle.journal_text.specs.Readers.{an_old_value}

-- what stands behind the value before
abbrev pub behind_old : Cell → Reader (Option Cell)
behind_old x = a_word (codes "to") >>= λ line. pure (Some x)

module _ (p : Reader Cell) (here : Cursor) where
  pub with_old_value : (old : Bool) → old ≡ true → Left (an_old_value old p) here (p >>= behind_old) here
  unfolding an_old_value
  with_old_value true e = all_left (p >>= behind_old) here
  with_old_value false e = absurd cc

  pub without_old_value : (old : Bool) → old ≡ false → Reached (an_old_value old p) here None here
  unfolding an_old_value
  without_old_value true e = absurd cc
  without_old_value false e = (refl, stays here)
