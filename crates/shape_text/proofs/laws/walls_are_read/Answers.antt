use Rattle.std.proofs.Common.{ℕ, List, true, refl}
use Rattle.text_tokens.specs.Scan.{skip, ready, sign_len, front, scan, scan_end, ahead_of, last_of}
use Rattle.text_tokens.specs.Cursor.{same_kind}
use Rattle.text_tokens.specs.Reading.{one_within, the_line, numeral, either, times, elements, repeated}
use Rattle.text_tokens.proofs.SaysLemmas.{IsSaid, says}
use Rattle.shape_text.specs.PartReaders.{an_int, a_node, a_chirality, a_bot}
use Rattle.shape_text.specs.Shapes.{AreWallLines, IsShape, IsFinal}
use Rattle.shape_text.specs.ShapeRows.{up_to_3}
use Rattle.shape_text.specs.Readers.{a_side, an_area, wall_word, a_wall_line, walls_from, bot_word, a_bot_line, bots_from, a_drawing, a_written_shape, shape_under, a_shape, a_final}
use Rattle.shape_text.proofs.ShapeLaws.{exact_walls, exact_shape, exact_final}
use Rattle.shape_text.proofs.laws.walls_are_read.Goals as goal

shape_told : (version : ℕ) → IsSaid (IsShape version 1 up_to_3) (a_shape version 1 up_to_3)
shape_told version = says (IsShape version 1 up_to_3) (a_shape version 1 up_to_3) (exact_shape version 1 up_to_3)

told : IsSaid (IsShape 2 1 up_to_3) (a_shape 2 1 up_to_3)
told = shape_told 2

final_told : (version : ℕ) → IsSaid (IsFinal version 1 up_to_3) (a_final version 1 up_to_3)
final_told version = says (IsFinal version 1 up_to_3) (a_final version 1 up_to_3) (exact_final version 1 up_to_3)

walls_told : (before : ℕ) → IsSaid (AreWallLines true before) (walls_from true before)
walls_told before = says (AreWallLines true before) (walls_from true before) (exact_walls before)

pub returns : goal.returns
unfolding skip ready sign_len front scan scan_end ahead_of last_of same_kind one_within the_line numeral either times elements repeated an_int a_node a_chirality a_bot a_side an_area wall_word a_wall_line walls_from bot_word a_bot_line bots_from a_drawing a_written_shape shape_under
returns c = record {
  no_wall = told _ _ refl;
  one_wall = told _ _ refl;
  walls_alone = told _ _ refl;
  another_order = told _ _ refl;
  beside_a_long_one = told _ _ refl;
  last_shape = final_told 2 _ _ refl;
  last_wall = walls_told 16383 _ _ refl;
  one_too_many = walls_told 16383 _ _ refl;
  one_too_many_first = walls_told 16384 _ _ refl;
  right_of_it = told _ _ refl;
  above_it = told _ _ refl;
  left_of_it = told _ _ refl;
  below_it = told _ _ refl;
  twice = told _ _ refl;
  twice_behind_another = told _ _ refl;
  first_outside = told _ _ refl;
  on_it = told _ _ refl;
  head_on_it = told _ _ refl;
  tail_on_it = told _ _ refl;
  second_on_it = told _ _ refl;
  wall_before_bot = told _ _ refl;
  box_before_wall = told _ _ refl;
  adjacent_before_wall = told _ _ refl;
  wall_before_overlap = told _ _ refl;
  wall_before_value = told _ _ refl;
  first_of_two = told _ _ refl;
  value_of_the_first = told _ _ refl;
  coordinate_10000 = told _ _ refl;
  range_before_rule = told _ _ refl;
  number_missing = told _ _ refl;
  number_too_many = told _ _ refl;
  behind_a_bot = told _ _ refl;
  bad_byte = told _ _ refl;
  without_end = told _ _ refl;
  in_version_1 = shape_told 1 _ _ refl;
  last_in_version_1 = final_told 1 _ _ refl;
}
