use Rattle.std.proofs.Common.{ℕ, List, refl}
use Rattle.text_tokens.specs.Scan.{skip, ready, sign_len, front, scan, scan_end, ahead_of, last_of}
use Rattle.text_tokens.specs.Cursor.{same_kind}
use Rattle.text_tokens.specs.Reading.{one_within, the_line, numeral, either, times, elements, repeated}
use Rattle.text_tokens.proofs.CombinatorLemmas.{exact_law}
use Rattle.amoebot_state.specs.Examples.{zeros}
use Rattle.shape_text.specs.PartReaders.{an_int, a_node, a_chirality, a_bot}
use Rattle.text_tokens.proofs.SaysLemmas.{IsSaid, says}
use Rattle.shape_text.specs.Shapes.{AreBots, IsShape, IsFinal}
use Rattle.shape_text.specs.ShapeRows.{up_to_3, rising}
use Rattle.shape_text.specs.Readers.{a_side, an_area, wall_word, a_wall_line, walls_from, bot_word, a_bot_line, bots_from, a_drawing, a_written_shape, shape_under, a_shape, a_final}
use Rattle.shape_text.proofs.ShapeLaws.{part_shape, part_final, exact_shape, exact_final, exact_bots}
use Rattle.shape_text.proofs.laws.shapes_are_decided.Goals as goal

pub returns-clause-exact : goal.returns-clause-exact
returns-clause-exact c = exact_shape

pub returns-clause-decided : goal.returns-clause-decided
returns-clause-decided c = λ version vars maxes. (exact_law (IsShape version vars maxes) (a_shape version vars maxes) (part_shape version vars maxes).law).1

pub returns-clause-exact_final : goal.returns-clause-exact_final
returns-clause-exact_final c = exact_final

pub returns-clause-decided_final : goal.returns-clause-decided_final
returns-clause-decided_final c = λ version vars maxes. (exact_law (IsFinal version vars maxes) (a_final version vars maxes) (part_final version vars maxes).law).1

shape_told : (vars : ℕ) (maxes : List ℕ) → IsSaid (IsShape 1 vars maxes) (a_shape 1 vars maxes)
shape_told vars maxes = says (IsShape 1 vars maxes) (a_shape 1 vars maxes) (exact_shape 1 vars maxes)

told : IsSaid (IsShape 1 1 up_to_3) (a_shape 1 1 up_to_3)
told = shape_told 1 up_to_3

final_told : IsSaid (IsFinal 1 1 up_to_3) (a_final 1 1 up_to_3)
final_told = says (IsFinal 1 1 up_to_3) (a_final 1 1 up_to_3) (exact_final 1 1 up_to_3)

bots_told : (before : ℕ) → IsSaid (AreBots 0 before) (bots_from 0 before)
bots_told before = says (AreBots 0 before) (bots_from 0 before) (exact_bots 0 before)

pub returns-clause-read : goal.returns-clause-read
unfolding skip ready sign_len front scan scan_end ahead_of last_of same_kind one_within the_line numeral either times elements repeated an_int a_node a_chirality a_bot a_side an_area wall_word a_wall_line walls_from bot_word a_bot_line bots_from a_drawing a_written_shape shape_under
returns-clause-read c = record {
  no_amoebot = told _ _ refl;
  long_and_round = told _ _ refl;
  left_above = told _ _ refl;
  right_below = told _ _ refl;
  no_value = shape_told 0 zeros _ _ refl;
  eight_values = shape_told 8 rising _ _ refl;
  last_shape = final_told _ _ refl;
  last_amoebot = bots_told 4095 _ _ refl;
  x0_4097 = told _ _ refl;
  x0_minus_4097 = told _ _ refl;
  y0_4097 = told _ _ refl;
  y0_minus_4097 = told _ _ refl;
  w_0 = told _ _ refl;
  w_129 = told _ _ refl;
  h_0 = told _ _ refl;
  h_129 = told _ _ refl;
  coordinate_10000 = told _ _ refl;
  rotation_6 = told _ _ refl;
  value_256 = told _ _ refl;
  one_too_many = bots_told 4095 _ _ refl;
  one_too_many_first = bots_told 4096 _ _ refl;
  head_right_of_it = told _ _ refl;
  head_above_it = told _ _ refl;
  tail_left_of_it = told _ _ refl;
  tail_below_it = told _ _ refl;
  two_steps_long = told _ _ refl;
  across = told _ _ refl;
  same_node = told _ _ refl;
  tail_on_tail = told _ _ refl;
  value_4 = told _ _ refl;
  no_maximum = shape_told 1 zeros _ _ refl;
  box_before_adjacent = told _ _ refl;
  adjacent_before_overlap = told _ _ refl;
  overlap_before_value = told _ _ refl;
  first_id = told _ _ refl;
  first_id_of_a_line = told _ _ refl;
  second_of_three = told _ _ refl;
  third_on_the_second = told _ _ refl;
  range_before_rule = told _ _ refl;
  token_before_rule = told _ _ refl;
  byte_before_rule = told _ _ refl;
  end_before_rule = told _ _ refl;
  rule_before_token = told _ _ refl;
  rule_before_byte = told _ _ refl;
  other_word = told _ _ refl;
  other_word_of_the_last = final_told _ _ refl;
  no_area = told _ _ refl;
  three_numbers = told _ _ refl;
  five_numbers = told _ _ refl;
  side_with_sign = told _ _ refl;
  two_areas = told _ _ refl;
  no_sign = told _ _ refl;
  value_missing = told _ _ refl;
  value_too_many = told _ _ refl;
  empty_body = told _ _ refl;
  sign_for_a_number = told _ _ refl;
  bad_byte = told _ _ refl;
  long_number = told _ _ refl;
  without_end = told _ _ refl;
  empty_text = told _ _ refl;
  trailing = told _ _ refl;
}
