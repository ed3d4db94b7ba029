use Rattle.std.proofs.Common.{ℕ, refl}
use Rattle.text_tokens.specs.Scan.{skip, ready, sign_len, front, scan, scan_end, ahead_of, last_of}
use Rattle.text_tokens.specs.Cursor.{same_kind}
use Rattle.text_tokens.specs.Reading.{one_within, the_line, numeral, either, limited, times, elements, repeated}
use Rattle.text_tokens.proofs.CombinatorLemmas.{exact_law}
use Rattle.text_tokens.proofs.SaysLemmas.{IsSaid, says}
use Rattle.journal_text.specs.Turns.{names_failure, IsTurns}
use Rattle.shape_text.specs.PartReaders.{an_int, a_node}
use Rattle.journal_text.specs.Readers.{a_cell, placed_mark, a_failed, a_claimant, a_busy, a_mark, a_turn, all_turn_lines, the_turns}
use Rattle.journal_text.proofs.TurnLaws.{part_the_turns, exact_turns}
use Rattle.journal_text.proofs.laws.turns_are_decided.Goals as goal

pub returns-clause-exact : goal.returns-clause-exact
returns-clause-exact c = exact_turns

pub returns-clause-decided : goal.returns-clause-decided
returns-clause-decided c = λ version. (exact_law (IsTurns version) (the_turns version) (part_the_turns version).law).1

told : (version : ℕ) → IsSaid (IsTurns version) (the_turns version)
told version = says (IsTurns version) (the_turns version) (exact_turns version)

pub returns-clause-read : goal.returns-clause-read
unfolding skip ready sign_len front scan scan_end ahead_of last_of same_kind one_within the_line numeral either limited times elements repeated names_failure an_int a_node a_cell placed_mark a_failed a_claimant a_busy a_mark a_turn all_turn_lines the_turns
returns-clause-read c = record {
  nothing = told 1 _ _ refl;
  marks = told 1 _ _ refl;
  failures = told 1 _ _ refl;
  more_failures = told 1 _ _ refl;
  coordinate_10000 = told 1 _ _ refl;
  coordinate_minus_10000 = told 1 _ _ refl;
  other_word = told 1 _ _ refl;
  other_mark = told 1 _ _ refl;
  other_failure = told 1 _ _ refl;
  blocked_before_walls = told 1 _ _ refl;
  blocked_with_walls = told 2 _ _ refl;
  no_failure = told 1 _ _ refl;
  no_place = told 1 _ _ refl;
  two_places = told 1 _ _ refl;
  no_by = told 1 _ _ refl;
  two_numbers = told 1 _ _ refl;
  no_place_word = told 1 _ _ refl;
  one_number = told 1 _ _ refl;
  bad_byte = told 1 _ _ refl;
  long_word = told 1 _ _ refl;
  without_end = told 1 _ _ refl;
  trailing = told 1 _ _ refl;
}
