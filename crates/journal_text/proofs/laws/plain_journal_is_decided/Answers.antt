use Rattle.std.proofs.Common.{false, refl}
use Rattle.text_tokens.specs.Scan.{skip, ready, sign_len, front, scan, scan_end, ahead_of, last_of}
use Rattle.text_tokens.specs.Cursor.{same_kind}
use Rattle.text_tokens.specs.Reading.{one_within, the_line, numeral, either, limited, times, elements, repeated}
use Rattle.text_tokens.proofs.CombinatorLemmas.{exact_law}
use Rattle.text_tokens.proofs.SaysLemmas.{IsSaid, says}
use Rattle.journal_text.specs.Journals.{AreEntriesBy, plain_by, IsPlainJournal}
use Rattle.shape_text.specs.PartReaders.{an_int, a_node, an_end, a_chirality, a_port_text, a_bot}
use Rattle.journal_text.specs.Readers.{port_behind, end_behind, a_movement, a_cell, an_occupant, a_value, an_old_value, a_pair, all_pairs, the_numbers, entry_word, a_written_entry, an_entry, entries_from, journal_by, plain_journal}
use Rattle.journal_text.proofs.JournalLaws.{part_journal_of, exact_plain_journal, exact_entries}
use Rattle.journal_text.proofs.laws.plain_journal_is_decided.Goals as goal

pub returns-clause-exact : goal.returns-clause-exact
returns-clause-exact c = exact_plain_journal

pub returns-clause-decided : goal.returns-clause-decided
returns-clause-decided c = λ bots actions vars. (exact_law (IsPlainJournal bots actions vars) (plain_journal bots actions vars) (part_journal_of false plain_by bots actions vars).law).1

told : IsSaid (IsPlainJournal 3 2 1) (plain_journal 3 2 1)
told = says (IsPlainJournal 3 2 1) (plain_journal 3 2 1) (exact_plain_journal 3 2 1)

told_behind : IsSaid (AreEntriesBy false plain_by 3 2 1 65535) (entries_from false plain_by 3 2 1 65535)
told_behind = says (AreEntriesBy false plain_by 3 2 1 65535) (entries_from false plain_by 3 2 1 65535) (exact_entries false plain_by 3 2 1 65535)

pub returns-clause-read : goal.returns-clause-read
unfolding skip ready sign_len front scan scan_end ahead_of last_of same_kind one_within the_line numeral either limited times elements repeated an_int a_node an_end a_chirality a_port_text a_bot port_behind end_behind a_movement a_cell an_occupant a_value an_old_value a_pair all_pairs the_numbers entry_word a_written_entry an_entry entries_from journal_by
returns-clause-read c = record {
  nothing = told _ _ refl;
  expand = told _ _ refl;
  largest = told _ _ refl;
  movements = told _ _ refl;
  ten_pairs = told _ _ refl;
  no_value = says (IsPlainJournal 3 2 0) (plain_journal 3 2 0) (exact_plain_journal 3 2 0) _ _ refl;
  eight_values = says (IsPlainJournal 3 2 8) (plain_journal 3 2 8) (exact_plain_journal 3 2 8) _ _ refl;
  last_entry = told_behind _ _ refl;
  direction_6 = told _ _ refl;
  coordinate_10000 = told _ _ refl;
  coordinate_minus_10000 = told _ _ refl;
  rotation_6 = told _ _ refl;
  value_256 = told _ _ refl;
  eleventh_pair = told _ _ refl;
  eleventh_body = told _ _ refl;
  one_entry_too_many = told_behind _ _ refl;
  first_place = told _ _ refl;
  second_place = told _ _ refl;
  skipped_place = told _ _ refl;
  caller_16 = told _ _ refl;
  turn_65536 = told _ _ refl;
  no_amoebot = told _ _ refl;
  no_action = told _ _ refl;
  no_occupant = told _ _ refl;
  no_body = told _ _ refl;
  place_and_caller = told _ _ refl;
  place_and_direction = told _ _ refl;
  place_and_eleventh_pair = told _ _ refl;
  place_and_end_within = told _ _ refl;
  place_before_token = told _ _ refl;
  entry_before_token = told _ _ refl;
  place_before_byte = told _ _ refl;
  entry_before_byte = told _ _ refl;
  place_before_long_number = told _ _ refl;
  entry_before_end = told _ _ refl;
  entry_before_entry = told _ _ refl;
  place_before_too_many = told_behind _ _ refl;
  pair_behind_place = told _ _ refl;
  other_word = told _ _ refl;
  four_numbers = told _ _ refl;
  six_numbers = told _ _ refl;
  other_movement = told _ _ refl;
  no_end_of_port = told _ _ refl;
  two_signs = told _ _ refl;
  no_occupant_there = told _ _ refl;
  other_sign = told _ _ refl;
  value_missing = told _ _ refl;
  value_too_many = told _ _ refl;
  section_word = told _ _ refl;
  to_word = told _ _ refl;
  entry_before_to = told _ _ refl;
  place_before_to = told _ _ refl;
  place_behind_value = told _ _ refl;
  ends_behind_value = told _ _ refl;
  byte_behind_value = told _ _ refl;
  ten_and_to = told _ _ refl;
  bad_byte = told _ _ refl;
  long_number = told _ _ refl;
  without_end = told _ _ refl;
  empty_text = told _ _ refl;
  trailing = told _ _ refl;
}
