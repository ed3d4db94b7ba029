use Rattle.std.proofs.Common.{true, refl}
use Rattle.text_tokens.specs.Scan.{skip, ready, sign_len, front, scan, scan_end, ahead_of, last_of}
use Rattle.text_tokens.specs.Cursor.{same_kind}
use Rattle.text_tokens.specs.Reading.{one_within, the_line, numeral, either, limited, times, elements, repeated}
use Rattle.text_tokens.proofs.CombinatorLemmas.{exact_law}
use Rattle.text_tokens.proofs.SaysLemmas.{IsSaid, says}
use Rattle.journal_text.specs.Journals.{AreEntriesBy, entry_by, IsJournal}
use Rattle.shape_text.specs.PartReaders.{an_int, a_node, an_end, a_chirality, a_port_text, a_bot}
use Rattle.journal_text.specs.Readers.{port_behind, end_behind, a_movement, a_cell, an_occupant, a_value, an_old_value, a_pair, all_pairs, the_numbers, entry_word, a_written_entry, an_entry, entries_from, journal_by, journal}
use Rattle.journal_text.proofs.JournalLaws.{part_journal_of, exact_journal, exact_entries}
use Rattle.journal_text.proofs.laws.journal_is_decided.Goals as goal

pub returns-clause-exact : goal.returns-clause-exact
returns-clause-exact c = exact_journal

pub returns-clause-decided : goal.returns-clause-decided
returns-clause-decided c = λ bots actions vars. (exact_law (IsJournal bots actions vars) (journal bots actions vars) (part_journal_of true entry_by bots actions vars).law).1

told : IsSaid (IsJournal 1 1 0) (journal 1 1 0)
told = says (IsJournal 1 1 0) (journal 1 1 0) (exact_journal 1 1 0)

with_value : IsSaid (IsJournal 1 1 1) (journal 1 1 1)
with_value = says (IsJournal 1 1 1) (journal 1 1 1) (exact_journal 1 1 1)

told_behind : IsSaid (AreEntriesBy true entry_by 1 1 0 65535) (entries_from true entry_by 1 1 0 65535)
told_behind = says (AreEntriesBy true entry_by 1 1 0 65535) (entries_from true entry_by 1 1 0 65535) (exact_entries true entry_by 1 1 0 65535)

pub returns-clause-read : goal.returns-clause-read
unfolding skip ready sign_len front scan scan_end ahead_of last_of same_kind one_within the_line numeral either limited times elements repeated an_int a_node an_end a_chirality a_port_text a_bot port_behind end_behind a_movement a_cell an_occupant a_value an_old_value a_pair all_pairs the_numbers entry_word a_written_entry an_entry entries_from journal_by
returns-clause-read c = record {
  nothing = told _ _ refl;
  expansion = told _ _ refl;
  on_three_lines = told _ _ refl;
  one_value = with_value _ _ refl;
  no_change = told _ _ refl;
  ten_changes_read = told _ _ refl;
  exchanged = told _ _ refl;
  no_value_after = told _ _ refl;
  no_body_after = told _ _ refl;
  nothing_behind_to = told _ _ refl;
  nothing_before_to = told _ _ refl;
  to_twice = told _ _ refl;
  capital_letter = told _ _ refl;
  ten_without_old = told _ _ refl;
  sign_of_an_occupant = told _ _ refl;
  no_occupant_before = told _ _ refl;
  no_occupant_after = told _ _ refl;
  no_such_body = told _ _ refl;
  place_before_occupant = told _ _ refl;
  word_within = told _ _ refl;
  end_within = told _ _ refl;
  byte_within = told _ _ refl;
  eleventh_within = told _ _ refl;
  behind_an_entry = told _ _ refl;
  entry_before_word = told _ _ refl;
  old_rotation = told _ _ refl;
  old_coordinate = told _ _ refl;
  new_rotation = told _ _ refl;
  old_value_256 = with_value _ _ refl;
  old_value_missing = with_value _ _ refl;
  new_value_missing = with_value _ _ refl;
  long_number_after = told _ _ refl;
  eleventh_change = told _ _ refl;
  entry_too_many = told_behind _ _ refl;
  ends_behind_to = told _ _ refl;
}
