use Rattle.std.proofs.Common.{ℕ, refl}
use Rattle.text_tokens.specs.Scan.{skip, ready, sign_len, front, scan, scan_end, ahead_of, last_of}
use Rattle.text_tokens.specs.Cursor.{same_kind}
use Rattle.text_tokens.specs.Reading.{one_within, the_line, numeral, either, elements, repeated}
use Rattle.text_tokens.proofs.CombinatorLemmas.{exact_law}
use Rattle.text_tokens.proofs.SaysLemmas.{IsSaid, says}
use Rattle.schedule_text.specs.Lists.{IdsFrom, ListsFrom, IsLists}
use Rattle.schedule_text.specs.Readers.{an_id, ids_from, all_ids, list_word, a_list, lists_from, all_lists, some_turns, the_lists}
use Rattle.schedule_text.proofs.ListLaws.{part_lists, exact_lists, exact_ids_from, exact_lists_from}
use Rattle.schedule_text.proofs.laws.lists_are_decided.Goals as goal

pub returns-clause-exact : goal.returns-clause-exact
returns-clause-exact c = exact_lists

pub returns-clause-decided : goal.returns-clause-decided
returns-clause-decided c = λ bots. (exact_law (IsLists bots) (the_lists bots) (part_lists bots).law).1

told : (bots : ℕ) → IsSaid (IsLists bots) (the_lists bots)
told bots = says (IsLists bots) (the_lists bots) (exact_lists bots)

told_ids : (before : ℕ) → IsSaid (IdsFrom 3 before) (ids_from 3 before)
told_ids before = says (IdsFrom 3 before) (ids_from 3 before) (exact_ids_from 3 before)

told_lists : (turns before : ℕ) → IsSaid (ListsFrom 3 turns before) (lists_from 3 turns before)
told_lists turns before = says (ListsFrom 3 turns before) (lists_from 3 turns before) (exact_lists_from 3 turns before)

pub returns-clause-read : goal.returns-clause-read
unfolding skip ready sign_len front scan scan_end ahead_of last_of same_kind one_within the_line numeral either elements repeated an_id ids_from all_ids list_word a_list lists_from all_lists some_turns the_lists
returns-clause-read c = record {
  no_list = told 3 _ _ refl;
  one_list = told 3 _ _ refl;
  three_lists = told 3 _ _ refl;
  turns_of_none = told 3 _ _ refl;
  turns_of_one = told 3 _ _ refl;
  turns_of_two = told 3 _ _ refl;
  turns_of_fifteen = told_lists 4369 14 _ _ refl;
  turns_of_sixteen = told_lists 4096 15 _ _ refl;
  lists_16 = told 3 _ _ refl;
  last_id = told_ids 4095 _ _ refl;
  turns_65537 = told 3 _ _ refl;
  turns_of_one_and_one = told 3 _ _ refl;
  turns_of_two_and_one = told 3 _ _ refl;
  turns_of_fifteen_and_one = told_lists 4370 14 _ _ refl;
  turns_of_sixteen_and_one = told_lists 4097 15 _ _ refl;
  lists_17 = told 3 _ _ refl;
  one_id_too_many = told_ids 4095 _ _ refl;
  list_before_id = told 3 _ _ refl;
  many_before_unknown = told_ids 4096 _ _ refl;
  first_id = told 3 _ _ refl;
  second_id = told 3 _ _ refl;
  id_of_none = told 0 _ _ refl;
  other_word = told 3 _ _ refl;
  no_turns = told 3 _ _ refl;
  no_number = told 3 _ _ refl;
  two_numbers = told 3 _ _ refl;
  two_turns = told 3 _ _ refl;
  no_id = told 3 _ _ refl;
  no_id_before_list = told 3 _ _ refl;
  sign_before_id = told 3 _ _ refl;
  section_word = told 3 _ _ refl;
  bad_byte = told 3 _ _ refl;
  long_number = told 3 _ _ refl;
  without_end = told 3 _ _ refl;
  empty_text = told 3 _ _ refl;
  trailing = told 3 _ _ refl;
}
