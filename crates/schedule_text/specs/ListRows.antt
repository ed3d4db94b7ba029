-- Some texts of lists, in a world of 3 amoebots, with what they stand for or their first fault.
use Rattle.std.specs.Prelude.{ℕ, List, [], ◌∷◌, ◌++◌, Ok, Err, codes}
use Rattle.text_tokens.specs.declared.refusal.RefusalKind.{RefusalKind}
use Rattle.text_tokens.specs.declared.refusal.RefusalKind.TheVariants.{BadByte, WordTooLong, Unexpected, TooMany, Truncated, BadId, Trailing}
use Rattle.text_tokens.specs.Cursor.{on_line}
use Rattle.text_tokens.specs.Inputs.{Says}
use Rattle.schedule_text.specs.Lists.{IdsFrom, ListsFrom, lists_of, IsLists}

-- so many turns and these lists
abbrev pub YieldsLists : List ℕ → ℕ → List (List ℕ) → Type 0
YieldsLists text turns ids = Says (IsLists 3) text (Ok (lists_of turns ids))

-- a text with this first fault
abbrev pub FailsAsLists : List ℕ → ℕ → RefusalKind → Type 0
FailsAsLists text line kind = Says (IsLists 3) text (Err (on_line line kind))

abbrev pub sixteen_lists : List ℕ
sixteen_lists =
    codes "list 0 list 0 list 0 list 0 list 0 list 0 list 0 list 0 "
    ++ codes "list 0 list 0 list 0 list 0 list 0 list 0 list 0 list 0 "

abbrev pub alone : List ℕ
alone = 0 ∷ []

pub record ListsAreRead : Type 0 where
  -- ---- texts
  pub no_list : YieldsLists (codes "lists turns 0 end") 0 []
  pub one_list : YieldsLists (codes "lists\nturns 2\nlist 0\nend\n") 2 (alone ∷ [])
  pub three_lists : YieldsLists (codes "lists turns 7 list 0 1 2 list 2 2 list 01 end") 7
      ((0 ∷ 1 ∷ 2 ∷ []) ∷ (2 ∷ 2 ∷ []) ∷ (1 ∷ []) ∷ [])
  -- as many turns as there may be: of no list, of one, of two and of fifteen or sixteen
  pub turns_of_none : YieldsLists (codes "lists turns 65536 end") 65536 []
  pub turns_of_one : YieldsLists (codes "lists turns 65536 list 0 end") 65536 (alone ∷ [])
  pub turns_of_two : YieldsLists (codes "lists turns 32768 list 0 list 0 end") 32768 (alone ∷ alone ∷ [])
  pub turns_of_fifteen : Says (ListsFrom 3 4369 14) (codes "list 0") (Ok (alone ∷ []))
  pub turns_of_sixteen : Says (ListsFrom 3 4096 15) (codes "list 0") (Ok (alone ∷ []))
  pub lists_16 : YieldsLists (codes "lists turns 0 " ++ sixteen_lists ++ codes "end") 0
      (alone ∷ alone ∷ alone ∷ alone ∷ alone ∷ alone ∷ alone
      ∷ alone ∷ alone ∷ alone ∷ alone ∷ alone ∷ alone ∷ alone
      ∷ alone ∷ alone ∷ [])
  -- the last id that a list may have
  pub last_id : Says (IdsFrom 3 4095) (codes "2") (Ok (2 ∷ []))
  -- ---- limits that are passed
  pub turns_65537 : FailsAsLists (codes "lists turns\n65537 end") 2 TooMany
  pub turns_of_one_and_one : FailsAsLists (codes "lists turns 65536 list 0\nlist 0 end") 2 TooMany
  pub turns_of_two_and_one : FailsAsLists (codes "lists turns 32769 list 0\nlist 0 end") 2 TooMany
  pub turns_of_fifteen_and_one : Says (ListsFrom 3 4370 14) (codes "list 0") (Err (on_line 1 TooMany))
  pub turns_of_sixteen_and_one : Says (ListsFrom 3 4097 15) (codes "list 0") (Err (on_line 1 TooMany))
  pub lists_17 : FailsAsLists (codes "lists turns 0 " ++ sixteen_lists ++ codes "\nlist 0 end") 2 TooMany
  pub one_id_too_many : Says (IdsFrom 3 4095) (codes "2\n2") (Err (on_line 2 TooMany))
  -- before what else is wrong
  pub list_before_id : FailsAsLists (codes "lists turns 65536 list 0\nlist\n3 end") 2 TooMany
  pub many_before_unknown : Says (IdsFrom 3 4096) (codes "3") (Err (on_line 1 TooMany))
  -- ---- ids that are no amoebot's
  pub first_id : FailsAsLists (codes "lists turns 0 list\n3 end") 2 BadId
  pub second_id : FailsAsLists (codes "lists turns 0 list 2\n3 end") 2 BadId
  pub id_of_none : Says (IsLists 0) (codes "lists turns 0 list\n0 end") (Err (on_line 2 BadId))
  -- ---- tokens that do not belong there
  pub other_word : FailsAsLists (codes "list turns 0 end") 1 Unexpected
  pub no_turns : FailsAsLists (codes "lists\nlist 0 end") 2 Unexpected
  pub no_number : FailsAsLists (codes "lists turns\nend") 2 Unexpected
  pub two_numbers : FailsAsLists (codes "lists turns 0\n0 end") 2 Unexpected
  pub two_turns : FailsAsLists (codes "lists turns 0\nturns 0 end") 2 Unexpected
  pub no_id : FailsAsLists (codes "lists turns 0 list\nend") 2 Unexpected
  pub no_id_before_list : FailsAsLists (codes "lists turns 0 list\nlist 0 end") 2 Unexpected
  pub sign_before_id : FailsAsLists (codes "lists turns 0 list\n-0 end") 2 Unexpected
  pub section_word : FailsAsLists (codes "lists turns 0 list 0\nschedule end") 2 Unexpected
  pub bad_byte : FailsAsLists (codes "lists turns 0 list 0\n, end") 2 BadByte
  pub long_number : FailsAsLists (codes "lists turns\n0000000001 end") 2 WordTooLong
  pub without_end : FailsAsLists (codes "lists turns 0 list 0\n") 2 Truncated
  pub empty_text : FailsAsLists [] 1 Truncated
  pub trailing : FailsAsLists (codes "lists turns 0 end\nlist") 2 Trailing
