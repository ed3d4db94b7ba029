-- Some texts of turns, which are read, or have a first fault. They are in version 1, except one.
use Rattle.std.specs.Prelude.{ℕ, List, ◌++◌, Ok, Err, codes}
use Rattle.text_tokens.specs.declared.refusal.RefusalKind.{RefusalKind}
use Rattle.text_tokens.specs.declared.refusal.RefusalKind.TheVariants.{BadByte, WordTooLong, Unexpected, Truncated, BadRange, Trailing}
use Rattle.text_tokens.specs.Cursor.{on_line}
use Rattle.journal_text.specs.Turns.{IsTurns}
use Rattle.text_tokens.specs.Inputs.{Says}

-- a text of turns
abbrev pub YieldsTurns : List ℕ → Type 0
YieldsTurns text = Says (IsTurns 1) text (Ok tt)

-- a text with this first fault
abbrev pub FailsAsTurns : List ℕ → ℕ → RefusalKind → Type 0
FailsAsTurns text line kind = Says (IsTurns 1) text (Err (on_line line kind))

-- the same of a text with a turn on line 2, and what follows
abbrev pub FailsInTurns : List ℕ → ℕ → RefusalKind → Type 0
FailsInTurns text line kind = FailsAsTurns (codes "turns\nturn 0 0 " ++ text) line kind

pub record TurnsAreRead : Type 0 where
  pub nothing : YieldsTurns (codes "turns end")
  -- each mark. Numbers may be any of nine digits
  pub marks : YieldsTurns
      (codes "turns\nturn 0 0 done 0\nturn 0 1 idle 999999999\nturn 999999999 2 failed would_split 3\n"
      ++ codes "turn 1 0 busy spot -9999 9999 by 0 0 0 place 0\n"
      ++ codes "turn 0 0 busy body 999999999 by 999999999 999999999 999999999 place 999999999\nend\n")
  pub failures : YieldsTurns
      (codes "turns turn 0 0 failed no_port 0 turn 0 0 failed no_neighbour 0 turn 0 0 failed out_of_range 0 "
      ++ codes "turn 0 0 failed occupied 0 turn 0 0 failed not_contracted 0 "
      ++ codes "turn 0 0 failed not_expanded 0 end")
  pub more_failures : YieldsTurns
      (codes "turns turn 0 0 failed peer_not_expanded 0 turn 0 0 failed peer_not_contracted 0 "
      ++ codes "turn 0 0 failed edge 0 turn 0 0 failed would_split 0 turn 0 0 failed no_choice 0 end")
  pub coordinate_10000 : FailsInTurns (codes "busy spot\n10000 0 by 0 0 0 place 0 end") 3 BadRange
  pub coordinate_minus_10000 : FailsInTurns (codes "busy spot 0 -\n10000 by 0 0 0 place 0 end") 3 BadRange
  pub other_word : FailsAsTurns (codes "journal end") 1 Unexpected
  pub other_mark : FailsInTurns (codes "\ndoing 0 end") 3 Unexpected
  pub other_failure : FailsInTurns (codes "failed\nport 0 end") 3 Unexpected
  -- only a version with walls has this failure
  pub blocked_before_walls : FailsInTurns (codes "failed\nblocked 0 end") 3 Unexpected
  pub blocked_with_walls : Says (IsTurns 2) (codes "turns turn 0 0 failed blocked 0 end") (Ok tt)
  pub no_failure : FailsInTurns (codes "failed\n0 end") 3 Unexpected
  pub no_place : FailsInTurns (codes "done\nend") 3 Unexpected
  pub two_places : FailsInTurns (codes "done 0\n0 end") 3 Unexpected
  pub no_by : FailsInTurns (codes "busy body 0\n0 0 0 place 0 end") 3 Unexpected
  pub two_numbers : FailsInTurns (codes "busy body 0 by 0 0\nplace 0 end") 3 Unexpected
  pub no_place_word : FailsInTurns (codes "busy body 0 by 0 0 0\n0 end") 3 Unexpected
  pub one_number : FailsAsTurns (codes "turns turn 0\ndone 0 end") 2 Unexpected
  pub bad_byte : FailsInTurns (codes "done 0\n, end") 3 BadByte
  pub long_word : FailsInTurns (codes "failed\nabcdefghijklmnopqrstuvwxy 0 end") 3 WordTooLong
  pub without_end : FailsInTurns (codes "done 0\n") 3 Truncated
  pub trailing : FailsInTurns (codes "done 0 end\nturn") 3 Trailing
