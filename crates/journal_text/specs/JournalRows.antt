-- Some texts of journals without old values, of a world of 3 amoebots,
-- a program of 2 actions and 1 variable, with their entries or their first fault.
use Rattle.std.specs.Prelude.{ℕ, ℤ, pos, negsuc, false, List, [], ◌∷◌, ◌++◌, Option, Some, None, Ok, Err, codes}
use Rattle.text_tokens.specs.declared.refusal.RefusalKind.{RefusalKind}
use Rattle.text_tokens.specs.declared.refusal.RefusalKind.TheVariants.{BadByte, WordTooLong, Unexpected, TooMany, Truncated, BadRange, BadEntry, BadPlace, Trailing}
use Rattle.text_tokens.specs.Cursor.{on_line}
use Rattle.amoebot_state.specs.declared.bot.Bot.{Bot}
use Rattle.amoebot_state.specs.declared.bot.Chir.{Chir}
use Rattle.amoebot_state.specs.declared.bot.Chir.TheVariants.{Plus, Minus}
use Rattle.amoebot_state.specs.declared.bot.End.TheVariants.{Head, Tail}
use Rattle.amoebot_state.specs.declared.cell.CellName.{CellName}
use Rattle.amoebot_state.specs.declared.cell.CellName.TheVariants as name
use Rattle.amoebot_state.specs.declared.cell.Cell.{Cell}
use Rattle.amoebot_state.specs.declared.cell.Cell.TheVariants as cell
use Rattle.amoebot_state.specs.declared.verdict.PlainEntry.{PlainEntry}
use Rattle.amoebot_state.specs.declared.verdict.Moved.{Moved}
use Rattle.amoebot_state.specs.declared.verdict.Moved.TheVariants as moved
use Rattle.amoebot_state.specs.Pairs.{Pairs}
use Rattle.amoebot_state.specs.Ports.{port}
use Rattle.shape_text.specs.Parts.{a_node_of, a_bot_of}
use Rattle.journal_text.specs.Journals.{AreEntriesBy, plain_by, IsPlainJournal}
use Rattle.text_tokens.specs.Inputs.{Says}

-- a journal with these entries
abbrev pub YieldsEntries : List ℕ → List PlainEntry → Type 0
YieldsEntries text entries = Says (IsPlainJournal 3 2 1) text (Ok entries)

-- a text with this first fault
abbrev pub FailsAsJournal : List ℕ → ℕ → RefusalKind → Type 0
FailsAsJournal text line kind = Says (IsPlainJournal 3 2 1) text (Err (on_line line kind))

-- the same of a text with an entry on line 2, of the amoebot 0, of which all but its place,
-- its movement and its pairs is 0, and what follows
abbrev pub FailsInJournal : List ℕ → ℕ → RefusalKind → Type 0
FailsInJournal text line kind = FailsAsJournal (codes "journal\nentry 0 0 0 0 0 " ++ text) line kind

abbrev pub act : ℕ → ℕ → ℕ → ℕ → Moved → Pairs → PlainEntry
act caller turn bot action moved pairs =
    record { caller = caller; turn = turn; bot = bot; action = action; moved = moved; patch = pairs }

abbrev pub spot : ℤ → ℤ → Option ℕ → CellName × Cell
spot x y o = (name.Spot (a_node_of x y), cell.Spot o)

abbrev pub body_pair : ℕ → Bot → CellName × Cell
body_pair id b = (name.Body id, cell.Body b)

-- an amoebot on (3, 3) and (2, 3)
abbrev pub long : ℕ → Chir → List ℕ → Bot
long rot chir values = a_bot_of (a_node_of (pos 3) (pos 3)) (a_node_of (pos 2) (pos 3)) rot chir values

-- one pair, and as many as an entry may have
abbrev pub empty_spot : CellName × Cell
empty_spot = spot (pos 1) (pos 1) None

abbrev pub nine_spots : List ℕ
nine_spots =
    codes "spot 1 1 empty spot 1 1 empty spot 1 1 empty spot 1 1 empty spot 1 1 empty "
    ++ codes "spot 1 1 empty spot 1 1 empty spot 1 1 empty spot 1 1 empty "

abbrev pub ten_empty_spots : Pairs
ten_empty_spots =
    empty_spot ∷ empty_spot ∷ empty_spot ∷ empty_spot ∷ empty_spot
    ∷ empty_spot ∷ empty_spot ∷ empty_spot ∷ empty_spot
    ∷ empty_spot ∷ []

pub record PlainJournalsAreRead : Type 0 where
  -- ---- texts
  pub nothing : YieldsEntries (codes "journal end") []
  pub expand : YieldsEntries
      (codes "journal\nentry 0 0 0 0 0 expand head 5 spot 3 3 0 body 0 3 3 2 3 5 + 255\nend\n")
      (act 0 0 0 0 (moved.Expand (port Head 5))
      (spot (pos 3) (pos 3) (Some 0) ∷ body_pair 0 (long 5 Plus (255 ∷ [])) ∷ [])
      ∷ [])
  -- the largest caller, turn, amoebot and action, and the farthest coordinates
  pub largest : YieldsEntries
      (codes "journal entry 0 15 65535 2 1 contract tail "
      ++ codes "spot -9999 9999 empty spot 0 - 1 2 body 2 3 3 2 3 0 - 0 end")
      (act 15 65535 2 1 (moved.Contract Tail)
      (spot (negsuc 9998) (pos 9999) None ∷ spot (pos 0) (negsuc 0) (Some 2)
      ∷ body_pair 2 (long 0 Minus (0 ∷ [])) ∷ [])
      ∷ [])
  pub movements : YieldsEntries
      (codes "journal entry 0 0 0 0 0 none entry 1 0 1 0 0 push tail 0 "
      ++ codes "entry 2 0 2 0 0 pull head 3 entry 3 0 3 0 0 contract head end")
      (act 0 0 0 0 moved.None [] ∷ act 0 1 0 0 (moved.Push (port Tail 0)) []
      ∷ act 0 2 0 0 (moved.Pull (port Head 3)) [] ∷ act 0 3 0 0 (moved.Contract Head) [] ∷ [])
  pub ten_pairs : YieldsEntries
      (codes "journal entry 0 0 0 0 0 none " ++ nine_spots ++ codes "spot 1 1 empty end")
      (act 0 0 0 0 moved.None ten_empty_spots ∷ [])
  -- no variable, and eight
  pub no_value : Says (IsPlainJournal 3 2 0) (codes "journal entry 0 0 0 0 0 none body 0 3 3 2 3 0 + end")
      (Ok (act 0 0 0 0 moved.None (body_pair 0 (long 0 Plus []) ∷ []) ∷ []))
  pub eight_values : Says (IsPlainJournal 3 2 8)
      (codes "journal entry 0 0 0 0 0 none body 0 3 3 2 3 0 + 1 2 3 4 5 6 7 8 end")
      (Ok (act 0 0 0 0 moved.None (body_pair 0 (long 0 Plus (1 ∷ 2 ∷ 3 ∷ 4 ∷ 5 ∷ 6 ∷ 7 ∷ 8 ∷ [])) ∷ []) ∷ []))
  -- the last entry that a journal may have
  pub last_entry : Says (AreEntriesBy false plain_by 3 2 1 65535)
      (codes "entry 65535 0 0 0 0 none") (Ok (act 0 0 0 0 moved.None [] ∷ []))
  -- ---- numbers past their bounds
  pub direction_6 : FailsInJournal (codes "expand head\n6 end") 3 BadRange
  pub coordinate_10000 : FailsInJournal (codes "none spot 0\n10000 empty end") 3 BadRange
  -- on the line of the number, not of its sign
  pub coordinate_minus_10000 : FailsInJournal (codes "none spot\n-\n10000 0 empty end") 4 BadRange
  pub rotation_6 : FailsInJournal (codes "none body 0 3 3 2 3\n6 + 0 end") 3 BadRange
  pub value_256 : FailsInJournal (codes "none body 0 3 3 2 3 0 +\n256 end") 3 BadRange
  pub eleventh_pair : FailsInJournal
      (codes "none " ++ nine_spots ++ codes "spot 1 1 empty\nspot 1 1 empty end") 3 TooMany
  pub eleventh_body : FailsInJournal
      (codes "none " ++ nine_spots ++ codes "spot 1 1 empty\nbody 0 3 3 2 3 0 + 0 end") 3 TooMany
  pub one_entry_too_many : Says (AreEntriesBy false plain_by 3 2 1 65535)
      (codes "entry 65535 0 0 0 0 none\nentry 65536 0 0 0 0 none")
      (Err (on_line 2 TooMany))
  -- ---- entries that are judged
  pub first_place : FailsAsJournal (codes "journal\nentry\n1 0 0 0 0 none end") 2 BadPlace
  pub second_place : FailsInJournal (codes "none\nentry 0 0 1 0 0 none end") 3 BadPlace
  pub skipped_place : FailsInJournal (codes "none\nentry 2 0 1 0 0 none end") 3 BadPlace
  pub caller_16 : FailsAsJournal (codes "journal\nentry 0\n16 0 0 0 none end") 2 BadEntry
  pub turn_65536 : FailsAsJournal (codes "journal\nentry 0 0\n65536 0 0 none end") 2 BadEntry
  pub no_amoebot : FailsAsJournal (codes "journal\nentry 0 0 0\n3 0 none end") 2 BadEntry
  pub no_action : FailsAsJournal (codes "journal\nentry 0 0 0 0\n2 none end") 2 BadEntry
  pub no_occupant : FailsInJournal (codes "none\nspot 1 1 3 end") 2 BadEntry
  pub no_body : FailsInJournal (codes "none\nbody 3 3 3 2 3 0 + 0 end") 2 BadEntry
  -- ---- when they are judged, and in which order
  -- its place comes first
  pub place_and_caller : FailsAsJournal (codes "journal\nentry 1 16 0 0 0 none end") 2 BadPlace
  -- a fault within an entry comes first
  pub place_and_direction : FailsAsJournal (codes "journal\nentry 1 0 0 0 0 expand head\n6 end") 3 BadRange
  pub place_and_eleventh_pair : FailsAsJournal
      (codes "journal\nentry 1 0 0 0 0 none " ++ nine_spots ++ codes "spot 1 1 empty\nspot 1 1 empty end")
      3 TooMany
  pub place_and_end_within : FailsAsJournal (codes "journal\nentry 1 0 0 0 0\n") 3 Truncated
  -- it comes before another token, a byte that begins none, a word that is too long, and the end
  pub place_before_token : FailsAsJournal (codes "journal\nentry 1 0 0 0 0 none\nfoo") 2 BadPlace
  pub entry_before_token : FailsAsJournal (codes "journal\nentry 0 16 0 0 0 none\nfoo") 2 BadEntry
  pub place_before_byte : FailsAsJournal (codes "journal\nentry 1 0 0 0 0 none\n,") 2 BadPlace
  pub entry_before_byte : FailsAsJournal (codes "journal\nentry 0 16 0 0 0 none\n,") 2 BadEntry
  pub place_before_long_number : FailsAsJournal (codes "journal\nentry 1 0 0 0 0 none\n0000000001") 2 BadPlace
  pub entry_before_end : FailsAsJournal (codes "journal\nentry 0 16 0 0 0 none\n") 2 BadEntry
  -- and before a further entry, which may be one too many
  pub entry_before_entry : FailsAsJournal
      (codes "journal\nentry 0 16 0 0 0 none\nentry 0 0 0 0 0 none end") 2 BadEntry
  pub place_before_too_many : Says (AreEntriesBy false plain_by 3 2 1 65535)
      (codes "entry 0 0 0 0 0 none\nentry 65536 0 0 0 0 none")
      (Err (on_line 1 BadPlace))
  -- but a further pair comes first
  pub pair_behind_place : FailsAsJournal
      (codes "journal\nentry 1 0 0 0 0 none\nspot 10000 0 empty end") 3 BadRange
  -- ---- tokens that do not belong there
  pub other_word : FailsAsJournal (codes "turns end") 1 Unexpected
  pub four_numbers : FailsAsJournal (codes "journal entry 0 0 0 0\nnone end") 2 Unexpected
  pub six_numbers : FailsInJournal (codes "\n0 none end") 3 Unexpected
  pub other_movement : FailsInJournal (codes "\nmove end") 3 Unexpected
  pub no_end_of_port : FailsInJournal (codes "push\n0 end") 3 Unexpected
  pub two_signs : FailsInJournal (codes "none spot -\n-1 0 empty end") 3 Unexpected
  pub no_occupant_there : FailsInJournal (codes "none spot 0 0\nend") 3 Unexpected
  pub other_sign : FailsInJournal (codes "none body 0 3 3 2 3 0\n= 0 end") 3 Unexpected
  pub value_missing : FailsInJournal (codes "none body 0 3 3 2 3 0 +\nend") 3 Unexpected
  pub value_too_many : FailsInJournal (codes "none body 0 3 3 2 3 0 + 1\n2 end") 3 Unexpected
  pub section_word : FailsInJournal (codes "none\nfinal") 3 Unexpected
  -- ---- no old values: an entry is over at the word between two, and is judged there
  pub to_word : FailsInJournal (codes "none spot 3 3 empty\nto 0 end") 3 Unexpected
  pub entry_before_to : FailsInJournal (codes "none spot 3 3 3\nto 0 end") 2 BadEntry
  pub place_before_to : FailsAsJournal (codes "journal\nentry 1 0 0 0 0 none spot 1 1 1\nto 1 end") 2 BadPlace
  pub place_behind_value : FailsAsJournal (codes "journal\nentry 1 0 0 0 0 none spot 3 3 1\nend") 2 BadPlace
  pub ends_behind_value : FailsAsJournal (codes "journal\nentry 1 0 0 0 0 none spot 3 3 1\n") 2 BadPlace
  pub byte_behind_value : FailsInJournal (codes "none spot 3 3 3\n$") 2 BadEntry
  pub ten_and_to : FailsInJournal (codes "none " ++ nine_spots ++ codes "spot 1 1 empty\nto end") 3 Unexpected
  -- ---- what is no token, and the end
  pub bad_byte : FailsInJournal (codes "none\n, end") 3 BadByte
  pub long_number : FailsInJournal (codes "expand head\n0000000001 end") 3 WordTooLong
  pub without_end : FailsInJournal (codes "none\n") 3 Truncated
  pub empty_text : FailsAsJournal [] 1 Truncated
  pub trailing : FailsInJournal (codes "none end\nend") 3 Trailing
