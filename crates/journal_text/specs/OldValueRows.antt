-- Some texts of journals with old values, of a world of 1 amoebot and a program of 1 action,
-- with their entries or their first fault.
use Rattle.std.specs.Prelude.{ℕ, ℤ, pos, true, List, [], ◌∷◌, ◌++◌, Option, Some, None, Ok, Err, codes}
use Rattle.text_tokens.specs.declared.refusal.RefusalKind.{RefusalKind}
use Rattle.text_tokens.specs.declared.refusal.RefusalKind.TheVariants.{BadByte, WordTooLong, Unexpected, TooMany, Truncated, BadRange, BadEntry, BadPlace}
use Rattle.text_tokens.specs.Cursor.{on_line}
use Rattle.text_tokens.specs.Inputs.{Says}
use Rattle.amoebot_state.specs.declared.bot.Bot.{Bot}
use Rattle.amoebot_state.specs.declared.bot.Chir.TheVariants.{Plus}
use Rattle.amoebot_state.specs.declared.bot.End.TheVariants.{Head}
use Rattle.amoebot_state.specs.declared.cell.CellName.TheVariants as name
use Rattle.amoebot_state.specs.declared.cell.Cell.TheVariants as cell
use Rattle.amoebot_state.specs.declared.verdict.Entry.{Entry}
use Rattle.amoebot_state.specs.declared.verdict.Moved.{Moved}
use Rattle.amoebot_state.specs.declared.verdict.Moved.TheVariants as moved
use Rattle.amoebot_state.specs.Pairs.{CellChange, Triples}
use Rattle.amoebot_state.specs.Ports.{port}
use Rattle.shape_text.specs.Parts.{a_node_of, a_bot_of}
use Rattle.journal_text.specs.Journals.{AreEntriesBy, entry_by, IsJournal}

-- a journal without variables, with these entries
abbrev pub YieldsChanges : List ℕ → List Entry → Type 0
YieldsChanges text entries = Says (IsJournal 1 1 0) text (Ok entries)

-- the same with one variable
abbrev pub YieldsOneValue : List ℕ → List Entry → Type 0
YieldsOneValue text entries = Says (IsJournal 1 1 1) text (Ok entries)

-- a text with this first fault
abbrev pub FailsAsChanges : List ℕ → ℕ → RefusalKind → Type 0
FailsAsChanges text line kind = Says (IsJournal 1 1 0) text (Err (on_line line kind))

-- the same of a text with an expansion on line 2, and what follows
abbrev pub FailsInChanges : List ℕ → ℕ → RefusalKind → Type 0
FailsInChanges text line kind =
    FailsAsChanges (codes "journal\nentry 0 0 0 0 0 expand head 0 " ++ text) line kind

abbrev pub FailsWithValue : List ℕ → ℕ → RefusalKind → Type 0
FailsWithValue text line kind =
    Says (IsJournal 1 1 1) (codes "journal\nentry 0 0 0 0 0 expand head 0 spot 3 3 empty to 0 " ++ text)
    (Err (on_line line kind))

-- an entry of the amoebot 0 by its action 0, in the first turn of the first caller
abbrev pub change_act : Moved → Triples → Entry
change_act moved changes =
    record { caller = 0; turn = 0; bot = 0; action = 0; moved = moved; patch = changes }

abbrev pub spot_change : ℤ → ℤ → Option ℕ → Option ℕ → CellChange
spot_change x y before after = (name.Spot (a_node_of x y), cell.Spot before, cell.Spot after)

abbrev pub body_change_of : ℕ → Bot → Bot → CellChange
body_change_of id before after = (name.Body id, cell.Body before, cell.Body after)

-- an amoebot on (2, 3), before it expands to (3, 3) and behind that
abbrev pub at_rest : List ℕ → Bot
at_rest values = a_bot_of (a_node_of (pos 2) (pos 3)) (a_node_of (pos 2) (pos 3)) 0 Plus values

abbrev pub stretched : List ℕ → Bot
stretched values = a_bot_of (a_node_of (pos 3) (pos 3)) (a_node_of (pos 2) (pos 3)) 0 Plus values

abbrev pub expansion_made : List ℕ → Entry
expansion_made values =
    change_act (moved.Expand (port Head 0))
    (spot_change (pos 3) (pos 3) None (Some 0) ∷ body_change_of 0 (at_rest values) (stretched values) ∷ [])

-- one change, and as many as an entry may have
abbrev pub still_empty : CellChange
still_empty = spot_change (pos 1) (pos 1) None None

abbrev pub nine_changes : List ℕ
nine_changes =
    codes "spot 1 1 empty to empty spot 1 1 empty to empty spot 1 1 empty to empty spot 1 1 empty to empty "
    ++ codes "spot 1 1 empty to empty spot 1 1 empty to empty "
    ++ codes "spot 1 1 empty to empty spot 1 1 empty to empty "
    ++ codes "spot 1 1 empty to empty "

abbrev pub ten_changes : Triples
ten_changes =
    still_empty ∷ still_empty ∷ still_empty ∷ still_empty
    ∷ still_empty ∷ still_empty ∷ still_empty ∷ still_empty
    ∷ still_empty ∷ still_empty ∷ []

-- ten changes of an amoebot that is not there
abbrev pub ten_unknown : List ℕ
ten_unknown =
    codes "spot 1 1 1 to 1 spot 1 1 1 to 1 spot 1 1 1 to 1 spot 1 1 1 to 1 spot 1 1 1 to 1 "
    ++ codes "spot 1 1 1 to 1 spot 1 1 1 to 1 spot 1 1 1 to 1 spot 1 1 1 to 1 spot 1 1 1 to 1"

pub record JournalsAreRead : Type 0 where
  -- ---- texts
  pub nothing : YieldsChanges (codes "journal end") []
  pub expansion : YieldsChanges
      (codes "journal\nentry 0 0 0 0 0 expand head 0 spot 3 3 empty to 0 "
      ++ codes "body 0 2 3 2 3 0 + to 3 3 2 3 0 +\nend\n")
      (expansion_made [] ∷ [])
  pub on_three_lines : YieldsChanges
      (codes "journal entry 0 0 0 0 0 expand head 0\n"
      ++ codes "spot 3 3 empty to 0\nbody 0 2 3 2 3 0 + to 3 3 2 3 0 + end")
      (expansion_made [] ∷ [])
  pub one_value : YieldsOneValue
      (codes "journal entry 0 0 0 0 0 expand head 0 spot 3 3 empty to 0 "
      ++ codes "body 0 2 3 2 3 0 + 255 to 3 3 2 3 0 + 255 end")
      (expansion_made (255 ∷ []) ∷ [])
  pub no_change : YieldsChanges (codes "journal entry 0 0 0 0 0 none end") (change_act moved.None [] ∷ [])
  -- both values are taken as they are written, the same or not
  pub ten_changes_read : YieldsChanges
      (codes "journal entry 0 0 0 0 0 none " ++ nine_changes ++ codes "spot 1 1 empty to empty end")
      (change_act moved.None ten_changes ∷ [])
  pub exchanged : YieldsChanges
      (codes "journal entry 0 0 0 0 0 expand head 0 "
      ++ codes "spot 3 3 0 to empty body 0 3 3 2 3 0 + to 2 3 2 3 0 + end")
      (change_act (moved.Expand (port Head 0))
      (spot_change (pos 3) (pos 3) (Some 0) None ∷ body_change_of 0 (stretched []) (at_rest []) ∷ []) ∷ [])
  -- ---- a value or the word between the two is missing, or comes twice
  pub no_value_after : FailsInChanges (codes "spot 3 3 0\nbody 0 3 3 2 3 0 + end") 3 Unexpected
  pub no_body_after : FailsInChanges (codes "spot 3 3 empty to 0 body 0 2 3 2 3 0 +\nend") 3 Unexpected
  pub nothing_behind_to : FailsInChanges (codes "spot 3 3 empty to\nend") 3 Unexpected
  pub nothing_before_to : FailsInChanges (codes "spot 3 3\nto 0 end") 3 Unexpected
  pub to_twice : FailsInChanges (codes "spot 3 3 empty to\nto 0 end") 3 Unexpected
  pub capital_letter : FailsInChanges (codes "spot 3 3 empty\nTo 0 end") 3 Unexpected
  pub ten_without_old : FailsAsChanges
      (codes "journal\nentry 0 0 0 0 0 none spot 1 1 empty\nspot 1 1 empty\nto end") 3 Unexpected
  pub sign_of_an_occupant : FailsInChanges (codes "spot 3 3 empty to\n-1 end") 3 Unexpected
  -- ---- amoebots that are not there
  pub no_occupant_before : FailsInChanges (codes "spot 3 3 1 to 0 end") 2 BadEntry
  pub no_occupant_after : FailsInChanges (codes "spot 3 3 empty to 1 end") 2 BadEntry
  pub no_such_body : FailsInChanges
      (codes "spot 3 3 empty to 0 body 1 2 3 2 3 0 + to 3 3 2 3 0 + end") 2 BadEntry
  -- ---- the order of faults
  pub place_before_occupant : FailsAsChanges
      (codes "journal\nentry 1 0 0 0 0 expand head 0 spot 3 3 1 to 0 end") 2 BadPlace
  -- an entry is not over before its second value
  pub word_within : FailsAsChanges
      (codes "journal\nentry 1 0 0 0 0 expand head 0 spot 3 3 1\nend") 3 Unexpected
  pub end_within : FailsAsChanges (codes "journal\nentry 1 0 0 0 0 expand head 0 spot 3 3 1\n") 3 Truncated
  pub byte_within : FailsInChanges (codes "spot 3 3 1\n$") 3 BadByte
  pub eleventh_within : FailsAsChanges
      (codes "journal\nentry 1 0 0 0 0 none " ++ ten_unknown ++ codes "\nspot 1 1 empty to 0 end") 3 TooMany
  pub behind_an_entry : FailsInChanges
      (codes "spot 3 3 empty to 0 body 0 2 3 2 3 0 + to 3 3 2 3 0 +\nfoo") 3 Unexpected
  pub entry_before_word : FailsInChanges (codes "spot 3 3 1 to 0\nfoo") 2 BadEntry
  -- ---- numbers past their bounds, in either value
  pub old_rotation : FailsInChanges
      (codes "spot 3 3 empty to 0 body 0 2 3 2 3\n6 + to 3 3 2 3 0 + end") 3 BadRange
  pub old_coordinate : FailsInChanges
      (codes "spot 3 3 empty to 0 body 0\n10000 3 2 3 0 + to 3 3 2 3 0 + end") 3 BadRange
  pub new_rotation : FailsInChanges
      (codes "spot 3 3 empty to 0 body 0 2 3 2 3 0 + to 3 3 2 3\n6 + end") 3 BadRange
  pub old_value_256 : FailsWithValue (codes "body 0 2 3 2 3 0 +\n256 to 3 3 2 3 0 + 0 end") 3 BadRange
  pub old_value_missing : FailsWithValue (codes "body 0 2 3 2 3 0 +\nto 3 3 2 3 0 + 0 end") 3 Unexpected
  pub new_value_missing : FailsWithValue (codes "body 0 2 3 2 3 0 + 0 to 3 3 2 3 0 +\nend") 3 Unexpected
  pub long_number_after : FailsInChanges (codes "spot 3 3 empty to\n1000000000 end") 3 WordTooLong
  -- ---- limits, and the end
  pub eleventh_change : FailsAsChanges
      (codes "journal\nentry 0 0 0 0 0 none " ++ nine_changes
      ++ codes "spot 1 1 empty to empty\nspot 1 1 empty to empty end") 3 TooMany
  pub entry_too_many : Says (AreEntriesBy true entry_by 1 1 0 65535)
      (codes "entry 65535 0 0 0 0 none\nentry 65536 0 0 0 0 none")
      (Err (on_line 2 TooMany))
  pub ends_behind_to : FailsInChanges (codes "spot 3 3 empty to\n") 3 Truncated
