-- The grammars of the sections as readers, put together as the grammars are.
use Rattle.std.specs.Prelude.{ℕ, Bool, true, false, List, Option, Some, None, codes}
use Rattle.text_tokens.specs.Reading.{Reader, ◌>>=◌, pure, one_within, the_line, no_limit, closed, judged, either, limited, repeated, at_most}
use Rattle.amoebot_state.specs.declared.bot.End.{End}
use Rattle.amoebot_state.specs.declared.bot.Port.{Port}
use Rattle.amoebot_state.specs.declared.cell.CellName.{CellName}
use Rattle.amoebot_state.specs.declared.cell.CellName.TheVariants as name
use Rattle.amoebot_state.specs.declared.cell.Cell.{Cell}
use Rattle.amoebot_state.specs.declared.cell.Cell.TheVariants as cell
use Rattle.amoebot_state.specs.declared.verdict.Entry.{Entry}
use Rattle.amoebot_state.specs.declared.verdict.PlainEntry.{PlainEntry}
use Rattle.amoebot_state.specs.declared.verdict.Moved.{Moved}
use Rattle.amoebot_state.specs.declared.verdict.Moved.TheVariants as moved
use Rattle.amoebot_state.specs.Limits.{most_pairs}
use Rattle.shape_text.specs.Parts.{word, is_end, one_more}
use Rattle.journal_text.specs.Journals.{is_spot_word, is_cell, WrittenChange, written_change, is_entry, Numbers, numbers_of, WrittenEntry, Written, written_entry, past_entries, entry_fault, entry_by, plain_by}
use Rattle.journal_text.specs.Turns.{Nothing, is_failure, is_turn, as_before}
use Rattle.shape_text.specs.PartReaders.{a_word, means, a_number, a_node, an_end, a_port_text, a_bot}

-- ---- movements

unfoldable pub port_behind : List ℕ → Reader Port
port_behind text = a_word text >>= λ line. a_port_text

unfoldable pub end_behind : List ℕ → Reader End
end_behind text = a_word text >>= λ line. an_end

abbrev pub moved_by : List ℕ → (Port → Moved) → Reader Moved
moved_by text make = port_behind text >>= λ p. pure (make p)

abbrev pub a_contraction : Reader Moved
a_contraction = end_behind (codes "contract") >>= λ end. pure (moved.Contract end)

unfoldable pub a_movement : Reader Moved
a_movement =
    either (word (codes "none")) (means (word (codes "none")) moved.None)
    (either (word (codes "expand")) (moved_by (codes "expand") moved.Expand)
    (either (word (codes "contract")) a_contraction
    (either (word (codes "push")) (moved_by (codes "push") moved.Push) (moved_by (codes "pull") moved.Pull))))

-- ---- cells with their values

unfoldable pub a_cell : Reader CellName
a_cell =
    either is_spot_word (a_word (codes "spot") >>= λ line. a_node >>= λ v. pure (name.Spot v))
    (a_word (codes "body") >>= λ line. a_number >>= λ id. pure (name.Body id))

unfoldable pub an_occupant : Reader Cell
an_occupant = either (word (codes "empty")) (means (word (codes "empty")) (cell.Spot None)) (a_number
    >>= λ id. pure (cell.Spot (Some id)))

abbrev pub a_bot_value : ℕ → Reader Cell
a_bot_value vars = a_bot vars >>= λ b. pure (cell.Body b)

unfoldable pub a_value : ℕ → CellName → Reader Cell
a_value vars (name.Spot v) = an_occupant
a_value vars (name.Body id) = a_bot_value vars

unfoldable pub an_old_value : Bool → Reader Cell → Reader (Option Cell)
an_old_value false p = pure None
an_old_value true p = p >>= λ x. a_word (codes "to") >>= λ line. pure (Some x)

unfoldable pub a_pair : Bool → ℕ → Reader WrittenChange
a_pair old vars =
    a_cell >>= λ c. an_old_value old (a_value vars c) >>= λ before.
    a_value vars c >>= λ x. pure (written_change c before x)

abbrev pub pair_in : Bool → ℕ → ℕ → Reader WrittenChange
pair_in old vars room = limited is_cell no_limit room (a_pair old vars)

unfoldable pub all_pairs : Bool → ℕ → Reader (List WrittenChange)
all_pairs old vars = at_most is_cell no_limit most_pairs (a_pair old vars)

-- ---- the journal

unfoldable pub the_numbers : Reader Numbers
the_numbers = do
  place ← a_number
  caller ← a_number
  turn ← a_number
  bot ← a_number
  action ← a_number
  pure (numbers_of place caller turn bot action)

unfoldable pub entry_word : ℕ → Reader ℕ
entry_word before = one_within is_entry (past_entries before) >>= λ t. pure t.line

unfoldable pub a_written_entry : Bool → ℕ → ℕ → Reader Written
a_written_entry old vars before = do
  line ← entry_word before
  n ← the_numbers
  m ← a_movement
  changes ← all_pairs old vars
  pure (written_entry line n m changes)

module _ {E : Type 0} (old : Bool) (make : WrittenEntry → E) (bots actions vars : ℕ) where
  unfoldable pub an_entry : ℕ → Reader E
  an_entry before =
      judged (a_written_entry old vars before) (entry_fault bots actions before) >>= λ w. pure (make w.entry)

  -- entries behind so many
  unfoldable pub entries_from : ℕ → Reader (List E)
  entries_from before = repeated is_entry an_entry one_more before

  abbrev pub all_entries : Reader (List E)
  all_entries = entries_from 0

  unfoldable pub journal_by : Reader (List E)
  journal_by = a_word (codes "journal") >>= λ line. closed all_entries is_end

-- with old values
abbrev pub journal : ℕ → ℕ → ℕ → Reader (List Entry)
journal = journal_by true entry_by

-- and without
abbrev pub plain_journal : ℕ → ℕ → ℕ → Reader (List PlainEntry)
plain_journal = journal_by false plain_by

-- ---- the turns

abbrev pub unheeded : {A : Type 0} → Reader A → Reader Nothing
unheeded p = p >>= λ a. pure tt

unfoldable pub placed_mark : List ℕ → Reader Nothing
placed_mark text = a_word text >>= λ line. unheeded a_number

unfoldable pub a_failed : ℕ → Reader Nothing
a_failed version =
    a_word (codes "failed") >>= λ line. the_line (is_failure version) >>= λ line. unheeded a_number

unfoldable pub a_claimant : Reader Nothing
a_claimant = a_word (codes "by") >>= λ line. a_number >>= λ caller. a_number >>= λ turn. unheeded a_number

unfoldable pub a_busy : Reader Nothing
a_busy = a_word (codes "busy") >>= λ line. a_cell >>= λ c. a_claimant >>= λ u. placed_mark (codes "place")

unfoldable pub a_mark : ℕ → Reader Nothing
a_mark version =
    either (word (codes "done")) (placed_mark (codes "done"))
    (either (word (codes "idle")) (placed_mark (codes "idle"))
    (either (word (codes "failed")) (a_failed version) a_busy))

unfoldable pub a_turn : ℕ → Reader Nothing
a_turn version = a_word (codes "turn") >>= λ line. a_number >>= λ caller. a_number >>= λ turn. a_mark version

abbrev pub turn_in : ℕ → Nothing → Reader Nothing
turn_in version s = a_turn version

unfoldable pub all_turn_lines : ℕ → Reader (List Nothing)
all_turn_lines version = repeated is_turn (turn_in version) as_before tt

unfoldable pub the_turns : ℕ → Reader Nothing
the_turns version = a_word (codes "turns") >>= λ line. closed (unheeded (all_turn_lines version)) is_end
