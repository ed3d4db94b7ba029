-- The texts of the sections `journal`, with old values or without them, and `turns`.
-- An entry and a turn each have a line, whose tokens have one space between them.
use Rattle.std.specs.Prelude.{ℕ, Bool, if◌then◌else◌, List, [], ◌∷◌, ◌++◌, Option, codes, decimal, map}
use Rattle.std.specs.List.{flat_map, enumerate_from}
use Rattle.std.specs.declared.option.Option.TheVariants.{Some, None}
use Rattle.text_tokens.specs.Lines.{Words, section_text}
use Rattle.amoebot_state.specs.declared.cell.CellName.{CellName}
use Rattle.amoebot_state.specs.declared.cell.CellName.TheVariants as name
use Rattle.amoebot_state.specs.declared.cell.Cell.{Cell}
use Rattle.amoebot_state.specs.declared.cell.Cell.TheVariants as cell
use Rattle.amoebot_state.specs.declared.verdict.Entry.{Entry}
use Rattle.amoebot_state.specs.declared.verdict.PlainEntry.{PlainEntry}
use Rattle.amoebot_state.specs.declared.verdict.Failure.{Failure}
use Rattle.amoebot_state.specs.declared.verdict.Failure.TheVariants as failure
use Rattle.amoebot_state.specs.declared.verdict.Moved.{Moved}
use Rattle.amoebot_state.specs.declared.verdict.Moved.TheVariants as moved
use Rattle.amoebot_state.specs.Pairs.{CellChange, cell_of, cell_value}
use Rattle.amoebot_state.specs.Ports.{end_word}
use Rattle.amoebot_state.specs.Steps.{plain_entry}
use Rattle.claim_core.specs.declared.marks.Mark.{Mark}
use Rattle.claim_core.specs.declared.marks.Mark.TheVariants as mark
use Rattle.claim_core.specs.Turns.{MarkLists}
use Rattle.shape_text.specs.Parts.{has_old_values}
use Rattle.shape_text.specs.PartTexts.{node_words, port_words, bot_words}
use Rattle.journal_text.specs.Journals.{WrittenChange, WrittenEntry, entry_with}

abbrev pub cell_words : CellName → Words
cell_words (name.Spot v) = codes "spot" ∷ node_words v
cell_words (name.Body i) = codes "body" ∷ decimal i ∷ []

abbrev pub value_words : ℕ → Cell → Words
value_words vars (cell.Spot (Some i)) = decimal i ∷ []
value_words vars (cell.Spot None) = codes "empty" ∷ []
value_words vars (cell.Body b) = bot_words vars b

-- the value before, where it is written
abbrev pub old_words : ℕ → Option Cell → Words
old_words vars None = []
old_words vars (Some x) = value_words vars x ++ codes "to" ∷ []

-- a cell with its values
abbrev pub change_words : ℕ → WrittenChange → Words
change_words vars t = cell_words t.0 ++ (old_words vars t.1 ++ value_words vars t.2)

abbrev pub moved_words : Moved → Words
moved_words moved.None = codes "none" ∷ []
moved_words (moved.Expand p) = codes "expand" ∷ port_words p
moved_words (moved.Contract e) = codes "contract" ∷ end_word e ∷ []
moved_words (moved.Push p) = codes "push" ∷ port_words p
moved_words (moved.Pull p) = codes "pull" ∷ port_words p

-- the number of an entry, and its caller, turn, amoebot and action
abbrev pub entry_numbers : ℕ → WrittenEntry → Words
entry_numbers place w =
    decimal place ∷ decimal w.caller ∷ decimal w.turn ∷ decimal w.bot ∷ decimal w.action ∷ []

-- an entry with its number
abbrev pub entry_words : ℕ → ℕ × WrittenEntry → Words
entry_words vars (place, w) =
    codes "entry" ∷ entry_numbers place w ++ (moved_words w.moved ++ flat_map (change_words vars) w.changes)

-- the entries, numbered from 0
abbrev pub written_lines : ℕ → List WrittenEntry → List Words
written_lines vars ws = map (entry_words vars) (enumerate_from 0 ws)

abbrev pub written_text : ℕ → List WrittenEntry → List ℕ
written_text vars ws = section_text (codes "journal") (written_lines vars ws)

-- that of entries of any form, which are written so
abbrev pub text_by : {E : Type 0} → (E → WrittenEntry) → ℕ → List E → List ℕ
text_by written vars entries = written_text vars (map written entries)

-- ---- with old values, as in version 3

abbrev pub change_in_full : CellChange → WrittenChange
change_in_full t = (t.0, Some t.1, t.2)

abbrev pub written_full : Entry → WrittenEntry
written_full e = entry_with e.caller e.turn e.bot e.action e.moved (map change_in_full e.patch)

abbrev pub journal_text : ℕ → List Entry → List ℕ
journal_text = text_by written_full

-- ---- without old values, as in versions 1 and 2

abbrev pub change_of_pair : CellName × Cell → WrittenChange
change_of_pair p = (cell_of p, None, cell_value p)

abbrev pub written_plain : PlainEntry → WrittenEntry
written_plain p = entry_with p.caller p.turn p.bot p.action p.moved (map change_of_pair p.patch)

abbrev pub plain_text : ℕ → List PlainEntry → List ℕ
plain_text = text_by written_plain

-- ---- both

-- a cell as it is written, with its value before or without it
abbrev pub change_by : Bool → CellChange → WrittenChange
change_by old t = (t.0, if old then Some t.1 else None, t.2)

-- how an entry is written, with its old values or without them
abbrev pub written_by : Bool → Entry → WrittenEntry
written_by old e = if old then written_full e else written_plain (plain_entry e)

-- the entries of a run in texts of the version
abbrev pub journal_of_version : ℕ → ℕ → List Entry → List ℕ
journal_of_version version vars entries =
    if has_old_values version then journal_text vars entries else plain_text vars (map plain_entry entries)

-- ---- turns

abbrev pub failure_word : Failure → List ℕ
failure_word failure.NoPort = codes "no_port"
failure_word failure.NoNeighbour = codes "no_neighbour"
failure_word failure.OutOfRange = codes "out_of_range"
failure_word failure.Occupied = codes "occupied"
failure_word failure.NotContracted = codes "not_contracted"
failure_word failure.NotExpanded = codes "not_expanded"
failure_word failure.PeerNotExpanded = codes "peer_not_expanded"
failure_word failure.PeerNotContracted = codes "peer_not_contracted"
failure_word failure.Edge = codes "edge"
failure_word failure.WouldSplit = codes "would_split"
failure_word failure.NoChoice = codes "no_choice"
failure_word failure.Blocked = codes "blocked"

abbrev pub mark_words : Mark → Words
mark_words (mark.Done place) = codes "done" ∷ decimal place ∷ []
mark_words (mark.Idle place) = codes "idle" ∷ decimal place ∷ []
mark_words (mark.Failed f place) = codes "failed" ∷ failure_word f ∷ decimal place ∷ []
mark_words (mark.Busy c by_caller by_turn by_bot place) =
    codes "busy" ∷ cell_words c
    ++ codes "by" ∷ decimal by_caller ∷ decimal by_turn ∷ decimal by_bot ∷ codes "place"
    ∷ decimal place ∷ []

-- the mark of a caller's turn
abbrev pub turn_words : ℕ → ℕ × Mark → Words
turn_words caller (turn, m) = codes "turn" ∷ decimal caller ∷ decimal turn ∷ mark_words m

-- the marks of a caller, by rising turn
abbrev pub caller_lines : ℕ × List Mark → List Words
caller_lines (caller, marks) = map (turn_words caller) (enumerate_from 0 marks)

-- the marks of all callers, by rising caller and then by rising turn
abbrev pub turns_text : MarkLists → List ℕ
turns_text m = section_text (codes "turns") (flat_map caller_lines (enumerate_from 0 m.marks))
