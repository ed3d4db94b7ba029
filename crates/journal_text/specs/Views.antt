-- What the code reads, as what the grammars say that a text stands for.
use Rattle.std.specs.Prelude.{List, map, option_map}
use Rattle.amoebot_state.specs.declared.cell.CellName.{CellName}
use Rattle.amoebot_state.specs.declared.cell.CellName.TheVariants as name
use Rattle.amoebot_state.specs.declared.cell.Cell.TheVariants as value
use Rattle.journal_text.specs.declared.journal.WrittenCell.{WrittenCell}
use Rattle.journal_text.specs.declared.journal.WrittenCell.TheVariants as written_cell
use Rattle.journal_text.specs.declared.journal.WrittenPair.{WrittenPair}
use Rattle.journal_text.specs.declared.journal.WrittenPair.TheVariants as written_pair
use Rattle.journal_text.specs.declared.journal.Numbers as code_numbers
use Rattle.journal_text.specs.declared.journal.Written as code_written
use Rattle.journal_text.specs.Journals.{WrittenChange, Numbers, Written, numbers_of, written_entry}

abbrev pub cell : WrittenCell → CellName
cell (written_cell.Spot v) = name.Spot v
cell (written_cell.Body id) = name.Body id

abbrev pub pair : WrittenPair → WrittenChange
pair (written_pair.Spot v before o) = (name.Spot v, option_map value.Spot before, value.Spot o)
pair (written_pair.Body id before b) = (name.Body id, option_map value.Body before, value.Body b)

abbrev pub numbers : code_numbers.Numbers → Numbers
numbers n = numbers_of n.place n.caller n.turn n.bot n.action

-- with these pairs
abbrev pub entry_view : code_written.Written → List WrittenPair → Written
entry_view w pairs = written_entry w.line (numbers w.numbers) w.moved (map pair pairs)
