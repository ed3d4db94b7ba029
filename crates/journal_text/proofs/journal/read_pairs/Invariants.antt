use Rattle.std.proofs.Common.{◌≡◌, ◌+◌, map, length}
use Rattle.text_tokens.specs.Reading.{repeated, less}
use Rattle.text_tokens.proofs.LoopLemmas.{StillReads}
use Rattle.journal_text.specs.Journals.{is_cell}
use Rattle.journal_text.specs.Readers.{pair_in, all_pairs}
use Rattle.journal_text.specs.Views as view
use Rattle.journal_text.proofs.journal.read_pairs.Given as goal

abbrev pub invariant-loop-pair : goal.invariant-loop-pair
invariant-loop-pair l = record { reads : StillReads (all_pairs l.old l.vars) l.fn.tokens (map view.pair l.found.items) (repeated is_cell (pair_in l.old l.vars) (λ room n. less room) l.room) l.tokens; room : length l.found.items + l.room ≡ 10 }

abbrev pub decreases-loop-pair : goal.decreases-loop-pair
decreases-loop-pair l = l.room
