use Rattle.std.proofs.Common.{List, length}
use Rattle.text_tokens.specs.Reading.{repeated}
use Rattle.text_tokens.proofs.LoopLemmas.{StillReads}
use Rattle.journal_text.specs.Turns.{Nothing, is_turn, as_before}
use Rattle.journal_text.specs.Readers.{turn_in, all_turn_lines}
use Rattle.journal_text.proofs.turns.read_all_turns.Given as goal

-- some turns were read
abbrev pub invariant-loop : goal.invariant-loop
invariant-loop l = (found : List Nothing) × StillReads (all_turn_lines l.fn.version) l.fn.tokens found (repeated is_turn (turn_in l.fn.version) as_before tt) l.tokens

abbrev pub decreases-loop : goal.decreases-loop
decreases-loop l = length l.tokens.ahead
