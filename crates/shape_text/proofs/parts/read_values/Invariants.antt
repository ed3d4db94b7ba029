use Rattle.std.proofs.Common.{◌≡◌, ◌-◌, length}
use Rattle.text_tokens.specs.Reading.{times}
use Rattle.text_tokens.proofs.LoopLemmas.{StillReads}
use Rattle.shape_text.specs.PartReaders.{up_to, values}
use Rattle.shape_text.proofs.parts.read_values.Given as goal

abbrev pub invariant-loop-variable : goal.invariant-loop-variable
invariant-loop-variable l = record { reads : StillReads (values l.vars) l.fn.tokens l.values.items (times (up_to 255) (l.vars - l._variable)) l.tokens; len : length l.values.items ≡ l._variable }
