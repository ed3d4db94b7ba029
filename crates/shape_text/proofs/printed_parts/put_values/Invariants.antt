use Rattle.std.proofs.Common.{◌≡◌, ◌++◌, map, take, decimal}
use Rattle.text_tokens.specs.Lines.{spaced}
use Rattle.shape_text.proofs.printed_parts.put_values.Given as goal

abbrev pub invariant-loop-value : goal.invariant-loop-value
invariant-loop-value l = l.lines ≡ l.fn.lines ++ spaced (map decimal (take l.value-index l.values))
