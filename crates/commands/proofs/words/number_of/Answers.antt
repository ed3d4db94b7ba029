use Rattle.std.proofs.Common.{ap, sym, ◌∙◌}
use Rattle.commands.specs.Words.{are_few_digits}
use Rattle.commands.proofs.NumberWords.{as_none, as_number, many_are_none}
use Rattle.commands.proofs.words.number_of.Goals as goal

pub returns-then-not-are_few_digits : goal.returns-then-not-are_few_digits
returns-then-not-are_few_digits c = sym (many_are_none c.args.digits.now (ap are_few_digits (sym c.as_bytes.ensures.value) ∙ sym c.if-not-are_few_digits.ensures))

pub returns-in-Ok : goal.returns-in-Ok
returns-in-Ok c = sym (as_number c.args.digits.now (ap are_few_digits (sym c.as_bytes.ensures.value) ∙ sym c.if-not-are_few_digits.ensures) c.in-Ok.number c.in-Ok.ensures.value.0)

pub returns-in-Err : goal.returns-in-Err
returns-in-Err c = sym (as_none c.args.digits.now (ap are_few_digits (sym c.as_bytes.ensures.value) ∙ sym c.if-not-are_few_digits.ensures) c.in-Err.ensures.value.0)
