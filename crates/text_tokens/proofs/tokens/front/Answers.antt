use Rattle.text_tokens.proofs.tokens.front.Goals as goal

pub returns-in-empty-clause-stands : goal.returns-in-empty-clause-stands
returns-in-empty-clause-stands c = c.fault.ensures.stands c.args.bytes.now

pub returns-then-is_letter-clause-stands : goal.returns-then-is_letter-clause-stands
returns-then-is_letter-clause-stands c = c.word.ensures.stands c.args.bytes.now

pub returns-else-is_digit-clause-stands : goal.returns-else-is_digit-clause-stands
returns-else-is_digit-clause-stands c = c.sign.ensures.stands c.args.bytes.now
