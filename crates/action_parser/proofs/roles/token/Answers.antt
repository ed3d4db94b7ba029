use Rattle.std.proofs.Common.{refl, sym, ◌∙◌}
use Rattle.text_tokens.specs.Reading.{no_limit}
use Rattle.action_tree.specs.Roles.{is_a}
use Rattle.action_parser.proofs.Tokens.{not_next, next_taken}
use Rattle.action_parser.proofs.roles.token.Goals as goal

pub returns-then-not-is_next-clause-reads : goal.returns-then-not-is_next-clause-reads
returns-then-not-is_next-clause-reads c = not_next (is_a c.args.role) no_limit c.args.tokens.now c.unexpected.result (sym c.is_next.ensures ∙ c.if-not-is_next.true) c.unexpected.ensures

pub returns-clause-reads : goal.returns-clause-reads
returns-clause-reads c =
    next_taken (is_a c.args.role) no_limit c.args.tokens.now c.take_any.new.self c.in_ok-take_any.field-0 (sym c.is_next.ensures ∙ c.if-not-is_next.false)
    (sym c.take_any.ensures.answer ∙ c.in_ok-take_any.was) c.in_ok-take_any.ensures.moves c.in_ok-take_any.ensures.spells refl
