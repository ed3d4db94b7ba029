use Rattle.std.proofs.lemmas.Result.{err_from_is_err_and}
use Rattle.text_tokens.specs.declared.refusal.RefusalKind.TheVariants.{TooMany}
use Rattle.text_tokens.specs.declared.refusal.ReadRefusal.TheVariants.{Refused}
use Rattle.text_tokens.specs.Reading.{pure, one_within}
use Rattle.text_tokens.specs.Steps.{lexeme_of}
use Rattle.text_tokens.proofs.StepsLemmas.{fails}
use Rattle.action_tree.specs.declared.role.Role.TheVariants as role
use Rattle.action_tree.specs.Roles.{is_a, as_name}
use Rattle.action_tree.specs.Expressions.{bound_at}
use Rattle.action_parser.proofs.Tokens.{passes_limit, refused_with}
use Rattle.action_parser.proofs.RoleFacts.{no_name_left, name_text}
use Rattle.action_parser.proofs.words.bound_name.Goals as goal

pub returns-in_err-found-clause-reads : goal.returns-in_err-found-clause-reads
returns-in_err-found-clause-reads c =
    let p = err_from_is_err_and c.from_residual.result c.from_residual.ensures.1 in
    let now = c.args.tokens.now in
    rw (p.1, p.2) (fails (one_within (is_a role.AName) (bound_at c.args.names)) (λ t. pure (as_name t)) c.in_err-found.field-0.0 now c.token.new.tokens
    (refused_with (is_a role.AName) (bound_at c.args.names) c.in_err-found.field-0.0 now c.token.new.tokens c.in_err-found.ensures.reads))

pub returns-then-names-eq0-clause-reads : goal.returns-then-names-eq0-clause-reads
returns-then-names-eq0-clause-reads c =
    let now = c.args.tokens.now in
    let t = lexeme_of now.source c.in_ok-found.found in
    rw c.refused.ensures (fails (one_within (is_a role.AName) (bound_at c.args.names)) (λ t. pure (as_name t)) (Refused (record { line = t.line; kind = TooMany })) now c.token.new.tokens
    (passes_limit (is_a role.AName) (bound_at c.args.names) now c.token.new.tokens t TooMany c.in_ok-found.ensures.reads (no_name_left c.args.names t c.if-names-eq0.true)))

pub new-requires : goal.new-requires
new-requires c = name_text c.args.tokens.now c.token.new.tokens c.in_ok-found.found _ c.in_ok-found.ensures.spells c.in_ok-found.ensures.reads c.text.ensures
