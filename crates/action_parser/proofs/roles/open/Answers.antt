use Rattle.std.proofs.Common.{◌<◌, arith}
use Rattle.std.proofs.lemmas.Result.{err_from_is_err_and}
use Rattle.text_tokens.specs.declared.refusal.RefusalKind.TheVariants.{TooDeep}
use Rattle.text_tokens.specs.Reading.{deep_at}
use Rattle.text_tokens.specs.Steps.{lexeme_of}
use Rattle.text_tokens.proofs.StepsLemmas.{deep_zero, deep_some}
use Rattle.action_tree.specs.Roles.{is_a}
use Rattle.action_parser.proofs.Tokens.{keeps_limit, passes_limit, refused_with}
use Rattle.action_parser.proofs.roles.open.Goals as goal

pub returns-in_err-opening-clause-reads : goal.returns-in_err-opening-clause-reads
returns-in_err-opening-clause-reads c =
    let p = err_from_is_err_and c.from_residual.result c.from_residual.ensures.1 in
    rw (p.1, p.2) (refused_with (is_a c.args.role) (deep_at c.args.levels) c.in_err-opening.field-0.0 c.args.tokens.now c.token.new.tokens c.in_err-opening.ensures.reads)

pub returns-then-levels-eq0-clause-reads : goal.returns-then-levels-eq0-clause-reads
returns-then-levels-eq0-clause-reads c =
    let t = lexeme_of c.args.tokens.now.source c.in_ok-opening.opening in
    rw c.refused.ensures (passes_limit (is_a c.args.role) (deep_at c.args.levels) c.args.tokens.now c.token.new.tokens t TooDeep c.in_ok-opening.ensures.reads (deep_zero c.args.levels t c.if-levels-eq0.true))

pub returns-clause-reads : goal.returns-clause-reads
returns-clause-reads c =
    let t = lexeme_of c.args.tokens.now.source c.in_ok-opening.opening in
    let some : 0 < c.args.levels = (let n = c.if-levels-eq0.false in omega arith) in
    keeps_limit (is_a c.args.role) (deep_at c.args.levels) c.args.tokens.now c.token.new.tokens t c.in_ok-opening.ensures.reads (deep_some c.args.levels t some)
