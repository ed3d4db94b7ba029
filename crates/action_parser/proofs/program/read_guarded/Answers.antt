use Rattle.std.proofs.Common.{Bool, false, Err, sym, ◌∙◌}
use Rattle.std.proofs.lemmas.Result.{err_from_is_err_and}
use Rattle.text_tokens.specs.Reading.{◌>>=◌, pure, one}
use Rattle.text_tokens.specs.Steps.{lexeme_of}
use Rattle.text_tokens.proofs.StepsLemmas.{stays, gives_as, on, fails, is_first, is_second}
use Rattle.action_tree.specs.declared.role.Role.TheVariants.{GuardWord}
use Rattle.action_tree.specs.Roles.{is_a}
use Rattle.action_tree.specs.ProgramReaders.{a_guarded}
use Rattle.action_parser.specs.Readings.{a_switch}
use Rattle.action_parser.proofs.program.read_guarded.Goals as goal

pub returns-then-not-is_next : goal.returns-then-not-is_next
unfolding a_guarded
returns-then-not-is_next c =
    let now = c.args.tokens.now in
    (is_second (is_a GuardWord) (one (is_a GuardWord) >>= λ g. a_switch) (pure false) now.last now.ahead (sym c.is_next.ensures ∙ c.if-not-is_next.true), stays now)

pub returns-in_err-token : goal.returns-in_err-token
unfolding a_guarded
returns-in_err-token c =
    let p = err_from_is_err_and c.from_residual.result c.from_residual.ensures.1 in
    let now = c.args.tokens.now in
    let e = c.in_err-token.field-0.0 in
    rw (p.1, p.2) (gives_as (λ (b : Bool). b) a_guarded (one (is_a GuardWord) >>= λ g. a_switch) now c.token.new.tokens (Err e) (is_first (is_a GuardWord) (one (is_a GuardWord) >>= λ g. a_switch) (pure false) now.last now.ahead (sym c.is_next.ensures ∙ c.if-not-is_next.false))
    (fails (one (is_a GuardWord)) (λ g. a_switch) e now c.token.new.tokens c.in_err-token.ensures.reads))

pub returns : goal.returns
unfolding a_guarded
returns c =
    let now = c.args.tokens.now in
    gives_as (λ (b : Bool). b) a_guarded (one (is_a GuardWord) >>= λ g. a_switch) now c.switch.new.tokens c.switch.result (is_first (is_a GuardWord) (one (is_a GuardWord) >>= λ g. a_switch) (pure false) now.last now.ahead (sym c.is_next.ensures ∙ c.if-not-is_next.false))
    (on (λ (b : Bool). b) (one (is_a GuardWord)) (λ g. a_switch) now c.token.new.tokens c.switch.new.tokens (lexeme_of now.source c.in_ok-token.field-0) c.switch.result c.in_ok-token.ensures.reads c.switch.ensures)
