use Rattle.std.proofs.Common.{sym, ◌∙◌}
use Rattle.std.proofs.lemmas.Result.{err_from_is_err_and}
use Rattle.action_tree.specs.declared.role.Role.TheVariants.{VarWord}
use Rattle.action_tree.specs.Roles.{is_a}
use Rattle.action_tree.specs.ProgramReaders.{a_var}
use Rattle.action_parser.proofs.Behind.{no_part, part_too_many, part_refused, part_read}
use Rattle.action_parser.proofs.program.more_var.Goals as goal

pub returns-then-not-is_next-clause-reads : goal.returns-then-not-is_next-clause-reads
returns-then-not-is_next-clause-reads c = no_part (is_a VarWord) c.args.room a_var c.args.tokens.now (sym c.is_next.ensures ∙ c.if-not-is_next.true)

pub returns-then-room-eq0-clause-reads : goal.returns-then-room-eq0-clause-reads
returns-then-room-eq0-clause-reads c = rw c.into.ensures (part_too_many (is_a VarWord) c.args.room a_var c.args.tokens.now (sym c.is_next.ensures ∙ c.if-not-is_next.false) c.refusal.result c.if-room-eq0.true c.refusal.ensures)

pub returns-in_err-read_var-clause-reads : goal.returns-in_err-read_var-clause-reads
returns-in_err-read_var-clause-reads c =
    let p = err_from_is_err_and c.from_residual.result c.from_residual.ensures.1 in
    rw (p.1, p.2) (part_refused (is_a VarWord) c.args.room a_var c.args.tokens.now (sym c.is_next.ensures ∙ c.if-not-is_next.false) c.if-room-eq0.false c.in_err-read_var.field-0.0 c.in_err-read_var.ensures)

pub returns-clause-reads : goal.returns-clause-reads
returns-clause-reads c = part_read (is_a VarWord) c.args.room a_var c.args.tokens.now (sym c.is_next.ensures ∙ c.if-not-is_next.false) c.if-room-eq0.false c.in_ok-read_var.ensures
