use Rattle.std.proofs.Common.{sym, ◌∙◌}
use Rattle.std.proofs.lemmas.Result.{err_from_is_err_and}
use Rattle.action_tree.specs.Limits.{most_levels, most_names}
use Rattle.action_tree.specs.declared.role.Role.TheVariants.{ActionWord}
use Rattle.action_tree.specs.Roles.{is_a}
use Rattle.action_tree.specs.ProgramReaders.{an_action}
use Rattle.action_parser.proofs.Behind.{no_part, part_too_many, part_refused, part_read}
use Rattle.action_parser.proofs.program.more_action.Goals as goal

pub returns-then-not-is_next-clause-reads : goal.returns-then-not-is_next-clause-reads
returns-then-not-is_next-clause-reads c = no_part (is_a ActionWord) c.args.room (an_action most_levels most_names) c.args.tokens.now (sym c.is_next.ensures ∙ c.if-not-is_next.true)

pub returns-then-room-eq0-clause-reads : goal.returns-then-room-eq0-clause-reads
returns-then-room-eq0-clause-reads c = rw c.into.ensures (part_too_many (is_a ActionWord) c.args.room (an_action most_levels most_names) c.args.tokens.now (sym c.is_next.ensures ∙ c.if-not-is_next.false) c.refusal.result c.if-room-eq0.true c.refusal.ensures)

pub returns-in_err-read_action-clause-reads : goal.returns-in_err-read_action-clause-reads
returns-in_err-read_action-clause-reads c =
    let p = err_from_is_err_and c.from_residual.result c.from_residual.ensures.1 in
    rw (p.1, p.2) (part_refused (is_a ActionWord) c.args.room (an_action most_levels most_names) c.args.tokens.now (sym c.is_next.ensures ∙ c.if-not-is_next.false) c.if-room-eq0.false c.in_err-read_action.field-0.0 c.in_err-read_action.ensures)

pub returns-clause-reads : goal.returns-clause-reads
returns-clause-reads c = part_read (is_a ActionWord) c.args.room (an_action most_levels most_names) c.args.tokens.now (sym c.is_next.ensures ∙ c.if-not-is_next.false) c.if-room-eq0.false c.in_ok-read_action.ensures
