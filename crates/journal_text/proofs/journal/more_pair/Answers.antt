use Rattle.std.proofs.Common.{◌<◌, ◌∙◌, Ok, Err, refl, sym, arith}
use Rattle.std.proofs.lemmas.Result.{err_from_is_err_and}
use Rattle.text_tokens.specs.declared.refusal.RefusalKind.TheVariants.{TooMany}
use Rattle.text_tokens.specs.declared.refusal.ReadRefusal.TheVariants.{Refused}
use Rattle.text_tokens.specs.Cursor.{refusal_at}
use Rattle.text_tokens.specs.Reading.{no_limit}
use Rattle.text_tokens.proofs.StepsLemmas.{another_none, another_some, another_fails, with_room, one_too_many}
use Rattle.journal_text.specs.Journals.{is_cell}
use Rattle.journal_text.specs.Readers.{a_pair, pair_in}
use Rattle.journal_text.specs.Views as view
use Rattle.journal_text.proofs.journal.more_pair.Goals as goal

pub returns-then-not-is_cell_next-clause-reads : goal.returns-then-not-is_cell_next-clause-reads
returns-then-not-is_cell_next-clause-reads c = another_none is_cell (pair_in c.args.old c.args.vars c.args.room) c.args.tokens.now (sym c.is_cell_next.ensures ∙ c.if-not-is_cell_next.true)

pub returns-then-room-eq0-clause-reads : goal.returns-then-room-eq0-clause-reads
returns-then-room-eq0-clause-reads c =
    let comes = sym c.is_cell_next.ensures ∙ c.if-not-is_cell_next.false in
    let now = c.args.tokens.now in
    rw (c.into.ensures, c.refusal.ensures) (another_fails is_cell (pair_in c.args.old c.args.vars c.args.room) now comes (Refused (refusal_at now.last TooMany now.ahead)) now
    (one_too_many is_cell no_limit c.args.room (a_pair c.args.old c.args.vars) now c.if-room-eq0.true comes (λ t. refl)))

pub returns-in_err-read_pair-clause-reads : goal.returns-in_err-read_pair-clause-reads
returns-in_err-read_pair-clause-reads c =
    let p = err_from_is_err_and c.from_residual.result c.from_residual.ensures.1 in
    let room : 0 < c.args.room = (let n = c.if-room-eq0.false in omega arith) in
    let e = c.in_err-read_pair.field-0.0 in
    rw (p.1, p.2) (another_fails is_cell (pair_in c.args.old c.args.vars c.args.room) c.args.tokens.now (sym c.is_cell_next.ensures ∙ c.if-not-is_cell_next.false) e c.read_pair.new.tokens
    (with_room is_cell no_limit c.args.room (a_pair c.args.old c.args.vars) view.pair c.args.tokens.now c.read_pair.new.tokens (Err e) room c.in_err-read_pair.ensures))

pub returns-clause-reads : goal.returns-clause-reads
returns-clause-reads c =
    let room : 0 < c.args.room = (let n = c.if-room-eq0.false in omega arith) in
    another_some is_cell (pair_in c.args.old c.args.vars c.args.room) c.args.tokens.now (sym c.is_cell_next.ensures ∙ c.if-not-is_cell_next.false) (view.pair c.in_ok-read_pair.field-0) c.read_pair.new.tokens
    (with_room is_cell no_limit c.args.room (a_pair c.args.old c.args.vars) view.pair c.args.tokens.now c.read_pair.new.tokens (Ok c.in_ok-read_pair.field-0) room c.in_ok-read_pair.ensures)
