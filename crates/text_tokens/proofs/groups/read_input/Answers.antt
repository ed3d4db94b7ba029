use Rattle.std.proofs.Common.{◌∙◌, List, map, Vec, Ok, Err, sym}
use Rattle.std.specs.declared.alloc.Global.{Global}
use Rattle.std.proofs.lemmas.Result.{err_from_is_err_and}
use Rattle.text_tokens.specs.declared.refusal.RefusalKind.TheVariants.{Trailing}
use Rattle.text_tokens.specs.declared.refusal.ReadRefusal.TheVariants.{Refused}
use Rattle.text_tokens.specs.declared.groups.Group.{Group}
use Rattle.text_tokens.specs.Groups.{WrittenGroup, AreGroups}
use Rattle.text_tokens.specs.GroupViews.{written_group}
use Rattle.text_tokens.proofs.ExactReaders.{input_ends, input_fails, reads_input}
use Rattle.text_tokens.proofs.groups.read_input.Goals as goal

abbrev seen : Vec Group Global → List WrittenGroup
seen v = map written_group v.items

pub returns-in_err-entries : goal.returns-in_err-entries
returns-in_err-entries c =
    let p = err_from_is_err_and c.from_residual.result c.from_residual.ensures.1 in
    rw (p.1, p.2) (reads_input AreGroups Trailing seen c.args.bytes.now c.new-tokens.result (Err c.in_err-entries.field-0.0) c.new-tokens.ensures
    (input_fails AreGroups Trailing seen c.new-tokens.result c.read_groups.new.tokens c.in_err-entries.field-0.0 c.in_err-entries.ensures.tells))

pub returns-in_err-end : goal.returns-in_err-end
returns-in_err-end c =
    let p = err_from_is_err_and c.from_residual-in_err-end.result c.from_residual-in_err-end.ensures.1 in
    let tells = c.in_ok-entries.ensures.tells in
    rw (p.1, p.2) (reads_input AreGroups Trailing seen c.args.bytes.now c.new-tokens.result (Err (Refused c.in_err-end.field-0.0)) c.new-tokens.ensures
    (input_ends AreGroups Trailing seen c.new-tokens.result c.read_groups.new.tokens c.in_ok-entries.entries (Err c.in_err-end.field-0.0) tells.0 tells.1 (sym c.in_err-end.was ∙ c.end.ensures)))

pub returns : goal.returns
returns c =
    let tells = c.in_ok-entries.ensures.tells in
    reads_input AreGroups Trailing seen c.args.bytes.now c.new-tokens.result (Ok c.in_ok-entries.entries) c.new-tokens.ensures
    (input_ends AreGroups Trailing seen c.new-tokens.result c.read_groups.new.tokens c.in_ok-entries.entries (Ok tt) tells.0 tells.1 (sym c.in_ok-end.was ∙ c.end.ensures))
