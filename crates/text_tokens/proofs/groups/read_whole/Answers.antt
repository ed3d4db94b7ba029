use Rattle.std.proofs.Common.{List, map, Err}
use Rattle.std.proofs.lemmas.Result.{err_from_is_err_and}
use Rattle.text_tokens.specs.Reading.{◌>>=◌, pure, the_line}
use Rattle.text_tokens.specs.Groups.{WrittenGroup, is_groups_end, all_groups, groups_to_end}
use Rattle.text_tokens.specs.GroupViews.{written_group}
use Rattle.text_tokens.proofs.StepsLemmas.{on, fails}
use Rattle.text_tokens.proofs.groups.read_whole.Goals as goal

pub returns-in_err-the_line : goal.returns-in_err-the_line
unfolding groups_to_end
returns-in_err-the_line c =
    let p = err_from_is_err_and c.from_residual-in_err-the_line.result c.from_residual-in_err-the_line.ensures.1 in
    let e = c.in_err-the_line.field-0.0 in
    let found = map written_group c.in_ok-entries.entries.items in
    rw (p.1, p.2) (on (λ (es : List WrittenGroup). es) all_groups (λ es. the_line is_groups_end >>= λ line. pure es) c.args.tokens.now c.read_group_list.new.tokens c.the_line.new.tokens found (Err e) c.in_ok-entries.ensures
    (fails (the_line is_groups_end) (λ line. pure found) e c.read_group_list.new.tokens c.the_line.new.tokens c.in_err-the_line.ensures.reads))
