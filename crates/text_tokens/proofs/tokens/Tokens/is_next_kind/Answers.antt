use Rattle.std.proofs.Common.{sym}
use Rattle.text_tokens.proofs.InsideLemmas.{tests, tests_none}
use Rattle.text_tokens.specs.Cursor.{is_kind, same_kind}
use Rattle.text_tokens.proofs.tokens.Tokens.is_next_kind.Goals as goal

pub returns-in-Ok : goal.returns-in-Ok
unfolding same_kind
returns-in-Ok c = rw (← c.self.view_is, tests c.self.inside c.self.invariant c.in-Ok.found c.in-Ok.is (is_kind c.args.kind)) c.eq.ensures

pub returns-in-Err : goal.returns-in-Err
returns-in-Err c = rw (← c.self.view_is) (sym (tests_none c.self.inside c.self.invariant _ c.in-Err.is (is_kind c.args.kind)))
