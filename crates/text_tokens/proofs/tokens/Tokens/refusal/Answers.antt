use Rattle.std.proofs.Common.{sym}
use Rattle.text_tokens.proofs.InsideLemmas.{refuses, refuses_end}
use Rattle.text_tokens.proofs.tokens.Tokens.refusal.Goals as goal

pub returns-in-Ok : goal.returns-in-Ok
returns-in-Ok c = rw (← c.self.view_is) (sym (refuses c.self.inside c.self.invariant _ c.in-Ok.is c.args.kind))

pub returns-in-Err : goal.returns-in-Err
returns-in-Err c = rw (← c.self.view_is) (sym (refuses_end c.self.inside c.self.invariant _ c.in-Err.is c.args.kind))
