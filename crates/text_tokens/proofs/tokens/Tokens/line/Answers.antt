use Rattle.std.proofs.Common.{sym}
use Rattle.text_tokens.proofs.InsideLemmas.{line_is}
use Rattle.text_tokens.proofs.tokens.Tokens.line.Goals as goal

pub returns : goal.returns
returns c = rw (← c.self.view_is) (sym (line_is c.self.inside c.self.invariant))
