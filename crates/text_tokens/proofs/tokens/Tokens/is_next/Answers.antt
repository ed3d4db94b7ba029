use Rattle.std.proofs.Common.{◌≡◌, true, false, sym, ◌∙◌}
use Rattle.text_tokens.proofs.InsideLemmas.{within, tests, tests_none}
use Rattle.text_tokens.specs.Cursor.{same_kind, is_the}
use Rattle.text_tokens.proofs.tokens.Tokens.is_next.Goals as goal

pub bytes_at-requires : goal.bytes_at-requires
bytes_at-requires c = within c.self.inside c.self.invariant c.in-Ok.found c.in-Ok.is

pub returns-then-eq : goal.returns-then-eq
unfolding same_kind
returns-then-eq c =
    let kind : same_kind c.in-Ok.found c.args.kind ≡ true = sym c.eq.ensures ∙ c.if-eq.true in
    rw (← c.self.view_is, tests c.self.inside c.self.invariant c.in-Ok.found c.in-Ok.is (is_the c.args.kind c.args.text.now), kind, ← c.bytes_at.ensures) c.is_same.ensures

pub returns-else-eq : goal.returns-else-eq
unfolding same_kind
returns-else-eq c =
    let kind : same_kind c.in-Ok.found c.args.kind ≡ false = sym c.eq.ensures ∙ c.if-eq.false in
    rw (← c.self.view_is, tests c.self.inside c.self.invariant c.in-Ok.found c.in-Ok.is (is_the c.args.kind c.args.text.now), kind) c.if-eq.false

pub returns-in-Err : goal.returns-in-Err
returns-in-Err c = rw (← c.self.view_is) (sym (tests_none c.self.inside c.self.invariant _ c.in-Err.is (is_the c.args.kind c.args.text.now)))
