use Rattle.std.proofs.Common.{inl, inr, arith, refl, rules, sym, true≢false}
use Rattle.outer_io.proofs.MemWritesLemmas.{failed_write, taken_write}
use Rattle.outer_io.proofs.mem_sink.MemSinkSink.write.Goals.{then-free-eq0-via-then-free-eq0, then-free-eq0-via-else-free-eq0+then-fails_next}
use Rattle.outer_io.proofs.mem_sink.MemSinkSink.write.Goals as goal

pub returns-then-free-eq0-clause-exact : goal.returns-then-free-eq0-clause-exact
returns-then-free-eq0-clause-exact c = failed_write c.args.piece.now c.self.view_is
    (elim c.then-free-eq0.branch [
      | then-free-eq0-via-then-free-eq0 w ↦ inr (omega (arith, w.if-free-eq0.true, c.len.ensures))
      | then-free-eq0-via-else-free-eq0+then-fails_next w ↦ inl (w.if-fails_next.ensures.0 refl)
    ])
    c.note_failed_call.ensures.value

pub returns-clause-exact : goal.returns-clause-exact
returns-clause-exact c =
    taken_write c.args.piece.now c.self.view_is (λ has. true≢false (sym (c.if-fails_next.ensures.1 has)))
    (omega (arith, c.if-free-eq0.false, c.len.ensures)) c.note_good_call.ensures
    (omega (arith, c.min-count.ensures, c.min.ensures, c.piece.ensures.value, c.len.ensures))
    (search rules)
