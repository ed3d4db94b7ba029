use Rattle.std.proofs.Common.{◌≡◌, ◌+◌, ◌++◌, take, drop, length, arith, refl, ◌∙◌, sym, ap, true≢false}
use Rattle.std.proofs.lemmas.List.{length-drop, drop-drop, drop_all}
use Rattle.outer_io.proofs.MemReadsLemmas.{failed_read, given_read, copied_front, front_and_rest}
use Rattle.outer_io.proofs.mem_source.MemSourceSource.read.Goals as goal

fails : goal.returns-then-fails_next-clause-exact
fails c = failed_read (length c.args.piece.now) c.self.view_is (c.if-fails_next.ensures.0 refl) c.note_failed_call.ensures.value

pub returns-then-fails_next-clause-exact : goal.returns-then-fails_next-clause-exact
returns-then-fails_next-clause-exact c = fails c

pub returns-then-fails_next-clause-call : goal.returns-then-fails_next-clause-call
returns-then-fails_next-clause-call c = (length c.args.piece.now, c.requires, fails c)

pub returns-then-fails_next-clause-never_falls : goal.returns-then-fails_next-clause-never_falls
returns-then-fails_next-clause-never_falls c = omega (arith, ap (λ source. source.plan.faults) c.self.view_is, c.note_failed_call.ensures.never_falls)

-- what was left, and the front of it that was copied
left : (c : goal.After-self-1) → c.left-left.result.now ≡ drop c.self.inside.from c.self.inside.bytes.items
left c = c.left-left.ensures ∙ sym (ap (λ source. source.bytes) c.self.view_is)

front : (c : goal.After-self-1) → take c.min-count.result (c.copy_from_slice.new.self ++ drop c.min-count.result c.args.piece.now) ≡ take c.min-count.result (drop c.self.inside.from c.self.inside.bytes.items)
front c = copied_front _ _ _ c.min-count.result (omega (arith, ap length (left c), c.min-count.ensures)) (c.copy_from_slice.ensures.after ∙ ap (λ bs. take c.min-count.result bs) (left c))

given : goal.returns-clause-exact
given c = given_read (length c.args.piece.now) c.self.view_is (λ has. true≢false (sym (c.if-fails_next.ensures.1 has))) c.note_good_call.ensures
    (omega (arith, c.min-count.ensures, c.min.ensures, c.piece.ensures.value, ap length (left c)))
    (front c)
    (sym (drop-drop c.min-count.result c.self.inside.from c.self.inside.bytes.items))

pub returns-clause-exact : goal.returns-clause-exact
returns-clause-exact c = given c

pub returns-clause-call : goal.returns-clause-call
returns-clause-call c = (length c.args.piece.now, c.requires, given c)

pub returns-clause-bytes : goal.returns-clause-bytes
returns-clause-bytes c =
    let from = c.self.inside.from in
    let count = c.min-count.result in
    let items = c.self.inside.bytes.items in (
      front_and_rest count (ap (λ source. source.bytes) (sym c.self.view_is)) (front c) (sym (drop-drop count from items)),
      λ nothing _. drop_all (from + count) items (omega (arith, nothing, c.min-count.ensures, c.min.ensures, c.piece.ensures.some, c.requires, ap length (left c), length-drop from items)),
    )
