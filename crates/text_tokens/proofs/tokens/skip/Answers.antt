use Rattle.std.proofs.Common.{◌≡◌, ◌⊎◌, inl, inr, ℕ, ◌+◌, false, rules, arith, add_assoc, sym, ◌∙◌}
use Rattle.std.proofs.lemmas.List.{drop_all}
use Rattle.text_tokens.proofs.ScanLemmas.{blank_at, line_feed_at, comment_at, start_at, skip_end}
use Rattle.text_tokens.proofs.tokens.skip.Goals as goal

pub loop-at-preserved-then-b-eq32 : goal.loop-at-preserved-then-b-eq32
loop-at-preserved-then-b-eq32 c = record {
  rest = λ start. rw (← add_assoc start c.loop-at.at 1) (sym (blank_at (start + c.loop-at.at) c.loop-at.line_now c.args.bytes.now c.loop-at.at c.loop-at-test.true (inr (inr c.if-b-eq32.true))) ∙ c.loop-at.invariant.rest start);
  line = omega arith;
  within = omega arith;
}

tab_or_return : {b : ℕ} → (b ≡ 9) ⊎ (b ≡ 13) → (b ≡ 9) ⊎ ((b ≡ 13) ⊎ (b ≡ 32))
tab_or_return (inl e) = inl e
tab_or_return (inr e) = inr (inl e)

pub loop-at-preserved-in-9 : goal.loop-at-preserved-in-9
loop-at-preserved-in-9 c = record {
  rest = λ start. rw (← add_assoc start c.loop-at.at 1) (sym (blank_at (start + c.loop-at.at) c.loop-at.line_now c.args.bytes.now c.loop-at.at c.loop-at-test.true (tab_or_return c.in-9.is)) ∙ c.loop-at.invariant.rest start);
  line = omega arith;
  within = omega arith;
}

pub loop-at-preserved-in-10 : goal.loop-at-preserved-in-10
loop-at-preserved-in-10 c = record {
  rest = λ start. rw (← add_assoc start c.loop-at.at 1) (sym (line_feed_at (start + c.loop-at.at) c.loop-at.line_now c.args.bytes.now c.loop-at.at c.loop-at-test.true c.in-10.is) ∙ c.loop-at.invariant.rest start);
  line = omega arith;
  within = omega arith;
}

pub loop-at-preserved : goal.loop-at-preserved
loop-at-preserved c = let h = c.in-35.is in record {
  rest = λ start. sym (c.comment_end-at.ensures.skipped start c.loop-at.line_now) ∙ rw (← add_assoc start c.loop-at.at 1) (sym (comment_at (start + c.loop-at.at) c.loop-at.line_now c.args.bytes.now c.loop-at.at c.loop-at-test.true c.in-35.is) ∙ c.loop-at.invariant.rest start);
  line = omega arith;
  within = omega arith;
}

pub returns-then-b-gt35-clause-skipped : goal.returns-then-b-gt35-clause-skipped
returns-then-b-gt35-clause-skipped c =
    let gt = c.if-b-gt35.true in
    λ at. sym (c.loop-at.invariant.rest at) ∙ start_at (at + c.loop-at.at) c.loop-at.line_now c.args.bytes.now c.loop-at.at c.loop-at-test.true (λ e. omega arith) (λ e. omega arith) (λ e. omega arith) (λ e. omega arith) (λ e. omega arith)

pub returns-in_default-clause-skipped : goal.returns-in_default-clause-skipped
returns-in_default-clause-skipped c = λ at. sym (c.loop-at.invariant.rest at) ∙ start_at (at + c.loop-at.at) c.loop-at.line_now c.args.bytes.now c.loop-at.at c.loop-at-test.true (search rules) (search rules) (search rules) c.if-b-eq32.false (search rules)

pub returns-clause-skipped : goal.returns-clause-skipped
returns-clause-skipped c = λ at. rw (drop_all c.loop-at.at c.args.bytes.now c.loop-at-test.false) (sym (c.loop-at.invariant.rest at) ∙ skip_end false (at + c.loop-at.at) c.loop-at.line_now c.args.bytes.now c.loop-at.at c.loop-at-test.false)
