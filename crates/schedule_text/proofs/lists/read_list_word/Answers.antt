use Rattle.std.proofs.Common.{◌≡◌, ◌<◌, ◌≤◌, ◌+◌, ◌*◌, ◌⊎◌, inl, inr, Some, None, ℕ, suc, refl, sym, ◌∙◌, arith}
use Rattle.std.specs.Prelude.{nat_le, false, true}
use Rattle.std.proofs.lemmas.Bool.{le-leb, lt-leb}
use Rattle.std.proofs.lemmas.Result.{err_from_is_err_and}
use Rattle.text_tokens.specs.declared.refusal.RefusalKind.TheVariants.{TooMany}
use Rattle.text_tokens.specs.Text.{Lexeme}
use Rattle.text_tokens.specs.Steps.{lexeme_of}
use Rattle.text_tokens.proofs.TakenTokens.{token_missed, token_past, token_taken}
use Rattle.claim_core.specs.Limits.{most_callers, most_turns}
use Rattle.schedule_text.specs.Lists.{is_list, past_lists}
use Rattle.schedule_text.specs.Readers.{list_word}
use Rattle.schedule_text.proofs.lists.read_list_word.Goals as goal
use Rattle.schedule_text.proofs.lists.read_list_word.Goals.{then-callers-gt-MOST_CALLERS-via-then-callers-gt-MOST_CALLERS, then-callers-gt-MOST_CALLERS-via-else-callers-gt-MOST_CALLERS+then-callers-turns-gt-MOST_TURNS}

module _ (turns before : ℕ) (t : Lexeme) where
  next : before + 1 ≡ suc before
  next = omega arith

  -- too many lists, or else too many turns
  too_many : (most_callers < suc before) ⊎ ((suc before ≤ most_callers) × (most_turns < suc before * turns)) → past_lists turns before t ≡ Some TooMany
  too_many (inl lt) = let a : nat_le (suc before) most_callers ≡ false = lt-leb _ _ lt in rw a refl
  too_many (inr both) =
      let a : nat_le (suc before) most_callers ≡ true = le-leb _ _ both.0 in
      let b : nat_le (suc before * turns) most_turns ≡ false = lt-leb _ _ both.1 in
      rw (a, b) refl

  few : suc before ≤ most_callers → suc before * turns ≤ most_turns → past_lists turns before t ≡ None
  few callers all =
      let a : nat_le (suc before) most_callers ≡ true = le-leb _ _ callers in
      let b : nat_le (suc before * turns) most_turns ≡ true = le-leb _ _ all in
      rw (a, b) refl

pub returns-in_err-token-clause-reads : goal.returns-in_err-token-clause-reads
unfolding list_word
returns-in_err-token-clause-reads c =
    let p = err_from_is_err_and c.from_residual.result c.from_residual.ensures.1 in
    rw (p.1, p.2) (token_missed is_list (past_lists c.args.turns c.args.before) (λ (t : Lexeme). t.line) c.args.tokens.now c.take.new.self c.in_err-token.field-0.0 (sym c.take.ensures.answer ∙ c.in_err-token.was) c.in_err-token.ensures.again)

pub returns-then-callers-gt-MOST_CALLERS-clause-reads : goal.returns-then-callers-gt-MOST_CALLERS-clause-reads
unfolding list_word
returns-then-callers-gt-MOST_CALLERS-clause-reads c =
    let over = past_lists c.args.turns c.args.before in
    let t = lexeme_of c.args.tokens.now.source c.in_ok-token.token in
    let n = next c.args.turns c.args.before t in
    let past : over t ≡ Some TooMany = elim c.then-callers-gt-MOST_CALLERS.branch [
      | then-callers-gt-MOST_CALLERS-via-then-callers-gt-MOST_CALLERS w ↦ too_many c.args.turns c.args.before t (inl (rw n at w.if-callers-gt-MOST_CALLERS.true))
      | then-callers-gt-MOST_CALLERS-via-else-callers-gt-MOST_CALLERS+then-callers-turns-gt-MOST_TURNS w ↦ too_many c.args.turns c.args.before t (inr (rw n at w.if-callers-gt-MOST_CALLERS.false, rw n at w.if-callers-turns-gt-MOST_TURNS.true))
    ] in
    rw c.refused.ensures (token_past is_list over (λ (t : Lexeme). t.line) c.args.tokens.now c.take.new.self c.in_ok-token.token (sym c.take.ensures.answer ∙ c.in_ok-token.was) c.in_ok-token.ensures.moves c.in_ok-token.ensures.spells TooMany past)

pub returns-clause-reads : goal.returns-clause-reads
unfolding list_word
returns-clause-reads c =
    let t = lexeme_of c.args.tokens.now.source c.in_ok-token.token in
    let n = next c.args.turns c.args.before t in
    token_taken is_list (past_lists c.args.turns c.args.before) (λ (t : Lexeme). t.line) c.args.tokens.now c.take.new.self c.in_ok-token.token (sym c.take.ensures.answer ∙ c.in_ok-token.was) c.in_ok-token.ensures.moves c.in_ok-token.ensures.spells
    (few c.args.turns c.args.before t (rw n at c.if-callers-gt-MOST_CALLERS.false) (rw n at c.if-callers-turns-gt-MOST_TURNS.false))
