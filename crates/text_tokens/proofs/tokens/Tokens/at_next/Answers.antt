use Rattle.std.proofs.Common.{◌≡◌, ◌+◌, ◌-◌, ◌≤◌, ℕ, List, false, take, drop, length, sym, ◌∙◌, ap, subst, arith, length-drop}
use Rattle.std.proofs.lemmas.List.{take_rest}
use Rattle.text_tokens.specs.Scan.{front, skip}
use Rattle.text_tokens.specs.Inside.{HasItsNumber}
use Rattle.text_tokens.proofs.InsideLemmas.{at_skipped, is_ready}
use Rattle.text_tokens.proofs.tokens.Tokens.at_next.Goals as goal

skipped_rest : (source : List ℕ) (at line blanks to : ℕ) → skip false at line (take (length source - at) (drop at source)) ≡ record { text = drop blanks (take (length source - at) (drop at source)); at = at + blanks; line = to }
    → skip false at line (drop at source) ≡ record { text = drop blanks (drop at source); at = at + blanks; line = to }
skipped_rest source at line blanks to e = rw (take_rest source at) at e

pub invariant_of-result : goal.invariant_of-result
invariant_of-result c =
    let within : c.skip-blanks.result.0 ≤ length (take (length c.args.source.now - c.args.at) (drop c.args.at c.args.source.now)) = c.skip-blanks.ensures.within in
    let line = c.skip-blanks.ensures.line in
    let req = c.requires.line in
    record {
      skipped = is_ready c.args.source.now c.args.at c.args.line c.skip-blanks.result.0 c.skip-blanks.result.1 (skipped_rest _ _ _ _ _ (c.skip-blanks.ensures.skipped c.args.at));
      front = c.front.ensures.is ∙ ap front (take_rest c.args.source.now (c.args.at + c.skip-blanks.result.0));
      stands = subst (λ (bytes : List ℕ). HasItsNumber bytes c.front.result) (take_rest c.args.source.now (c.args.at + c.skip-blanks.result.0)) c.front.ensures.stands;
      within = (let w : c.skip-blanks.result.0 ≤ length (drop c.args.at c.args.source.now) = rw (take_rest c.args.source.now c.args.at) at within in let r = c.requires.within in omega (arith, length-drop c.args.at c.args.source.now));
      line = omega arith;
      small = c.requires.small;
    }

pub returns : goal.returns
returns c = sym (at_skipped c.args.source.now c.args.at c.args.line c.skip-blanks.result.0 c.skip-blanks.result.1 (skipped_rest _ _ _ _ _ (c.skip-blanks.ensures.skipped c.args.at)))
