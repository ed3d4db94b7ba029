-- The loop over the terms of a sum.
use Rattle.std.proofs.Common.{◌≡◌, ◌≤◌, ◌<◌, ◌+◌, ◌*◌, ◌∙◌, ℕ, suc, true, List, [], ◌∷◌, length, drop, get_or, refl, sym, ap, arith, subst, lit<, ◌^◌}
use Rattle.std.specs.Prelude.{nat_le, Result, Ok, Err, ℤ, pos, ◌+ℤ◌, ◌≤ℤ◌, neg_ℤ}
use Rattle.std.proofs.Math.ListN.{drop_of_length-le}
use Rattle.std.proofs.lemmas.Bool.{and_parts, leb-true}
use Rattle.std.proofs.lemmas.Int.{ints}
use Rattle.std.specs.Int.RustNames.{FitsSigned}
use mir.Syntax.{w32}
use native.Mathlib.Nat.{mul-le-mul_left}
use Rattle.amoebot_state.specs.declared.verdict.Failure.{Failure}
use Rattle.model_ops.specs.Sights.{Sight}
use Rattle.action_tree.specs.declared.expression.Part as code_part
use Rattle.action_tree.specs.Views.{term_of, terms_of}
use Rattle.action_tree.specs.Limits.{most_elements}
use Rattle.action_tree.specs.Writable.{is_term, are_terms, is_sum, is_count_from, term_count}
use Rattle.action_check.specs.Limits.{most_literal}
use Rattle.action_check.specs.Rules.{SumKept, TermKept}
use Rattle.action_tree.specs.Scopes.{Scope}
use Rattle.action_tree.proofs.Viewed.{part_opened}
use Rattle.action_meaning.specs.Names.{Names}
use Rattle.action_meaning.specs.Values.{sum_value, term_value, signed}
use Rattle.action_check.proofs.FaultLoops.{here}
use Rattle.action_eval.proofs.Sums.{and_so_much, sum_goes_on, sum_fails}

-- ---- the terms of a sum, with the total of those before

pub record TermsLeft (s : Sight) (xs : Names) (sc : Scope) (ps : List code_part.Part) (i : ℕ) (total : ℤ) : Type 0 where
  pub kept : SumKept sc (terms_of (drop i ps))
  pub counted : are_terms (terms_of (drop i ps)) ≡ true
  pub told : sum_value s xs (terms_of ps) ≡ and_so_much total (sum_value s xs (terms_of (drop i ps)))
  pub low : pos 0 ≤ℤ (total +ℤ pos (most_literal * i))
  pub high : total ≤ℤ pos (most_literal * i)
  pub few : length ps ≤ most_elements

nothing_before : (r : Result ℤ Failure) → r ≡ and_so_much (pos 0) r
nothing_before (Ok y) = let e : y ≡ pos 0 +ℤ y = omega (arith, ints) in ap Ok e
nothing_before (Err f) = refl

count_of_terms : (ps : List code_part.Part) → term_count (terms_of ps) ≡ length ps
count_of_terms [] = refl
count_of_terms (p ∷ ps) = ap suc (count_of_terms ps)

start_low : (k : ℕ) → pos 0 ≤ℤ (pos 0 +ℤ pos k)
start_low k = omega (arith, ints)

start_high : (k : ℕ) → pos 0 ≤ℤ pos k
start_high k = omega (arith, ints)

few_terms : (ps : List code_part.Part) → is_count_from 1 (term_count (terms_of ps)) ≡ true → length ps ≤ most_elements
few_terms ps e =
    let n = term_count (terms_of ps) in
    let AtMost : ℕ → Type 0 = λ k. k ≤ most_elements in
    subst AtMost (count_of_terms ps) (leb-true n most_elements (and_parts (nat_le 1 n) (nat_le n most_elements) e).1)

pub terms_start : (s : Sight) (xs : Names) (sc : Scope) (ps : List code_part.Part) → SumKept sc (terms_of ps) → is_sum (terms_of ps) ≡ true → TermsLeft s xs sc ps 0 (pos 0)
terms_start s xs sc ps kept counted =
    let parts = and_parts (is_count_from 1 (term_count (terms_of ps))) (are_terms (terms_of ps)) counted in
    record {
      kept = kept;
      counted = parts.1;
      told = nothing_before (sum_value s xs (terms_of ps));
      low = start_low (most_literal * 0);
      high = start_high (most_literal * 0);
      few = few_terms ps parts.0;
    }

pub term_kept : (s : Sight) (xs : Names) (sc : Scope) (ps : List code_part.Part) (i : ℕ) (p : code_part.Part) (total : ℤ) → TermsLeft s xs sc ps i total → i < length ps → p ≡ get_or ps i p → TermKept sc (term_of p.term)
term_kept s xs sc ps i p total left l is =
    let kept = rw (here ps i p l is, part_opened p) at left.kept in
    kept.0

pub term_counted : (s : Sight) (xs : Names) (sc : Scope) (ps : List code_part.Part) (i : ℕ) (p : code_part.Part) (total : ℤ) → TermsLeft s xs sc ps i total → i < length ps → p ≡ get_or ps i p → is_term (term_of p.term) ≡ true
term_counted s xs sc ps i p total left l is =
    let counted = rw (here ps i p l is, part_opened p) at left.counted in
    (and_parts _ _ counted).0

low_next : (m k : ℕ) (total y : ℤ) → pos 0 ≤ℤ (total +ℤ pos k) → neg_ℤ (pos m) ≤ℤ y → pos 0 ≤ℤ ((total +ℤ y) +ℤ pos (k + m))
low_next m k total y low least = omega (arith, ints)

high_next : (m k : ℕ) (total y : ℤ) → total ≤ℤ pos k → y ≤ℤ pos m → (total +ℤ y) ≤ℤ pos (k + m)
high_next m k total y high most = omega (arith, ints)

one_more : (m i : ℕ) → m * i + m ≡ m * (i + 1)
one_more m i = omega arith

pub terms_next : (s : Sight) (xs : Names) (sc : Scope) (ps : List code_part.Part) (i : ℕ) (p : code_part.Part) (total x y : ℤ) → TermsLeft s xs sc ps i total → i < length ps → p ≡ get_or ps i p → term_value s xs (term_of p.term) ≡ Ok x → y ≡ signed p.minus x → neg_ℤ (pos most_literal) ≤ℤ y → y ≤ℤ pos most_literal → TermsLeft s xs sc ps (i + 1) (total +ℤ y)
terms_next s xs sc ps i p total x y left l is e with_sign low high =
    let kept = rw (here ps i p l is, part_opened p) at left.kept in
    let counted = rw (here ps i p l is, part_opened p) at left.counted in
    let told = rw (here ps i p l is, part_opened p) at left.told in
    let Low : ℕ → Type 0 = λ k. pos 0 ≤ℤ ((total +ℤ y) +ℤ pos k) in
    let High : ℕ → Type 0 = λ k. (total +ℤ y) ≤ℤ pos k in
    record {
      kept = kept.1;
      counted = (and_parts _ _ counted).1;
      told = told ∙ sum_goes_on s xs p.minus (term_of p.term) (terms_of (drop (i + 1) ps)) x total e ∙ ap (λ z. and_so_much (total +ℤ z) (sum_value s xs (terms_of (drop (i + 1) ps)))) (sym with_sign);
      low = subst Low (one_more most_literal i) (low_next most_literal (most_literal * i) total y left.low low);
      high = subst High (one_more most_literal i) (high_next most_literal (most_literal * i) total y left.high high);
      few = left.few;
    }

pub terms_fail : (s : Sight) (xs : Names) (sc : Scope) (ps : List code_part.Part) (i : ℕ) (p : code_part.Part) (total : ℤ) (f : Failure) → TermsLeft s xs sc ps i total → i < length ps → p ≡ get_or ps i p → term_value s xs (term_of p.term) ≡ Err f → sum_value s xs (terms_of ps) ≡ Err f
terms_fail s xs sc ps i p total f left l is e =
    let told = rw (here ps i p l is, part_opened p) at left.told in
    told ∙ sum_fails s xs p.minus (term_of p.term) (terms_of (drop (i + 1) ps)) f total e

pub terms_over : (s : Sight) (xs : Names) (sc : Scope) (ps : List code_part.Part) (i : ℕ) (total : ℤ) → TermsLeft s xs sc ps i total → length ps ≤ i → sum_value s xs (terms_of ps) ≡ Ok total
terms_over s xs sc ps i total left l =
    let told = rw (drop_of_length-le ps l) at left.told in
    let e : total +ℤ pos 0 ≡ total = omega (arith, ints) in
    told ∙ ap Ok e

-- so many literals, with a minus or without, are far within 32 bits
within_32_bits : (k : ℕ) (z : ℤ) → k < 2 ^ 31 → z ≤ℤ pos k → pos 0 ≤ℤ (z +ℤ pos k) → FitsSigned w32 z
within_32_bits k z few high low = omega (arith, ints)

few_enough : (m n i : ℕ) → i ≤ n → m * n < 2 ^ 31 → m * i < 2 ^ 31
few_enough m n i l few = let h = mul-le-mul_left m l in omega (arith, h)

pub terms_fit : (s : Sight) (xs : Names) (sc : Scope) (ps : List code_part.Part) (i : ℕ) (total : ℤ) → TermsLeft s xs sc ps i total → i ≤ length ps → FitsSigned w32 total
terms_fit s xs sc ps i total left l = within_32_bits (most_literal * i) total (few_enough most_literal most_elements i (omega (arith, left.few)) (lit< tt)) left.high left.low
