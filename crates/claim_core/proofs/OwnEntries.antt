-- A caller's entries of a journal, and that those of all callers determine it.
use Rattle.std.proofs.Common.{◌≡◌, ◌≢◌, ℕ, ◌+◌, ◌<◌, ◌≤◌, List, [], ◌∷◌, drop, Some, inl, inr, ap, sym, refl, ◌∙◌, arith, eq-eqb, ne_eqb}
use Rattle.std.specs.Prelude.{slice_get, if◌then◌else◌}
use Rattle.std.specs.List.{All}
use Rattle.std.proofs.lemmas.Bool.{cases_eq}
use Rattle.std.proofs.lemmas.List.Elements.{All-head, All-tail}
use Rattle.std.proofs.lemmas.Option.{none-some, same_Some}
use Rattle.amoebot_state.specs.declared.verdict.Entry.{Entry}
use Rattle.claim_core.specs.Reached.{entries_of}

-- the entries of a caller where the first entry is its own, and where it is not
pub own_first : (c p : ℕ) (e : Entry) (es : List Entry) → e.caller ≡ c → entries_of c p (e ∷ es) ≡ (p, e) ∷ entries_of c (p + 1) es
own_first c p e es is = ap (λ b. if b then (p, e) ∷ entries_of c (p + 1) es else entries_of c (p + 1) es) (eq-eqb e.caller c is)

pub other_first : (c p : ℕ) (e : Entry) (es : List Entry) → e.caller ≢ c → entries_of c p (e ∷ es) ≡ entries_of c (p + 1) es
other_first c p e es not = ap (λ b. if b then (p, e) ∷ entries_of c (p + 1) es else entries_of c (p + 1) es) (ne_eqb e.caller c not)

-- no entry has a lower place than the first
pub not_before : (c p q : ℕ) (e : Entry) (es : List Entry) → slice_get (entries_of c p es) 0 ≡ Some (q, e) → p ≤ q
not_before c p q e [] at = absurd (none-some (q, e) at)
not_before c p q e (x ∷ es) at = elim (cases_eq x.caller c) [
  | inl is ↦ let same : p ≡ q = ap (λ (y : ℕ × Entry). y.0) (same_Some (p, x) (q, e) (ap (λ ys. slice_get ys 0) (sym (own_first c p x es is)) ∙ at)) in omega (arith, same)
  | inr not ↦ let n = not_before c (p + 1) q e es (ap (λ ys. slice_get ys 0) (sym (other_first c p x es not)) ∙ at) in omega (arith, n)
]

-- a journal is determined by what each caller has in it
pub same_entries : (n p : ℕ) (es fs : List Entry) → All (λ (e : Entry). e.caller < n) es → All (λ (e : Entry). e.caller < n) fs → ((c : ℕ) → c < n → entries_of c p es ≡ entries_of c p fs) → es ≡ fs
same_entries n p [] [] few few' same = refl
same_entries n p [] (f ∷ fs) few few' same =
    let lt = All-head (λ (e : Entry). e.caller < n) f fs few' in
    absurd (none-some (p, f) (ap (λ ys. slice_get ys 0) (same f.caller lt ∙ own_first f.caller p f fs refl)))
same_entries n p (e ∷ es) [] few few' same =
    let lt = All-head (λ (x : Entry). x.caller < n) e es few in
    absurd (none-some (p, e) (ap (λ ys. slice_get ys 0) (sym (same e.caller lt) ∙ own_first e.caller p e es refl)))
same_entries n p (e ∷ es) (f ∷ fs) few few' same =
    let lt = All-head (λ (x : Entry). x.caller < n) e es few in
    let first = ap (λ ys. slice_get ys 0) (sym (same e.caller lt) ∙ own_first e.caller p e es refl) in
    elim (cases_eq f.caller e.caller) [
      | inl is ↦
          let heads : f ≡ e = ap (λ (y : ℕ × Entry). y.1) (same_Some (p, f) (p, e) (ap (λ ys. slice_get ys 0) (sym (own_first e.caller p f fs is)) ∙ first)) in
          let tails : es ≡ fs = same_entries n (p + 1) es fs (All-tail (λ (x : Entry). x.caller < n) e es few) (All-tail (λ (x : Entry). x.caller < n) f fs few') (λ c inside. elim (cases_eq e.caller c) [
            | inl mine ↦ ap (λ ys. drop 1 ys) (sym (own_first c p e es mine) ∙ same c inside ∙ own_first c p f fs (is ∙ mine))
            | inr not ↦ sym (other_first c p e es not) ∙ same c inside ∙ other_first c p f fs (λ q. not (sym is ∙ q))
          ]) in
          λ i. sym heads i ∷ tails i
      | inr not ↦ absurd (let n = not_before e.caller (p + 1) p e fs (ap (λ ys. slice_get ys 0) (sym (other_first e.caller p f fs not)) ∙ first) in omega (arith, n))
    ]
