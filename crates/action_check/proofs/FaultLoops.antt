-- Loops over the elements of a list that stop at the first fault.
use Rattle.std.proofs.Common.{◌≡◌, ◌≤◌, ◌<◌, ◌+◌, ℕ, List, ◌∷◌, length, drop, get_or, ◌∙◌, arith}
use Rattle.std.specs.Prelude.{Ok, Err}
use Rattle.std.proofs.Math.ListN.{drop_of_length-le}
use Rattle.std.proofs.lemmas.List.{drop_more}
use Rattle.text_tokens.specs.declared.refusal.Refusal.{Refusal}
use Rattle.action_tree.specs.declared.expression.Guard as code
use Rattle.action_tree.specs.declared.expression.Part as code_part
use Rattle.action_tree.specs.declared.statement.Stmt as code_stmt
use Rattle.action_tree.specs.Views.{guard_of, guards_of, term_of, terms_of, stmts_of}
use Rattle.action_tree.specs.Writable.{guards_names, sum_names, stmts_names}
use Rattle.action_tree.specs.Scopes.{Scope, HasRoom, scope_after_all}
use Rattle.action_check.specs.Faults.{guard_faults, guards_faults, sum_faults, term_faults, stmts_faults}
use Rattle.action_check.specs.Told.{first_of}
use Rattle.action_tree.proofs.Viewed.{part_opened}
use Rattle.action_check.proofs.Firsts.{first_behind, first_before}

-- before the element at i, where the scope at the start has become the second: there is room for what is left, and the first
-- fault of the whole is that of what is left
pub record IsLeft {X : Type 0} (faults : Scope → List X → List Refusal) (names : List X → ℕ) (start sc : Scope) (xs : List X) (i : ℕ) : Type 0 where
  pub room : HasRoom sc (names (drop i xs))
  pub told : first_of (faults start xs) ≡ first_of (faults sc (drop i xs))

-- the next element, and what is left behind it
pub here : {X : Type 0} (xs : List X) (i : ℕ) (x : X) → i < length xs → x ≡ get_or xs i x → drop i xs ≡ x ∷ drop (i + 1) xs
here xs i x l is = let e = drop_more xs i x l in cc

-- ---- guards

abbrev pub GuardsLeft : Scope → List code.Guard → ℕ → Type 0
GuardsLeft sc gs i = IsLeft (λ s hs. guards_faults s (guards_of hs)) (λ hs. guards_names (guards_of hs)) sc sc gs i

pub guards_next : (sc : Scope) (gs : List code.Guard) (i : ℕ) (g : code.Guard) → GuardsLeft sc gs i → i < length gs → g ≡ get_or gs i g → first_of (guard_faults sc (guard_of g)) ≡ Ok tt → GuardsLeft sc gs (i + 1)
guards_next sc gs i g left l is fine =
    let room = rw (here gs i g l is) at left.room in
    let told = rw (here gs i g l is) at left.told in
    record { room = omega arith; told = told ∙ first_behind _ _ fine }

pub guards_fail : (sc : Scope) (gs : List code.Guard) (i : ℕ) (g : code.Guard) (r : Refusal) → GuardsLeft sc gs i → i < length gs → g ≡ get_or gs i g → first_of (guard_faults sc (guard_of g)) ≡ Err r → first_of (guards_faults sc (guards_of gs)) ≡ Err r
guards_fail sc gs i g r left l is wrong =
    let told = rw (here gs i g l is) at left.told in
    told ∙ first_before _ _ r wrong

pub guards_over : (sc : Scope) (gs : List code.Guard) (i : ℕ) → GuardsLeft sc gs i → length gs ≤ i → first_of (guards_faults sc (guards_of gs)) ≡ Ok tt
guards_over sc gs i left l = rw (drop_of_length-le gs l) at left.told

-- ---- the parts of a sum

abbrev pub PartsLeft : Scope → List code_part.Part → ℕ → Type 0
PartsLeft sc ps i = IsLeft (λ s qs. sum_faults s (terms_of qs)) (λ qs. sum_names (terms_of qs)) sc sc ps i

pub parts_next : (sc : Scope) (ps : List code_part.Part) (i : ℕ) (p : code_part.Part) → PartsLeft sc ps i → i < length ps → p ≡ get_or ps i p → first_of (term_faults sc (term_of p.term)) ≡ Ok tt → PartsLeft sc ps (i + 1)
parts_next sc ps i p left l is fine =
    let room = rw (here ps i p l is, part_opened p) at left.room in
    let told = rw (here ps i p l is, part_opened p) at left.told in
    record { room = omega arith; told = told ∙ first_behind _ _ fine }

pub parts_fail : (sc : Scope) (ps : List code_part.Part) (i : ℕ) (p : code_part.Part) (r : Refusal) → PartsLeft sc ps i → i < length ps → p ≡ get_or ps i p → first_of (term_faults sc (term_of p.term)) ≡ Err r → first_of (sum_faults sc (terms_of ps)) ≡ Err r
parts_fail sc ps i p r left l is wrong =
    let told = rw (here ps i p l is, part_opened p) at left.told in
    told ∙ first_before _ _ r wrong

pub parts_over : (sc : Scope) (ps : List code_part.Part) (i : ℕ) → PartsLeft sc ps i → length ps ≤ i → first_of (sum_faults sc (terms_of ps)) ≡ Ok tt
parts_over sc ps i left l = rw (drop_of_length-le ps l) at left.told

-- ---- statements

pub record StmtsLeft (start sc : Scope) (ss : List code_stmt.Stmt) (i : ℕ) : Type 0 where
  pub left : IsLeft (λ s ts. stmts_faults s (stmts_of ts)) (λ ts. stmts_names 0 (stmts_of ts)) start sc ss i
  pub behind : scope_after_all start (stmts_of ss) ≡ scope_after_all sc (stmts_of (drop i ss))
