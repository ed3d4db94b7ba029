-- A program is `erosion`, or it is not.
use Rattle.std.proofs.Common.{◌≡◌, ◌≢◌, ◌⊎◌, ap, refl, inl, inr}
use Rattle.std.proofs.lemmas.Bool.{cases_eq}
use base.Stored.{Gv, gnil, gnum, gcons}
use Rattle.action_tree.specs.Trees.{Program}
use Rattle.action_tree.specs.Shipped.{erosion}
use Rattle.action_tree.specs.Stored.{program_code}
use Rattle.election_law.specs.Unguarded.{bare_unguarded}
use Rattle.election_law.specs.Laws.{ErosionOrNot}

-- two codes are the same, or they are not
gv_or_not : (x y : Gv) → (x ≡ y) ⊎ (x ≢ y)
gv_or_not gnil gnil = inl refl
gv_or_not gnil (gnum n) = inr (λ e. cc)
gv_or_not gnil (gcons y ys) = inr (λ e. cc)
gv_or_not (gnum m) gnil = inr (λ e. cc)
gv_or_not (gnum m) (gnum n) = elim (cases_eq m n) [ inl e ↦ inl (ap gnum e) | inr ne ↦ inr (λ e. let same : m ≡ n = cc in ne same) ]
gv_or_not (gnum m) (gcons y ys) = inr (λ e. cc)
gv_or_not (gcons x xs) gnil = inr (λ e. cc)
gv_or_not (gcons x xs) (gnum n) = inr (λ e. cc)
gv_or_not (gcons x xs) (gcons y ys) = elim (gv_or_not x y) [
  | inr ne ↦ inr (λ e. let same : x ≡ y = cc in ne same)
  | inl first ↦ elim (gv_or_not xs ys) [
    | inr ne ↦ inr (λ e. let same : xs ≡ ys = cc in ne same)
    | inl rest ↦ inl (λ i. gcons (first i) (rest i))
  ]
]

pub trees_or_not : (p q : Program) → (p ≡ q) ⊎ (p ≢ q)
trees_or_not p q = elim (gv_or_not (program_code.code p) (program_code.code q)) [
  | inl e ↦ inl (program_code.inj p q e)
  | inr ne ↦ inr (λ e. ne (ap program_code.code e))
]

pub erosion_or_not : ErosionOrNot
erosion_or_not p = trees_or_not (bare_unguarded p) erosion
