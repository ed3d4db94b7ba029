-- Whether two configurations are equal.
use Rattle.std.proofs.Common.{◌≡◌, ◌⊎◌, List, [], ◌∷◌, Bool, true, false, Option, Some, None, inl, inr, ap, refl}
use Rattle.std.specs.Prelude.{Decides}
use Rattle.std.proofs.lemmas.Bool.{cases_eq, false≢true}
use Rattle.std.proofs.lemmas.Bool.Decides.{Decides-int_eq}
use Rattle.tri_lattice.specs.Extent.{Extent}
use Rattle.amoebot_state.specs.declared.bot.Bot.{Bot}
use Rattle.amoebot_state.specs.Configs.{Config}
use Rattle.amoebot_state.proofs.Values.{fields_decide, chirs_decide}

-- what a test decides
by_test : (P : Type 0) (b : Bool) → Decides b P → P ⊎ ¬ P
by_test P true decides = inl (decides.0 refl)
by_test P false decides = inr (λ p. false≢true (decides.1 p))

module _ {A : Type 0} (equal : (a b : A) → (a ≡ b) ⊎ ¬ (a ≡ b)) where
  lists_equal : (xs ys : List A) → (xs ≡ ys) ⊎ ¬ (xs ≡ ys)
  lists_equal [] [] = inl refl
  lists_equal [] (y ∷ ys) = inr (λ e. cc)
  lists_equal (x ∷ xs) [] = inr (λ e. cc)
  lists_equal (x ∷ xs) (y ∷ ys) = elim (equal x y) [
    | inr other ↦ inr (λ e. let first : x ≡ y = cc in other first)
    | inl one ↦ elim (lists_equal xs ys) [
      | inr other ↦ inr (λ e. let rest : xs ≡ ys = cc in other rest)
      | inl rest ↦ inl (λ i. one i ∷ rest i)
    ]
  ]

  options_equal : (o q : Option A) → (o ≡ q) ⊎ ¬ (o ≡ q)
  options_equal None None = inl refl
  options_equal None (Some b) = inr (λ e. cc)
  options_equal (Some a) None = inr (λ e. cc)
  options_equal (Some a) (Some b) = elim (equal a b) [
    | inl one ↦ inl (ap Some one)
    | inr other ↦ inr (λ e. let same : a ≡ b = cc in other same)
  ]

bots_equal : (a b : Bot) → (a ≡ b) ⊎ ¬ (a ≡ b)
bots_equal a b = by_test (a ≡ b) _ (fields_decide a b _ (chirs_decide a.chir b.chir))

extents_equal : (a b : Extent) → (a ≡ b) ⊎ ¬ (a ≡ b)
extents_equal a b = elim (by_test (a.x0 ≡ b.x0) _ (Decides-int_eq a.x0 b.x0)) [
  | inr other ↦ inr (λ e. other (ap (λ (x : Extent). x.x0) e))
  | inl left ↦ elim (by_test (a.y0 ≡ b.y0) _ (Decides-int_eq a.y0 b.y0)) [
    | inr other ↦ inr (λ e. other (ap (λ (x : Extent). x.y0) e))
    | inl low ↦ elim (cases_eq a.w b.w) [
      | inr other ↦ inr (λ e. other (ap (λ (x : Extent). x.w) e))
      | inl wide ↦ elim (cases_eq a.h b.h) [
        | inr other ↦ inr (λ e. other (ap (λ (x : Extent). x.h) e))
        | inl high ↦ inl (λ i. record { x0 = left i; y0 = low i; w = wide i; h = high i })
      ]
    ]
  ]
]

pub configs_equal : (c d : Config) → (c ≡ d) ⊎ ¬ (c ≡ d)
configs_equal c d = elim (extents_equal c.area d.area) [
  | inr other ↦ inr (λ e. other (ap (λ (x : Config). x.area) e))
  | inl area ↦ elim (lists_equal cases_eq c.walls d.walls) [
    | inr other ↦ inr (λ e. other (ap (λ (x : Config). x.walls) e))
    | inl walls ↦ elim (lists_equal cases_eq c.maxes d.maxes) [
      | inr other ↦ inr (λ e. other (ap (λ (x : Config). x.maxes) e))
      | inl maxes ↦ elim (lists_equal (options_equal bots_equal) c.bots d.bots) [
        | inr other ↦ inr (λ e. other (ap (λ (x : Config). x.bots) e))
        | inl bots ↦ inl (λ i. record { area = area i; walls = walls i; maxes = maxes i; bots = bots i })
      ]
    ]
  ]
]
