-- Programs that are equal without their lines have as many variables and actions, the same maxima, and keep the rules together.
use Rattle.std.proofs.Common.{◌≡◌, ℕ, List, [], ◌∷◌, length, map, refl, sym, ap, ◌∙◌}
use Rattle.std.proofs.lemmas.List.{length-map}
use Rattle.amoebot_state.specs.Limits.{most_vars}
use Rattle.action_tree.specs.Trees.{Var, Program}
use Rattle.action_tree.specs.Lines.{bare_var, bare_action, without_lines}
use Rattle.action_check.specs.Faults.{faults}
use Rattle.action_check.specs.Maxes.{first_or_zero, maxes_of}
use Rattle.action_check.proofs.Lineless.{rules_ignore_lines}

maxes_same : (vs : List Var) → map (λ v. v.max.value) (map bare_var vs) ≡ map (λ v. v.max.value) vs
maxes_same [] = refl
maxes_same (v ∷ vs) = ap (λ (ns : List ℕ). v.max.value ∷ ns) (maxes_same vs)

module _ (q p : Program) (same : without_lines q ≡ without_lines p) where
  pub still_faultless : faults p ≡ [] → faults q ≡ []
  still_faultless none = rules_ignore_lines p q (sym same) none

  pub as_many_vars : length q.vars ≡ length p.vars
  as_many_vars = sym (length-map q.vars bare_var) ∙ ap (λ (r : Program). length r.vars) same ∙ length-map p.vars bare_var

  pub as_many_actions : length q.actions ≡ length p.actions
  as_many_actions = sym (length-map q.actions bare_action) ∙ ap (λ (r : Program). length r.actions) same ∙ length-map p.actions bare_action

  pub same_maxes : maxes_of q ≡ maxes_of p
  same_maxes = ap (first_or_zero most_vars) (sym (maxes_same q.vars) ∙ ap (λ (r : Program). map (λ v. v.max.value) r.vars) same ∙ maxes_same p.vars)
