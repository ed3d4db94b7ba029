-- The greatest values of the variables, filled in one by one.
use Rattle.std.proofs.Common.{◌≡◌, ◌<◌, ◌≤◌, ◌+◌, ℕ, zero, suc, List, [], ◌∷◌, length, get_or, take, set, map, add-one, true, refl, sym, ◌∙◌, ap, arith}
use Rattle.std.proofs.lemmas.Bool.{leb-true}
use Rattle.std.proofs.lemmas.List.{get_or-map, length-map, take_all}
use Rattle.amoebot_state.specs.Limits.{most_vars, most_value}
use Rattle.action_tree.specs.declared.program.Var as code
use Rattle.action_tree.specs.Trees.{Program}
use Rattle.action_tree.specs.Views.{var_of}
use Rattle.action_tree.specs.Writable.{is_writable}
use Rattle.action_tree.proofs.Conditions.{left_of}
use Rattle.action_check.specs.Rules.{ProgramKept}
use Rattle.action_check.specs.Maxes.{first_or_zero, maxes_of}

fill : (k i : ℕ) (ns : List ℕ) → i < length ns → i < k → set (first_or_zero k (take i ns)) i (get_or ns i 0) ≡ first_or_zero k (take (suc i) ns)
fill zero i ns l m = absurd (omega arith)
fill (suc k) i [] l m = absurd (omega arith)
fill (suc k) zero (n ∷ ns) l m = refl
fill (suc k) (suc i) (n ∷ ns) l m = ap (λ rest. n ∷ rest) (fill k i ns (omega arith) (omega arith))

pub filled : (k i : ℕ) (ns maxes : List ℕ) (n : ℕ) → maxes ≡ first_or_zero k (take i ns) → i < length ns → i < k → n ≡ get_or ns i 0 → set maxes i n ≡ first_or_zero k (take (i + 1) ns)
filled k i ns maxes n is l m same =
    let e = fill k i ns l m in
    rw add-one (cc)

pub few_vars : (p : Program) (vs : List code.Var) → is_writable p ≡ true → map var_of vs ≡ p.vars → length vs ≤ most_vars
few_vars p vs f e = omega (arith, leb-true (length p.vars) most_vars (left_of _ _ (left_of _ _ (left_of _ _ f))), ap length e, length-map vs var_of)

pub small_max : (p : Program) (vs : List code.Var) (i : ℕ) (v : code.Var) → ProgramKept p → map var_of vs ≡ p.vars → i < length vs → v ≡ get_or vs i v → v.max.value ≤ most_value
small_max p vs i v k e l is =
    let here : get_or p.vars i (var_of v) ≡ var_of v = ap (λ ws. get_or ws i (var_of v)) (sym e) ∙ get_or-map var_of vs i v (var_of v) l ∙ ap var_of (sym is) in
    let within = k.maxes i (var_of v) (omega (arith, ap length e, length-map vs var_of)) in
    omega (arith, ap (λ w. w.max.value) here)

same_maxes : (vs : List code.Var) → map (λ w. w.max.value) (map var_of vs) ≡ map (λ v. v.max.value) vs
same_maxes [] = refl
same_maxes (v ∷ vs) = ap (λ rest. v.max.value ∷ rest) (same_maxes vs)

pub all_filled : (p : Program) (vs : List code.Var) (i : ℕ) (maxes : List ℕ) → map var_of vs ≡ p.vars → maxes ≡ first_or_zero most_vars (take i (map (λ v. v.max.value) vs)) → length vs ≤ i → maxes ≡ maxes_of p
all_filled p vs i maxes e is l =
    let whole : take i (map (λ v. v.max.value) vs) ≡ map (λ v. v.max.value) vs = take_all i _ (omega (arith, length-map vs (λ v. v.max.value))) in
    is ∙ ap (first_or_zero most_vars) (whole ∙ sym (same_maxes vs) ∙ ap (map (λ w. w.max.value)) e)
