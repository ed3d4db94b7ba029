-- Empty lists of faults, and what they say of one name or number.
use Rattle.std.proofs.Common.{◌≡◌, ◌<◌, ℕ, Bool, true, false, if◌then◌else◌, List, [], ◌∷◌, ◌++◌, length, refl}
use Rattle.std.specs.List.{Contains}
use Rattle.std.proofs.lemmas.Bool.{leb-true, le-leb, false_from_ne_true, or_parts, or_from}
use Rattle.std.proofs.lemmas.Cmp.{nat_list_eq_equiv}
use Rattle.std.proofs.lemmas.Slice.Eq.{bytes_eq-Decides}
use Rattle.std.proofs.lemmas.Map.Views.{list_any-from_Contains, Contains-from_any}
use Rattle.action_tree.specs.Trees.{Name, Literal}
use Rattle.text_tokens.specs.declared.refusal.RefusalKind.TheVariants.{UnknownName, TwiceNamed, WrongType, BadRange}
use Rattle.action_tree.specs.Limits.{most_names}
use Rattle.action_tree.specs.Scopes.{Scope, is_among}
use Rattle.action_check.specs.Faults.{blamed, var_faults, bound_faults, binding_faults, declared_faults, range_faults}
use Rattle.action_check.specs.Rules.{IsVariable, IsInForce, IsNew, IsAtMost}

pub left_empty : {A : Type 0} (xs ys : List A) → xs ++ ys ≡ [] → xs ≡ []
left_empty [] ys e = refl
left_empty (x ∷ xs) ys e = absurd cc

pub both_empty : {A : Type 0} (xs ys : List A) → xs ≡ [] → ys ≡ [] → xs ++ ys ≡ []
both_empty [] ys e f = f
both_empty (x ∷ xs) ys e f = absurd cc

pub known : (names : List (List ℕ)) (v : Name) → is_among names v ≡ true → Contains names v.text
known names v e = Contains-from_any (λ x y same. (bytes_eq-Decides x y).0 same) v.text names e

pub among : (names : List (List ℕ)) (v : Name) → Contains names v.text → is_among names v ≡ true
among names v c = list_any-from_Contains nat_list_eq_equiv v.text names c

pub unknown : (names : List (List ℕ)) (v : Name) → is_among names v ≡ false → ¬ Contains names v.text
unknown names v e c = let f = among names v c in absurd cc

pub not_among : (names : List (List ℕ)) (v : Name) → ¬ Contains names v.text → is_among names v ≡ false
not_among names v n = false_from_ne_true _ (λ e. n (known names v e))

-- ---- one name, and one number

var_known : (is other : Bool) (line : ℕ) → (if is then [] else if other then blamed WrongType line else blamed UnknownName line) ≡ [] → is ≡ true
var_known true other line e = refl
var_known false true line e = absurd cc
var_known false false line e = absurd cc

known_fine : (is other : Bool) (line : ℕ) → is ≡ true → (if is then [] else if other then blamed WrongType line else blamed UnknownName line) ≡ []
known_fine true other line e = refl
known_fine false other line e = absurd cc

twice_not : (twice : Bool) (line : ℕ) → (if twice then blamed TwiceNamed line else []) ≡ [] → twice ≡ false
twice_not true line e = absurd cc
twice_not false line e = refl

not_twice : (twice : Bool) (line : ℕ) → twice ≡ false → (if twice then blamed TwiceNamed line else []) ≡ []
not_twice true line e = absurd cc
not_twice false line e = refl

in_range : (is : Bool) (line : ℕ) → (if is then [] else blamed BadRange line) ≡ [] → is ≡ true
in_range true line e = refl
in_range false line e = absurd cc

range_fine : (is : Bool) (line : ℕ) → is ≡ true → (if is then [] else blamed BadRange line) ≡ []
range_fine true line e = refl
range_fine false line e = absurd cc

pub is_var : (sc : Scope) (v : Name) → var_faults sc v ≡ [] → IsVariable sc v
is_var sc v e = known sc.vars v (var_known _ (is_among sc.bound v) v.line e)

pub var_is_fine : (sc : Scope) (v : Name) → IsVariable sc v → var_faults sc v ≡ []
var_is_fine sc v c = known_fine _ (is_among sc.bound v) v.line (among sc.vars v c)

pub is_in_force : (sc : Scope) (v : Name) → bound_faults sc v ≡ [] → IsInForce sc v
is_in_force sc v e = known sc.bound v (var_known _ (is_among sc.vars v) v.line e)

pub bound_is_fine : (sc : Scope) (v : Name) → IsInForce sc v → bound_faults sc v ≡ []
bound_is_fine sc v c = known_fine _ (is_among sc.vars v) v.line (among sc.bound v c)

pub is_new : (sc : Scope) (v : Name) → length sc.bound < most_names → binding_faults sc v ≡ [] → IsNew sc v
is_new sc v room e =
    let n = or_parts (is_among sc.vars v) (is_among sc.bound v) (twice_not _ v.line e) in
    record { no_var = unknown sc.vars v n.0; not_bound = unknown sc.bound v n.1; room = room }

pub new_is_fine : (sc : Scope) (v : Name) → IsNew sc v → binding_faults sc v ≡ []
new_is_fine sc v n = not_twice _ v.line (or_from _ _ (not_among sc.vars v n.no_var) (not_among sc.bound v n.not_bound))

pub is_fresh : (earlier : List (List ℕ)) (v : Name) → declared_faults earlier v ≡ [] → ¬ Contains earlier v.text
is_fresh earlier v e = unknown earlier v (twice_not _ v.line e)

pub fresh_is_fine : (earlier : List (List ℕ)) (v : Name) → ¬ Contains earlier v.text → declared_faults earlier v ≡ []
fresh_is_fine earlier v n = not_twice _ v.line (not_among earlier v n)

pub is_within : (most : ℕ) (n : Literal) → range_faults most n ≡ [] → IsAtMost most n
is_within most n e = leb-true n.value most (in_range _ n.line e)

pub within_is_fine : (most : ℕ) (n : Literal) → IsAtMost most n → range_faults most n ≡ []
within_is_fine most n l = range_fine _ n.line (le-leb n.value most l)
