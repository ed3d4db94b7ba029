-- What a check that stops at the first fault answers, and what its scope stands for.
use Rattle.std.specs.Prelude.{◌≡◌, ℕ, List, [], ◌∷◌, map, Result, Ok, Err}
use Rattle.arrayvec.specs.ArrayString.{ArrayString}
use Rattle.text_tokens.specs.declared.refusal.Refusal.{Refusal}
use Rattle.text_tokens.specs.declared.refusal.ReadRefusal.{ReadRefusal}
use Rattle.text_tokens.specs.declared.refusal.ReadRefusal.TheVariants.{Refused, NoMemory}
use Rattle.action_check.specs.declared.scope.Scope as code
use Rattle.action_tree.specs.Scopes.{Scope}

-- it ends well where there is no fault, and else tells the first
abbrev pub first_of : List Refusal → Result (Unit {0}) Refusal
first_of [] = Ok tt
first_of (r ∷ rs) = Err r

abbrev pub texts : List ArrayString → List (List ℕ)
texts names = map (λ name. name.bytes) names

-- the names that a scope knows
abbrev pub known_scope : code.Scope → Scope
known_scope sc = record { vars = texts sc.vars.now.keys; bound = texts sc.bound.items }

-- why a program is refused: the first of these faults, or that there was no memory,
-- which says nothing
abbrev pub TellsFirst : List Refusal → ReadRefusal → Type 0
TellsFirst faults (Refused r) = first_of faults ≡ Err r
TellsFirst faults NoMemory = Unit {0}
