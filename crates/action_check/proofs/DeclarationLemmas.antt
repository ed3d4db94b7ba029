-- Loops over declarations that stop at the first fault.
use Rattle.std.proofs.Common.{◌≡◌, ◌<◌, ◌+◌, ℕ, true, List, [], ◌∷◌, ◌++◌, length, drop, get_or, map, ◌∙◌, ap, arith}
use Rattle.std.specs.Prelude.{Ok}
use Rattle.std.specs.List.{list_all}
use Rattle.text_tokens.specs.declared.refusal.Refusal.{Refusal}
use Rattle.text_tokens.specs.declared.refusal.ReadRefusal.{ReadRefusal}
use Rattle.text_tokens.specs.declared.refusal.ReadRefusal.TheVariants.{Refused, NoMemory}
use Rattle.action_tree.specs.declared.program.Var as code_var
use Rattle.action_tree.specs.declared.program.Action as code_action
use Rattle.action_tree.specs.Views.{name_of, var_of, action_of}
use Rattle.action_tree.specs.Writable.{action_names, is_action}
use Rattle.action_tree.proofs.Conditions.{left_of, right_of}
use Rattle.action_tree.specs.Scopes.{Scope, HasRoom}
use Rattle.action_check.specs.Faults.{declared_faults, action_faults, vars_faults, actions_faults}
use Rattle.action_tree.specs.Scopes.{names_of_vars}
use Rattle.action_check.specs.Told.{first_of, TellsFirst}
use Rattle.action_check.proofs.Firsts.{first_behind}
use Rattle.action_tree.proofs.Rooms.{few_names}
use Rattle.action_check.proofs.FaultLoops.{here}

-- before the variable at i, where all stand behind the first names, and this one behind the second
pub record VarsLeft (start : List (List ℕ)) (vs : List code_var.Var) (names : List (List ℕ)) (i : ℕ) : Type 0 where
  pub told : first_of (vars_faults start (map var_of vs)) ≡ first_of (vars_faults names (map var_of (drop i vs)))
  pub whole : names ++ names_of_vars (map var_of (drop i vs)) ≡ start ++ names_of_vars (map var_of vs)

-- before the action at i, where all stand behind the first names, and this one behind the second
pub record ActionsLeft (sc : Scope) (start : List (List ℕ)) (more : List code_action.Action) (names : List (List ℕ)) (i : ℕ) : Type 0 where
  pub told : first_of (actions_faults sc start (map action_of more)) ≡ first_of (actions_faults sc names (map action_of (drop i more)))
  pub formed : list_all is_action (map action_of (drop i more)) ≡ true

pub action_room : (sc : Scope) (start : List (List ℕ)) (more : List code_action.Action) (names : List (List ℕ)) (i : ℕ) (a : code_action.Action) → sc.bound ≡ [] → ActionsLeft sc start more names i → i < length more → a ≡ get_or more i a → HasRoom sc (action_names (action_of a))
action_room sc start more names i a none left l is =
    let formed = rw (here more i a l is) at left.formed in
    omega (arith, ap length none, few_names (action_of a) (left_of _ _ formed))

pub actions_next : (sc : Scope) (start : List (List ℕ)) (more : List code_action.Action) (names further : List (List ℕ)) (i : ℕ) (a : code_action.Action) → ActionsLeft sc start more names i → i < length more → a ≡ get_or more i a → first_of (declared_faults names (name_of a.name)) ≡ Ok tt → first_of (action_faults sc (action_of a)) ≡ Ok tt → further ≡ names ++ (a.name.text.bytes ∷ []) → ActionsLeft sc start more further (i + 1)
actions_next sc start more names further i a left l is new fine same =
    let told = rw (here more i a l is) at left.told in
    let formed = rw (here more i a l is) at left.formed in
    rw same (record { told = told ∙ (first_behind _ _ new ∙ first_behind _ _ fine); formed = right_of _ _ formed })

-- ---- the whole

pub tells_behind : (xs ys : List Refusal) (e : ReadRefusal) → first_of xs ≡ Ok tt → TellsFirst ys e → TellsFirst (xs ++ ys) e
tells_behind xs ys (Refused r) fine tells = first_behind xs ys fine ∙ tells
tells_behind xs ys NoMemory fine tells = tt
