-- Which names are known where a part of a program stands.
use Rattle.std.specs.Prelude.{ℕ, ◌+◌, ◌≤◌, Bool, List, [], ◌∷◌, ◌++◌, map, length}
use Rattle.std.specs.List.{list_any}
use Rattle.std.specs.Str.{bytes_eq}
use Rattle.action_tree.specs.Limits.{most_names}
use Rattle.action_tree.specs.Trees.{Name, Stmt, let_be, Stmts, no_stmts, stmt_then, Var, Program}

-- the variables of the program, and the names in force, which stand for ports,
-- each in the order of the text
pub record Scope : Type 0 where
  pub vars : List (List ℕ)
  pub bound : List (List ℕ)

abbrev pub is_among : List (List ℕ) → Name → Bool
is_among known v = list_any (bytes_eq v.text) known

-- the names known behind the binding of one more, in its parenthesis or its statements
abbrev pub scope_with : Scope → Name → Scope
scope_with sc v = record { vars = sc.vars; bound = sc.bound ++ v.text ∷ [] }

-- so many more names may be in force
abbrev pub HasRoom : Scope → ℕ → Type 0
HasRoom sc more = length sc.bound + more ≤ most_names

-- the names known behind a statement of a list, and behind all of them:
-- a `let` binds its name from there on
abbrev pub scope_after : Scope → Stmt → Scope
scope_after sc (let_be v p) = scope_with sc v
scope_after sc _ = sc

abbrev pub scope_after_all : Scope → Stmts → Scope
scope_after_all sc no_stmts = sc
scope_after_all sc (stmt_then s ss) = scope_after_all (scope_after sc s) ss

-- ---- at the beginning of each action: no name is in force

abbrev pub names_of_vars : List Var → List (List ℕ)
names_of_vars vs = map (λ v. v.name.text) vs

abbrev pub at_start : Program → Scope
at_start p = record { vars = names_of_vars p.vars; bound = [] }

-- variables with these names, and no bound name
abbrev pub scope_of_names : List (List ℕ) → Scope
scope_of_names names = record { vars = names; bound = [] }
