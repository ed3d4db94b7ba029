-- What names stand for where a part of a program is evaluated.
use Rattle.std.specs.Prelude.{ℕ, List, [], ◌∷◌, ◌++◌, if◌then◌else◌}
use Rattle.std.specs.List.{position_or_len}
use Rattle.std.specs.Str.{bytes_eq}
use Rattle.amoebot_state.specs.declared.bot.End.TheVariants.{Head}
use Rattle.amoebot_state.specs.declared.bot.Port.{Port}
use Rattle.amoebot_state.specs.Ports.{port}
use Rattle.action_tree.specs.Trees.{Name}

-- a name in force, and the port that it stands for
pub record Bound : Type 0 where
  pub text : List ℕ
  pub port : Port

-- the variables in the order of their declaration, and the names in force in the order of the text
pub record Names : Type 0 where
  pub vars : List (List ℕ)
  pub bound : List Bound

-- the number of a variable: how many were declared before it
abbrev pub var_number : Names → Name → ℕ
var_number xs v = position_or_len (λ x. bytes_eq x v.text) xs.vars

-- the port that a name in force stands for; a program that keeps the rules
-- on names asks for no other name
abbrev pub port_in : List Bound → List ℕ → Port
port_in [] text = port Head 0
port_in (b ∷ bs) text = if bytes_eq b.text text then b.port else port_in bs text

abbrev pub port_named : Names → Name → Port
port_named xs v = port_in xs.bound v.text

-- with one more name in force
abbrev pub bind : Names → Name → Port → Names
bind xs v p = record { vars = xs.vars; bound = xs.bound ++ record { text = v.text; port = p } ∷ [] }
