-- Readers of lists, as the loops of the code read them: a first element, and those behind the separators.
use Rattle.std.specs.Prelude.{ℕ, List, [], ◌∷◌}
use Rattle.text_tokens.specs.Reading.{Reader, ◌>>=◌, pure, repeated, behind_sign, less}
use Rattle.action_tree.specs.Trees.{Guard, Part, Stmt, atom, always}
use Rattle.action_tree.specs.Trees as tree
use Rattle.action_tree.specs.Productions.{all_of, any_of, names_left_after}
use Rattle.action_tree.specs.Limits.{most_further}
use Rattle.action_tree.specs.declared.role.Role.TheVariants.{AndWord, OrWord, SemicolonSign}
use Rattle.action_tree.specs.Roles.{is_a, is_plus_or_minus}
use Rattle.action_tree.specs.ExpressionReaders.{inside, a_unit, unit_in, a_conj, conj_in, a_term, a_minus, part, part_in}
use Rattle.action_tree.specs.StatementReaders.{Room, scope_behind, a_stmt, stmt_in, stmts_inside}

-- where so many more may come
abbrev pub more_units : ℕ → ℕ → ℕ → Reader (List Guard)
more_units n left room =
    repeated (is_a AndWord) (λ room. behind_sign (is_a AndWord) (unit_in n left (inside n)) room)
    (λ room g. less room) room

abbrev pub more_conjs : ℕ → ℕ → ℕ → Reader (List Guard)
more_conjs n left room =
    repeated (is_a OrWord) (λ room. behind_sign (is_a OrWord) (conj_in n left (inside n)) room)
    (λ room g. less room) room

abbrev pub more_parts : ℕ → ℕ → ℕ → Reader (List Part)
more_parts n left room =
    repeated is_plus_or_minus (λ room. behind_sign is_plus_or_minus (part_in n left (inside n)) room)
    (λ room p. less room) room

abbrev pub more_stmts : ℕ → Room → Reader (List Stmt)
more_stmts n s = repeated (is_a SemicolonSign) (λ s. behind_sign (is_a SemicolonSign) (stmt_in n (stmts_inside n)) s) scope_behind s

abbrev pub with_first : {A : Type 0} → A → Reader (List A) → Reader (List A)
with_first a more = more >>= λ rest. pure (a ∷ rest)

abbrev pub all_units : ℕ → ℕ → Reader (List Guard)
all_units n left = a_unit n left (inside n) >>= λ g. with_first g (more_units n left most_further)

abbrev pub all_conjs : ℕ → ℕ → Reader (List Guard)
all_conjs n left = a_conj n left (inside n) >>= λ g. with_first g (more_conjs n left most_further)

abbrev pub all_parts : ℕ → ℕ → Reader (List Part)
all_parts n left =
    a_minus >>= λ minus. a_term n left (inside n) >>= λ t. with_first (part minus t) (more_parts n left most_further)

abbrev pub all_listed : ℕ → ℕ → Reader (List Stmt)
all_listed n left =
    a_stmt n left (stmts_inside n) >>= λ s.
    with_first s (more_stmts n (record { room = most_further; left = names_left_after left s }))

-- one alone is itself
abbrev pub all_in : List Guard → Guard
all_in [] = atom always
all_in (g ∷ gs) = all_of g (tree.guards gs)

abbrev pub any_in : List Guard → Guard
any_in [] = atom always
any_in (g ∷ gs) = any_of g (tree.guards gs)
