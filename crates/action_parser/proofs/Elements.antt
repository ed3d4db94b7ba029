-- What stands behind the separators of lists, for the loops that read it.
use Rattle.std.proofs.Common.{ℕ, false, refl}
use Rattle.text_tokens.specs.Reading.{less, behind_sign, no_limit, limited}
use Rattle.text_tokens.specs.Grammar.{BehindSign, Limited}
use Rattle.text_tokens.specs.Lawful.{AreElements, always}
use Rattle.text_tokens.proofs.RepeatedLemmas.{behind_elements, at_most_elements}
use Rattle.action_tree.specs.Trees.{guards, term_then, terms, stmt_then, stmts}
use Rattle.action_tree.specs.Productions.{all_of, any_of, names_left_after}
use Rattle.action_tree.specs.Limits.{most_further, most_levels, most_names}
use Rattle.action_tree.specs.declared.role.Role.TheVariants.{AndWord, OrWord, SemicolonSign, VarWord, ActionWord, LastWord}
use Rattle.action_tree.specs.Roles.{role, is_a, is_plus_or_minus}
use Rattle.action_tree.specs.Expressions.{IsUnit, IsConj, IsTerm}
use Rattle.action_tree.specs.ExpressionReaders.{a_unit, unit_in, a_conj, conj_in, a_term, part_in, inside}
use Rattle.action_tree.specs.Statements.{IsStmt}
use Rattle.action_tree.specs.StatementReaders.{scope_behind, a_stmt, stmt_in, stmts_inside}
use Rattle.action_tree.specs.Programs.{IsVar, IsAction}
use Rattle.action_tree.specs.ProgramReaders.{a_var, an_action}
use Rattle.action_tree.proofs.ProgramLaws.{stops_action, action_var, last_no_action, part_var, starts_var, part_action, starts_action}
use Rattle.action_tree.proofs.StatementRoles.{StmtIn}
use Rattle.action_tree.proofs.StatementLaws.{stops_stmts, stmts_chained, part_stmts_inside}
use Rattle.action_tree.proofs.RolesLemmas.{other_role, ends, ends_at, stops_term, stops_sum, stops_conj, stops_expr}
use Rattle.action_tree.proofs.ExpressionRoles.{UnitIn, ConjIn, PartIn}
use Rattle.action_tree.proofs.ExpressionLaws.{parts_inside, terms_chained, units_chained, conjs_chained}

pub unit_elements : (n left : ℕ) → AreElements (λ s. BehindSign (is_a AndWord) (UnitIn n left) s) (λ s. behind_sign (is_a AndWord) (unit_in n left (inside n)) s) (is_a AndWord) (ends stops_sum) (ends stops_conj)
unit_elements n left = behind_elements (IsUnit n left) (a_unit n left (inside n)) (is_a AndWord) (UnitIn n left) (unit_in n left (inside n)) (ends stops_sum) (ends stops_conj) (units_chained n left (inside n) (parts_inside n))
    (λ room g. less room) (λ g. most_further) (λ g gs. all_of g (guards gs))

pub conj_elements : (n left : ℕ) → AreElements (λ s. BehindSign (is_a OrWord) (ConjIn n left) s) (λ s. behind_sign (is_a OrWord) (conj_in n left (inside n)) s) (is_a OrWord) (ends stops_conj) (ends stops_expr)
conj_elements n left = behind_elements (IsConj n left) (a_conj n left (inside n)) (is_a OrWord) (ConjIn n left) (conj_in n left (inside n)) (ends stops_conj) (ends stops_expr) (conjs_chained n left (inside n) (parts_inside n))
    (λ room g. less room) (λ g. most_further) (λ g gs. any_of g (guards gs))

pub part_elements : (n left : ℕ) → AreElements (λ s. BehindSign is_plus_or_minus (PartIn n left) s) (λ s. behind_sign is_plus_or_minus (part_in n left (inside n)) s) is_plus_or_minus (ends stops_term) (ends stops_sum)
part_elements n left = behind_elements (IsTerm n left) (a_term n left (inside n)) is_plus_or_minus (PartIn n left) (part_in n left (inside n)) (ends stops_term) (ends stops_sum) (terms_chained n left (inside n) (parts_inside n))
    (λ room p. less room) (λ t. most_further) (λ t ps. term_then false t (terms ps))

pub stmt_elements : (n left : ℕ) → AreElements (λ s. BehindSign (is_a SemicolonSign) (StmtIn n) s) (λ s. behind_sign (is_a SemicolonSign) (stmt_in n (stmts_inside n)) s) (is_a SemicolonSign) (ends stops_sum) (ends stops_stmts)
stmt_elements n left = behind_elements (IsStmt n left) (a_stmt n left (stmts_inside n)) (is_a SemicolonSign) (StmtIn n) (stmt_in n (stmts_inside n)) (ends stops_sum) (ends stops_stmts) (stmts_chained n (stmts_inside n) (part_stmts_inside n) left)
    scope_behind (λ s. record { room = most_further; left = names_left_after left s }) (λ s ss. stmt_then s (stmts ss))

pub var_elements : AreElements (λ room. Limited IsVar room) (λ room. limited (is_a VarWord) no_limit room a_var) (is_a VarWord) always (ends stops_action)
var_elements = at_most_elements IsVar a_var (is_a VarWord) no_limit always (ends stops_action) starts_var part_var (λ t e. refl) (λ t e. refl) (λ t e. action_var (role t) e)

pub action_elements : AreElements (λ room. Limited (IsAction most_levels most_names) room) (λ room. limited (is_a ActionWord) no_limit room (an_action most_levels most_names)) (is_a ActionWord) (ends stops_action) (is_a LastWord)
action_elements = at_most_elements (IsAction most_levels most_names) (an_action most_levels most_names) (is_a ActionWord) no_limit (ends stops_action) (is_a LastWord) (starts_action most_levels most_names) (part_action most_levels most_names)
    (ends_at stops_action ActionWord refl) (ends_at stops_action LastWord refl) (λ t e. other_role LastWord ActionWord t last_no_action e)
