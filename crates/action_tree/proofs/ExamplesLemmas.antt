-- What the reader answers, computed.
use Rattle.std.proofs.Common.{◌≡◌, ℕ, Bool, true, false, List, [], ◌∷◌, map, Option, Some, None, Ok, Err, refl, ap, subst}
use Rattle.std.specs.Prelude.{codes}
use Rattle.std.specs.List.{list_all}
use Rattle.text_tokens.specs.Text.{Lexeme}
use Rattle.action_tree.proofs.Conditions.{left_of, right_of}
use Rattle.text_tokens.specs.declared.refusal.RefusalKind.{RefusalKind}
use Rattle.text_tokens.specs.Cursor.{same_kind}
use Rattle.text_tokens.specs.Scan as scan
use Rattle.text_tokens.specs.Reading.{Answer, Reader, first, one_within, either, by_role, limited, elements, repeated}
use Rattle.text_tokens.specs.Grammar.{Lang}
use Rattle.text_tokens.specs.Lawful.{Exact, Tells, IsText}
use Rattle.action_tree.specs.Lines.{bare_guard, without_lines}
use Rattle.action_tree.specs.Shipped.{line, erosion, every_form}
use Rattle.action_tree.specs.Roles.{role, same_role}
use Rattle.action_tree.specs.Programs.{IsProgram}
use Rattle.action_tree.specs.ExpressionReaders.{a_selection, a_port, a_term, a_minus, a_sum, a_unit, a_conj, an_expr, inside, expr_at}
use Rattle.action_tree.specs.StatementReaders.{an_if, a_for, a_stmt, all_stmts, stmts_inside, stmts_at}
use Rattle.action_tree.specs.ProgramReaders.{a_move, an_action, a_var, a_guarded, a_program}
use Rattle.action_tree.specs.Examples.{front_of, IsRead, IsRefusedText, line_source, erosion_text, every_form_text, ExamplesAreRead, TreesAreRead, Wrong, AreRefused, wrong_programs, wrong_statements, wrong_expressions, FaultsAreFound, Limit, AreKept, expression_levels, statement_levels, expression_names, statement_names, element_counts, past_elements, statement_counts, program_counts, LimitsAreKept}
use Rattle.action_tree.proofs.ExpressionLaws.{exact_expr}
use Rattle.action_tree.proofs.StatementLaws.{exact_stmts}
use Rattle.action_tree.proofs.ProgramLaws.{exact_program}
use Rattle.action_tree.specs.Expressions.{IsExpr}
use Rattle.action_tree.specs.Statements.{IsStmts}

module _ {A : Type 0} (P : Lang A) (p : Reader A) (exact : Exact P p) (text : List ℕ) where
  tells_so : (r : Answer A) → p (front_of text).last (front_of text).ahead ≡ r → Tells P (front_of text).last (front_of text).ahead r
  tells_so r e = subst (λ (s : Answer A). Tells P (front_of text).last (front_of text).ahead s) e (exact.tells (front_of text).last (front_of text).ahead)

  -- what is read, without its lines: this keeps the term of an answer short, and computes it once
  abbrev bared : (A → A) → Answer A → Answer A
  bared bare (Ok r) = Ok (bare r.0, r.1)
  bared bare (Err e) = Err e

  pub read_as : (bare : A → A) (a : A) (r : Answer A) → p (front_of text).last (front_of text).ahead ≡ r → bared bare r ≡ Ok (a, []) → IsRead P bare text a
  read_as bare a (Ok r) e f =
      let both : (bare r.0, r.1) ≡ (a, []) = cc in
      let over : r.1 ≡ [] = ap (λ (x : A × List Lexeme). x.1) both in
      let same : bare r.0 ≡ a = ap (λ (x : A × List Lexeme). x.0) both in
      (r.0, subst (λ (ts : List Lexeme). IsText P (front_of text).ahead r.0 ts) over (tells_so (Ok r) e), same)
  read_as bare a (Err k) e f = absurd cc

  pub is_refused : (number : ℕ) (kind : RefusalKind) → p (front_of text).last (front_of text).ahead ≡ Err (record { line = number; kind = kind }) → IsRefusedText P text number kind
  is_refused number kind e = tells_so (Err (record { line = number; kind = kind })) e

abbrev is_none : Option Lexeme → Bool
is_none None = true
is_none (Some t) = false

no_first : (ts : List Lexeme) → is_none (first ts) ≡ true → ts ≡ []
no_first [] e = refl
no_first (t ∷ ts) e = absurd cc

module _ {A : Type 0} (P : Lang A) (p : Reader A) (exact : Exact P p) where
  abbrev answer_of : Wrong → Answer A
  answer_of w = p (front_of w.text).last (front_of w.text).ahead

  abbrev fault_of : Wrong → Answer A
  fault_of w = Err (record { line = w.number; kind = w.kind })

  pub are_refused : (ws : List Wrong) → map answer_of ws ≡ map fault_of ws → AreRefused P ws
  are_refused [] e = tt
  are_refused (w ∷ ws) e =
      let first : answer_of w ≡ fault_of w = cc in
      let more : map answer_of ws ≡ map fault_of ws = cc in (is_refused P p exact w.text w.number w.kind first, are_refused ws more)

  -- what an answer is, without what was read
  abbrev is_whole : Answer A → Bool
  is_whole (Ok r) = is_none (first r.1)
  is_whole (Err r) = false

  abbrev kept_of : Limit → Bool
  kept_of l = is_whole (p (front_of l.kept).last (front_of l.kept).ahead)

  whole_by : (text : List ℕ) (r : Answer A) → p (front_of text).last (front_of text).ahead ≡ r → is_whole r ≡ true → (a : A) × IsText P (front_of text).ahead a []
  whole_by text (Ok r) e f = (r.0, subst (λ (ts : List Lexeme). IsText P (front_of text).ahead r.0 ts) (no_first r.1 f) (tells_so P p exact text (Ok r) e))
  whole_by text (Err r) e f = absurd cc

  pub are_kept : (ls : List Limit) → list_all kept_of ls ≡ true → map (λ l. answer_of l.passed) ls ≡ map (λ l. fault_of l.passed) ls → AreKept P ls
  are_kept [] k e = tt
  are_kept (l ∷ ls) k e =
      let first : answer_of l.passed ≡ fault_of l.passed = cc in
      let more : map (λ l. answer_of l.passed) ls ≡ map (λ l. fault_of l.passed) ls = cc in
      (whole_by l.kept _ refl (left_of _ _ k), is_refused P p exact l.passed.text l.passed.number l.passed.kind first, are_kept ls (right_of _ _ k) more)

line_is_read : IsRead IsProgram without_lines line_source line
unfolding same_kind same_role role scan.skip scan.ready scan.sign_len scan.front scan.scan scan.scan_end scan.ahead_of scan.last_of one_within either by_role limited elements repeated a_selection a_port a_term a_minus a_sum a_unit a_conj an_expr inside an_if a_for a_stmt all_stmts stmts_inside a_move an_action a_var a_guarded a_program
line_is_read = read_as IsProgram a_program exact_program line_source without_lines line _ refl refl

erosion_is_read : IsRead IsProgram without_lines erosion_text erosion
unfolding same_kind same_role role scan.skip scan.ready scan.sign_len scan.front scan.scan scan.scan_end scan.ahead_of scan.last_of one_within either by_role limited elements repeated a_selection a_port a_term a_minus a_sum a_unit a_conj an_expr inside an_if a_for a_stmt all_stmts stmts_inside a_move an_action a_var a_guarded a_program
erosion_is_read = read_as IsProgram a_program exact_program erosion_text without_lines erosion _ refl refl

every_form_is_read : IsRead IsProgram without_lines every_form_text every_form
unfolding same_kind same_role role scan.skip scan.ready scan.sign_len scan.front scan.scan scan.scan_end scan.ahead_of scan.last_of one_within either by_role limited elements repeated a_selection a_port a_term a_minus a_sum a_unit a_conj an_expr inside an_if a_for a_stmt all_stmts stmts_inside a_move an_action a_var a_guarded a_program
every_form_is_read = read_as IsProgram a_program exact_program every_form_text without_lines every_form _ refl refl

programs_refused : AreRefused IsProgram wrong_programs
unfolding same_kind same_role role scan.skip scan.ready scan.sign_len scan.front scan.scan scan.scan_end scan.ahead_of scan.last_of one_within either by_role limited elements repeated a_selection a_port a_term a_minus a_sum a_unit a_conj an_expr inside an_if a_for a_stmt all_stmts stmts_inside a_move an_action a_var a_guarded a_program
programs_refused = are_refused IsProgram a_program exact_program wrong_programs refl

statements_refused : AreRefused (IsStmts 2 2) wrong_statements
unfolding same_kind same_role role scan.skip scan.ready scan.sign_len scan.front scan.scan scan.scan_end scan.ahead_of scan.last_of one_within either by_role limited elements repeated a_selection a_port a_term a_minus a_sum a_unit a_conj an_expr inside an_if a_for a_stmt all_stmts stmts_inside a_move an_action a_var a_guarded a_program
statements_refused = are_refused (IsStmts 2 2) (stmts_at 2 2) (exact_stmts 2 2) wrong_statements refl

expressions_refused : AreRefused (IsExpr 2 2) wrong_expressions
unfolding same_kind same_role role scan.skip scan.ready scan.sign_len scan.front scan.scan scan.scan_end scan.ahead_of scan.last_of one_within either by_role limited elements repeated a_selection a_port a_term a_minus a_sum a_unit a_conj an_expr inside an_if a_for a_stmt all_stmts stmts_inside a_move an_action a_var a_guarded a_program
expressions_refused = are_refused (IsExpr 2 2) (expr_at 2 2) (exact_expr 2 2) wrong_expressions refl

pub faults_are_found : FaultsAreFound
faults_are_found = record { programs = programs_refused; statements = statements_refused; expressions = expressions_refused }

levels_kept : AreKept (IsExpr 2 2) expression_levels
unfolding same_kind same_role role scan.skip scan.ready scan.sign_len scan.front scan.scan scan.scan_end scan.ahead_of scan.last_of one_within either by_role limited elements repeated a_selection a_port a_term a_minus a_sum a_unit a_conj an_expr inside an_if a_for a_stmt all_stmts stmts_inside a_move an_action a_var a_guarded a_program
levels_kept = are_kept (IsExpr 2 2) (expr_at 2 2) (exact_expr 2 2) expression_levels refl refl

deeper_kept : AreKept (IsStmts 2 2) statement_levels
unfolding same_kind same_role role scan.skip scan.ready scan.sign_len scan.front scan.scan scan.scan_end scan.ahead_of scan.last_of one_within either by_role limited elements repeated a_selection a_port a_term a_minus a_sum a_unit a_conj an_expr inside an_if a_for a_stmt all_stmts stmts_inside a_move an_action a_var a_guarded a_program
deeper_kept = are_kept (IsStmts 2 2) (stmts_at 2 2) (exact_stmts 2 2) statement_levels refl refl

names_kept : AreKept (IsExpr 3 2) expression_names
unfolding same_kind same_role role scan.skip scan.ready scan.sign_len scan.front scan.scan scan.scan_end scan.ahead_of scan.last_of one_within either by_role limited elements repeated a_selection a_port a_term a_minus a_sum a_unit a_conj an_expr inside an_if a_for a_stmt all_stmts stmts_inside a_move an_action a_var a_guarded a_program
names_kept = are_kept (IsExpr 3 2) (expr_at 3 2) (exact_expr 3 2) expression_names refl refl

bindings_kept : AreKept (IsStmts 4 2) statement_names
unfolding same_kind same_role role scan.skip scan.ready scan.sign_len scan.front scan.scan scan.scan_end scan.ahead_of scan.last_of one_within either by_role limited elements repeated a_selection a_port a_term a_minus a_sum a_unit a_conj an_expr inside an_if a_for a_stmt all_stmts stmts_inside a_move an_action a_var a_guarded a_program
bindings_kept = are_kept (IsStmts 4 2) (stmts_at 4 2) (exact_stmts 4 2) statement_names refl refl

elements_kept : AreKept (IsExpr 2 0) element_counts
unfolding same_kind same_role role scan.skip scan.ready scan.sign_len scan.front scan.scan scan.scan_end scan.ahead_of scan.last_of one_within either by_role limited elements repeated a_selection a_port a_term a_minus a_sum a_unit a_conj an_expr inside an_if a_for a_stmt all_stmts stmts_inside a_move an_action a_var a_guarded a_program
elements_kept = are_kept (IsExpr 2 0) (expr_at 2 0) (exact_expr 2 0) element_counts refl refl

statements_kept : AreKept (IsStmts 0 0) statement_counts
unfolding same_kind same_role role scan.skip scan.ready scan.sign_len scan.front scan.scan scan.scan_end scan.ahead_of scan.last_of one_within either by_role limited elements repeated a_selection a_port a_term a_minus a_sum a_unit a_conj an_expr inside an_if a_for a_stmt all_stmts stmts_inside a_move an_action a_var a_guarded a_program
statements_kept = are_kept (IsStmts 0 0) (stmts_at 0 0) (exact_stmts 0 0) statement_counts refl refl

programs_kept : AreKept IsProgram program_counts
unfolding same_kind same_role role scan.skip scan.ready scan.sign_len scan.front scan.scan scan.scan_end scan.ahead_of scan.last_of one_within either by_role limited elements repeated a_selection a_port a_term a_minus a_sum a_unit a_conj an_expr inside an_if a_for a_stmt all_stmts stmts_inside a_move an_action a_var a_guarded a_program
programs_kept = are_kept IsProgram a_program exact_program program_counts refl refl

past_refused : AreRefused (IsExpr 2 0) past_elements
unfolding same_kind same_role role scan.skip scan.ready scan.sign_len scan.front scan.scan scan.scan_end scan.ahead_of scan.last_of one_within either by_role limited elements repeated a_selection a_port a_term a_minus a_sum a_unit a_conj an_expr inside an_if a_for a_stmt all_stmts stmts_inside a_move an_action a_var a_guarded a_program
past_refused = are_refused (IsExpr 2 0) (expr_at 2 0) (exact_expr 2 0) past_elements refl

pub limits_are_kept : LimitsAreKept
limits_are_kept = record { levels = levels_kept; deeper = deeper_kept; names = names_kept; bindings = bindings_kept; elements = elements_kept; past = past_refused; statements = statements_kept; programs = programs_kept }

pub trees_are_read : TreesAreRead
unfolding same_kind same_role role scan.skip scan.ready scan.sign_len scan.front scan.scan scan.scan_end scan.ahead_of scan.last_of one_within either by_role limited elements repeated a_selection a_port a_term a_minus a_sum a_unit a_conj an_expr inside an_if a_for a_stmt all_stmts stmts_inside a_move an_action a_var a_guarded a_program
trees_are_read = record {
  binding = read_as (IsExpr 1 0) (expr_at 1 0) (exact_expr 1 0) (codes "true or not x = 0 and false") bare_guard _ _ refl refl;
  grouped = read_as (IsExpr 2 0) (expr_at 2 0) (exact_expr 2 0) (codes "( true or false ) or ( true ) and ( ( true ) )") bare_guard _ _ refl refl;
  minus = read_as (IsExpr 0 0) (expr_at 0 0) (exact_expr 0 0) (codes "- x + p . x - 1 = 0") bare_guard _ _ refl refl;
  lines = read_as (IsStmts 0 1) (stmts_at 0 1) (exact_stmts 0 1) (codes "let q := p ; x := 007") (λ s. s) _ _ refl refl;
  nothing = read_as IsProgram a_program exact_program (codes "program end") without_lines _ _ refl refl;
  little = read_as IsProgram a_program exact_program (codes "program action a when true move none end") without_lines _ _ refl refl;
}

pub samples_are_read : ExamplesAreRead
samples_are_read = record { line = line_is_read; erosion = erosion_is_read; every_form = every_form_is_read }
