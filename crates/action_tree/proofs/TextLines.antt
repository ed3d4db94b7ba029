-- The lines of a program that a text gives are lines of its tokens, in their order.
use Rattle.std.proofs.Common.{◌≡◌, ◌≤◌, ◌+◌, ◌-◌, ℕ, zero, suc, Bool, true, false, cond, List, [], ◌∷◌, ◌++◌, map, Option, refl, ap, sym, ◌∙◌, subst, arith}
use Rattle.std.specs.List.{flat_map}
use Rattle.std.proofs.lemmas.List.{map-append}
use Rattle.text_tokens.specs.declared.refusal.Refusal.{Refusal}
use Rattle.text_tokens.specs.declared.refusal.RefusalKind.{RefusalKind}
use Rattle.text_tokens.specs.Text.{Lexeme, line_at, token_end, AreTokens, ends, bad_byte, too_long, token}
use Rattle.text_tokens.specs.Reading.{no_limit, less}
use Rattle.text_tokens.specs.Grammar.{Symbol, tokens, Lang, IsOne, is_one, past, then, made, is_nothing, of_first, of_second, Limited, Repeated, no_more, one_more}
use Rattle.text_tokens.proofs.Symbols.{tokens-append}
use Rattle.text_tokens.proofs.Blanks.{line_past}
use Rattle.amoebot_state.specs.Limits.{most_vars}
use Rattle.action_tree.specs.Trees.{fixed, held, Guard, Guards, no_guards, guard_then, Sum, Term, PortExpr, Stmt, Stmts, Move, Var, Action, Program}
use Rattle.action_tree.specs.Limits.{most_levels, most_names, most_actions}
use Rattle.action_tree.specs.Productions.{all_of, any_of, names_left_after_all}
use Rattle.action_tree.specs.declared.role.Role.TheVariants.{ANumber, LastWord}
use Rattle.action_tree.specs.Roles.{is_a, is_dirterm, as_name, as_literal, as_dirterm}
use Rattle.action_tree.specs.Expressions.{IsA, limited_text, Selection, IsPort, is_bound, is_end, is_turn, is_first, IsSelection, is_selection, IsTerm, is_number, is_own, is_of_port, is_count, is_direction, is_inner, is_mod6, IsSum, is_sum, IsTerms, no_more_terms, more_terms, IsUnit, is_atom, is_not, is_parens, is_quantified, is_tested, is_compared, IsConj, is_conj, IsUnits, no_more_units, more_units, IsExpr, is_expr, IsConjs, no_more_conjs, more_conjs}
use Rattle.action_tree.specs.Statements.{IsStmt, is_put, is_put_of, is_let, is_if, is_for, IsElse, no_else, with_else, IsStmts, is_stmts, IsMore, no_more_stmts, more_stmts}
use Rattle.action_tree.specs.Programs.{IsMove, is_none, is_through, is_contract, IsBody, IsMovement, parsed_action, IsAction, parsed_var, IsVar, parsed_program, IsProgram}
use Rattle.action_tree.specs.Lines.{lines_in_dirterm, lines_in_guard, lines_in_guards, lines_in_sum, lines_in_term, lines_in_port, lines_in_stmt, lines_in_stmts, lines_in_move, lines_in_var, lines_in_action, lines_in_program}
use Rattle.action_tree.specs.GrammarLaws.{LinesFollowText}
use Rattle.action_tree.proofs.ExpressionRoles.{made_case, limited_is}
use Rattle.action_tree.proofs.Rising.{Picks, over, keep, picks_none, picks_before, picks_both, AreFrom, Rises, from_lower, never_fall, picked_never_fall}

abbrev lines : List Lexeme → List ℕ
lines ts = map (λ (t : Lexeme). t.line) ts

-- some lines of the tokens of a text, in their order
record Shows (places : List ℕ) (xs : List Symbol) : Type 0 where
  picked : Picks places (lines (tokens xs))

lines_joined : (xs ys : List Symbol) → lines (tokens xs) ++ lines (tokens ys) ≡ lines (tokens (xs ++ ys))
lines_joined xs ys = sym (ap lines (tokens-append xs ys) ∙ map-append (λ (t : Lexeme). t.line) (tokens xs) (tokens ys))

none : (xs : List Symbol) → Shows [] xs
none xs = record { picked = picks_none (lines (tokens xs)) }

both : {ls ms : List ℕ} {xs ys : List Symbol} → Shows ls xs → Shows ms ys → Shows (ls ++ ms) (xs ++ ys)
both {ls} {ms} {xs} {ys} one two = record { picked = subst (λ places. Picks (ls ++ ms) places) (lines_joined xs ys) (picks_both one.picked two.picked) }

before : {ls : List ℕ} {xs : List Symbol} → Shows ls xs → (ys : List Symbol) → Shows ls (xs ++ ys)
before {ls} {xs} s ys = record { picked = subst (λ places. Picks ls places) (lines_joined xs ys) (picks_before s.picked (lines (tokens ys))) }

behind : {ls : List ℕ} {ys : List Symbol} (xs : List Symbol) → Shows ls ys → Shows ls (xs ++ ys)
behind xs s = both (none xs) s

-- ---- one token, and a part that may be one too many

one : {test : Lexeme → Bool} {limit : Lexeme → Option RefusalKind} {xs : List Symbol} {t : Lexeme} → IsOne test limit xs t → Shows (t.line ∷ []) xs
one (is_one t e) = record { picked = keep over }

dirterm_line : (b : Bool) (t : Lexeme) → t.line ∷ [] ≡ lines_in_dirterm (cond b (fixed (as_literal t)) (held (as_name t)))
dirterm_line true t = refl
dirterm_line false t = refl

dirterm_shows : {xs : List Symbol} {t : Lexeme} → IsOne is_dirterm no_limit xs t → Shows (lines_in_dirterm (as_dirterm t)) xs
dirterm_shows {xs} {t} is = subst (λ places. Shows places xs) (dirterm_line (is_a ANumber t) t) (one is)

past_tokens : (xs : List Symbol) → tokens xs ≡ tokens (past xs)
past_tokens [] = refl
past_tokens (x ∷ xs) = refl

limited : {ls : List ℕ} {xs : List Symbol} (room : ℕ) → Shows ls xs → Shows ls (limited_text room xs)
limited {ls} {xs} zero s = record { picked = subst (λ ts. Picks ls (lines ts)) (past_tokens xs) s.picked }
limited (suc room) s = s

-- ---- expressions

all_shows : (g : Guard) (gs : Guards) {xs ys : List Symbol} → Shows (lines_in_guard g) xs → Shows (lines_in_guards gs) ys → Shows (lines_in_guard (all_of g gs)) (xs ++ ys)
all_shows g no_guards {xs} {ys} s r = before s ys
all_shows g (guard_then h gs) s r = both s r

any_shows : (g : Guard) (gs : Guards) {xs ys : List Symbol} → Shows (lines_in_guard g) xs → Shows (lines_in_guards gs) ys → Shows (lines_in_guard (any_of g gs)) (xs ++ ys)
any_shows g no_guards {xs} {ys} s r = before s ys
any_shows g (guard_then h gs) s r = both s r

mutual
  port_shows : {n left : ℕ} {xs : List Symbol} {p : PortExpr} → IsPort n left xs p → Shows (lines_in_port p) xs
  port_shows (is_bound o) = one o
  port_shows (is_end {xs = xs} o is) = behind xs (dirterm_shows is)
  port_shows (is_turn {xs = xs} o is e) = behind xs (both (port_shows is) (one e))
  port_shows (is_first {xs = xs} o is) = behind xs (selection_shows is)

  selection_shows : {n left : ℕ} {xs : List Symbol} {c : Selection} → IsSelection n left xs c → Shows (c.name.line ∷ lines_in_guard c.guard) xs
  selection_shows (is_selection {is = is} {ss = ss} {os = os} {cs = cs} b i s o e c) = both (one b) (behind is (behind ss (behind os (before (expr_shows e) cs))))

  term_shows : {n left : ℕ} {xs : List Symbol} {t : Term} → IsTerm n left xs t → Shows (lines_in_term t) xs
  term_shows (is_number o) = one o
  term_shows (is_own o) = one o
  term_shows (is_of_port {ys = ys} is d v) = both (port_shows is) (behind ys (one v))
  term_shows (is_count {xs = xs} o is) = behind xs (selection_shows is)
  term_shows (is_direction {xs = xs} o is) = behind xs (port_shows is)
  term_shows (is_inner {xs = xs} o) = none xs
  term_shows (is_mod6 {xs = xs} {os = os} {cs = cs} t o is c) = behind xs (behind os (before (sum_shows is) cs))

  sum_shows : {n left : ℕ} {xs : List Symbol} {s : Sum} → IsSum n left xs s → Shows (lines_in_sum s) xs
  sum_shows (is_sum {xs = xs} m is more) = behind xs (both (term_shows is) (terms_show more))

  terms_show : {n left room : ℕ} {xs : List Symbol} {s : Sum} → IsTerms n left room xs s → Shows (lines_in_sum s) xs
  terms_show no_more_terms = none []
  terms_show (more_terms {room = room} {xs = xs} u is more) = both (behind xs (limited room (term_shows is))) (terms_show more)

  unit_shows : {n left : ℕ} {xs : List Symbol} {g : Guard} → IsUnit n left xs g → Shows (lines_in_guard g) xs
  unit_shows (is_atom {xs = xs} o) = none xs
  unit_shows (is_not {xs = xs} o is) = behind xs (unit_shows is)
  unit_shows (is_parens {os = os} {cs = cs} o is c) = behind os (before (expr_shows is) cs)
  unit_shows (is_quantified {xs = xs} o is) = behind xs (selection_shows is)
  unit_shows (is_tested {xs = xs} o is) = behind xs (port_shows is)
  unit_shows (is_compared {ys = ys} is c more) = both (sum_shows is) (behind ys (sum_shows more))

  conj_shows : {n left : ℕ} {xs : List Symbol} {g : Guard} → IsConj n left xs g → Shows (lines_in_guard g) xs
  conj_shows (is_conj {g = g} {gs = gs} is more) = all_shows g gs (unit_shows is) (units_show more)

  units_show : {n left room : ℕ} {xs : List Symbol} {gs : Guards} → IsUnits n left room xs gs → Shows (lines_in_guards gs) xs
  units_show no_more_units = none []
  units_show (more_units {room = room} {xs = xs} u is more) = both (behind xs (limited room (unit_shows is))) (units_show more)

  expr_shows : {n left : ℕ} {xs : List Symbol} {g : Guard} → IsExpr n left xs g → Shows (lines_in_guard g) xs
  expr_shows (is_expr {g = g} {gs = gs} is more) = any_shows g gs (conj_shows is) (conjs_show more)

  conjs_show : {n left room : ℕ} {xs : List Symbol} {gs : Guards} → IsConjs n left room xs gs → Shows (lines_in_guards gs) xs
  conjs_show no_more_conjs = none []
  conjs_show (more_conjs {room = room} {xs = xs} u is more) = both (behind xs (limited room (conj_shows is))) (conjs_show more)

-- ---- statements

mutual
  stmt_shows : {n left : ℕ} {xs : List Symbol} {s : Stmt} → IsStmt n left xs s → Shows (lines_in_stmt s) xs
  stmt_shows (is_put {bs = bs} v b is) = both (one v) (behind bs (sum_shows is))
  stmt_shows (is_put_of {ds = ds} {bs = bs} p d v b is) = both (port_shows p) (behind ds (both (one v) (behind bs (sum_shows is))))
  stmt_shows (is_let {ls = ls} {bs = bs} l v b p) = behind ls (both (one v) (behind bs (port_shows p)))
  stmt_shows (is_if {is = is} {ts = ts} {fs = fs} i g t s e f) = behind is (both (expr_shows g) (behind ts (both (stmts_show s) (before (else_shows e) fs))))
  stmt_shows (is_for {fs = fs} {ds = ds} {os = os} f c d s o) = behind fs (both (selection_shows c) (behind ds (before (stmts_show s) os)))

  else_shows : {n left : ℕ} {xs : List Symbol} {s : Stmts} → IsElse n left xs s → Shows (lines_in_stmts s) xs
  else_shows no_else = none []
  else_shows (with_else {es = es} e is) = behind es (stmts_show is)

  stmts_show : {n left : ℕ} {xs : List Symbol} {s : Stmts} → IsStmts n left xs s → Shows (lines_in_stmts s) xs
  stmts_show (is_stmts is more) = both (stmt_shows is) (more_show more)

  more_show : {n left room : ℕ} {xs : List Symbol} {s : Stmts} → IsMore n left room xs s → Shows (lines_in_stmts s) xs
  more_show no_more_stmts = none []
  more_show (more_stmts {room = room} {xs = xs} u is more) = both (behind xs (limited room (stmt_shows is))) (more_show more)

-- ---- programs

move_shows : (n left : ℕ) (xs : List Symbol) (m : Move) → IsMove n left xs m → Shows (lines_in_move m) xs
move_shows n left xs m (is_none (made t o)) = none _
move_shows n left us m (is_through (then {xs = xs} t o (made p is))) = behind xs (port_shows is)
move_shows n left us m (is_contract (then t o (made e is))) = none _

moved_shows : (n left : ℕ) (xs : List Symbol) (m : Move) → IsMovement n left xs m → Shows (lines_in_move m) xs
moved_shows n left us m (of_first (then {xs = xs} {ys = ys} t o is)) = behind xs (move_shows n left ys m is)
moved_shows n left xs m (of_second is_nothing) = none []

body_shows : (n left : ℕ) (xs : List Symbol) (s : Stmts) → IsBody n left xs s → Shows (lines_in_stmts s) xs
body_shows n left us s (of_first (then {xs = xs} t o is)) = behind xs (stmts_show is)
body_shows n left xs s (of_second is_nothing) = none []

action_shows : (n left : ℕ) (xs : List Symbol) (a : Action) → IsAction n left xs a → Shows (lines_in_action a) xs
action_shows n left us a (then {xs = ts} t o (then {xs = vs} v p (then {xs = ws} w q (then {xs = gs} g is (then {xs = bs} {ys = ms} body b c))))) =
    made_case (IsMovement n (names_left_after_all left body)) (parsed_action v g body) ms (λ a. Shows (lines_in_action a) (ts ++ (vs ++ (ws ++ (gs ++ (bs ++ ms))))))
    (λ m d. behind ts (both (one p) (behind ws (both (expr_shows is) (both (body_shows n left bs body b) (moved_shows n (names_left_after_all left body) ms m d)))))) a c

var_shows : (xs : List Symbol) (v : Var) → IsVar xs v → Shows (lines_in_var v) xs
var_shows us v (then {xs = xs} t o (then {xs = vs} {ys = ms} w p c)) =
    made_case (IsA ANumber) (parsed_var w) ms (λ v. Shows (lines_in_var v) (xs ++ (vs ++ ms))) (λ m q. behind xs (both (one p) (one q))) v c

-- many elements, where so many may come
module _ {A : Type 0} (P : Lang A) (lines_in : A → List ℕ) (shows : (xs : List Symbol) (a : A) → P xs a → Shows (lines_in a) xs) where
  element_shows : (room : ℕ) (xs : List Symbol) (a : A) → Limited P room xs a → Shows (lines_in a) xs
  element_shows room xs a l = let k = limited_is P room xs a l in subst (λ ys. Shows (lines_in a) ys) (sym k.1) (limited room (shows k.0 a k.2))

  each_shows : (room : ℕ) (xs : List Symbol) (elements : List A) → Repeated (λ room. Limited P room) (λ room a. less room) room xs elements → Shows (flat_map lines_in elements) xs
  each_shows room xs elements no_more = none []
  each_shows room us elements (one_more {xs = xs} {ys = ys} {rest = rest} a is more) = both (element_shows room xs a is) (each_shows (less room) ys rest more)

program_shows : (xs : List Symbol) (p : Program) → IsProgram xs p → Shows (lines_in_program p) xs
program_shows us p (then {xs = ws} w o (then {xs = gs} guard g (then {xs = xs} vars v (then {xs = ys} {ys = es} actions a c)))) =
    made_case (IsA LastWord) (λ e. parsed_program guard vars actions) es (λ p. Shows (lines_in_program p) (ws ++ (gs ++ (xs ++ (ys ++ es)))))
    (λ e q. behind ws (behind gs (both (each_shows IsVar lines_in_var var_shows most_vars xs vars v)
    (before (each_shows (IsAction most_levels most_names) lines_in_action (action_shows most_levels most_names) most_actions ys actions a) es)))) p c

-- ---- the lines of tokens

line_rises : (source : List ℕ) (at from : ℕ) → at ≤ from → line_at source at ≤ line_at source from
line_rises source at from le =
    let same : at + (from - at) ≡ from = omega arith in
    let on = line_past source at (from - at) in
    let e = ap (line_at source) same in
    omega (arith, on, e)

tokens_rise : (source : List ℕ) (at : ℕ) (ts : List Lexeme) (last : Refusal) → AreTokens source at ts last → AreFrom (line_at source at) (lines ts) × Rises (lines ts)
tokens_rise source at ts last (ends c) = (tt, tt)
tokens_rise source at ts last (bad_byte from c l b) = (tt, tt)
tokens_rise source at ts last (too_long l c is few) = (tt, tt)
tokens_rise source at us last (token {ls = ts} l c is few more) =
    let rest = tokens_rise source (token_end l) ts last more in
    let here : l.line ≤ line_at source (token_end l) = subst (λ line. line ≤ line_at source (token_end l)) (sym is.line) (line_rises source l.from (token_end l) (omega arith)) in
    let first : line_at source at ≤ l.line = subst (λ line. line_at source at ≤ line) (sym is.line) (line_rises source at l.from c.behind) in
    ((first, from_lower (line_at source at) (line_at source (token_end l)) (lines ts) (omega arith) rest.0), (from_lower l.line (line_at source (token_end l)) (lines ts) here rest.0, rest.1))

pub lines_follow_text : LinesFollowText
lines_follow_text bytes at ts rest last p are t =
    let shown = subst (λ us. Picks (lines_in_program p) (lines us)) t.whole.parts (program_shows t.whole.text p t.whole.is).picked in
    let more = subst (λ places. Picks (lines_in_program p) places) (sym (map-append (λ (l : Lexeme). l.line) t.us rest)) (picks_before shown (lines rest)) in
    let picked = subst (λ us. Picks (lines_in_program p) (lines us)) (sym t.parts) more in
    picked_never_fall picked (never_fall (lines ts) (tokens_rise bytes at ts last are).1)
