-- A text that passes no limit gives a tree of the productions.
use Rattle.std.proofs.Common.{◌≡◌, ℕ, suc, Bool, List, ◌∷◌, ◌++◌, sym, subst}
use Rattle.text_tokens.specs.Text.{Lexeme}
use Rattle.text_tokens.specs.Cursor.{AreCut}
use Rattle.text_tokens.proofs.PromisesLemmas.{tokens_cut}
use Rattle.text_tokens.specs.Reading.{less, no_limit}
use Rattle.text_tokens.specs.Grammar.{Symbol, Lang, then, made, is_nothing, of_first, of_second, Limited, Repeated, no_more as no_more_in, one_more}
use Rattle.text_tokens.specs.Lawful.{Starts, IsText}
use Rattle.amoebot_state.specs.Limits.{most_vars}
use Rattle.action_tree.specs.Trees.{Guard, negation, quantified, Guards, guard_then, Sum, term_then, Term, count, mod6, PortExpr, turned, first, Stmt, let_be, if_then, for_each, Stmts, stmt_then, Move, Var, Action, Program}
use Rattle.action_tree.specs.Limits.{most_levels, most_names, most_actions}
use Rattle.action_tree.specs.Productions.{IsName, OfExpr, joined_by_or, OfConjs, no_conj, or_conj, OfConj, joined_by_and, OfUnits, no_unit, and_unit, OfUnit, one_word, not_unit, in_parens, some_or_each, asked, compared, OfSum, added, OfTerms, no_term, and_term, OfTerm, a_number, own_name, port_name, counted, directed, own_direction, modulo, OfPort, bound_name, end_and_dir, turned_by, first_in, names_left_after_all, OfStmt, put_own, put_there, let_name, if_fi, for_od, OfOptional, left_out, given, OfStmts, one_and_more, OfMore, no_more, and_more, OfMove, nowhere, moved_through, contracted, OfVar, OfAction, OfVars, no_var, and_var, OfActions, no_action, and_action, OfProgram}
use Rattle.action_tree.specs.declared.role.Role.TheVariants.{ANumber, LastWord, TurnWord, OpenSign, MinusSign, NotWord, IfWord, ForWord, VarWord, ActionWord}
use Rattle.action_tree.specs.Roles.{role, as_literal, as_test, as_cmp, as_side, as_end, as_atom, as_quantifier, as_port_move, as_name, is_a}
use Rattle.action_tree.specs.Expressions.{IsA, Selection, IsPort, is_bound, is_end, is_turn, is_first, IsSelection, is_selection, IsTerm, is_number, is_own, is_of_port, is_count, is_direction, is_inner, is_mod6, IsSum, is_sum, IsTerms, no_more_terms, more_terms, IsUnit, is_atom, is_not, is_parens, is_quantified, is_tested, is_compared, IsConj, is_conj, IsUnits, no_more_units, more_units, IsExpr, is_expr, IsConjs, no_more_conjs, more_conjs}
use Rattle.action_tree.specs.Statements.{IsStmt, is_put, is_put_of, is_let, is_if, is_for, IsElse, no_else, with_else, IsStmts, is_stmts, IsMore, no_more_stmts, more_stmts}
use Rattle.action_tree.specs.Programs.{IsMove, is_none, is_through, is_contract, IsBody, IsMovement, parsed_action, IsAction, parsed_var, IsVar, parsed_program, IsProgram}
use Rattle.action_tree.specs.ExpressionReaders.{level_limit, begins_term, begins_unit}
use Rattle.action_tree.specs.StatementReaders.{begins_stmt}
use Rattle.action_tree.proofs.MeasuredStatements.{program_passes}
use Rattle.action_tree.specs.GrammarLaws.{TextsGiveWritable, BytesGiveWritable}
use Rattle.action_tree.proofs.ExpressionRoles.{made_case, limited_is, starts_term, starts_unit, starts_conj}
use Rattle.action_tree.proofs.StatementRoles.{starts_stmt}
use Rattle.action_tree.proofs.ProgramLaws.{starts_var, starts_action}
use Rattle.action_tree.proofs.Fine.{IsFine, fine_parts, cut_front, fine_text, name_of, number_of, dirterm_of, opened, bound, roomy, element_fine}

-- ---- what is given of a name for the ports of a set

pub record Chooses (n left : ℕ) (c : Selection) : Type 0 where
  pub level : n ≡ suc (less n)
  pub binding : left ≡ suc (less left)
  pub name : IsName c.name
  pub guard : OfExpr (less n) (less left) c.guard

chosen_at : {n left : ℕ} (X : ℕ → ℕ → Type 0) → n ≡ suc (less n) → left ≡ suc (less left) → X (suc (less n)) (suc (less left)) → X n left
chosen_at {n} {left} X e f is = subst (λ (k : ℕ). X k left) (sym e) (subst (λ (k : ℕ). X (suc (less n)) k) (sym f) is)

deeper : {n : ℕ} (X : ℕ → Type 0) → n ≡ suc (less n) → X (suc (less n)) → X n
deeper X e is = subst X (sym e) is

-- ---- expressions

mutual
  port_of : {n left : ℕ} {xs : List Symbol} {p : PortExpr} → IsPort n left xs p → IsFine xs → OfPort n left p
  port_of (is_bound {xs = xs} {v = v} o) f = bound_name (name_of xs v o f)
  port_of (is_end {xs = xs} {ys = ys} {e = e} {d = d} o is) f = let p = fine_parts xs ys f in end_and_dir (as_end e) (dirterm_of ys d is p.1)
  port_of (is_turn {n = n} {left = left} {xs = xs} {ys = ys} {zs = zs} {t = t} {m = m} {p = p} o is e) f =
      let a = fine_parts xs (ys ++ zs) f in
      let b = fine_parts ys zs a.1 in
      deeper (λ k. OfPort k left (turned p (as_literal m))) (opened TurnWord n xs t o a.0) (turned_by (port_of is b.0) (number_of zs m e b.1))
  port_of (is_first {n = n} {left = left} {xs = xs} {ys = ys} {c = c} o is) f =
      let a = fine_parts xs ys f in
      let g = selection_of is a.1 in
      chosen_at (λ k l. OfPort k l (first c.name c.set c.guard)) g.level g.binding (first_in c.set g.name g.guard)

  selection_of : {n left : ℕ} {xs : List Symbol} {c : Selection} → IsSelection n left xs c → IsFine xs → Chooses n left c
  selection_of (is_selection {n = n} {left = left} {vs = vs} {is = is} {ss = ss} {os = os} {es = es} {cs = cs} {v = v} {o = o} b i s w e c) f =
      let f1 = fine_parts vs (is ++ (ss ++ (os ++ (es ++ cs)))) f in
      let f2 = fine_parts is (ss ++ (os ++ (es ++ cs))) f1.1 in
      let f3 = fine_parts ss (os ++ (es ++ cs)) f2.1 in
      let f4 = fine_parts os (es ++ cs) f3.1 in
      let f5 = fine_parts es cs f4.1 in
      let g = bound left vs v b f1.0 in
      record { level = opened OpenSign n os o w f4.0; binding = g.0; name = g.1; guard = expr_of e f5.0 }

  term_of : {n left : ℕ} {xs : List Symbol} {t : Term} → IsTerm n left xs t → IsFine xs → OfTerm n left t
  term_of (is_number {xs = xs} {m = m} o) f = a_number (number_of xs m o f)
  term_of (is_own {xs = xs} {v = v} o) f = own_name (name_of xs v o f)
  term_of (is_of_port {xs = xs} {ys = ys} {zs = zs} {v = v} is d o) f =
      let a = fine_parts xs (ys ++ zs) f in
      let b = fine_parts ys zs a.1 in
      port_name (port_of is a.0) (name_of zs v o b.1)
  term_of (is_count {xs = xs} {ys = ys} {c = c} o is) f =
      let a = fine_parts xs ys f in
      let g = selection_of is a.1 in
      chosen_at (λ k l. OfTerm k l (count c.name c.set c.guard)) g.level g.binding (counted c.set g.name g.guard)
  term_of (is_direction {xs = xs} {ys = ys} {t = t} o is) f = let a = fine_parts xs ys f in directed (as_side t) (port_of is a.1)
  term_of (is_inner o) f = own_direction
  term_of (is_mod6 {n = n} {left = left} {xs = xs} {os = os} {ys = ys} {cs = cs} {o = o} {s = s} w e is c) f =
      let a = fine_parts xs (os ++ (ys ++ cs)) f in
      let b = fine_parts os (ys ++ cs) a.1 in
      let d = fine_parts ys cs b.1 in
      deeper (λ k. OfTerm k left (mod6 s)) (opened OpenSign n os o e b.0) (modulo (sum_of is d.0))

  sum_of : {n left : ℕ} {xs : List Symbol} {s : Sum} → IsSum n left xs s → IsFine xs → OfSum n left s
  sum_of (is_sum {xs = xs} {ys = ys} {zs = zs} {minus = minus} m is more) f =
      let a = fine_parts xs (ys ++ zs) f in
      let b = fine_parts ys zs a.1 in
      added minus (term_of is b.0) (terms_of more b.1)

  terms_of : {n left room : ℕ} {xs : List Symbol} {s : Sum} → IsTerms n left room xs s → IsFine xs → OfTerms n left room s
  terms_of no_more_terms f = no_term
  terms_of (more_terms {n = n} {left = left} {room = room} {xs = xs} {ys = ys} {zs = zs} {u = u} {t = t} {ts = ts} o is more) f =
      let r = element_fine (λ t. begins_term (role t)) (level_limit n) room xs ys zs ((starts_term n left).begins ys t is) f in
      deeper (λ k. OfTerms n left k (term_then (is_a MinusSign u) t ts)) r.0 (and_term (is_a MinusSign u) (term_of is r.1) (terms_of more r.2))

  unit_of : {n left : ℕ} {xs : List Symbol} {g : Guard} → IsUnit n left xs g → IsFine xs → OfUnit n left g
  unit_of (is_atom {t = t} o) f = one_word (as_atom t)
  unit_of (is_not {n = n} {left = left} {xs = xs} {ys = ys} {t = t} {g = g} o is) f =
      let a = fine_parts xs ys f in
      deeper (λ k. OfUnit k left (negation g)) (opened NotWord n xs t o a.0) (not_unit (unit_of is a.1))
  unit_of (is_parens {n = n} {left = left} {os = os} {ys = ys} {cs = cs} {o = o} {g = g} e is c) f =
      let a = fine_parts os (ys ++ cs) f in
      let b = fine_parts ys cs a.1 in
      deeper (λ k. OfUnit k left g) (opened OpenSign n os o e a.0) (in_parens (expr_of is b.0))
  unit_of (is_quantified {xs = xs} {ys = ys} {t = t} {c = c} o is) f =
      let a = fine_parts xs ys f in
      let g = selection_of is a.1 in
      chosen_at (λ k l. OfUnit k l (quantified (as_quantifier t) c.name c.set c.guard)) g.level g.binding (some_or_each (as_quantifier t) c.set g.name g.guard)
  unit_of (is_tested {xs = xs} {ys = ys} {t = t} o is) f = let a = fine_parts xs ys f in asked (as_test t) (port_of is a.1)
  unit_of (is_compared {xs = xs} {ys = ys} {zs = zs} {c = c} is o other) f =
      let a = fine_parts xs (ys ++ zs) f in
      let b = fine_parts ys zs a.1 in
      compared (as_cmp c) (sum_of is a.0) (sum_of other b.1)

  conj_of : {n left : ℕ} {xs : List Symbol} {g : Guard} → IsConj n left xs g → IsFine xs → OfConj n left g
  conj_of (is_conj {xs = xs} {ys = ys} is more) f = let a = fine_parts xs ys f in joined_by_and (unit_of is a.0) (units_of more a.1)

  units_of : {n left room : ℕ} {xs : List Symbol} {gs : Guards} → IsUnits n left room xs gs → IsFine xs → OfUnits n left room gs
  units_of no_more_units f = no_unit
  units_of (more_units {n = n} {left = left} {room = room} {xs = xs} {ys = ys} {zs = zs} {g = g} {gs = gs} o is more) f =
      let r = element_fine (λ t. begins_unit (role t)) (level_limit n) room xs ys zs ((starts_unit n left).begins ys g is) f in
      deeper (λ k. OfUnits n left k (guard_then g gs)) r.0 (and_unit (unit_of is r.1) (units_of more r.2))

  expr_of : {n left : ℕ} {xs : List Symbol} {g : Guard} → IsExpr n left xs g → IsFine xs → OfExpr n left g
  expr_of (is_expr {xs = xs} {ys = ys} is more) f = let a = fine_parts xs ys f in joined_by_or (conj_of is a.0) (conjs_of more a.1)

  conjs_of : {n left room : ℕ} {xs : List Symbol} {gs : Guards} → IsConjs n left room xs gs → IsFine xs → OfConjs n left room gs
  conjs_of no_more_conjs f = no_conj
  conjs_of (more_conjs {n = n} {left = left} {room = room} {xs = xs} {ys = ys} {zs = zs} {g = g} {gs = gs} o is more) f =
      let r = element_fine (λ t. begins_unit (role t)) (level_limit n) room xs ys zs ((starts_conj n left).begins ys g is) f in
      deeper (λ k. OfConjs n left k (guard_then g gs)) r.0 (or_conj (conj_of is r.1) (conjs_of more r.2))

-- ---- statements

mutual
  stmt_of : {n left : ℕ} {xs : List Symbol} {s : Stmt} → IsStmt n left xs s → IsFine xs → OfStmt n left s
  stmt_of (is_put {vs = vs} {bs = bs} {ss = ss} {v = v} o b is) f =
      let f1 = fine_parts vs (bs ++ ss) f in
      let f2 = fine_parts bs ss f1.1 in
      put_own (name_of vs v o f1.0) (sum_of is f2.1)
  stmt_of (is_put_of {ps = ps} {ds = ds} {vs = vs} {bs = bs} {ss = ss} {v = v} p d o b is) f =
      let f1 = fine_parts ps (ds ++ (vs ++ (bs ++ ss))) f in
      let f2 = fine_parts ds (vs ++ (bs ++ ss)) f1.1 in
      let f3 = fine_parts vs (bs ++ ss) f2.1 in
      let f4 = fine_parts bs ss f3.1 in
      put_there (port_of p f1.0) (name_of vs v o f3.0) (sum_of is f4.1)
  stmt_of (is_let {n = n} {left = left} {ls = ls} {vs = vs} {bs = bs} {ps = ps} {v = v} {p = p} w o b is) f =
      let f1 = fine_parts ls (vs ++ (bs ++ ps)) f in
      let f2 = fine_parts vs (bs ++ ps) f1.1 in
      let f3 = fine_parts bs ps f2.1 in
      let g = bound left vs v o f2.0 in
      deeper (λ k. OfStmt n k (let_be (as_name v) p)) g.0 (let_name g.1 (subst (λ (k : ℕ). OfPort n k p) g.0 (port_of is f3.1)))
  stmt_of (is_if {n = n} {left = left} {is = is} {gs = gs} {ts = ts} {ss = ss} {es = es} {fs = fs} {i = i} {g = g} {s = s} {e = e} o a b c d w) f =
      let f1 = fine_parts is (gs ++ (ts ++ (ss ++ (es ++ fs)))) f in
      let f2 = fine_parts gs (ts ++ (ss ++ (es ++ fs))) f1.1 in
      let f3 = fine_parts ts (ss ++ (es ++ fs)) f2.1 in
      let f4 = fine_parts ss (es ++ fs) f3.1 in
      let f5 = fine_parts es fs f4.1 in
      deeper (λ k. OfStmt k left (if_then g s e)) (opened IfWord n is i o f1.0) (if_fi (expr_of a f2.0) (stmts_of c f4.0) (else_of d f5.0))
  stmt_of (is_for {n = n} {left = left} {fs = fs} {cs = cs} {ds = ds} {ss = ss} {os = os} {f = w} {c = c} {s = s} o a d b e) f =
      let f1 = fine_parts fs (cs ++ (ds ++ (ss ++ os))) f in
      let f2 = fine_parts cs (ds ++ (ss ++ os)) f1.1 in
      let f3 = fine_parts ds (ss ++ os) f2.1 in
      let f4 = fine_parts ss os f3.1 in
      let g = selection_of a f2.0 in
      let body = subst (λ (k : ℕ). OfStmts k (less left) s) g.level (stmts_of b f4.0) in
      let inner = deeper (λ k. OfStmt (suc k) (suc (less left)) (for_each c.name c.set c.guard s)) g.level (for_od c.set g.name g.guard body) in
      chosen_at (λ k l. OfStmt k l (for_each c.name c.set c.guard s)) (opened ForWord n fs w o f1.0) g.binding inner

  else_of : {n left : ℕ} {xs : List Symbol} {s : Stmts} → IsElse n left xs s → IsFine xs → OfOptional n left s
  else_of no_else f = left_out
  else_of (with_else {es = es} {ss = ss} o is) f = let a = fine_parts es ss f in given (stmts_of is a.1)

  stmts_of : {n left : ℕ} {xs : List Symbol} {ss : Stmts} → IsStmts n left xs ss → IsFine xs → OfStmts n left ss
  stmts_of (is_stmts {xs = xs} {ys = ys} is more) f = let a = fine_parts xs ys f in one_and_more (stmt_of is a.0) (more_of more a.1)

  more_of : {n left room : ℕ} {xs : List Symbol} {ss : Stmts} → IsMore n left room xs ss → IsFine xs → OfMore n left room ss
  more_of no_more_stmts f = no_more
  more_of (more_stmts {n = n} {left = left} {room = room} {xs = xs} {ys = ys} {zs = zs} {s = s} {ss = ss} o is more) f =
      let r = element_fine (λ t. begins_stmt (role t)) (level_limit n) room xs ys zs ((starts_stmt n left).begins ys s is) f in
      deeper (λ k. OfMore n left k (stmt_then s ss)) r.0 (and_more (stmt_of is r.1) (more_of more r.2))

-- ---- programs

move_of : (n left : ℕ) (xs : List Symbol) (m : Move) → IsMove n left xs m → IsFine xs → OfMove n left m
move_of n left xs m (is_none (made t o)) f = nowhere
move_of n left us m (is_through (then {xs = xs} {ys = ys} t o (made p is))) f = let a = fine_parts xs ys f in moved_through (as_port_move t) (port_of is a.1)
move_of n left us m (is_contract (then t o (made e is))) f = contracted (as_end e)

moved_of : (n left : ℕ) (xs : List Symbol) (m : Move) → IsMovement n left xs m → IsFine xs → OfMove n left m
moved_of n left us m (of_first (then {xs = xs} {ys = ys} t o is)) f = let a = fine_parts xs ys f in move_of n left ys m is a.1
moved_of n left xs m (of_second is_nothing) f = nowhere

body_of : (n left : ℕ) (xs : List Symbol) (s : Stmts) → IsBody n left xs s → IsFine xs → OfOptional n left s
body_of n left us s (of_first (then {xs = xs} {ys = ys} t o is)) f = let a = fine_parts xs ys f in given (stmts_of is a.1)
body_of n left xs s (of_second is_nothing) f = left_out

action_given : (xs : List Symbol) (a : Action) → IsAction most_levels most_names xs a → IsFine xs → OfAction a
action_given us a (then {xs = ts} t o (then {xs = vs} v p (then {xs = ws} w q (then {xs = gs} g is (then {xs = bs} {ys = ms} body b c))))) f =
    let f1 = fine_parts ts (vs ++ (ws ++ (gs ++ (bs ++ ms)))) f in
    let f2 = fine_parts vs (ws ++ (gs ++ (bs ++ ms))) f1.1 in
    let f3 = fine_parts ws (gs ++ (bs ++ ms)) f2.1 in
    let f4 = fine_parts gs (bs ++ ms) f3.1 in
    let f5 = fine_parts bs ms f4.1 in
    let left = names_left_after_all most_names body in
    made_case (IsMovement most_levels left) (parsed_action v g body) ms OfAction
    (λ m c. record { name = name_of vs v p f2.0; guard = expr_of is f4.0; body = body_of most_levels most_names bs body b f5.0; moved = moved_of most_levels left ms m c f5.1 }) a c

var_given : (xs : List Symbol) (v : Var) → IsVar xs v → IsFine xs → OfVar v
var_given us v (then {xs = xs} t o (then {xs = vs} {ys = ms} w p c)) f =
    let f1 = fine_parts xs (vs ++ ms) f in
    let f2 = fine_parts vs ms f1.1 in
    made_case (IsA ANumber) (parsed_var w) ms OfVar (λ m q. record { name = name_of vs w p f2.0; max = number_of ms m q f2.1 }) v c

-- an element, where so many may come
module _ {A : Type 0} (P : Lang A) (starts : Lexeme → Bool) (start : Starts P starts no_limit) where
  limited_fine : (room : ℕ) (xs : List Symbol) (a : A) → Limited P room xs a → IsFine xs → (room ≡ suc (less room)) × (ys : List Symbol) × P ys a × IsFine ys
  limited_fine room xs a l f =
      let k = limited_is P room xs a l in
      let r = roomy starts no_limit room k.0 (start.begins k.0 a k.2) (subst IsFine k.1 f) in
      (r.0, k.0, k.2, r.1)

vars_given : (room : ℕ) (xs : List Symbol) (vs : List Var) → Repeated (λ room. Limited IsVar room) (λ room v. less room) room xs vs → IsFine xs → OfVars room vs
vars_given room xs vs no_more_in f = no_var
vars_given room us vs (one_more {xs = xs} {ys = ys} {rest = rest} v is more) f =
    let a = fine_parts xs ys f in
    let l = limited_fine IsVar (is_a VarWord) starts_var room xs v is a.0 in
    deeper (λ k. OfVars k (v ∷ rest)) l.0 (and_var (var_given l.1 v l.2 l.3) (vars_given (less room) ys rest more a.1))

actions_given : (room : ℕ) (xs : List Symbol) (actions : List Action) → Repeated (λ room. Limited (IsAction most_levels most_names) room) (λ room a. less room) room xs actions → IsFine xs → OfActions room actions
actions_given room xs actions no_more_in f = no_action
actions_given room us actions (one_more {xs = xs} {ys = ys} {rest = rest} b is more) f =
    let a = fine_parts xs ys f in
    let l = limited_fine (IsAction most_levels most_names) (is_a ActionWord) (starts_action most_levels most_names) room xs b is a.0 in
    deeper (λ k. OfActions k (b ∷ rest)) l.0 (and_action (action_given l.1 b l.2 l.3) (actions_given (less room) ys rest more a.1))

pub program_given : (xs : List Symbol) (p : Program) → IsProgram xs p → IsFine xs → OfProgram p
program_given us p (then {xs = ws} w o (then {xs = gs} guard g (then {xs = xs} vars v (then {xs = ys} {ys = es} actions a c)))) f =
    let f1 = fine_parts ws (gs ++ (xs ++ (ys ++ es))) f in
    let f2 = fine_parts gs (xs ++ (ys ++ es)) f1.1 in
    let f3 = fine_parts xs (ys ++ es) f2.1 in
    let f4 = fine_parts ys es f3.1 in
    made_case (IsA LastWord) (λ e. parsed_program guard vars actions) es OfProgram (λ e q. record { vars = vars_given most_vars xs vars v f3.0; actions = actions_given most_actions ys actions a f4.0 }) p c

pub text_given : (ts rest : List Lexeme) (p : Program) → AreCut ts → IsText IsProgram ts p rest → OfProgram p
text_given ts rest p c t = program_given t.whole.text p t.whole.is (fine_text t.whole.text t.whole.fine (subst AreCut (sym t.whole.parts) (cut_front t.us rest (subst AreCut t.parts c))))

pub texts_give_writable : TextsGiveWritable
texts_give_writable ts rest p c t = program_passes p (text_given ts rest p c t)

pub bytes_give_writable : BytesGiveWritable
bytes_give_writable bytes at ts rest last p are t = texts_give_writable ts rest p (tokens_cut bytes at ts last are) t
