-- The grammar of statements by the role of the first token, and with which tokens its texts begin.
use Rattle.std.proofs.Common.{◌≡◌, ℕ, true, List, [], ◌∷◌, ◌++◌, refl, sym, ap, subst}
use Rattle.text_tokens.specs.Text.{Lexeme}
use Rattle.text_tokens.specs.Reading.{less}
use Rattle.text_tokens.specs.Grammar.{Symbol, Lang, is_one, Then, then, Made, made, is_nothing, Either, of_first, of_second, IsOptional, Limited, Repeated, no_more, one_more, BehindSign, Chained}
use Rattle.text_tokens.specs.Lawful.{SomeText, SomeFrom, Starts, HasRoles}
use Rattle.text_tokens.proofs.ChoiceLemmas.{starts_roles}
use Rattle.action_tree.specs.Trees.{PortExpr, bound, Stmt, put, put_of, let_be, if_then, for_each, Stmts, no_stmts, stmt_then, stmts}
use Rattle.action_tree.specs.Productions.{names_left_after}
use Rattle.action_tree.specs.Limits.{most_further}
use Rattle.action_tree.specs.declared.role.Role.{Role}
use Rattle.action_tree.specs.declared.role.Role.TheVariants.{AName, ANumber, DotSign, BecomesSign, SemicolonSign, EndWord, TurnWord, FirstWord, LetWord, IfWord, ThenWord, ElseWord, FiWord, ForWord, DoWord, OdWord}
use Rattle.action_tree.specs.Roles.{role, is_a, as_name}
use Rattle.action_tree.specs.Expressions.{IsA, Opens, Binds, IsPort, is_bound, is_end, is_turn, is_first, IsSelection, IsSum, IsExpr}
use Rattle.action_tree.specs.Statements.{IsStmt, is_put, is_put_of, is_let, is_if, is_for, IsElse, no_else, with_else, IsStmts, is_stmts, IsMore, no_more_stmts, more_stmts}
use Rattle.action_tree.specs.ExpressionReaders.{level_limit}
use Rattle.action_tree.specs.StatementReaders.{begins_stmt, Room, scope_behind}
use Rattle.action_tree.proofs.RolesLemmas.{is_in, example, passes, passes_dirterm, an_example}
use Rattle.action_tree.proofs.ExpressionRoles.{some_port, some_sum, some_expr, some_selection, Formed, formed_more, formed_open, made_case, limited_is, is_limited, PortBy, roles_port, symbol_by, MadeOfList}

-- ---- some text of each family

pub some_stmt : (n left : ℕ) → SomeText (IsStmt n left)
some_stmt n left = let s = some_sum n left in record { text = _; whole = _; is = is_put (an_example AName) (an_example BecomesSign) s.is }

pub some_stmts : (n left : ℕ) → SomeText (IsStmts n left)
some_stmts n left = let s = some_stmt n left in record { text = _; whole = _; is = is_stmts s.is no_more_stmts }

-- ---- a statement by the role of its first token

-- behind the port of a neighbour, and behind a name
abbrev pub PutMember : ℕ → ℕ → PortExpr → Lang Stmt
PutMember n left p = Then (IsA DotSign) (λ d. Then (IsA AName) (λ v. Then (IsA BecomesSign) (λ b. Made (IsSum n left) (λ s. put_of p (as_name v) s))))

abbrev pub PutOwn : ℕ → ℕ → Lexeme → Lang Stmt
PutOwn n left v = Then (IsA BecomesSign) (λ b. Made (IsSum n left) (λ s. put (as_name v) s))

abbrev pub PutBehind : ℕ → ℕ → Lexeme → Lang Stmt
PutBehind n left v = Either (PutOwn n left v) (PutMember n left (bound (as_name v)))

abbrev pub PutBy : ℕ → ℕ → Lexeme → Role → Lang Stmt
PutBy n left v BecomesSign = PutOwn n left v
PutBy n left v DotSign = PutMember n left (bound (as_name v))
PutBy n left v _ = λ xs s. ⊥

view_put : (n left : ℕ) (v : Lexeme) (xs : List Symbol) (s : Stmt) → PutBehind n left v xs s → Formed n (PutBy n left v) xs s
view_put n left v us s (of_first (then {xs = xs} {ys = ys} b o m)) = formed_more n (PutBy n left v) BecomesSign xs ys b s o refl (then b o m)
view_put n left v us s (of_second (then {xs = xs} {ys = ys} d o m)) = formed_more n (PutBy n left v) DotSign xs ys d s o refl (then d o m)

put_from : (n left : ℕ) (v : Lexeme) (r : Role) (xs : List Symbol) (s : Stmt) → PutBy n left v r xs s → PutBehind n left v xs s
put_from n left v BecomesSign xs s is = of_first is
put_from n left v DotSign xs s is = of_second is
put_from n left v _ xs s is = absurd is

pub some_put : (n left : ℕ) (v : Lexeme) → SomeText (PutBehind n left v)
some_put n left v = let s = some_sum n left in record { text = _; whole = _; is = of_first (then (example BecomesSign) (an_example BecomesSign) (made s.whole s.is)) }

pub roles_put : (n left : ℕ) (v : Lexeme) → HasRoles role (level_limit n) (PutBy n left v) (PutBehind n left v)
roles_put n left v = record { some = some_put n left v; view = view_put n left v; from = put_from n left v }

abbrev pub IfBy : ℕ → ℕ → Lang Stmt
IfBy n left = Then (Opens IfWord n) (λ i. Then (IsExpr (less n) left) (λ g. Then (IsA ThenWord) (λ t. Then (IsStmts (less n) left) (λ s. Then (IsElse (less n) left) (λ e. Made (IsA FiWord) (λ f. if_then g s e))))))

abbrev pub ForBy : ℕ → ℕ → Lang Stmt
ForBy n left = Then (Opens ForWord n) (λ f. Then (IsSelection (less n) left) (λ c. Then (IsA DoWord) (λ d. Then (IsStmts (less n) (less left)) (λ s. Made (IsA OdWord) (λ o. for_each c.name c.set c.guard s)))))

abbrev pub LetBy : ℕ → ℕ → Lang Stmt
LetBy n left = Then (IsA LetWord) (λ l. Then (Binds left) (λ v. Then (IsA BecomesSign) (λ b. Made (IsPort n left) (λ p. let_be (as_name v) p))))

abbrev pub StmtBy : ℕ → ℕ → Role → Lang Stmt
StmtBy n left AName = Then (IsA AName) (PutBehind n left)
StmtBy n left EndWord = Then (IsPort n left) (PutMember n left)
StmtBy n left TurnWord = Then (IsPort n left) (PutMember n left)
StmtBy n left FirstWord = Then (IsPort n left) (PutMember n left)
StmtBy n left LetWord = LetBy n left
StmtBy n left IfWord = IfBy n left
StmtBy n left ForWord = ForBy n left
StmtBy n left _ = λ xs s. ⊥

-- a name before a dot is a port
module _ (n left : ℕ) (ys : List Symbol) (p : PortExpr) (s : Stmt) (more : PutMember n left p ys s) where
  named_put : (xs : List Symbol) (q : PortExpr) → Made (IsA AName) (λ t. bound (as_name t)) xs q → PutMember n left q ys s → StmtBy n left AName (xs ++ ys) s
  named_put xs q (made t o) m = then t o (of_second m)

  put_by : (xs : List Symbol) → IsPort n left xs p → (r : Role) → PortBy n left r xs p → StmtBy n left r (xs ++ ys) s
  put_by xs is AName by = named_put xs p by more
  put_by xs is EndWord by = then p is more
  put_by xs is TurnWord by = then p is more
  put_by xs is FirstWord by = then p is more
  put_by xs is _ by = absurd by

  view_put_of : (xs : List Symbol) → IsPort n left xs p → Formed n (StmtBy n left) (xs ++ ys) s
  view_put_of xs is = let w = (roles_port n left).view xs p is in record { t = w.t; more = w.more ++ ys; parts = ap (λ (us : List Symbol). us ++ ys) w.parts; is = put_by xs is (role w.t) w.is }

view_stmt : (n left : ℕ) (xs : List Symbol) (s : Stmt) → IsStmt n left xs s → Formed n (StmtBy n left) xs s
view_stmt n left us s (is_put {vs = vs} {bs = bs} {ss = ss} {v = v} {b = b} {s = sum} o e is) = formed_more n (StmtBy n left) AName vs (bs ++ ss) v s o refl (then v o (of_first (then b e (made sum is))))
view_stmt n left us s (is_put_of {ps = ps} {ds = ds} {vs = vs} {bs = bs} {ss = ss} {d = d} {v = v} {b = b} {p = p} {s = sum} is e o f m) = view_put_of n left (ds ++ (vs ++ (bs ++ ss))) p s (then d e (then v o (then b f (made sum m)))) ps is
view_stmt n left us s (is_let {ls = ls} {vs = vs} {bs = bs} {ps = ps} {l = l} {v = v} {b = b} {p = p} w o e is) = formed_more n (StmtBy n left) LetWord ls (vs ++ (bs ++ ps)) l s w refl (then l w (then v o (then b e (made p is))))
view_stmt n left us s (is_if {is = is} {gs = gs} {ts = ts} {ss = ss} {es = es} {fs = fs} {i = i} {t = t} {f = f} {g = g} {s = body} {e = other} o a b c d e) = formed_open n (StmtBy n left) IfWord is (gs ++ (ts ++ (ss ++ (es ++ fs)))) i s o refl (then i o (then g a (then t b (then body c (then other d (made f e))))))
view_stmt n left us s (is_for {fs = fs} {cs = cs} {ds = ds} {ss = ss} {os = os} {f = f} {d = d} {o = o} {c = c} {s = body} w a b e g) = formed_open n (StmtBy n left) ForWord fs (cs ++ (ds ++ (ss ++ os))) f s w refl (then f w (then c a (then d b (then body e (made o g)))))

stmt_from : (n left : ℕ) (r : Role) (xs : List Symbol) (s : Stmt) → StmtBy n left r xs s → IsStmt n left xs s
stmt_from n left AName us s (then v o (of_first (then b e (made sum is)))) = is_put o e is
stmt_from n left AName us s (then t o (of_second (then d e (then v f (then b g (made sum m)))))) = is_put_of (is_bound o) e f g m
stmt_from n left EndWord us s (then p is (then d e (then v o (then b f (made sum m))))) = is_put_of is e o f m
stmt_from n left TurnWord us s (then p is (then d e (then v o (then b f (made sum m))))) = is_put_of is e o f m
stmt_from n left FirstWord us s (then p is (then d e (then v o (then b f (made sum m))))) = is_put_of is e o f m
stmt_from n left LetWord us s (then l w (then v o (then b e (made p is)))) = is_let w o e is
stmt_from n left IfWord us s (then {xs = is} i o (then {xs = gs} g a (then {xs = ts} t b (then {xs = ss} body c (then {xs = es} {ys = fs} other d m))))) =
    made_case (IsA FiWord) (λ f. if_then g body other) fs (λ s. IsStmt n left (is ++ (gs ++ (ts ++ (ss ++ (es ++ fs))))) s) (λ f e. is_if o a b c d e) s m
stmt_from n left ForWord us s (then {xs = fs} f w (then {xs = cs} c a (then {xs = ds} d b (then {xs = ss} {ys = os} body e m)))) =
    made_case (IsA OdWord) (λ o. for_each c.name c.set c.guard body) os (λ s. IsStmt n left (fs ++ (cs ++ (ds ++ (ss ++ os)))) s) (λ o g. is_for w a b e g) s m
stmt_from n left _ xs s is = absurd is

pub roles_stmt : (n left : ℕ) → HasRoles role (level_limit n) (StmtBy n left) (IsStmt n left)
roles_stmt n left = record { some = some_stmt n left; view = view_stmt n left; from = stmt_from n left }

stmt_begins : (n left : ℕ) (r : Role) (xs : List Symbol) (s : Stmt) → StmtBy n left r xs s → begins_stmt r ≡ true
stmt_begins n left AName xs s is = refl
stmt_begins n left EndWord xs s is = refl
stmt_begins n left TurnWord xs s is = refl
stmt_begins n left FirstWord xs s is = refl
stmt_begins n left LetWord xs s is = refl
stmt_begins n left IfWord xs s is = refl
stmt_begins n left ForWord xs s is = refl
stmt_begins n left _ xs s is = absurd is

stmt_each : (n left : ℕ) (t : Lexeme) (r : Role) → role t ≡ r → begins_stmt r ≡ true → SomeFrom (IsStmt n left) (symbol_by n r t)
stmt_each n left t AName e f = let s = some_sum n left in record { more = _; whole = _; is = is_put (is_one t (is_in AName t e)) (an_example BecomesSign) s.is }
stmt_each n left t EndWord e f = let s = some_sum n left in record { more = _; whole = _; is = is_put_of (is_end (is_one t (is_in EndWord t e)) (is_one (example ANumber) passes_dirterm)) (an_example DotSign) (an_example AName) (an_example BecomesSign) s.is }
stmt_each n left t TurnWord e f =
    let p = some_port (less n) left in
    let s = some_sum n left in
    record { more = _; whole = _; is = is_put_of (is_turn (is_one t (is_in TurnWord t e)) p.is (an_example ANumber)) (an_example DotSign) (an_example AName) (an_example BecomesSign) s.is }
stmt_each n left t FirstWord e f =
    let c = some_selection n left in
    let s = some_sum n left in
    record { more = _; whole = _; is = is_put_of (is_first (is_one t (is_in FirstWord t e)) c.is) (an_example DotSign) (an_example AName) (an_example BecomesSign) s.is }
stmt_each n left t LetWord e f = let p = some_port n left in record { more = _; whole = _; is = is_let (is_one t (is_in LetWord t e)) (is_one (example AName) (passes AName)) (an_example BecomesSign) p.is }
stmt_each n left t IfWord e f =
    let g = some_expr (less n) left in
    let s = some_stmts (less n) left in
    record { more = _; whole = _; is = is_if (is_one t (is_in IfWord t e)) g.is (an_example ThenWord) s.is no_else (an_example FiWord) }
stmt_each n left t ForWord e f =
    let c = some_selection (less n) left in
    let s = some_stmts (less n) (less left) in
    record { more = _; whole = _; is = is_for (is_one t (is_in ForWord t e)) c.is (an_example DoWord) s.is (an_example OdWord) }
stmt_each n left t _ e f = absurd cc

pub starts_stmt : (n left : ℕ) → Starts (IsStmt n left) (λ t. begins_stmt (role t)) (level_limit n)
starts_stmt n left = starts_roles role (level_limit n) (StmtBy n left) (IsStmt n left) (roles_stmt n left) (λ t. begins_stmt (role t)) (λ xs s t is. stmt_begins n left (role t) xs s is) (λ t e. stmt_each n left t (role t) refl e)

-- ---- the else part

abbrev pub ElseBy : ℕ → ℕ → Lang Stmts
ElseBy n left = IsOptional no_stmts (Then (IsA ElseWord) (λ e. IsStmts n left))

pub else_from : (n left : ℕ) (xs : List Symbol) (s : Stmts) → ElseBy n left xs s → IsElse n left xs s
else_from n left us s (of_first (then e o is)) = with_else o is
else_from n left xs s (of_second is_nothing) = no_else

pub else_to : (n left : ℕ) (xs : List Symbol) (s : Stmts) → IsElse n left xs s → ElseBy n left xs s
else_to n left us s (with_else {e = e} o is) = of_first (then e o is)
else_to n left xs s no_else = of_second is_nothing

-- ---- lists of statements

abbrev pub StmtIn : ℕ → Lexeme → Room → Lang Stmt
StmtIn n sign s = Limited (IsStmt n s.left) s.room

abbrev pub Further : ℕ → Room → Lang (List Stmt)
Further n s = Repeated (λ s. BehindSign (is_a SemicolonSign) (StmtIn n) s) scope_behind s

abbrev pub scope_of : ℕ → ℕ → Room
scope_of room left = record { room = room; left = left }

abbrev pub StmtsBy : ℕ → ℕ → Lang Stmts
StmtsBy n left = Chained (IsStmt n left) (is_a SemicolonSign) (StmtIn n) scope_behind (λ s. scope_of most_further (names_left_after left s)) (λ s ss. stmt_then s (stmts ss))

more_from : (n : ℕ) (s : Room) (xs : List Symbol) (ss : List Stmt) → Further n s xs ss → IsMore n s.left s.room xs (stmts ss)
more_from n s xs ss no_more = no_more_stmts
more_from n s us ss (one_more {ys = zs} {rest = rest} a (then {xs = xs} {ys = ys} u o c) m) =
    let l = limited_is (IsStmt n s.left) s.room ys a c in
    subst (λ (ws : List Symbol). IsMore n s.left s.room ((xs ++ ws) ++ zs) (stmt_then a (stmts rest))) (sym l.1) (more_stmts o l.2 (more_from n (scope_behind s a) zs rest m))

more_to : (n left room : ℕ) (xs : List Symbol) (ss : Stmts) → IsMore n left room xs ss → MadeOfList (Further n (scope_of room left)) stmts xs ss
more_to n left room xs ss no_more_stmts = record { many = []; same = refl; is = no_more }
more_to n left room us ss (more_stmts {xs = xs} {ys = ys} {zs = zs} {u = u} {s = s} {ss = rest} o is m) =
    let k = more_to n (names_left_after left s) (less room) zs rest m in
    record { many = s ∷ k.many; same = ap (λ (rest : Stmts). stmt_then s rest) k.same; is = one_more s (then u o (is_limited (IsStmt n left) room ys s is)) k.is }

pub stmts_from : (n left : ℕ) (xs : List Symbol) (ss : Stmts) → StmtsBy n left xs ss → IsStmts n left xs ss
stmts_from n left us ss (then {xs = xs} {ys = ys} s is m) =
    made_case (Further n (scope_of most_further (names_left_after left s))) (λ ss. stmt_then s (stmts ss)) ys (λ ss. IsStmts n left (xs ++ ys) ss) (λ ss m. is_stmts is (more_from n (scope_of most_further (names_left_after left s)) ys ss m)) ss m

pub stmts_to : (n left : ℕ) (xs : List Symbol) (ss : Stmts) → IsStmts n left xs ss → StmtsBy n left xs ss
stmts_to n left us ss (is_stmts {xs = xs} {ys = ys} {s = s} {ss = rest} is m) =
    let k = more_to n (names_left_after left s) most_further ys rest m in
    subst (λ (rest : Stmts). StmtsBy n left (xs ++ ys) (stmt_then s rest)) k.same (then s is (made k.many k.is))
