-- Statements are parts of the grammar, by the levels that are left.
use Rattle.std.proofs.Common.{◌≡◌, ℕ, zero, suc, Bool, true, false, [], None, refl}
use Rattle.text_tokens.specs.Text.{Lexeme}
use Rattle.text_tokens.specs.Reading.{Reader, ◌>>=◌, pure, one, no_limit, deep_at, less, by_role}
use Rattle.text_tokens.specs.Grammar.{Lang, Then, Made, IsNothing}
use Rattle.text_tokens.specs.Lawful.{Exact, IsPart, always, SomeText, StartsIn, HasTokens, Starts, AreChained, IsHandled, handled, no_role}
use Rattle.text_tokens.proofs.Exactness.{exact}
use Rattle.text_tokens.proofs.CarriedTexts.{part_same}
use Rattle.text_tokens.proofs.Parts.{part_less, part_before}
use Rattle.text_tokens.proofs.StartsLemmas.{starts_in, starts_some, starts_one, starts_made, starts_then, starts_in_nothing, starts_in_either, starts_in_then, starts_in_more, some_behind as tokens_behind}
use Rattle.text_tokens.proofs.ChoiceLemmas.{part_optional, part_limited, part_roles}
use Rattle.text_tokens.proofs.RepeatedLemmas.{part_chained}
use Rattle.action_tree.specs.Trees.{Guard, PortExpr, bound, Stmt, put, put_of, let_be, if_then, for_each, Stmts, no_stmts, stmt_then, stmts}
use Rattle.action_tree.specs.Productions.{names_left_after}
use Rattle.action_tree.specs.Limits.{most_further}
use Rattle.action_tree.specs.declared.role.Role.{Role}
use Rattle.action_tree.specs.declared.role.Role.TheVariants.{AName, DotSign, BecomesSign, SemicolonSign, EndWord, TurnWord, FirstWord, LetWord, IfWord, ThenWord, ElseWord, FiWord, ForWord, DoWord, OdWord}
use Rattle.action_tree.specs.Roles.{role, same_role, is_a, as_name}
use Rattle.action_tree.specs.Expressions.{IsA, bound_at, Binds, Selection, IsPort, IsSelection, IsSum, IsExpr}
use Rattle.action_tree.specs.Statements.{IsStmt, IsElse, no_else, IsStmts}
use Rattle.action_tree.specs.ExpressionReaders.{level_limit, port_at, selection_at, sum_at, expr_at}
use Rattle.action_tree.specs.StatementReaders.{begins_stmt, put_member, put_by, else_part, an_if, a_for, stmt_by, a_stmt, scope_behind, stmt_in, all_stmts, stmts_inside, stmts_at}
use Rattle.action_tree.proofs.RolesLemmas.{example, passes, ends, ends_at, other_role, stops_sum, stops_expr, some_made, some_then, some_token, some_behind, part_next, part_led, meets, part_joined, part_ended, some_ended, part_any}
use Rattle.action_tree.proofs.ExpressionRoles.{some_port, some_sum, some_expr, some_selection}
use Rattle.action_tree.proofs.ExpressionLaws.{parts_at, part_selection_at}
use Rattle.action_tree.proofs.StatementRoles.{some_stmts, PutMember, PutOwn, PutBehind, PutBy, roles_put, LetBy, IfBy, ForBy, StmtBy, roles_stmt, starts_stmt, ElseBy, else_from, else_to, StmtIn, scope_of, StmtsBy, stmts_from, stmts_to}

abbrev pub stops_stmts : Role → Bool
stops_stmts SemicolonSign = false
stops_stmts r = stops_sum r

stmts_sum : (r : Role) → stops_stmts r ≡ true → stops_sum r ≡ true
stmts_sum SemicolonSign e = refl
stmts_sum _ e = e

no_semicolon : (r : Role) → stops_stmts r ≡ true → same_role r SemicolonSign ≡ false
unfolding same_role
no_semicolon SemicolonSign e = absurd cc
no_semicolon _ e = refl

fi_no_else : same_role FiWord ElseWord ≡ false
unfolding same_role
fi_no_else = refl

-- ---- writes

part_own : (n left : ℕ) (v : Lexeme) → IsPart (PutOwn n left v) (one (is_a BecomesSign) >>= λ b. sum_at n left >>= λ s. pure (put (as_name v) s)) (ends stops_sum)
part_own n left v = part_led BecomesSign no_limit (IsSum n left) (sum_at n left) (λ b s. put (as_name v) s) (ends stops_sum) (some_sum n left) (λ b e. (parts_at n left).sum)

module _ (n left : ℕ) (p : PortExpr) where
  abbrev Valued : Lexeme → Lang Stmt
  Valued v = Then (IsA BecomesSign) (λ b. Made (IsSum n left) (λ s. put_of p (as_name v) s))

  abbrev valued : Lexeme → Reader Stmt
  valued v = one (is_a BecomesSign) >>= λ b. sum_at n left >>= λ s. pure (put_of p (as_name v) s)

  some_valued : (v : Lexeme) → SomeText (Valued v)
  some_valued v = some_behind BecomesSign no_limit (λ b. Made (IsSum n left) (λ s. put_of p (as_name v) s)) (λ b. some_made (IsSum n left) (λ s. put_of p (as_name v) s) (some_sum n left))

  some_member : SomeText (Then (IsA AName) Valued)
  some_member = some_behind AName no_limit Valued some_valued

  part_put_member : IsPart (PutMember n left p) (put_member n left p) (ends stops_sum)
  part_put_member = part_next DotSign no_limit (λ d. Then (IsA AName) Valued) (λ d. one (is_a AName) >>= valued) (ends stops_sum) (λ d. some_member)
      (λ d e. part_next AName no_limit Valued valued (ends stops_sum) some_valued (λ v e. part_led BecomesSign no_limit (IsSum n left) (sum_at n left) (λ b s. put_of p (as_name v) s) (ends stops_sum) (some_sum n left) (λ b e. (parts_at n left).sum)))

  starts_put_member : Starts (PutMember n left p) (is_a DotSign) no_limit
  starts_put_member = starts_then (IsA DotSign) (λ d. Then (IsA AName) Valued) (is_a DotSign) no_limit (starts_one (is_a DotSign) no_limit) (λ d. some_member)

part_put_of : (n left : ℕ) → IsPart (Then (IsPort n left) (PutMember n left)) (port_at n left >>= put_member n left) (ends stops_sum)
part_put_of n left = part_before (IsPort n left) (port_at n left) (PutMember n left) (put_member n left) always (ends stops_sum) (parts_at n left).port (part_put_member n left)
    (λ p. meets (PutMember n left p) (is_a DotSign) always (ends stops_sum) no_limit (starts_put_member n left p) (λ t e. refl))

put_roles : (n left : ℕ) (v : Lexeme) (r : Role) → IsHandled (PutBy n left v r) (put_by n left v r) (ends stops_sum)
put_roles n left v BecomesSign = handled (part_own n left v)
put_roles n left v DotSign = handled (part_put_member n left (bound (as_name v)))
put_roles n left v _ = no_role (λ xs s is. is) refl

part_put : (n left : ℕ) → IsPart (Then (IsA AName) (PutBehind n left)) (one (is_a AName) >>= λ v. by_role role (put_by n left v)) (ends stops_sum)
part_put n left = part_next AName no_limit (PutBehind n left) (λ v. by_role role (put_by n left v)) (ends stops_sum) (λ v. (roles_put n left v).some)
    (λ v e. part_roles role (level_limit n) (PutBy n left v) (PutBehind n left v) (roles_put n left v) (put_by n left v) (ends stops_sum) (put_roles n left v))

-- ---- bindings

module _ (n left : ℕ) (below : ℕ → Reader Stmts) where
  abbrev Port : Lexeme → Lang Stmt
  Port v = Made (IsPort n left) (λ p. let_be (as_name v) p)

  abbrev port : Lexeme → Reader Stmt
  port v = port_at n left >>= λ p. pure (let_be (as_name v) p)

  some_let : (v : Lexeme) → SomeText (Then (IsA BecomesSign) (λ b. Port v))
  some_let v = some_behind BecomesSign no_limit (λ b. Port v) (λ b. some_made (IsPort n left) (λ p. let_be (as_name v) p) (some_port n left))

  part_let : IsPart (LetBy n left) (stmt_by n left below LetWord) always
  part_let = part_next LetWord no_limit (λ l. Then (Binds left) (λ v. Then (IsA BecomesSign) (λ b. Port v))) _ always
      (λ l. some_behind AName (bound_at left) (λ v. Then (IsA BecomesSign) (λ b. Port v)) some_let)
      (λ l e. part_next AName (bound_at left) (λ v. Then (IsA BecomesSign) (λ b. Port v)) (λ v. one (is_a BecomesSign) >>= λ b. port v) always some_let
      (λ v e. part_led BecomesSign no_limit (IsPort n left) (port_at n left) (λ b p. let_be (as_name v) p) always (some_port n left) (λ b e. (parts_at n left).port)))

-- ---- from lists of statements one level less, behind what opens a level

module _ (n left : ℕ) (below : ℕ → Reader Stmts) (under : (t : Lexeme) → deep_at n t ≡ None → (left : ℕ) → IsPart (IsStmts (less n) left) (below left) (ends stops_stmts)) where
  -- the else part, which ends before `fi`
  abbrev Else : Lang Stmts
  Else = Then (IsA ElseWord) (λ e. IsStmts (less n) left)

  starts_else : Starts Else (is_a ElseWord) no_limit
  starts_else = starts_then (IsA ElseWord) (λ e. IsStmts (less n) left) (is_a ElseWord) no_limit (starts_one (is_a ElseWord) no_limit) (λ e. some_stmts (less n) left)

  part_else : (t : Lexeme) → deep_at n t ≡ None → IsPart (IsElse (less n) left) (else_part below left) (is_a FiWord)
  part_else t fine = part_same (ElseBy (less n) left) (IsElse (less n) left) (else_from (less n) left) (else_to (less n) left) _ (is_a FiWord)
      (part_optional no_stmts Else (one (is_a ElseWord) >>= λ e. below left) (is_a ElseWord) no_limit (is_a FiWord) starts_else
      (part_less Else (one (is_a ElseWord) >>= λ e. below left) (ends stops_stmts) (is_a FiWord) (ends_at stops_stmts FiWord refl) (part_next ElseWord no_limit (λ e. IsStmts (less n) left) (λ e. below left) (ends stops_stmts) (λ e. some_stmts (less n) left) (λ e f. under t fine left)))
      (λ u e. other_role FiWord ElseWord u fi_no_else e))

  -- what stands behind `then`
  module _ (g : Guard) (s : Stmts) where
    abbrev Ended : Lang Stmt
    Ended = Then (IsElse (less n) left) (λ e. Made (IsA FiWord) (λ f. if_then g s e))

    abbrev ended : Reader Stmt
    ended = else_part below left >>= λ e. one (is_a FiWord) >>= λ f. pure (if_then g s e)

    some_fi : (e : Stmts) → SomeText (Made (IsA FiWord) (λ f. if_then g s e))
    some_fi e = some_token FiWord (λ f. if_then g s e)

    starts_fi : (e : Stmts) → Starts (Made (IsA FiWord) (λ f. if_then g s e)) (is_a FiWord) no_limit
    starts_fi e = starts_made (IsA FiWord) (λ f. if_then g s e) (is_a FiWord) no_limit (starts_one (is_a FiWord) no_limit)

    some_ended_if : SomeText Ended
    some_ended_if = some_then (IsElse (less n) left) (λ e. Made (IsA FiWord) (λ f. if_then g s e)) (record { text = []; whole = no_stmts; is = no_else }) some_fi

    ended_begins : StartsIn Ended (ends stops_stmts)
    ended_begins = starts_in_then (IsElse (less n) left) (λ e. Made (IsA FiWord) (λ f. if_then g s e)) (ends stops_stmts)
        (λ xs o t is e. starts_in_either Else (IsNothing no_stmts) (ends stops_stmts) (starts_in_more Else (is_a ElseWord) (ends stops_stmts) (ends_at stops_stmts ElseWord refl) (starts_in Else (is_a ElseWord) no_limit starts_else)) (starts_in_nothing no_stmts (ends stops_stmts)) xs o t (else_to (less n) left xs o is) e)
        (λ o. starts_in_more (Made (IsA FiWord) (λ f. if_then g s o)) (is_a FiWord) (ends stops_stmts) (ends_at stops_stmts FiWord refl) (starts_in (Made (IsA FiWord) (λ f. if_then g s o)) (is_a FiWord) no_limit (starts_fi o)))

    ended_has : HasTokens Ended
    ended_has = tokens_behind (IsElse (less n) left) (λ e. Made (IsA FiWord) (λ f. if_then g s e)) (λ e. starts_some (Made (IsA FiWord) (λ f. if_then g s e)) (is_a FiWord) no_limit (starts_fi e))

    part_fi : (t : Lexeme) → deep_at n t ≡ None → IsPart Ended ended always
    part_fi t fine = part_ended (IsElse (less n) left) (else_part below left) (is_a FiWord) FiWord (λ e f. if_then g s e) (part_else t fine) (λ u e. e)

  module _ (g : Guard) where
    abbrev Chosen : Lang Stmt
    Chosen = Then (IsStmts (less n) left) (Ended g)

    abbrev chosen : Reader Stmt
    chosen = below left >>= ended g

    some_chosen : SomeText Chosen
    some_chosen = some_then (IsStmts (less n) left) (Ended g) (some_stmts (less n) left) (some_ended_if g)

    part_chosen : (t : Lexeme) → deep_at n t ≡ None → IsPart Chosen chosen always
    part_chosen t fine = part_before (IsStmts (less n) left) (below left) (Ended g) (ended g) (ends stops_stmts) always (under t fine left) (λ s. part_fi g s t fine)
        (λ s. record { begins = ended_begins g s; empty = λ xs a u is e f. absurd (ended_has g s xs a is e) })

  abbrev If : Lang Stmt
  If = Then (IsExpr (less n) left) (λ g. Then (IsA ThenWord) (λ t. Chosen g))

  some_if : SomeText If
  some_if = some_then (IsExpr (less n) left) (λ g. Then (IsA ThenWord) (λ t. Chosen g)) (some_expr (less n) left) (λ g. some_behind ThenWord no_limit (λ t. Chosen g) (λ t. some_chosen g))

  part_if : IsPart (IfBy n left) (an_if n left below) always
  unfolding an_if
  part_if = part_next IfWord (deep_at n) (λ i. If) _ always (λ i. some_if)
      (λ i fine. part_joined (IsExpr (less n) left) (expr_at (less n) left) (ends stops_expr) ThenWord (λ g t. Chosen g) (λ g t. chosen g) always (parts_at (less n) left).expr (ends_at stops_expr ThenWord refl) (λ g t. some_chosen g) (λ g t. part_chosen g i fine))

  abbrev Body : Selection → Lang Stmt
  Body c = Then (IsStmts (less n) (less left)) (λ s. Made (IsA OdWord) (λ o. for_each c.name c.set c.guard s))

  abbrev body : Selection → Reader Stmt
  body c = below (less left) >>= λ s. one (is_a OdWord) >>= λ o. pure (for_each c.name c.set c.guard s)

  some_body : (c : Selection) → SomeText (Body c)
  some_body c = some_ended (IsStmts (less n) (less left)) OdWord (λ s o. for_each c.name c.set c.guard s) (some_stmts (less n) (less left))

  part_for : IsPart (ForBy n left) (a_for n left below) always
  unfolding a_for
  part_for = part_next ForWord (deep_at n) (λ f. Then (IsSelection (less n) left) (λ c. Then (IsA DoWord) (λ d. Body c))) _ always
      (λ f. some_then (IsSelection (less n) left) (λ c. Then (IsA DoWord) (λ d. Body c)) (some_selection (less n) left) (λ c. some_behind DoWord no_limit (λ d. Body c) (λ d. some_body c)))
      (λ f fine. part_joined (IsSelection (less n) left) (selection_at (less n) left) always DoWord (λ c d. Body c) (λ c d. body c) always (part_selection_at (less n) left) (λ t e. refl) (λ c d. some_body c)
      (λ c d. part_ended (IsStmts (less n) (less left)) (below (less left)) (ends stops_stmts) OdWord (λ s o. for_each c.name c.set c.guard s) (under f fine (less left)) (ends_at stops_stmts OdWord refl)))

  any_stmt : (P : Lang Stmt) (p : Reader Stmt) → IsPart P p always → IsHandled P p (ends stops_sum)
  any_stmt P p part = handled (part_any P p (ends stops_sum) part)

  stmt_roles : (r : Role) → IsHandled (StmtBy n left r) (stmt_by n left below r) (ends stops_sum)
  stmt_roles AName = handled (part_put n left)
  stmt_roles EndWord = handled (part_put_of n left)
  stmt_roles TurnWord = handled (part_put_of n left)
  stmt_roles FirstWord = handled (part_put_of n left)
  stmt_roles LetWord = any_stmt (LetBy n left) (stmt_by n left below LetWord) (part_let n left below)
  stmt_roles IfWord = any_stmt (IfBy n left) (an_if n left below) part_if
  stmt_roles ForWord = any_stmt (ForBy n left) (a_for n left below) part_for
  stmt_roles _ = no_role (λ xs s is. is) refl

  part_stmt : IsPart (IsStmt n left) (a_stmt n left below) (ends stops_sum)
  unfolding a_stmt
  part_stmt = part_roles role (level_limit n) (StmtBy n left) (IsStmt n left) (roles_stmt n left) (stmt_by n left below) (ends stops_sum) stmt_roles

module _ (n : ℕ) (below : ℕ → Reader Stmts) (under : (t : Lexeme) → deep_at n t ≡ None → (left : ℕ) → IsPart (IsStmts (less n) left) (below left) (ends stops_stmts)) where
  pub stmts_chained : (left : ℕ) → AreChained (IsStmt n left) (a_stmt n left below) (is_a SemicolonSign) (StmtIn n) (stmt_in n below) (ends stops_sum) (ends stops_stmts)
  stmts_chained left = record {
    passing = example SemicolonSign;
    passes = passes SemicolonSign;
    before = part_stmt n left below under;
    part = λ sign s. part_limited (IsStmt n s.left) (a_stmt n s.left below) (λ t. begins_stmt (role t)) (level_limit n) (starts_stmt n s.left) (ends stops_sum) (part_stmt n s.left below under) s.room;
    again = ends_at stops_sum SemicolonSign refl;
    ends = λ t e. stmts_sum (role t) e;
    differ = λ t e. no_semicolon (role t) e;
  }

  part_list : (left : ℕ) → IsPart (IsStmts n left) (all_stmts n left below) (ends stops_stmts)
  unfolding all_stmts
  part_list left = part_same (StmtsBy n left) (IsStmts n left) (stmts_from n left) (stmts_to n left) _ (ends stops_stmts) (part_chained (IsStmt n left) (a_stmt n left below) (is_a SemicolonSign) (StmtIn n) (stmt_in n below) (ends stops_sum) (ends stops_stmts) (stmts_chained left) scope_behind (λ s. scope_of most_further (names_left_after left s)) (λ s ss. stmt_then s (stmts ss)))

-- ---- by the levels that are left

pub part_stmts_inside : (n : ℕ) (t : Lexeme) → deep_at n t ≡ None → (left : ℕ) → IsPart (IsStmts (less n) left) (stmts_inside n left) (ends stops_stmts)
unfolding stmts_inside
part_stmts_inside zero t e left = absurd cc
part_stmts_inside (suc n) t e left = part_list n (stmts_inside n) (part_stmts_inside n) left

pub part_stmts : (n left : ℕ) → IsPart (IsStmts n left) (stmts_at n left) (ends stops_stmts)
part_stmts n left = part_list n (stmts_inside n) (part_stmts_inside n) left

pub exact_stmts : (n left : ℕ) → Exact (IsStmts n left) (stmts_at n left)
exact_stmts n left = exact (IsStmts n left) (stmts_at n left) (part_stmts n left).law
