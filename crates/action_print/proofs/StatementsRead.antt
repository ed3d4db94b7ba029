-- The same of statements.
use Rattle.std.proofs.Common.{◌≡◌, ℕ, zero, suc, ◌≤◌, true, List, ◌∷◌, ◌++◌, codes, flat_map, refl, sym, ap, subst, ◌∙◌, arith}
use Rattle.text_tokens.specs.Grammar.{Symbol}
use Rattle.action_tree.specs.declared.expression.PortSet.{PortSet}
use Rattle.action_tree.specs.Trees.{Name, Guard, Sum, PortExpr, Stmt, put, put_of, let_be, if_then, for_each, Stmts, no_stmts, stmt_then}
use Rattle.action_tree.specs.Lines.{bare_stmt, bare_stmts}
use Rattle.action_tree.specs.Productions.{names_left_after, names_left_after_all}
use Rattle.action_tree.specs.Limits.{most_elements, most_further}
use Rattle.action_tree.specs.Words.{is_name}
use Rattle.action_tree.specs.Writable.{guard_levels, guard_names, is_guard, with_let, stmt_levels, stmts_levels, stmt_names, stmts_names, stmt_count, is_stmt, are_stmts}
use Rattle.action_tree.proofs.Conditions.{left_of, right_of, from, upto}
use Rattle.action_tree.proofs.ProducedStatements.{rest_of_all}
use Rattle.action_tree.specs.declared.role.Role.TheVariants.{DotSign, BecomesSign, SemicolonSign, LetWord, IfWord, ThenWord, ElseWord, FiWord, ForWord, DoWord, OdWord}
use Rattle.action_tree.specs.Roles.{as_name}
use Rattle.action_tree.specs.Expressions.{IsExpr, IsSum, IsPort}
use Rattle.action_tree.specs.Statements.{IsStmt, is_put, is_put_of, is_let, is_if, is_for, IsElse, no_else, with_else, IsStmts, is_stmts, IsMore, no_more_stmts, more_stmts}
use Rattle.action_print.specs.Canon.{guard_words, sum_words, port_words, stmt_words, each_stmt, else_words, stmts_words}
use Rattle.text_tokens.proofs.LinesLemmas.{Rereads, rereads_two, rereads_none, rereads_kept}
use Rattle.text_tokens.proofs.InSequence.{rereads_both, rereads_three, rereads_four, rereads_five, rereads_six}
use Rattle.action_print.proofs.Leaves.{a_word, a_sign, free_of, opens_fine, binds_fine, a_name}
use Rattle.action_print.proofs.ExpressionsRead.{IsGuardOf, IsSumOf, IsPortOf, selection_read, as_expr, guard_read, whole_sum_read, port_read}

abbrev pub IsStmtOf : Stmt → Stmt → Type 0
IsStmtOf s t = bare_stmt t ≡ bare_stmt s

abbrev pub AreStmtsOf : Stmts → Stmts → Type 0
AreStmtsOf ss ts = bare_stmts ts ≡ bare_stmts ss

-- the names that a statement leaves are those of the same statement on other lines
after_same : (left : ℕ) (s t : Stmt) → IsStmtOf s t → names_left_after left t ≡ names_left_after left s
after_same zero s t e = after_none s t
  where
    none_left : (s : Stmt) → names_left_after zero s ≡ zero
    none_left (put v s) = refl
    none_left (put_of p v s) = refl
    none_left (let_be v p) = refl
    none_left (if_then g ss es) = refl
    none_left (for_each v s g ss) = refl

    after_none : (s t : Stmt) → names_left_after zero t ≡ names_left_after zero s
    after_none s t = none_left t ∙ sym (none_left s)
after_same (suc left) s t e = sym (bare_after t) ∙ ap (names_left_after (suc left)) e ∙ bare_after s
  where
    bare_after : (s : Stmt) → names_left_after (suc left) (bare_stmt s) ≡ names_left_after (suc left) s
    bare_after (put v s) = refl
    bare_after (put_of p v s) = refl
    bare_after (let_be v p) = refl
    bare_after (if_then g ss es) = refl
    bare_after (for_each v s g ss) = refl

pub after_all_same : (left : ℕ) (ss ts : Stmts) → AreStmtsOf ss ts → names_left_after_all left ts ≡ names_left_after_all left ss
after_all_same left no_stmts no_stmts e = refl
after_all_same left no_stmts (stmt_then t ts) e = absurd cc
after_all_same left (stmt_then s ss) no_stmts e = absurd cc
after_all_same left (stmt_then s ss) (stmt_then t ts) e =
    let one : bare_stmt t ≡ bare_stmt s = cc in
    let more : bare_stmts ts ≡ bare_stmts ss = cc in
    ap (λ (n : ℕ). names_left_after_all n ts) (after_same left s t one) ∙ after_all_same (names_left_after left s) ss ts more

-- ---- lists

-- statements behind the first, each behind a semicolon
abbrev MoreRead : ℕ → ℕ → ℕ → Stmts → Type 0
MoreRead n left room ss = Rereads (IsMore n left room) (AreStmtsOf ss) (flat_map (λ vs. codes ";" ∷ vs) (each_stmt ss))

list_read : (n left : ℕ) (s : Stmt) (ss : Stmts) → Rereads (IsStmt n left) (IsStmtOf s) (stmt_words s) → MoreRead n (names_left_after left s) most_further ss → Rereads (IsStmts n left) (AreStmtsOf (stmt_then s ss)) (stmts_words (stmt_then s ss))
list_read n left s ss o os =
    rereads_two (λ t ts. stmt_then t ts) (λ xs ys t ts k m. is_stmts k.is (subst (λ (i : ℕ). IsMore n i most_further ys ts) (sym (after_same left s t k.holds)) m)) (λ t ts p q. (cc)) (rereads_kept o) os

more_list_read : (n left room : ℕ) (s : Stmt) (ss : Stmts) → Rereads (IsStmt n left) (IsStmtOf s) (stmt_words s) → MoreRead n (names_left_after left s) room ss → MoreRead n left (suc room) (stmt_then s ss)
more_list_read n left room s ss o os =
    rereads_two (λ c ts. stmt_then c.1 ts)
    (λ xs ys c ts b m. (let k = b.second in subst (λ (zs : List Symbol). IsMore n left (suc room) (zs ++ ys) (stmt_then c.1 ts)) (sym b.whole) (more_stmts b.first k.is (subst (λ (i : ℕ). IsMore n i room ys ts) (sym (after_same left s c.1 k.holds)) m))))
    (λ c ts p q. (let e = p.1 in cc)) (rereads_both (a_sign free_of SemicolonSign (codes ";") refl refl refl) (rereads_kept o)) os

-- ---- forms

pub expr_read : (g : Guard) (n left : ℕ) → guard_levels g ≤ n → guard_names g ≤ left → is_guard g ≡ true → Rereads (IsExpr n left) (IsGuardOf g) (guard_words g)
expr_read g n left l m f = as_expr n left g (guard_read g left m f n l)

put_read : (n left : ℕ) (v : Name) (s : Sum) → is_name v.text ≡ true → Rereads (IsSum n left) (IsSumOf s) (sum_words s) → Rereads (IsStmt n left) (IsStmtOf (put v s)) (stmt_words (put v s))
put_read n left v s e sum = rereads_three (λ t b x. put (as_name t) x) (λ xs ys zs t b x p q r. is_put p q r) (λ t b x p q r. (cc)) (a_name free_of v e) (a_sign free_of BecomesSign (codes ":=") refl refl refl) sum

put_of_read : (n left : ℕ) (p : PortExpr) (v : Name) (s : Sum) → Rereads (IsPort n left) (IsPortOf p) (port_words p) → is_name v.text ≡ true → Rereads (IsSum n left) (IsSumOf s) (sum_words s) → Rereads (IsStmt n left) (IsStmtOf (put_of p v s)) (stmt_words (put_of p v s))
put_of_read n left p v s port e sum =
    rereads_five (λ q d t b x. put_of q (as_name t) x) (λ xs ys zs ls ms q d t b x h i j k l. is_put_of h i j k l) (λ q d t b x h i j k l. (cc)) port (a_sign free_of DotSign (codes ".") refl refl refl) (a_name free_of v e) (a_sign free_of BecomesSign (codes ":=") refl refl refl) sum

let_read : (n left : ℕ) (v : Name) (p : PortExpr) → is_name v.text ≡ true → Rereads (IsPort n (suc left)) (IsPortOf p) (port_words p) → Rereads (IsStmt n (suc left)) (IsStmtOf (let_be v p)) (stmt_words (let_be v p))
let_read n left v p e port =
    rereads_four (λ l t b q. let_be (as_name t) q) (λ xs ys zs os l t b q h i j k. is_let h i j k) (λ l t b q h i j k. (cc)) (a_word free_of LetWord (codes "let") refl refl) (a_name (binds_fine left) v e) (a_sign free_of BecomesSign (codes ":=") refl refl refl) port

if_read : (n left : ℕ) (g : Guard) (ss es : Stmts) → Rereads (IsExpr n left) (IsGuardOf g) (guard_words g) → Rereads (IsStmts n left) (AreStmtsOf ss) (stmts_words ss) → Rereads (IsElse n left) (AreStmtsOf es) (else_words es)
    → Rereads (IsStmt (suc n) left) (IsStmtOf (if_then g ss es)) (stmt_words (if_then g ss es))
if_read n left g ss es expr stmts others =
    rereads_six (λ i h t x y f. if_then h x y) (λ xs ys zs ls ms ns i h t x y f a b c d e k. is_if a b c d e k) (λ i h t x y f a b c d e k. (cc))
    (a_word (opens_fine n) IfWord (codes "if") refl refl) expr (a_word free_of ThenWord (codes "then") refl refl) stmts others (a_word free_of FiWord (codes "fi") refl refl)

for_read : (n left : ℕ) (v : Name) (s : PortSet) (g : Guard) (ss : Stmts) → is_name v.text ≡ true → Rereads (IsExpr n left) (IsGuardOf g) (guard_words g) → Rereads (IsStmts (suc n) left) (AreStmtsOf ss) (stmts_words ss)
    → Rereads (IsStmt (suc (suc n)) (suc left)) (IsStmtOf (for_each v s g ss)) (stmt_words (for_each v s g ss))
for_read n left v s g ss e expr stmts =
    rereads_five (λ f c d x o. for_each c.name c.set c.guard x) (λ xs ys zs ls ms f c d x o h i j k l. is_for h i j k l) (λ f c d x o h i j k l. (cc))
    (a_word (opens_fine (suc n)) ForWord (codes "for") refl refl) (selection_read v s g e expr) (a_word free_of DoWord (codes "do") refl refl) stmts (a_word free_of OdWord (codes "od") refl refl)

else_some_read : (n left : ℕ) (s : Stmt) (ss : Stmts) → Rereads (IsStmts n left) (AreStmtsOf (stmt_then s ss)) (stmts_words (stmt_then s ss)) → Rereads (IsElse n left) (AreStmtsOf (stmt_then s ss)) (else_words (stmt_then s ss))
else_some_read n left s ss stmts = rereads_two (λ e ts. ts) (λ xs ys e ts p q. with_else p q) (λ e ts p q. q) (a_word free_of ElseWord (codes "else") refl refl) stmts

mutual
  pub stmt_read : (s : Stmt) (n left more : ℕ) → stmt_levels s ≤ n → stmt_names s ≤ left → with_let s more ≤ left → is_stmt s ≡ true → Rereads (IsStmt n left) (IsStmtOf s) (stmt_words s)
  stmt_read (put v s) n left more l m b f = put_read n left v s (left_of _ _ f) (whole_sum_read s n left l m (right_of _ _ f))
  stmt_read (put_of p v s) n left more l m b f =
      put_of_read n left p v s (port_read p n left (omega (arith, l)) (omega (arith, m)) (left_of _ _ (left_of _ _ f))) (right_of _ _ (left_of _ _ f)) (whole_sum_read s n left (omega (arith, l)) (omega (arith, m)) (right_of _ _ f))
  stmt_read (let_be v p) n zero more l m b f = absurd (omega (arith, b))
  stmt_read (let_be v p) n (suc left) more l m b f = let_read n left v p (left_of _ _ f) (port_read p n (suc left) l m (right_of _ _ f))
  stmt_read (if_then g ss es) zero left more l m b f = absurd (omega (arith, l))
  stmt_read (if_then g ss es) (suc n) left more l m b f =
      let ones = left_of _ _ (left_of _ _ f) in
      let some = left_of _ _ ones in
      if_read n left g ss es (expr_read g n left (omega (arith, l)) (omega (arith, m)) (left_of _ _ some))
      (stmts_read ss n left 0 (omega (arith, l)) (omega (arith, m)) (upto 1 _ most_elements (right_of _ _ some)) (from 1 _ most_elements (right_of _ _ some)) (right_of _ _ ones))
      (else_read es n left 0 (omega (arith, l)) (omega (arith, m)) (upto 0 _ most_elements (right_of _ _ (left_of _ _ f))) (right_of _ _ f))
  stmt_read (for_each v s g ss) zero left more l m b f = absurd (omega (arith, l))
  stmt_read (for_each v s g ss) (suc zero) left more l m b f = absurd (omega (arith, l))
  stmt_read (for_each v s g ss) (suc (suc n)) zero more l m b f = absurd (omega (arith, m))
  stmt_read (for_each v s g ss) (suc (suc n)) (suc left) more l m b f =
      let some = left_of _ _ f in
      for_read n left v s g ss (left_of _ _ (left_of _ _ some)) (expr_read g n left (omega (arith, l)) (omega (arith, m)) (right_of _ _ (left_of _ _ some)))
      (stmts_read ss (suc n) left 0 (omega (arith, l)) (omega (arith, m)) (upto 1 _ most_elements (right_of _ _ some)) (from 1 _ most_elements (right_of _ _ some)) (right_of _ _ f))

  pub stmts_read : (ss : Stmts) (n left more : ℕ) → stmts_levels ss ≤ n → stmts_names more ss ≤ left → stmt_count ss ≤ 64 → 1 ≤ stmt_count ss → are_stmts ss ≡ true → Rereads (IsStmts n left) (AreStmtsOf ss) (stmts_words ss)
  stmts_read no_stmts n left more l m k some f = absurd (omega (arith, some))
  stmts_read (stmt_then s ss) n left more l m k some f =
      list_read n left s ss (stmt_read s n left (stmts_names more ss) (omega (arith, l)) (omega (arith, m)) (omega (arith, m)) (left_of _ _ f))
      (more_read ss n (names_left_after left s) 63 more (omega (arith, l)) (rest_of_all (stmt_then s no_stmts) left (stmts_names more ss) m) (omega (arith, k)) (right_of _ _ f))

  pub else_read : (ss : Stmts) (n left more : ℕ) → stmts_levels ss ≤ n → stmts_names more ss ≤ left → stmt_count ss ≤ 64 → are_stmts ss ≡ true → Rereads (IsElse n left) (AreStmtsOf ss) (else_words ss)
  else_read no_stmts n left more l m k f = rereads_none no_stmts no_else refl
  else_read (stmt_then s ss) n left more l m k f =
      else_some_read n left s ss (list_read n left s ss (stmt_read s n left (stmts_names more ss) (omega (arith, l)) (omega (arith, m)) (omega (arith, m)) (left_of _ _ f))
      (more_read ss n (names_left_after left s) 63 more (omega (arith, l)) (rest_of_all (stmt_then s no_stmts) left (stmts_names more ss) m) (omega (arith, k)) (right_of _ _ f)))

  pub more_read : (ss : Stmts) (n left room more : ℕ) → stmts_levels ss ≤ n → stmts_names more ss ≤ left → stmt_count ss ≤ room → are_stmts ss ≡ true → MoreRead n left room ss
  more_read no_stmts n left room more l m k f = rereads_none no_stmts no_more_stmts refl
  more_read (stmt_then s ss) n left zero more l m k f = absurd (omega (arith, k))
  more_read (stmt_then s ss) n left (suc room) more l m k f =
      more_list_read n left room s ss (stmt_read s n left (stmts_names more ss) (omega (arith, l)) (omega (arith, m)) (omega (arith, m)) (left_of _ _ f))
      (more_read ss n (names_left_after left s) room more (omega (arith, l)) (rest_of_all (stmt_then s no_stmts) left (stmts_names more ss) m) (omega (arith, k)) (right_of _ _ f))
