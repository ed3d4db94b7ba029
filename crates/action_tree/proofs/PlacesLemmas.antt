-- Places: what a search finds, and what a pass over a list leaves.
use Rattle.std.proofs.Common.{◌≡◌, ◌≤◌, ◌<◌, ◌+◌, ◌&&◌, ◌∙◌, ℕ, zero, suc, Bool, true, false, List, [], ◌∷◌, ◌++◌, length, map, take, drop, set, get_or, refl, sym, ap, subst, cond, not, Some, None, nat_lt, arith, add-one}
use Rattle.std.proofs.lemmas.Bool.{and_from, ltb-false}
use Rattle.std.proofs.lemmas.List.{map-append, take_all, drop_more, drop-set-lt}
use Rattle.std.proofs.lemmas.List.Folds.{list_all-append}
use Rattle.std.proofs.lemmas.List.Sums.{prefix_len-le-length}
use Rattle.std.proofs.Math.Seq.{map-set_same, take-suc-set}
use Rattle.std.specs.List.{position, position_or_len, list_all}
use Rattle.std.specs.Str.{bytes_eq}
use Rattle.action_tree.specs.declared.expression.Guard as code
use Rattle.action_tree.specs.declared.expression.Part as code_part
use Rattle.action_tree.specs.declared.statement.Stmt as code_stmt
use Rattle.action_tree.specs.declared.program.Action.{Action}
use Rattle.action_tree.specs.declared.program.Var.{Var}
use Rattle.action_tree.specs.declared.statement.Stmt.{out-Stmt, map-Stmt}
use Rattle.action_tree.specs.declared.statement.Stmt.TheFolds.{fold_out-Stmt}
use Rattle.action_tree.specs.declared.statement.Stmt.TheOpen.{Stmt-F}
use Rattle.action_tree.specs.Places.{place_among, Placing, StmtPlacing, in_turn, stmt_placing, placing_of}
use Rattle.action_tree.specs.Scopes.{Scope, HasRoom, names_of_vars, scope_after, scope_after_all}
use Rattle.action_tree.specs.Trees.{Stmt, terms, guards, stmts}
use Rattle.action_tree.specs.Views.{guard_of, guards_of, part_of, terms_of, stmt_step, stmt_of, stmts_of, var_of, action_of}
use Rattle.action_tree.specs.Writable.{guard_names, guards_names, term_names, sum_names, with_let, stmt_names, stmts_names, action_names, is_action}
use Rattle.action_tree.proofs.Conditions.{left_of, right_of}
use Rattle.action_tree.proofs.Rooms.{room_after, fewer_behind, few_names}
use Rattle.std.proofs.Math.ListN.{drop_of_length-le}

-- ---- the place of a text, among what has texts

place_of_text : {X : Type 0} (text_of : X → List ℕ) (text : List ℕ) (xs : List X) → place_among (map text_of xs) text ≡ position_or_len (λ x. bytes_eq (text_of x) text) xs
place_of_text text_of text [] = refl
place_of_text text_of text (x ∷ xs) = ap (λ k. cond (not (bytes_eq (text_of x) text)) (1 + k) 0) (place_of_text text_of text xs)

pub found : {X : Type 0} (text_of : X → List ℕ) (text : List ℕ) (xs : List X) (k : ℕ) → position (λ x. bytes_eq (text_of x) text) xs ≡ Some k → k ≡ place_among (map text_of xs) text
found {X} text_of text xs k e = by_room (nat_lt n (length xs)) e ∙ sym (place_of_text text_of text xs)
  where
    n : ℕ
    n = position_or_len (λ x. bytes_eq (text_of x) text) xs

    by_room : (b : Bool) → cond b (Some n) None ≡ Some k → k ≡ n
    by_room true e = cc
    by_room false e = absurd cc

pub not_found : {X : Type 0} (text_of : X → List ℕ) (text : List ℕ) (xs : List X) → position (λ x. bytes_eq (text_of x) text) xs ≡ None → length xs ≡ place_among (map text_of xs) text
not_found {X} text_of text xs e = by_room (nat_lt n (length xs)) refl e ∙ sym (place_of_text text_of text xs)
  where
    n : ℕ
    n = position_or_len (λ x. bytes_eq (text_of x) text) xs

    by_room : (b : Bool) → nat_lt n (length xs) ≡ b → cond b (Some n) None ≡ None → length xs ≡ n
    by_room true h e = absurd cc
    by_room false h e = omega (arith, ltb-false n (length xs) h, prefix_len-le-length (λ x. not (bytes_eq (text_of x) text)) xs)

-- the names of variables are their texts
pub names_seen : (vs : List Var) → names_of_vars (map var_of vs) ≡ map (λ v. v.name.text.bytes) vs
names_seen [] = refl
names_seen (v ∷ vs) = ap (λ names. v.name.text.bytes ∷ names) (names_seen vs)

-- ---- a pass over a list

-- before the element at i: those before it have their places, and all are seen as at the start
pub record IsPassed {X Y : Type 0} (view : X → Y) (placed : X → Placing) (sc : Scope) (start xs : List X) (i : ℕ) : Type 0 where
  pub same : map view xs ≡ map view start
  pub done : list_all (λ is_placed. is_placed sc) (map placed (take i xs)) ≡ true

pub passed_next : {X Y : Type 0} {view : X → Y} {placed : X → Placing} {sc : Scope} {start xs : List X} {i : ℕ} (x y : X) → IsPassed view placed sc start xs i → i < length xs → x ≡ get_or xs i x → view y ≡ view x → placed y sc ≡ true → IsPassed view placed sc start (set xs i y) (i + 1)
passed_next {X} {Y} {view} {placed} {sc} {start} {xs} {i} x y p l is seen fine =
    let test : Placing → Bool = λ is_placed. is_placed sc in
    record {
      same = map-set_same view xs i y x (seen ∙ ap view is) ∙ p.same;
      done =
          rw (add-one, take-suc-set xs i y l, map-append, list_all-append)
          (and_from (list_all test (map placed (take i xs))) (test (placed y) && true) p.done (and_from _ _ fine refl));
    }

pub all_passed : {X Y : Type 0} {view : X → Y} {placed : X → Placing} {sc : Scope} {start xs : List X} {i : ℕ} → IsPassed view placed sc start xs i → length xs ≤ i → list_all (λ is_placed. is_placed sc) (map placed xs) ≡ true
all_passed {xs} {i} p l = rw (take_all i xs l) at p.done

-- ---- room for the names of one of a list

most_of_guards : (gs : List code.Guard) (i : ℕ) (g : code.Guard) → i < length gs → guard_names (guard_of (get_or gs i g)) ≤ guards_names (guards_of gs)
most_of_guards [] i g l = absurd (omega arith)
most_of_guards (h ∷ gs) zero g l = omega arith
most_of_guards (h ∷ gs) (suc i) g l = omega (arith, most_of_guards gs i g (omega arith))

pub guard_room : (sc : Scope) (start gs : List code.Guard) (i : ℕ) (g : code.Guard) → HasRoom sc (guards_names (guards_of start)) → map guard_of gs ≡ map guard_of start → i < length gs → g ≡ get_or gs i g → HasRoom sc (guard_names (guard_of g))
guard_room sc start gs i g room same l is =
    let most = most_of_guards gs i g l in
    let e = ap (λ ts. guards_names (guards ts)) same in
    let h = ap (λ x. guard_names (guard_of x)) is in
    omega arith

most_of_parts : (ps : List code_part.Part) (i : ℕ) (p : code_part.Part) → i < length ps → term_names (part_of (get_or ps i p)).term ≤ sum_names (terms_of ps)
most_of_parts [] i p l = absurd (omega arith)
most_of_parts (q ∷ ps) zero p l = omega arith
most_of_parts (q ∷ ps) (suc i) p l = omega (arith, most_of_parts ps i p (omega arith))

pub part_room : (sc : Scope) (start ps : List code_part.Part) (i : ℕ) (p : code_part.Part) → HasRoom sc (sum_names (terms_of start)) → map part_of ps ≡ map part_of start → i < length ps → p ≡ get_or ps i p → HasRoom sc (term_names (part_of p).term)
part_room sc start ps i p room same l is =
    let most = most_of_parts ps i p l in
    let e = ap (λ ts. sum_names (terms ts)) same in
    let h = ap (λ x. term_names (part_of x).term) is in
    omega arith

-- ---- a pass over statements

by_form : (sc : Scope) (x : Stmt-F code_stmt.Stmt) → (stmt_placing (map-Stmt code_stmt.Stmt StmtPlacing placing_of x)).behind sc ≡ scope_after sc (stmt_step (map-Stmt code_stmt.Stmt Stmt stmt_of x))
by_form sc (Stmt-F.Put w s) = refl
by_form sc (Stmt-F.PutOf p w s) = refl
by_form sc (Stmt-F.Let w p) = refl
by_form sc (Stmt-F.If g v w) = refl
by_form sc (Stmt-F.For w s g v) = refl

pub behind_is : (sc : Scope) (s : code_stmt.Stmt) → (placing_of s).behind sc ≡ scope_after sc (stmt_of s)
behind_is sc s =
    ap (λ (p : StmtPlacing). p.behind sc) (fold_out-Stmt StmtPlacing stmt_placing s) ∙ by_form sc (out-Stmt s)
    ∙ sym (ap (scope_after sc) (fold_out-Stmt Stmt stmt_step s))

-- what is known behind a list, by its statements alone
abbrev pub behind_all : List StmtPlacing → Scope → Scope
behind_all [] sc = sc
behind_all (s ∷ ss) sc = behind_all ss (s.behind sc)

then_placed : (ss : List StmtPlacing) (s : StmtPlacing) (sc : Scope) → in_turn ss sc ≡ true → s.placed (behind_all ss sc) ≡ true → in_turn (ss ++ s ∷ []) sc ≡ true
then_placed [] s sc e f = and_from _ _ f refl
then_placed (r ∷ ss) s sc e f = and_from _ _ (left_of _ _ e) (then_placed ss s (r.behind sc) (right_of _ _ e) f)

then_behind : (ss : List StmtPlacing) (s : StmtPlacing) (sc : Scope) → behind_all (ss ++ s ∷ []) sc ≡ s.behind (behind_all ss sc)
then_behind [] s sc = refl
then_behind (r ∷ ss) s sc = then_behind ss s (r.behind sc)

-- before the statement at i, where the scope at the start has become the second: those before it have their places, all are seen as at
-- the start, there is room for what is left, and what is known behind the whole is what is known behind that
pub record AreStmtsPassed (first sc : Scope) (start xs : List code_stmt.Stmt) (i : ℕ) : Type 0 where
  pub same : map stmt_of xs ≡ map stmt_of start
  pub done : in_turn (map placing_of (take i xs)) first ≡ true
  pub reached : sc ≡ behind_all (map placing_of (take i xs)) first
  pub room : HasRoom sc (stmts_names 0 (stmts (map stmt_of (drop i xs))))
  pub behind : scope_after_all first (stmts_of start) ≡ scope_after_all sc (stmts (map stmt_of (drop i xs)))

pub stmts_next : {first sc : Scope} {start xs : List code_stmt.Stmt} {i : ℕ} (behind : Scope) (x y : code_stmt.Stmt) → AreStmtsPassed first sc start xs i → i < length xs → x ≡ get_or xs i x → stmt_of y ≡ stmt_of x → (placing_of y).placed sc ≡ true → behind ≡ scope_after sc (stmt_of y) → AreStmtsPassed first behind start (set xs i y) (i + 1)
stmts_next {first} {sc} {start} {xs} {i} behind x y p l is seen fine leads =
    let front : take (i + 1) (set xs i y) ≡ take i xs ++ y ∷ [] = rw add-one (take-suc-set xs i y l) in
    let rest : drop (i + 1) (set xs i y) ≡ drop (i + 1) xs = drop-set-lt (i + 1) xs i y (omega arith) in
    let more = drop_more xs i x l in
    let here : drop i xs ≡ x ∷ drop (i + 1) xs = cc in
    let left = stmts (map stmt_of (drop (i + 1) xs)) in
    let led : behind ≡ scope_after sc (stmt_of x) = leads ∙ ap (scope_after sc) seen in
    let Fine : Scope → Type 0 = λ known. (placing_of y).placed known ≡ true in
    let Room : Scope → Type 0 = λ known. HasRoom known (stmts_names 0 left) in
    let room = rw here at p.room in
    record {
      same = map-set_same stmt_of xs i y x (seen ∙ ap stmt_of is) ∙ p.same;
      done = rw (front, map-append) (then_placed (map placing_of (take i xs)) (placing_of y) first p.done (subst Fine p.reached fine));
      reached =
          rw (front, map-append)
          (leads ∙ sym (then_behind (map placing_of (take i xs)) (placing_of y) first ∙ (ap (placing_of y).behind (sym p.reached) ∙ behind_is sc y)));
      room = rw rest (subst Room (sym led) (room_after sc (stmt_of x) (stmts_names 0 left) (omega arith)));
      behind = rw rest (p.behind ∙ ap (λ ts. scope_after_all sc (stmts (map stmt_of ts))) here ∙ ap (λ known. scope_after_all known left) (sym led));
    }

-- room for the statement at i, and for its name behind it
pub stmt_room : {first sc : Scope} {start xs : List code_stmt.Stmt} {i : ℕ} (x : code_stmt.Stmt) → AreStmtsPassed first sc start xs i → i < length xs → x ≡ get_or xs i x → HasRoom sc (stmt_names (stmt_of x)) × HasRoom sc (with_let (stmt_of x) 0)
stmt_room {first} {sc} {start} {xs} {i} x p l is =
    let more = drop_more xs i x l in
    let here : drop i xs ≡ x ∷ drop (i + 1) xs = cc in
    let room = rw here at p.room in
    (omega arith, omega (arith, fewer_behind (stmt_of x) 0 (stmts_names 0 (stmts (map stmt_of (drop (i + 1) xs)))) (omega arith)))

pub stmts_over : {first sc : Scope} {start xs : List code_stmt.Stmt} {i : ℕ} → AreStmtsPassed first sc start xs i → length xs ≤ i → (in_turn (map placing_of xs) first ≡ true) × (sc ≡ scope_after_all first (stmts_of start))
stmts_over {first} {sc} {start} {xs} {i} p l =
    (rw (take_all i xs l) at p.done, sym (rw (drop_of_length-le xs l) at p.behind))

-- ---- a pass over actions

counted_at : (xs : List Action) (i : ℕ) (a : Action) → list_all is_action (map action_of xs) ≡ true → i < length xs → is_action (action_of (get_or xs i a)) ≡ true
counted_at [] i a e l = absurd (omega arith)
counted_at (x ∷ xs) zero a e l = left_of _ _ e
counted_at (x ∷ xs) (suc i) a e l = counted_at xs i a (right_of _ _ e) (omega arith)

pub action_room : (sc : Scope) (start xs : List Action) (i : ℕ) (a : Action) → sc.bound ≡ [] → list_all is_action (map action_of start) ≡ true → map action_of xs ≡ map action_of start → i < length xs → HasRoom sc (action_names (action_of (get_or xs i a)))
action_room sc start xs i a none e same l =
    let fine = counted_at xs i a (ap (list_all is_action) same ∙ e) l in
    omega (arith, ap length none, few_names (action_of (get_or xs i a)) fine)
