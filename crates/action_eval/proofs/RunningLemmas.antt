-- Statements that run on a working copy, one after the other.
use Rattle.std.proofs.Common.{◌≡◌, ◌≤◌, ◌<◌, ◌+◌, ◌∙◌, ℕ, ℤ, Vec, Bool, true, false, List, [], ◌∷◌, ◌++◌, length, map, drop, get_or, refl, sym, ap, subst, Some, None, arith}
use Rattle.std.specs.Prelude.{if◌then◌else◌}
use Rattle.std.specs.declared.result.Result.{Result}
use Rattle.std.specs.declared.result.Result.TheVariants.{Ok, Err}
use Rattle.std.proofs.lemmas.Bool.{and_parts}
use Rattle.std.proofs.lemmas.List.{length-map, drop_more}
use Rattle.std.proofs.Math.ListN.{drop_of_length-le}
use Rattle.amoebot_state.specs.declared.bot.Port.{Port}
use Rattle.amoebot_state.specs.declared.verdict.Failure.{Failure}
use Rattle.amoebot_state.specs.Configs.{Config}
use Rattle.model_ops.specs.Operations.{and_then, write}
use Rattle.model_ops.specs.Sights.{sight}
use Rattle.model_ops.specs.Sites.{done}
use Rattle.model_ops.specs.WorkingCopies.{WorkingCopy, IsUnmoved, opened, own_id, copy_after}
use Rattle.action_tree.specs.declared.word.Word.{Word}
use Rattle.action_tree.specs.declared.expression.Sum.{Sum}
use Rattle.action_tree.specs.declared.expression.PortSet.{PortSet}
use Rattle.action_tree.specs.declared.expression.PortExpr.{PortExpr}
use Rattle.action_tree.specs.declared.expression.Guard as code_guard
use Rattle.action_tree.specs.declared.statement.Stmt as code
use Rattle.action_tree.specs.declared.statement.Stmt.TheVariants as variant
use Rattle.action_tree.specs.declared.statement.Stmt.TheOpen.{Stmt-F}
use Rattle.action_tree.specs.declared.statement.Stmt.TheFolds.{fold-roll-Stmt}
use Rattle.std.specs.declared.alloc.Global.{Global}
use Rattle.action_tree.specs.Trees.{Name, Guard, Stmt, put, put_of, let_be, if_then, for_each, Stmts, no_stmts, stmt_then}
use Rattle.action_tree.specs.Views.{stmt_step, name_of, port_of, sum_of, guard_of, stmt_of, stmts_of}
use Rattle.action_tree.specs.Writable.{is_stmt, are_stmts}
use Rattle.action_tree.specs.Places.{stmt_placed, stmts_placed}
use Rattle.action_tree.proofs.PlacesLemmas.{behind_is}
use Rattle.action_tree.proofs.Viewed.{stmt_put, stmt_put_of, stmt_let}
use Rattle.action_check.specs.Rules.{IsNew, StmtKept, StmtsKept}
use Rattle.action_tree.specs.Scopes.{Scope, scope_with as scope_bind}
use Rattle.action_tree.specs.Scopes.{scope_after as after_stmt}
use Rattle.action_tree.specs.Scopes.{scope_after_all}
use Rattle.amoebot_state.specs.Zones.{Shown, IsShown, shown_alone}
use Rattle.amoebot_state.proofs.Shows.{shown_valid}
use Rattle.model_ops.specs.Reaches.{ReachesUnmoved}
use Rattle.model_ops.proofs.ShownAlike.{Seen, IsShownBot, agrees_at_first}
use Rattle.model_ops.proofs.CopiesStand.{gap_there}
use Rattle.action_meaning.proofs.Alongside.{Alike, at_first, stmts_alike}
use Rattle.action_meaning.specs.Names.{Names, Bound, bind, var_number}
use Rattle.action_meaning.specs.Values.{guard_value, sum_value, port_value, ports_of}
use Rattle.action_meaning.specs.Effects.{Moment, moment, reaching, leaving, for_ports, stmt_effect, stmts_effect}
use Rattle.action_eval.specs.Known.{scope_of}
use Rattle.action_eval.specs.Running.{moment_of, turn_effect}
use Rattle.action_check.proofs.FaultLoops.{here}

-- ---- the trees of statements by their parts

stmt_at_for : (w : Word) (set : PortSet) (g : code_guard.Guard) (v : Vec code.Stmt Global) → stmt_of (variant.For w set g v) ≡ for_each (name_of w) set (guard_of g) (stmts_of v.items)
stmt_at_for w set g v = ap stmt_of (sym (variant.rolls-For w set g v)) ∙ fold-roll-Stmt Stmt stmt_step (Stmt-F.For w set g v)

stmt_at_if : (g : code_guard.Guard) (v w : Vec code.Stmt Global) → stmt_of (variant.If g v w) ≡ if_then (guard_of g) (stmts_of v.items) (stmts_of w.items)
stmt_at_if g v w = ap stmt_of (sym (variant.rolls-If g v w)) ∙ fold-roll-Stmt Stmt stmt_step (Stmt-F.If g v w)

-- of a statement whose variant is known

pub put_tree : (s : code.Stmt) (w : Word) (a : Sum) → s ≡ variant.Put w a → stmt_of s ≡ put (name_of w) (sum_of a)
put_tree s w a is = ap stmt_of is ∙ stmt_put w a

pub put_of_tree : (s : code.Stmt) (p : PortExpr) (w : Word) (a : Sum) → s ≡ variant.PutOf p w a → stmt_of s ≡ put_of (port_of p) (name_of w) (sum_of a)
put_of_tree s p w a is = ap stmt_of is ∙ stmt_put_of p w a

pub let_tree : (s : code.Stmt) (w : Word) (p : PortExpr) → s ≡ variant.Let w p → stmt_of s ≡ let_be (name_of w) (port_of p)
let_tree s w p is = ap stmt_of is ∙ stmt_let w p

pub if_tree : (s : code.Stmt) (g : code_guard.Guard) (v w : Vec code.Stmt Global) → s ≡ variant.If g v w → stmt_of s ≡ if_then (guard_of g) (stmts_of v.items) (stmts_of w.items)
if_tree s g v w is = ap stmt_of is ∙ stmt_at_if g v w

pub for_tree : (s : code.Stmt) (w : Word) (set : PortSet) (g : code_guard.Guard) (v : Vec code.Stmt Global) → s ≡ variant.For w set g v → stmt_of s ≡ for_each (name_of w) set (guard_of g) (stmts_of v.items)
for_tree s w set g v is = ap stmt_of is ∙ stmt_at_for w set g v

-- ---- a write behind its sum

pub put_ran : (w v : WorkingCopy) (xs : Names) (r : Result ℤ Failure) (k : ℤ → Result Config Failure) → Ok tt ≡ done (and_then r k) → v ≡ copy_after w (and_then r k) → (and_then r (λ x. reaching (moment_of w xs) (k x)) ≡ Ok (moment_of v xs)) × (v.found ≡ w.found)
put_ran w v xs (Err f) k e is = absurd cc
put_ran w v xs (Ok x) k e is = by (k x) e is
  where
    by : (q : Result Config Failure) → Ok tt ≡ done q → v ≡ copy_after w q → (reaching (moment_of w xs) q ≡ Ok (moment_of v xs)) × (v.found ≡ w.found)
    by (Ok d) e is = (ap (λ (u : WorkingCopy). Ok (moment_of u xs)) (sym is), ap (λ (u : WorkingCopy). u.found) is)
    by (Err f) e is = absurd cc

pub put_failed : (w : WorkingCopy) (xs : Names) (r : Result ℤ Failure) (k : ℤ → Result Config Failure) (f : Failure) → Err f ≡ done (and_then r k) → and_then r (λ x. reaching (moment_of w xs) (k x)) ≡ Err f
put_failed w xs (Err g) k f e = cc
put_failed w xs (Ok x) k f e = by (k x) e
  where
    by : (q : Result Config Failure) → Err f ≡ done q → reaching (moment_of w xs) q ≡ Err f
    by (Ok d) e = absurd cc
    by (Err g) e = cc

-- ---- the names behind a statement

-- where it ends well, the names known are those of a scope
abbrev IsBehind : Scope → Result Moment Failure → Type 0
IsBehind sc (Ok n) = scope_of n.names ≡ sc
IsBehind sc (Err f) = Unit {0}

-- where it ends well, the names in force are these
abbrev IsKept : Names → Result Moment Failure → Type 0
IsKept xs (Ok n) = n.names ≡ xs
IsKept xs (Err f) = Unit {0}

kept_behind : (xs : Names) (r : Result Moment Failure) → IsKept xs r → IsBehind (scope_of xs) r
kept_behind xs (Ok n) is = ap scope_of is
kept_behind xs (Err f) is = tt

then_kept : {A : Type 0} (xs : Names) (r : Result A Failure) (k : A → Result Moment Failure) → ((x : A) → IsKept xs (k x)) → IsKept xs (and_then r k)
then_kept xs (Ok x) k each = each x
then_kept xs (Err f) k each = tt

reaching_kept : (m : Moment) (r : Result Config Failure) → IsKept m.names (reaching m r)
reaching_kept m (Ok d) = refl
reaching_kept m (Err f) = tt

leaving_kept : (m : Moment) (r : Result Moment Failure) → IsKept m.names (leaving m r)
leaving_kept m (Ok n) = refl
leaving_kept m (Err f) = tt

turn_kept : (i : ℕ) (v : Name) (g : Guard) (ss : Stmts) (p : Port) (m : Moment) → IsKept m.names (turn_effect i v g ss p m)
turn_kept i v g ss p m = then_kept m.names (guard_value (sight m.config i) (bind m.names v p) g) (λ b. if b then leaving m (stmts_effect i ss (moment m.config (bind m.names v p))) else Ok m) by
  where
    by : (b : Bool) → IsKept m.names (if b then leaving m (stmts_effect i ss (moment m.config (bind m.names v p))) else Ok m)
    by true = leaving_kept m (stmts_effect i ss (moment m.config (bind m.names v p)))
    by false = refl

go_on : (xs : Names) (r : Result Moment Failure) (k : Moment → Result Moment Failure) → IsKept xs r → ((n : Moment) → n.names ≡ xs → IsKept xs (k n)) → IsKept xs (and_then r k)
go_on xs (Ok n) k now each = each n now
go_on xs (Err g) k now each = tt

ports_kept : (f : Port → Moment → Result Moment Failure) (xs : Names) → ((p : Port) (m : Moment) → m.names ≡ xs → IsKept xs (f p m)) → (ps : List Port) (m : Moment) → m.names ≡ xs → IsKept xs (for_ports f ps m)
ports_kept f xs each [] m is = is
ports_kept f xs each (p ∷ ps) m is = go_on xs (f p m) (for_ports f ps) (each p m is) (λ n now. ports_kept f xs each ps n now)

texts_more : (bs : List Bound) (b : Bound) → map (λ (c : Bound). c.text) (bs ++ b ∷ []) ≡ map (λ (c : Bound). c.text) bs ++ b.text ∷ []
texts_more [] b = refl
texts_more (c ∷ bs) b = ap (λ ts. c.text ∷ ts) (texts_more bs b)

pub scope_of_bound : (xs : Names) (v : Name) (p : Port) → scope_of (bind xs v p) ≡ scope_bind (scope_of xs) v
scope_of_bound xs v p = ap (λ ts. let sc : Scope = record { vars = xs.vars; bound = ts } in sc) (texts_more xs.bound (record { text = v.text; port = p }))

pub room_to_bind : (xs : Names) (v : Name) → IsNew (scope_of xs) v → length xs.bound < 4
room_to_bind xs v new = omega (arith, new.room, length-map xs.bound (λ (b : Bound). b.text))

then_behind : {A : Type 0} (sc : Scope) (r : Result A Failure) (k : A → Result Moment Failure) → ((x : A) → IsBehind sc (k x)) → IsBehind sc (and_then r k)
then_behind sc (Ok x) k each = each x
then_behind sc (Err f) k each = tt

-- a write behind a value
written_kept : (m : Moment) (r : Result ℤ Failure) (k : ℤ → Result Config Failure) → IsKept m.names (and_then r (λ x. reaching m (k x)))
written_kept m r k = then_kept m.names r (λ x. reaching m (k x)) (λ x. reaching_kept m (k x))

stmt_behind : (i : ℕ) (s : Stmt) (m : Moment) → IsBehind (after_stmt (scope_of m.names) s) (stmt_effect i s m)
stmt_behind i (put v a) m = kept_behind m.names (stmt_effect i (put v a) m) (written_kept m (sum_value (sight m.config i) m.names a) (λ x. write m.config i None (var_number m.names v) x))
stmt_behind i (put_of p v a) m =
    kept_behind m.names (stmt_effect i (put_of p v a) m)
    (then_kept m.names (port_value (sight m.config i) m.names p) (λ q. and_then (sum_value (sight m.config i) m.names a) (λ x. reaching m (write m.config i (Some q) (var_number m.names v) x)))
    (λ q. written_kept m (sum_value (sight m.config i) m.names a) (λ x. write m.config i (Some q) (var_number m.names v) x)))
stmt_behind i (let_be v p) m = then_behind (scope_bind (scope_of m.names) v) (port_value (sight m.config i) m.names p) (λ q. Ok (moment m.config (bind m.names v q))) (λ q. scope_of_bound m.names v q)
stmt_behind i (if_then g ss es) m =
    kept_behind m.names (stmt_effect i (if_then g ss es) m)
    (then_kept m.names (guard_value (sight m.config i) m.names g) (λ b. leaving m (if b then stmts_effect i ss m else stmts_effect i es m))
    (λ b. leaving_kept m (if b then stmts_effect i ss m else stmts_effect i es m)))
stmt_behind i (for_each v set g ss) m =
    let kept : (p : Port) (n : Moment) → n.names ≡ m.names → IsKept m.names (turn_effect i v g ss p n) = λ p n is. let P : Names → Type 0 = λ xs. IsKept xs (turn_effect i v g ss p n) in subst P is (turn_kept i v g ss p n) in
    kept_behind m.names (stmt_effect i (for_each v set g ss) m) (ports_kept (turn_effect i v g ss) m.names kept (ports_of (sight m.config i) set) m refl)

pub names_behind : (i : ℕ) (s : Stmt) (m n : Moment) → stmt_effect i s m ≡ Ok n → scope_of n.names ≡ after_stmt (scope_of m.names) s
names_behind i s m n e = subst (IsBehind (after_stmt (scope_of m.names) s)) e (stmt_behind i s m)

stmts_behind : (i : ℕ) (ss : Stmts) (m : Moment) → IsBehind (scope_after_all (scope_of m.names) ss) (stmts_effect i ss m)
stmts_behind i no_stmts m = refl
stmts_behind i (stmt_then s ss) m = go_behind i s ss m (stmt_effect i s m) (stmt_behind i s m) (λ n. stmts_behind i ss n)
  where
    go_behind : (i : ℕ) (s : Stmt) (ss : Stmts) (m : Moment) (r : Result Moment Failure) → IsBehind (after_stmt (scope_of m.names) s) r → ((n : Moment) → IsBehind (scope_after_all (scope_of n.names) ss) (stmts_effect i ss n)) → IsBehind (scope_after_all (scope_of m.names) (stmt_then s ss)) (and_then r (λ n. stmts_effect i ss n))
    go_behind i s ss m (Ok n) is each = let P : Scope → Type 0 = λ sc. IsBehind (scope_after_all sc ss) (stmts_effect i ss n) in subst P is (each n)
    go_behind i s ss m (Err f) is each = tt

pub names_behind_all : (i : ℕ) (ss : Stmts) (m n : Moment) → stmts_effect i ss m ≡ Ok n → scope_of n.names ≡ scope_after_all (scope_of m.names) ss
names_behind_all i ss m n e = subst (IsBehind (scope_after_all (scope_of m.names) ss)) e (stmts_behind i ss m)

-- ---- what statements reach

-- from what is shown, statements reach by writes alone
pub stmts_reach : (s : Shown) → IsShown s → (ss : Stmts) (xs : Names) (n : Moment) → stmts_effect s.bot ss (moment (shown_alone s) xs) ≡ Ok n → ReachesUnmoved (shown_alone s) s.bot n.config
stmts_reach s is ss xs n e =
    let c = shown_alone s in
    let agree = agrees_at_first c c s.bot (shown_valid s is) (shown_valid s is) (gap_there s is) refl in
    let P : Result Moment Failure → Type 0 = λ r. Alike (Seen c s.bot) (IsShownBot c s.bot) s.bot c c agree r r in
    let (same, along) : P (Ok n) = subst P e (stmts_alike (Seen c s.bot) (IsShownBot c s.bot) s.bot c c agree ss c c xs (at_first (Seen c s.bot) (IsShownBot c s.bot) s.bot c c agree)) in
    (along.writes, along.led)

pub stmts_unmoved : (w v : WorkingCopy) (ss : Stmts) (xs ys : Names) → IsShown w.found → w ≡ opened w.found → stmts_effect (own_id w) ss (moment_of w xs) ≡ Ok (moment_of v ys) → v.found ≡ w.found → IsUnmoved v
stmts_unmoved w v ss xs ys shown is e found =
    let P : Shown → Type 0 = λ s. ReachesUnmoved (shown_alone s) s.bot v.reached in
    let first : stmts_effect (own_id w) ss (moment (shown_alone w.found) xs) ≡ Ok (moment_of v ys) = ap (λ (u : WorkingCopy). stmts_effect (own_id w) ss (moment u.reached xs)) (sym is) ∙ e in
    subst P (sym found) (stmts_reach w.found shown ss xs (moment_of v ys) first)

-- ---- the loop over statements

-- before the statement at a place: what is left does from here what the whole does from the start
pub record StmtsLeft (first : WorkingCopy) (start : Names) (ss : List code.Stmt) (k : ℕ) (now : WorkingCopy) (xs : Names) : Type 0 where
  pub kept : StmtsKept (scope_of xs) (stmts_of (drop k ss))
  pub placed : stmts_placed (drop k ss) (scope_of xs) ≡ true
  pub counted : are_stmts (stmts_of (drop k ss)) ≡ true
  pub told : stmts_effect (own_id first) (stmts_of ss) (moment_of first start) ≡ stmts_effect (own_id first) (stmts_of (drop k ss)) (moment_of now xs)
  pub found : now.found ≡ first.found

pub stmt_kept : (first : WorkingCopy) (start : Names) (ss : List code.Stmt) (k : ℕ) (now : WorkingCopy) (xs : Names) (s : code.Stmt) → StmtsLeft first start ss k now xs → k < length ss → s ≡ get_or ss k s → StmtKept (scope_of xs) (stmt_of s)
stmt_kept first start ss k now xs s left l is =
    let kept = rw (here ss k s l is) at left.kept in
    kept.0

pub stmt_in_place : (first : WorkingCopy) (start : Names) (ss : List code.Stmt) (k : ℕ) (now : WorkingCopy) (xs : Names) (s : code.Stmt) → StmtsLeft first start ss k now xs → k < length ss → s ≡ get_or ss k s → stmt_placed s (scope_of xs) ≡ true
stmt_in_place first start ss k now xs s left l is =
    let placed = rw (here ss k s l is) at left.placed in
    (and_parts _ _ placed).0

pub stmt_counted : (first : WorkingCopy) (start : Names) (ss : List code.Stmt) (k : ℕ) (now : WorkingCopy) (xs : Names) (s : code.Stmt) → StmtsLeft first start ss k now xs → k < length ss → s ≡ get_or ss k s → is_stmt (stmt_of s) ≡ true
stmt_counted first start ss k now xs s left l is =
    let counted = rw (here ss k s l is) at left.counted in
    (and_parts _ _ counted).0

-- the same amoebot works on it
same_id : (first now : WorkingCopy) → now.found ≡ first.found → own_id now ≡ own_id first
same_id first now is = ap (λ s. s.bot) is

pub stmts_next : (first : WorkingCopy) (start : Names) (ss : List code.Stmt) (k : ℕ) (now : WorkingCopy) (xs : Names) (s : code.Stmt) (new : WorkingCopy) (ys : Names) → StmtsLeft first start ss k now xs → k < length ss → s ≡ get_or ss k s → stmt_effect (own_id now) (stmt_of s) (moment_of now xs) ≡ Ok (moment_of new ys) → new.found ≡ now.found → StmtsLeft first start ss (k + 1) new ys
stmts_next first start ss k now xs s new ys left l is e found =
    let kept = rw (here ss k s l is) at left.kept in
    let counted = rw (here ss k s l is) at left.counted in
    let told = rw (here ss k s l is) at left.told in
    let placed = rw (here ss k s l is) at left.placed in
    let P : Scope → Type 0 = λ sc. StmtsKept sc (stmts_of (drop (k + 1) ss)) in
    let Q : Scope → Type 0 = λ sc. stmts_placed (drop (k + 1) ss) sc ≡ true in
    let behind = sym (names_behind (own_id now) (stmt_of s) (moment_of now xs) (moment_of new ys) e) in
    let ran : stmt_effect (own_id first) (stmt_of s) (moment_of now xs) ≡ Ok (moment_of new ys) = ap (λ i. stmt_effect i (stmt_of s) (moment_of now xs)) (sym (same_id first now left.found)) ∙ e in
    record {
      kept = subst P behind kept.1;
      placed = subst Q (behind_is (scope_of xs) s ∙ behind) (and_parts _ _ placed).1;
      counted = (and_parts _ _ counted).1;
      told = told ∙ ap (λ r. and_then r (λ n. stmts_effect (own_id first) (stmts_of (drop (k + 1) ss)) n)) ran;
      found = found ∙ left.found;
    }

pub stmts_fail : (first : WorkingCopy) (start : Names) (ss : List code.Stmt) (k : ℕ) (now : WorkingCopy) (xs : Names) (s : code.Stmt) (f : Failure) → StmtsLeft first start ss k now xs → k < length ss → s ≡ get_or ss k s → stmt_effect (own_id now) (stmt_of s) (moment_of now xs) ≡ Err f → stmts_effect (own_id first) (stmts_of ss) (moment_of first start) ≡ Err f
stmts_fail first start ss k now xs s f left l is e =
    let told = rw (here ss k s l is) at left.told in
    let failed : stmt_effect (own_id first) (stmt_of s) (moment_of now xs) ≡ Err f = ap (λ i. stmt_effect i (stmt_of s) (moment_of now xs)) (sym (same_id first now left.found)) ∙ e in
    told ∙ ap (λ r. and_then r (λ n. stmts_effect (own_id first) (stmts_of (drop (k + 1) ss)) n)) failed

pub stmts_over : (first : WorkingCopy) (start : Names) (ss : List code.Stmt) (k : ℕ) (now : WorkingCopy) (xs : Names) → StmtsLeft first start ss k now xs → length ss ≤ k → (stmts_effect (own_id first) (stmts_of ss) (moment_of first start) ≡ Ok (moment_of now xs)) × (now.found ≡ first.found)
stmts_over first start ss k now xs left l =
    let told = rw (drop_of_length-le ss l) at left.told in
    (told, left.found)

-- ---- the loop over the ports of a `for`

pub record PortsLeft (turn : ℕ → Port → Moment → Result Moment Failure) (first : WorkingCopy) (ps : List Port) (k : ℕ) (now : WorkingCopy) (xs : Names) : Type 0 where
  pub told : for_ports (turn (own_id first)) ps (moment_of first xs) ≡ for_ports (turn (own_id first)) (drop k ps) (moment_of now xs)
  pub found : now.found ≡ first.found

pub ports_next : (turn : ℕ → Port → Moment → Result Moment Failure) (first : WorkingCopy) (ps : List Port) (k : ℕ) (d : Port) (now : WorkingCopy) (xs : Names) (new : WorkingCopy) → PortsLeft turn first ps k now xs → k < length ps → turn (own_id now) (get_or ps k d) (moment_of now xs) ≡ Ok (moment_of new xs) → new.found ≡ now.found → PortsLeft turn first ps (k + 1) new xs
ports_next turn first ps k d now xs new left l e found =
    let told = rw (drop_more ps k d l) at left.told in
    let ran : turn (own_id first) (get_or ps k d) (moment_of now xs) ≡ Ok (moment_of new xs) = ap (λ i. turn i (get_or ps k d) (moment_of now xs)) (sym (same_id first now left.found)) ∙ e in
    record { told = told ∙ ap (λ r. and_then r (λ n. for_ports (turn (own_id first)) (drop (k + 1) ps) n)) ran; found = found ∙ left.found }

pub ports_fail : (turn : ℕ → Port → Moment → Result Moment Failure) (first : WorkingCopy) (ps : List Port) (k : ℕ) (d : Port) (now : WorkingCopy) (xs : Names) (f : Failure) → PortsLeft turn first ps k now xs → k < length ps → turn (own_id now) (get_or ps k d) (moment_of now xs) ≡ Err f → for_ports (turn (own_id first)) ps (moment_of first xs) ≡ Err f
ports_fail turn first ps k d now xs f left l e =
    let told = rw (drop_more ps k d l) at left.told in
    let failed : turn (own_id first) (get_or ps k d) (moment_of now xs) ≡ Err f = ap (λ i. turn i (get_or ps k d) (moment_of now xs)) (sym (same_id first now left.found)) ∙ e in
    told ∙ ap (λ r. and_then r (λ n. for_ports (turn (own_id first)) (drop (k + 1) ps) n)) failed

pub ports_over : (turn : ℕ → Port → Moment → Result Moment Failure) (first : WorkingCopy) (ps : List Port) (k : ℕ) (now : WorkingCopy) (xs : Names) → PortsLeft turn first ps k now xs → length ps ≤ k → (for_ports (turn (own_id first)) ps (moment_of first xs) ≡ Ok (moment_of now xs)) × (now.found ≡ first.found)
ports_over turn first ps k now xs left l =
    let told = rw (drop_of_length-le ps l) at left.told in
    (told, left.found)
