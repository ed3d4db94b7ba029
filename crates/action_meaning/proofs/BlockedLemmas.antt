-- No value and no statement is blocked, and statements keep the walls: so only a movement is blocked, and by a wall that is shown.
use Rattle.std.proofs.Common.{◌≡◌, ◌≢◌, ℕ, suc, ℤ, Bool, true, false, not, List, [], ◌∷◌, ap, subst, Option, Some, None}
use Rattle.std.specs.Prelude.{if◌then◌else◌, nat_le, pos}
use Rattle.std.specs.declared.result.Result.{Result}
use Rattle.std.specs.declared.result.Result.TheVariants.{Ok, Err}
use Rattle.amoebot_state.specs.declared.bot.Port.{Port}
use Rattle.amoebot_state.specs.declared.verdict.Failure.{Failure}
use Rattle.amoebot_state.specs.declared.verdict.Failure.TheVariants.{Blocked, NoChoice, NoPort, NotExpanded, OutOfRange}
use Rattle.amoebot_state.specs.declared.verdict.Moved.{Moved}
use Rattle.amoebot_state.specs.declared.verdict.Moved.TheVariants as moved
use Rattle.amoebot_state.specs.declared.verdict.Verdict.{Verdict}
use Rattle.amoebot_state.specs.declared.verdict.Verdict.TheVariants as verdict
use Rattle.amoebot_state.specs.Configs.{Config, bot_of}
use Rattle.amoebot_state.specs.Ports.{behind, is_contracted, is_head, is_port, port}
use Rattle.amoebot_state.specs.Zones.{shown_alone}
use Rattle.amoebot_state.proofs.Members.{Has, not_in_none}
use Rattle.amoebot_state.proofs.Walls.{number_is}
use Rattle.tri_lattice.specs.Extent.{index_of}
use Rattle.model_ops.specs.Operations.{need, and_then, owner, write, is_value}
use Rattle.model_ops.specs.Reaches.{move}
use Rattle.model_ops.specs.Sights.{sight}
use Rattle.model_ops.proofs.Blocked.{no_port, not_expanded, out_of_range, fine, owners, only_walls_block}
use Rattle.action_tree.specs.Trees as tree
use Rattle.action_tree.specs.Trees.{Name, Guard, Guards, Sum, Term, Side, PortTest, PortExpr, DirTerm, Stmt, put, put_of, let_be, if_then, for_each, Stmts, no_stmts, stmt_then, Move, no_move, through, contract, Action, Program}
use Rattle.action_meaning.specs.Names.{Names, bind, var_number}
use Rattle.action_meaning.specs.Choices.{decided_by}
use Rattle.action_meaning.specs.Values.{guard_value, each_value, some_value, sum_value, term_value, port_value, dirterm_value, test_value, side_value, ports_of}
use Rattle.action_meaning.specs.Effects.{Moment, moment, reaching, leaving, for_ports, stmt_effect, stmts_effect}
use Rattle.action_meaning.specs.Verdicts.{move_value, moved_through, MadeMove, action_effect, verdict_of_result, decided_by_guard, actions_verdict, names_at_start}
use Rattle.action_meaning.specs.Laws.{BlockedIsShown}

-- ---- answers that are not blocked

no_choice : NoChoice ≢ Blocked
no_choice e = cc

failed : {A : Type 0} (f : Failure) → f ≢ Blocked → (let r : Result A Failure = Err f in r) ≢ Err Blocked
failed f ne e = ne (cc)

need_open : {A : Type 0} (holds : Bool) (f : Failure) (r : Result A Failure) → f ≢ Blocked → r ≢ Err Blocked → need holds f r ≢ Err Blocked
need_open true f r ne is = is
need_open false f r ne is = failed f ne

then_open : {A B : Type 0} (r : Result A Failure) (next : A → Result B Failure) → r ≢ Err Blocked → ((x : A) → next x ≢ Err Blocked) → and_then r next ≢ Err Blocked
then_open (Ok x) next ne go = go x
then_open (Err f) next ne go = failed f (λ e. ne (ap Err e))

either_open : {A : Type 0} (b : Bool) (r q : Result A Failure) → r ≢ Err Blocked → q ≢ Err Blocked → (if b then r else q) ≢ Err Blocked
either_open true r q is other = is
either_open false r q is other = other

decided_open : {A : Type 0} (otherwise : Result A Failure) (answer : Port → Result A Failure) (o : Option Port) → otherwise ≢ Err Blocked → ((p : Port) → answer p ≢ Err Blocked) → decided_by otherwise answer o ≢ Err Blocked
decided_open otherwise answer None ne go = ne
decided_open otherwise answer (Some p) ne go = go p

-- ---- values

module _ (c : Config) (i : ℕ) where
  test_open : (t : PortTest) (p : Port) → test_value (sight c i) t p ≢ Err Blocked
  test_open tree.linked p = only_walls_block.connects c i p
  test_open tree.free p = only_walls_block.frees c i p
  test_open tree.at_head p = need_open (is_port (bot_of c i) p) NoPort (Ok (is_head p.end)) no_port (fine (is_head p.end))
  test_open tree.peer_expanded p = then_open _ _ (only_walls_block.peers c i p) (λ seen. fine seen.expanded)
  test_open tree.peer_head p = then_open _ _ (only_walls_block.peers c i p) (λ seen. fine seen.at_head)

  side_open : (s : Side) (p : Port) → side_value (sight c i) s p ≢ Err Blocked
  side_open tree.own_side p = need_open (is_port (bot_of c i) p) NoPort (Ok p.dir) no_port (fine p.dir)
  side_open tree.peer_side p = then_open _ _ (only_walls_block.peers c i p) (λ seen. fine seen.dir)

  whole_open : (r : Result ℕ Failure) → r ≢ Err Blocked → and_then r (λ n. Ok (pos n)) ≢ Err Blocked
  whole_open r ne = then_open r _ ne (λ n. fine (pos n))

  dirterm_open : (xs : Names) (d : DirTerm) → dirterm_value (sight c i) xs d ≢ Err Blocked
  dirterm_open xs (tree.fixed n) = fine n.value
  dirterm_open xs (tree.held v) = then_open _ _ (only_walls_block.reads c i None (var_number xs v)) (λ d. need_open (nat_le d 5) NoPort (Ok d) no_port (fine d))

  mutual
    guard_open : (xs : Names) (g : Guard) → guard_value (sight c i) xs g ≢ Err Blocked
    guard_open xs (tree.atom a) = fine _
    guard_open xs (tree.negation g) = then_open _ _ (guard_open xs g) (λ b. fine (not b))
    guard_open xs (tree.conjunction gs) = each_open xs gs
    guard_open xs (tree.disjunction gs) = some_open xs gs
    guard_open xs (tree.quantified tree.any v set g) = decided_open _ _ _ (fine false) (λ p. guard_open (bind xs v p) g)
    guard_open xs (tree.quantified tree.all v set g) = decided_open _ _ _ (fine true) (λ p. guard_open (bind xs v p) g)
    guard_open xs (tree.tested t p) = then_open _ _ (port_open xs p) (test_open t)
    guard_open xs (tree.comparison a t b) = then_open _ _ (sum_open xs a) (λ x. then_open _ _ (sum_open xs b) (λ y. fine _))

    each_open : (xs : Names) (gs : Guards) → each_value (sight c i) xs gs ≢ Err Blocked
    each_open xs tree.no_guards = fine true
    each_open xs (tree.guard_then g gs) = then_open _ _ (guard_open xs g) (λ b. either_open b _ _ (each_open xs gs) (fine false))

    some_open : (xs : Names) (gs : Guards) → some_value (sight c i) xs gs ≢ Err Blocked
    some_open xs tree.no_guards = fine false
    some_open xs (tree.guard_then g gs) = then_open _ _ (guard_open xs g) (λ b. either_open b _ _ (fine true) (some_open xs gs))

    sum_open : (xs : Names) (s : Sum) → sum_value (sight c i) xs s ≢ Err Blocked
    sum_open xs tree.no_terms = fine (pos 0)
    sum_open xs (tree.term_then minus t more) = then_open _ _ (term_open xs t) (λ x. then_open _ _ (sum_open xs more) (λ y. fine _))

    term_open : (xs : Names) (t : Term) → term_value (sight c i) xs t ≢ Err Blocked
    term_open xs (tree.number n) = fine (pos n.value)
    term_open xs (tree.own v) = whole_open _ (only_walls_block.reads c i None (var_number xs v))
    term_open xs (tree.of_port p v) = then_open _ _ (port_open xs p) (λ q. whole_open _ (only_walls_block.reads c i (Some q) (var_number xs v)))
    term_open xs (tree.count v set g) = whole_open _ (decided_open _ _ _ (fine _) (λ p. then_open _ _ (guard_open (bind xs v p) g) (λ b. fine 0)))
    term_open xs (tree.direction side p) = then_open _ _ (port_open xs p) (λ q. whole_open _ (side_open side q))
    term_open xs tree.inner = whole_open _ (need_open (not (is_contracted (bot_of c i))) NotExpanded (Ok _) not_expanded (fine _))
    term_open xs (tree.mod6 a) = then_open _ _ (sum_open xs a) (λ x. fine _)

    port_open : (xs : Names) (p : PortExpr) → port_value (sight c i) xs p ≢ Err Blocked
    port_open xs (tree.bound v) = fine _
    port_open xs (tree.at_end e d) = then_open _ _ (dirterm_open xs d) (λ k. fine (port e k))
    port_open xs (tree.turned p n) = then_open _ _ (port_open xs p) (λ q. fine _)
    port_open xs (tree.first v set g) = decided_open _ _ _ (failed NoChoice no_choice) (λ p. then_open _ _ (guard_open (bind xs v p) g) (λ b. fine p))

-- ---- statements

-- an answer is not blocked, and where it is one, it has a property
abbrev Unblocked : {A : Type 0} → (A → Type 0) → Result A Failure → Type 0
Unblocked P (Ok x) = P x
Unblocked P (Err f) = f ≢ Blocked

unblocked : {A : Type 0} (P : A → Type 0) (r : Result A Failure) → Unblocked P r → r ≢ Err Blocked
unblocked P (Ok x) is = fine x
unblocked P (Err f) ne = failed f ne

-- behind a value
past : {A B : Type 0} (P : B → Type 0) (r : Result A Failure) (next : A → Result B Failure) → r ≢ Err Blocked → ((x : A) → Unblocked P (next x)) → Unblocked P (and_then r next)
past P (Ok x) next ne go = go x
past P (Err f) next ne go = λ e. ne (ap Err e)

past_need : {A : Type 0} (P : A → Type 0) (holds : Bool) (f : Failure) (r : Result A Failure) → f ≢ Blocked → Unblocked P r → Unblocked P (need holds f r)
past_need P true f r ne is = is
past_need P false f r ne is = ne

choose : {A : Type 0} (P : A → Type 0) (b : Bool) (r q : Result A Failure) → Unblocked P r → Unblocked P q → Unblocked P (if b then r else q)
choose P true r q is other = is
choose P false r q is other = other

module _ (i : ℕ) (walls : List ℕ) where
  abbrev HasWalls : Config → Type 0
  HasWalls c = c.walls ≡ walls

  abbrev AtWalls : Moment → Type 0
  AtWalls m = HasWalls m.config

  -- what follows a moment with these walls
  then_keeps : {A : Type 0} (P : A → Type 0) (r : Result Moment Failure) (next : Moment → Result A Failure) → Unblocked AtWalls r → ((m : Moment) → AtWalls m → Unblocked P (next m)) → Unblocked P (and_then r next)
  then_keeps P (Ok m) next is go = go m is
  then_keeps P (Err f) next ne go = ne

  write_keeps : (c : Config) (p : Option Port) (x : ℕ) (s : ℤ) → HasWalls c → Unblocked HasWalls (write c i p x s)
  write_keeps c p x s is = past HasWalls (owner c i p) _ (owners c i p) (λ n. past_need HasWalls (is_value c.maxes x s) OutOfRange _ out_of_range is)

  reach_keeps : (m : Moment) (r : Result Config Failure) → Unblocked HasWalls r → Unblocked AtWalls (reaching m r)
  reach_keeps m (Ok d) is = is
  reach_keeps m (Err f) ne = ne

  leave_keeps : (m : Moment) (r : Result Moment Failure) → Unblocked AtWalls r → Unblocked AtWalls (leaving m r)
  leave_keeps m (Ok n) is = is
  leave_keeps m (Err f) ne = ne

  ports_keep : (f : Port → Moment → Result Moment Failure) → ((p : Port) (m : Moment) → AtWalls m → Unblocked AtWalls (f p m)) → (ps : List Port) (m : Moment) → AtWalls m → Unblocked AtWalls (for_ports f ps m)
  ports_keep f each [] m is = is
  ports_keep f each (p ∷ ps) m is = then_keeps AtWalls (f p m) (for_ports f ps) (each p m is) (ports_keep f each ps)

  mutual
    stmt_keeps : (s : Stmt) (m : Moment) → AtWalls m → Unblocked AtWalls (stmt_effect i s m)
    stmt_keeps (put v a) m is = past AtWalls _ _ (sum_open m.config i m.names a) (λ x. reach_keeps m _ (write_keeps m.config None (var_number m.names v) x is))
    stmt_keeps (put_of p v a) m is =
        past AtWalls _ _ (port_open m.config i m.names p) (λ q.
        past AtWalls _ _ (sum_open m.config i m.names a) (λ x.
        reach_keeps m _ (write_keeps m.config (Some q) (var_number m.names v) x is)))
    stmt_keeps (let_be v p) m is = past AtWalls _ _ (port_open m.config i m.names p) (λ q. is)
    stmt_keeps (if_then g ss es) m is =
        past AtWalls _ _ (guard_open m.config i m.names g) (λ b.
        leave_keeps m _ (choose AtWalls b _ _ (stmts_keep ss m is) (stmts_keep es m is)))
    stmt_keeps (for_each v set g ss) m is =
        ports_keep _ (λ p n at.
        past AtWalls _ _ (guard_open n.config i (bind n.names v p) g) (λ b.
        choose AtWalls b _ _ (leave_keeps n _ (stmts_keep ss (moment n.config (bind n.names v p)) at)) at))
        (ports_of (sight m.config i) set) m is

    stmts_keep : (ss : Stmts) (m : Moment) → AtWalls m → Unblocked AtWalls (stmts_effect i ss m)
    stmts_keep no_stmts m is = is
    stmts_keep (stmt_then s ss) m is = then_keeps AtWalls (stmt_effect i s m) (stmts_effect i ss) (stmt_keeps s m is) (stmts_keep ss)

-- ---- verdicts

move_value_open : (c : Config) (i : ℕ) (xs : Names) (m : Move) → move_value (sight c i) xs m ≢ Err Blocked
move_value_open c i xs no_move = fine moved.None
move_value_open c i xs (through m p) = then_open _ _ (port_open c i xs p) (λ q. fine (moved_through m q))
move_value_open c i xs (contract e) = fine (moved.Contract e)

-- where there are no walls, no movement is blocked
move_open : (c : Config) (i : ℕ) (guarded : Bool) (m : Moved) → c.walls ≡ [] → move c i guarded m ≢ Err Blocked
move_open c i guarded m none e =
    let told = only_walls_block.moves c i guarded m e in
    let at = number_is c.walls (index_of c.area (behind (bot_of c i) told.0)) told.2 in
    not_in_none (subst (Has at.0) none at.2)

action_open : (guarded : Bool) (i : ℕ) (a : Action) (m : Moment) → m.config.walls ≡ [] → action_effect guarded i a m ≢ Err Blocked
action_open guarded i a m none =
    let Made : MadeMove → Type 0 = λ _. Unit in
    unblocked Made _ (then_keeps i [] Made (stmts_effect i a.body m) _ (stmts_keep i [] a.body m none) (λ n at.
    past Made _ _ (move_value_open n.config i n.names a.moved) (λ by.
    past Made _ _ (move_open n.config i guarded by at) (λ d. tt))))

result_open : (c : Config) (number : ℕ) (r : Result MadeMove Failure) → r ≢ Err Blocked → verdict_of_result c number r ≢ verdict.Failed Blocked
result_open c number (Ok made) ne e = cc
result_open c number (Err f) ne e = ne (ap Err (cc))

decided_by_open : (b : Result Bool Failure) (own later : Verdict) → b ≢ Err Blocked → own ≢ verdict.Failed Blocked → later ≢ verdict.Failed Blocked → decided_by_guard b own later ≢ verdict.Failed Blocked
decided_by_open (Ok true) own later ne is other = is
decided_by_open (Ok false) own later ne is other = other
decided_by_open (Err f) own later ne is other = λ e. ne (ap Err (cc))

actions_open : (guarded : Bool) (xs : Names) (c : Config) (i number : ℕ) (actions : List Action) → c.walls ≡ [] → actions_verdict guarded xs c i number actions ≢ verdict.Failed Blocked
actions_open guarded xs c i number [] none = λ e. cc
actions_open guarded xs c i number (a ∷ more) none =
    decided_by_open (guard_value (sight c i) xs a.guard) _ _ (guard_open c i xs a.guard)
    (result_open c number (action_effect guarded i a (moment c xs)) (action_open guarded i a (moment c xs) none))
    (actions_open guarded xs c i (suc number) more none)

pub blocked_is_shown : BlockedIsShown
blocked_is_shown p s e none = actions_open p.guard (names_at_start p) (shown_alone s) s.bot 0 p.actions none e
