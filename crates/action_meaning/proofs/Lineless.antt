-- What a program without its lines means: the same.
use Rattle.std.proofs.Common.{◌≡◌, ◌∙◌, ℕ, zero, suc, Bool, List, [], ◌∷◌, map, refl, ap, sym}
use Rattle.std.specs.Prelude.{pos, true, false, not, ◌+◌, ◌%◌, ◌+ℤ◌, if◌then◌else◌}
use Rattle.std.specs.Int.{int_rem_euclid}
use Rattle.std.specs.declared.option.Option.TheVariants.{Some, None}
use Rattle.std.specs.declared.result.Result.TheVariants.{Ok}
use Rattle.amoebot_state.specs.Ports.{port}
use Rattle.amoebot_state.specs.Configs.{Config}
use Rattle.model_ops.specs.Operations.{and_then, write}
use Rattle.model_ops.specs.Reaches.{move}
use Rattle.model_ops.specs.Sights.{Sight, sight}
use Rattle.action_tree.specs.Trees as tree
use Rattle.action_tree.specs.Lines.{bare_dirterm, bare_guard, bare_guards, bare_sum, bare_term, bare_port, bare_stmt, bare_stmts, bare_move, bare_action, without_lines}
use Rattle.action_tree.proofs.BareLemmas.{vars_named}
use Rattle.action_meaning.specs.Names.{Names, var_number, bind}
use Rattle.action_meaning.specs.Choices.{any_of_ports, all_of_ports, first_of_ports, count_of_ports}
use Rattle.action_meaning.specs.Values.{ports_of, test_value, side_value, compare, signed, whole, dirterm_value, guard_value, each_value, some_value, sum_value, term_value, port_value}
use Rattle.action_meaning.specs.Effects.{Moment, moment, reaching, leaving, for_ports, stmt_effect, stmts_effect}
use Rattle.action_meaning.specs.Verdicts.{moved_through, move_value, action_effect, verdict_of_result, decided_by_guard, actions_verdict, names_at_start, verdict_on}
use Rattle.action_meaning.specs.Laws.{VerdictIgnoresLines}

-- ---- guards, sums and ports

dirterm_bare : (s : Sight) (xs : Names) (d : tree.DirTerm) → dirterm_value s xs (bare_dirterm d) ≡ dirterm_value s xs d
dirterm_bare s xs (tree.fixed n) = refl
dirterm_bare s xs (tree.held v) = refl

mutual
  guard_bare : (s : Sight) (xs : Names) (g : tree.Guard) → guard_value s xs (bare_guard g) ≡ guard_value s xs g
  guard_bare s xs (tree.atom a) = refl
  guard_bare s xs (tree.negation g) = λ i. and_then (guard_bare s xs g i) (λ b. Ok (not b))
  guard_bare s xs (tree.conjunction gs) = each_bare s xs gs
  guard_bare s xs (tree.disjunction gs) = some_bare s xs gs
  guard_bare s xs (tree.quantified tree.any v set g) = λ i. any_of_ports (λ p. guard_bare s (bind xs v p) g i) (ports_of s set)
  guard_bare s xs (tree.quantified tree.all v set g) = λ i. all_of_ports (λ p. guard_bare s (bind xs v p) g i) (ports_of s set)
  guard_bare s xs (tree.tested t p) = λ i. and_then (port_bare s xs p i) (λ q. test_value s t q)
  guard_bare s xs (tree.comparison a c b) = λ i. and_then (sum_bare s xs a i) (λ x. and_then (sum_bare s xs b i) (λ y. Ok (compare c x y)))

  each_bare : (s : Sight) (xs : Names) (gs : tree.Guards) → each_value s xs (bare_guards gs) ≡ each_value s xs gs
  each_bare s xs tree.no_guards = refl
  each_bare s xs (tree.guard_then g gs) = λ i. and_then (guard_bare s xs g i) (λ b. if b then each_bare s xs gs i else Ok false)

  some_bare : (s : Sight) (xs : Names) (gs : tree.Guards) → some_value s xs (bare_guards gs) ≡ some_value s xs gs
  some_bare s xs tree.no_guards = refl
  some_bare s xs (tree.guard_then g gs) = λ i. and_then (guard_bare s xs g i) (λ b. if b then Ok true else some_bare s xs gs i)

  sum_bare : (s : Sight) (xs : Names) (a : tree.Sum) → sum_value s xs (bare_sum a) ≡ sum_value s xs a
  sum_bare s xs tree.no_terms = refl
  sum_bare s xs (tree.term_then minus t more) = λ i. and_then (term_bare s xs t i) (λ x. and_then (sum_bare s xs more i) (λ y. Ok (signed minus x +ℤ y)))

  term_bare : (s : Sight) (xs : Names) (t : tree.Term) → term_value s xs (bare_term t) ≡ term_value s xs t
  term_bare s xs (tree.number n) = refl
  term_bare s xs (tree.own v) = refl
  term_bare s xs (tree.of_port p v) = λ i. and_then (port_bare s xs p i) (λ q. whole (s.reads (Some q) (var_number xs v)))
  term_bare s xs (tree.count v set g) = λ i. whole (count_of_ports (λ p. guard_bare s (bind xs v p) g i) (ports_of s set))
  term_bare s xs (tree.direction side p) = λ i. and_then (port_bare s xs p i) (λ q. whole (side_value s side q))
  term_bare s xs tree.inner = refl
  term_bare s xs (tree.mod6 a) = λ i. and_then (sum_bare s xs a i) (λ x. Ok (int_rem_euclid x (pos 6)))

  port_bare : (s : Sight) (xs : Names) (p : tree.PortExpr) → port_value s xs (bare_port p) ≡ port_value s xs p
  port_bare s xs (tree.bound v) = refl
  port_bare s xs (tree.at_end e d) = λ i. and_then (dirterm_bare s xs d i) (λ n. Ok (port e n))
  port_bare s xs (tree.turned p n) = λ i. and_then (port_bare s xs p i) (λ q. Ok (port q.end ((q.dir + n.value) % 6)))
  port_bare s xs (tree.first v set g) = λ i. first_of_ports (λ p. guard_bare s (bind xs v p) g i) (ports_of s set)

-- ---- statements, and the movement

mutual
  stmt_bare : (id : ℕ) (s : tree.Stmt) (m : Moment) → stmt_effect id (bare_stmt s) m ≡ stmt_effect id s m
  stmt_bare id (tree.put v a) m = λ i. and_then (sum_bare (sight m.config id) m.names a i) (λ x. reaching m (write m.config id None (var_number m.names v) x))
  stmt_bare id (tree.put_of p v a) m = λ i. and_then (port_bare (sight m.config id) m.names p i) (λ q. and_then (sum_bare (sight m.config id) m.names a i) (λ x. reaching m (write m.config id (Some q) (var_number m.names v) x)))
  stmt_bare id (tree.let_be v p) m = λ i. and_then (port_bare (sight m.config id) m.names p i) (λ q. Ok (moment m.config (bind m.names v q)))
  stmt_bare id (tree.if_then g ss es) m = λ i. and_then (guard_bare (sight m.config id) m.names g i) (λ b. leaving m (if b then stmts_bare id ss m i else stmts_bare id es m i))
  stmt_bare id (tree.for_each v set g ss) m = λ i. for_ports (λ p n. and_then (guard_bare (sight n.config id) (bind n.names v p) g i) (λ b. if b then leaving n (stmts_bare id ss (moment n.config (bind n.names v p)) i) else Ok n)) (ports_of (sight m.config id) set) m

  stmts_bare : (id : ℕ) (ss : tree.Stmts) (m : Moment) → stmts_effect id (bare_stmts ss) m ≡ stmts_effect id ss m
  stmts_bare id tree.no_stmts m = refl
  stmts_bare id (tree.stmt_then s ss) m = λ i. and_then (stmt_bare id s m i) (λ n. stmts_bare id ss n i)

move_bare : (s : Sight) (xs : Names) (m : tree.Move) → move_value s xs (bare_move m) ≡ move_value s xs m
move_bare s xs tree.no_move = refl
move_bare s xs (tree.through m p) = λ i. and_then (port_bare s xs p i) (λ q. Ok (moved_through m q))
move_bare s xs (tree.contract e) = refl

-- ---- the whole

action_bare : (guarded : Bool) (id : ℕ) (a : tree.Action) (m : Moment) → action_effect guarded id (bare_action a) m ≡ action_effect guarded id a m
action_bare guarded id a m = λ i. and_then (stmts_bare id a.body m i) (λ n. and_then (move_bare (sight n.config id) n.names a.moved i) (λ by. and_then (move n.config id guarded by) (λ d. Ok (record { moved = by; reached = d }))))

actions_bare : (guarded : Bool) (xs : Names) (c : Config) (id number : ℕ) (actions : List tree.Action) → actions_verdict guarded xs c id number (map bare_action actions) ≡ actions_verdict guarded xs c id number actions
actions_bare guarded xs c id number [] = refl
actions_bare guarded xs c id number (a ∷ more) = λ i. decided_by_guard (guard_bare (sight c id) xs a.guard i) (verdict_of_result c number (action_bare guarded id a (moment c xs) i)) (actions_bare guarded xs c id (suc number) more i)

names_bare : (p : tree.Program) → names_at_start (without_lines p) ≡ names_at_start p
names_bare p = sym (ap (λ names. record { vars = names; bound = [] }) (vars_named p.vars))

program_bare : (p : tree.Program) (c : Config) (id : ℕ) → verdict_on (without_lines p) c id ≡ verdict_on p c id
program_bare p c id = ap (λ xs. actions_verdict p.guard xs c id zero (map bare_action p.actions)) (names_bare p) ∙ actions_bare p.guard (names_at_start p) c id zero p.actions

pub verdict_ignores_lines : VerdictIgnoresLines
verdict_ignores_lines p q e c id = sym (program_bare p c id) ∙ ap (λ r. verdict_on r c id) e ∙ program_bare q c id
