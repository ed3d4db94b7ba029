-- The statements of a program on two configurations that agree, side by side: the same writes succeed on both, or both fail alike.
use Rattle.std.proofs.Common.{◌≡◌, ℕ, ℤ, Bool, true, false, List, [], ◌∷◌, ◌++◌, ap, sym, refl, subst, Option, Some, None}
use Rattle.std.specs.Prelude.{if◌then◌else◌}
use Rattle.std.specs.Result.{result_err}
use Rattle.std.specs.declared.result.Result.{Result}
use Rattle.std.specs.declared.result.Result.TheVariants.{Ok, Err}
use Rattle.tri_lattice.specs.declared.node.Node.{Node}
use Rattle.amoebot_state.specs.declared.bot.Port.{Port}
use Rattle.amoebot_state.specs.declared.verdict.Failure.{Failure}
use Rattle.amoebot_state.specs.Configs.{Config}
use Rattle.model_ops.specs.Operations.{and_then, write}
use Rattle.model_ops.specs.Reaches.{Writing, write_all}
use Rattle.model_ops.specs.Sights.{Sight, sight}
use Rattle.model_ops.proofs.Agrees.{Agrees, answers_alike}
use Rattle.model_ops.proofs.AgreesAfter.{writes_agree}
use Rattle.model_ops.proofs.CopiesStand.{one_more}
use Rattle.action_tree.specs.Trees.{Name, Guard, Stmt, put, put_of, let_be, if_then, for_each, Stmts, no_stmts, stmt_then}
use Rattle.action_meaning.specs.Names.{Names, var_number, bind}
use Rattle.action_meaning.specs.Values.{guard_value, sum_value, port_value, ports_of}
use Rattle.action_meaning.specs.Effects.{Moment, moment, reaching, leaving, for_ports, stmt_effect, stmts_effect}

module _ (V : Node → Type 0) (B : ℕ → Type 0) (i : ℕ) (first other : Config) (agree : Agrees V B i first other) where
  -- the same writes lead from the first configuration to c, and from the other one to d
  pub record Alongside (c d : Config) : Type 0 where
    pub writes : List Writing
    pub led : write_all first i writes ≡ Ok c
    pub led_too : write_all other i writes ≡ Ok d

  pub at_first : Alongside first other
  at_first = record { writes = []; led = refl; led_too = refl }

  pub agree_there : (c d : Config) → Alongside c d → Agrees V B i c d
  agree_there c d by = writes_agree V B i first other agree by.writes c d by.led by.led_too

  pub same_sight : (c d : Config) → Alongside c d → sight d i ≡ sight c i
  same_sight c d by = (answers_alike V B i c d (agree_there c d by)).asked

  -- two results: moments side by side with the same names in force, or the same failure
  abbrev pub Alike : Result Moment Failure → Result Moment Failure → Type 0
  Alike (Ok n) (Ok m) = (n.names ≡ m.names) × Alongside m.config n.config
  Alike (Err f) (Err g) = f ≡ g
  Alike _ _ = ⊥

  -- what follows is alike
  pub then_alike : (r q : Result Moment Failure) (k h : Moment → Result Moment Failure) → Alike r q → ((c d : Config) (xs : Names) → Alongside c d → Alike (k (moment d xs)) (h (moment c xs))) → Alike (and_then r k) (and_then q h)
  then_alike (Ok n) (Ok m) k h (e, by) next =
      let P : Names → Type 0 = λ xs. Alike (k (moment n.config xs)) (h m) in
      subst P (sym e) (next m.config n.config m.names by)
  then_alike (Err f) (Err g) k h e next = e
  then_alike (Ok n) (Err g) k h is next = absurd is
  then_alike (Err f) (Ok m) k h is next = absurd is

  -- behind one value
  pub value_alike : {A : Type 0} (r q : Result A Failure) (k h : A → Result Moment Failure) → r ≡ q → ((x : A) → Alike (k x) (h x)) → Alike (and_then r k) (and_then q h)
  value_alike r q k h e next = let P : Result _ Failure → Type 0 = λ s. Alike (and_then s k) (and_then q h) in subst P (sym e) (by q)
    where
      by : (q : Result _ Failure) → Alike (and_then q k) (and_then q h)
      by (Ok x) = next x
      by (Err f) = refl

  reach_alike : (c d : Config) (xs : Names) (r q : Result Config Failure) → result_err r ≡ result_err q → ((m n : Config) → q ≡ Ok m → r ≡ Ok n → Alongside m n) → Alike (reaching (moment d xs) r) (reaching (moment c xs) q)
  reach_alike c d xs (Ok n) (Ok m) e next = (refl, next m n refl refl)
  reach_alike c d xs (Err f) (Err g) e next = cc
  reach_alike c d xs (Ok n) (Err g) e next = absurd (cc)
  reach_alike c d xs (Err f) (Ok m) e next = absurd (cc)

  write_alike : (c d : Config) (xs : Names) (p : Option Port) (x : ℕ) (s : ℤ) → Alongside c d → Alike (reaching (moment d xs) (write d i p x s)) (reaching (moment c xs) (write c i p x s))
  write_alike c d xs p x s by =
      let w : Writing = record { port = p; var = x; value = s } in
      reach_alike c d xs (write d i p x s) (write c i p x s) ((answers_alike V B i c d (agree_there c d by)).writes p x s) (λ m n e f.
      record { writes = by.writes ++ w ∷ []; led = one_more first i by.writes w c m by.led e; led_too = one_more other i by.writes w d n by.led_too f })

  leave_alike : (c d : Config) (xs : Names) (r q : Result Moment Failure) → Alike r q → Alike (leaving (moment d xs) r) (leaving (moment c xs) q)
  leave_alike c d xs (Ok n) (Ok m) (e, by) = (refl, by)
  leave_alike c d xs (Err f) (Err g) e = e
  leave_alike c d xs (Ok n) (Err g) is = absurd is
  leave_alike c d xs (Err f) (Ok m) is = absurd is

  ports_alike : (f : Port → Moment → Result Moment Failure) → ((p : Port) (c d : Config) (xs : Names) → Alongside c d → Alike (f p (moment d xs)) (f p (moment c xs))) → (ps : List Port) (c d : Config) (xs : Names) → Alongside c d → Alike (for_ports f ps (moment d xs)) (for_ports f ps (moment c xs))
  ports_alike f each [] c d xs by = (refl, by)
  ports_alike f each (p ∷ ps) c d xs by = then_alike (f p (moment d xs)) (f p (moment c xs)) (for_ports f ps) (for_ports f ps) (each p c d xs by) (ports_alike f each ps)

  -- what a `for` does for one port
  abbrev turn : Name → Guard → Stmts → Port → Moment → Result Moment Failure
  turn v g ss p n = and_then (guard_value (sight n.config i) (bind n.names v p) g) (λ b. if b then leaving n (stmts_effect i ss (moment n.config (bind n.names v p))) else Ok n)

  if_alike : (b : Bool) (r q r' q' : Result Moment Failure) → Alike r q → Alike r' q' → Alike (if b then r else r') (if b then q else q')
  if_alike true r q r' q' is is' = is
  if_alike false r q r' q' is is' = is'

  mutual
    pub stmt_alike : (s : Stmt) (c d : Config) (xs : Names) → Alongside c d → Alike (stmt_effect i s (moment d xs)) (stmt_effect i s (moment c xs))
    stmt_alike (put v a) c d xs by = value_alike _ _ _ _ (ap (λ (s : Sight). sum_value s xs a) (same_sight c d by)) (λ x. write_alike c d xs None (var_number xs v) x by)
    stmt_alike (put_of p v a) c d xs by =
        value_alike _ _ _ _ (ap (λ (s : Sight). port_value s xs p) (same_sight c d by)) (λ q.
        value_alike _ _ _ _ (ap (λ (s : Sight). sum_value s xs a) (same_sight c d by)) (λ x.
        write_alike c d xs (Some q) (var_number xs v) x by))
    stmt_alike (let_be v p) c d xs by = value_alike _ _ _ _ (ap (λ (s : Sight). port_value s xs p) (same_sight c d by)) (λ q. (refl, by))
    stmt_alike (if_then g ss es) c d xs by =
        value_alike _ _ _ _ (ap (λ (s : Sight). guard_value s xs g) (same_sight c d by)) (λ b.
        leave_alike c d xs _ _ (if_alike b _ _ _ _ (stmts_alike ss c d xs by) (stmts_alike es c d xs by)))
    stmt_alike (for_each v set g ss) c d xs by =
        let P : List Port → Type 0 = λ ps. Alike (for_ports (turn v g ss) ps (moment d xs)) (for_ports (turn v g ss) (ports_of (sight c i) set) (moment c xs)) in
        subst P (sym (ap (λ (s : Sight). ports_of s set) (same_sight c d by)))
        (ports_alike (turn v g ss) (λ p m n ys along.
        value_alike _ _ _ _ (ap (λ (s : Sight). guard_value s (bind ys v p) g) (same_sight m n along)) (λ b.
        if_alike b _ _ _ _ (leave_alike m n ys _ _ (stmts_alike ss m n (bind ys v p) along)) (refl, along)))
        (ports_of (sight c i) set) c d xs by)

    pub stmts_alike : (ss : Stmts) (c d : Config) (xs : Names) → Alongside c d → Alike (stmts_effect i ss (moment d xs)) (stmts_effect i ss (moment c xs))
    stmts_alike no_stmts c d xs by = (refl, by)
    stmts_alike (stmt_then s ss) c d xs by = then_alike _ _ _ _ (stmt_alike s c d xs by) (stmts_alike ss)
