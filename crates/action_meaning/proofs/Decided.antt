-- The verdict on two configurations that agree: the same acts lead to it on both, or both fail alike.
use Rattle.std.proofs.Common.{◌≡◌, ℕ, suc, Bool, true, false, List, [], ◌∷◌, ap, sym, refl, subst, ◌∙◌}
use Rattle.std.specs.Prelude.{IsSome}
use Rattle.std.specs.Result.{result_err}
use Rattle.std.specs.declared.result.Result.{Result}
use Rattle.std.specs.declared.result.Result.TheVariants.{Ok, Err}
use Rattle.tri_lattice.specs.declared.node.Node.{Node}
use Rattle.amoebot_state.specs.declared.verdict.Failure.{Failure}
use Rattle.amoebot_state.specs.declared.verdict.Moved.{Moved}
use Rattle.amoebot_state.specs.declared.verdict.Verdict.{Verdict}
use Rattle.amoebot_state.specs.declared.verdict.Verdict.TheVariants as verdict
use Rattle.amoebot_state.specs.declared.verdict.Change.{Change}
use Rattle.amoebot_state.specs.Configs.{Config, IsValid, bot_at}
use Rattle.amoebot_state.specs.Pairs.{Triples}
use Rattle.amoebot_state.specs.Patches.{diff}
use Rattle.amoebot_state.specs.Zones.{Shown, IsShown, shown, shown_alone}
use Rattle.amoebot_state.proofs.ShownAlone.{shown_alone_shows_the_same}
use Rattle.amoebot_state.proofs.Shows.{shown_valid}
use Rattle.model_ops.specs.Operations.{and_then}
use Rattle.model_ops.specs.Reaches.{Acts, write_all, move, perform}
use Rattle.model_ops.specs.Sights.{Sight, sight}
use Rattle.model_ops.specs.Deciders.{ActsFor}
use Rattle.model_ops.proofs.Agrees.{Agrees, move_alike}
use Rattle.model_ops.proofs.ShownAlike.{Seen, IsShownBot, agrees_at_first}
use Rattle.model_ops.proofs.SameDiff.{reached_leads_also}
use Rattle.tri_lattice.specs.Sets.{IsConnected}
use Rattle.amoebot_state.specs.Occupied.{occupied}
use Rattle.model_ops.proofs.ActsDecide.{guarded_deciders_stay_connected}
use Rattle.action_meaning.specs.Laws.{VerdictIsShown, ProgramsDecideByActs, GuardedProgramsDecideGuarded, ProgramStepsStayConnected, ProgramRunsStayConnected}
use Rattle.model_ops.proofs.CopiesStand.{then_is, gap_there}
use Rattle.model_ops.proofs.Told.{ok_told}
use Rattle.action_tree.specs.Trees.{Action, Program}
use Rattle.action_meaning.specs.Names.{Names}
use Rattle.action_meaning.specs.Values.{guard_value}
use Rattle.action_meaning.specs.Effects.{Moment, moment, stmts_effect}
use Rattle.action_meaning.specs.Verdicts.{move_value, MadeMove, action_effect, verdict_of_result, decided_by_guard, actions_verdict, names_at_start, verdict_shown}
use Rattle.action_meaning.proofs.Alongside.{Alongside, at_first, agree_there, same_sight, Alike, stmts_alike}

module _ (V : Node → Type 0) (B : ℕ → Type 0) (i : ℕ) (first other : Config) (agree : Agrees V B i first other) (guarded : Bool) where
  -- the same acts lead from the first configuration to c, and from the other one to d
  pub record Performed (c d : Config) : Type 0 where
    pub acts : Acts
    pub guard : acts.guard ≡ guarded
    pub led : perform first i acts ≡ Ok c
    pub led_too : perform other i acts ≡ Ok d

  -- two results: the same movement was made, and the same acts lead to both, or the same failure
  abbrev pub MadeAlike : Result MadeMove Failure → Result MadeMove Failure → Type 0
  MadeAlike (Ok n) (Ok m) = (n.moved ≡ m.moved) × Performed m.reached n.reached
  MadeAlike (Err f) (Err g) = f ≡ g
  MadeAlike _ _ = ⊥

  moved_alike : (by : Moved) (r q : Result Config Failure) → result_err r ≡ result_err q → ((c d : Config) → q ≡ Ok c → r ≡ Ok d → Performed c d) → MadeAlike (and_then r (λ d. Ok (record { moved = by; reached = d }))) (and_then q (λ c. Ok (record { moved = by; reached = c })))
  moved_alike by (Ok d) (Ok c) e next = (refl, next c d refl refl)
  moved_alike by (Err f) (Err g) e next = cc
  moved_alike by (Ok d) (Err g) e next = absurd (cc)
  moved_alike by (Err f) (Ok c) e next = absurd (cc)

  -- a movement behind the writes
  made_alike : (c d : Config) (r q : Result Moved Failure) → Alongside V B i first other agree c d → r ≡ q
      → MadeAlike (and_then r (λ by. and_then (move d i guarded by) (λ n. Ok (record { moved = by; reached = n })))) (and_then q (λ by. and_then (move c i guarded by) (λ m. Ok (record { moved = by; reached = m }))))
  made_alike c d r q along e =
      let P : Result Moved Failure → Type 0 = λ t. MadeAlike (and_then t (λ by. and_then (move d i guarded by) (λ n. Ok (record { moved = by; reached = n })))) (and_then q (λ by. and_then (move c i guarded by) (λ m. Ok (record { moved = by; reached = m })))) in
      subst P (sym e) (by q)
    where
      by : (q : Result Moved Failure) → MadeAlike (and_then q (λ by. and_then (move d i guarded by) (λ n. Ok (record { moved = by; reached = n })))) (and_then q (λ by. and_then (move c i guarded by) (λ m. Ok (record { moved = by; reached = m }))))
      by (Err f) = refl
      by (Ok m) = moved_alike m (move d i guarded m) (move c i guarded m) (move_alike V B i c d (agree_there V B i first other agree c d along) guarded m) (λ x y e f.
          record {
            acts = record { writes = along.writes; guard = guarded; moved = m };
            guard = refl;
            led = then_is (write_all first i along.writes) (λ z. move z i guarded m) c x along.led e;
            led_too = then_is (write_all other i along.writes) (λ z. move z i guarded m) d y along.led_too f;
          })

  effect_alike : (a : Action) (xs : Names) (r q : Result Moment Failure) → Alike V B i first other agree r q
      → MadeAlike (and_then r (λ n. and_then (move_value (sight n.config i) n.names a.moved) (λ by. and_then (move n.config i guarded by) (λ d. Ok (record { moved = by; reached = d })))))
      (and_then q (λ n. and_then (move_value (sight n.config i) n.names a.moved) (λ by. and_then (move n.config i guarded by) (λ d. Ok (record { moved = by; reached = d })))))
  effect_alike a xs (Ok n) (Ok m) (e, along) =
      made_alike m.config n.config (move_value (sight n.config i) n.names a.moved) (move_value (sight m.config i) m.names a.moved) along
      (ap (λ (s : Sight). move_value s n.names a.moved) (same_sight V B i first other agree m.config n.config along) ∙ ap (λ ys. move_value (sight m.config i) ys a.moved) e)
  effect_alike a xs (Err f) (Err g) e = e
  effect_alike a xs (Ok n) (Err g) is = absurd is
  effect_alike a xs (Err f) (Ok m) is = absurd is

  action_alike : (a : Action) (xs : Names) → MadeAlike (action_effect guarded i a (moment other xs)) (action_effect guarded i a (moment first xs))
  action_alike a xs = effect_alike a xs (stmts_effect i a.body (moment other xs)) (stmts_effect i a.body (moment first xs)) (stmts_alike V B i first other agree a.body first other xs (at_first V B i first other agree))

  -- what decides a change: acts that lead to it, whose difference it has
  record ChangedAlike (change : Change) : Type 0 where
    acts : Acts
    guard : acts.guard ≡ guarded
    reached : Config
    led : perform first i acts ≡ Ok reached
    patch : change.patch ≡ diff first reached

  -- one verdict on both, and a change is made by acts
  record OneVerdict (v w : Verdict) : Type 0 where
    same : v ≡ w
    by : (change : Change) → w ≡ verdict.Change change → ChangedAlike change

  change_told : (a b : Change) → verdict.Change a ≡ verdict.Change b → a.patch ≡ b.patch
  change_told a b e = ap patch_of e
    where
      patch_of : Verdict → Triples
      patch_of (verdict.Change change) = change.patch
      patch_of verdict.Idle = []
      patch_of (verdict.Failed f) = []

  -- the difference of what the same acts lead to is the same
  settled_alike : (number : ℕ) (valid : IsValid first) (valid_too : IsValid other) (there : IsSome (bot_at first i)) (shows : shown other i ≡ shown first i) (r q : Result MadeMove Failure) → MadeAlike r q → OneVerdict (verdict_of_result other number r) (verdict_of_result first number q)
  settled_alike number valid valid_too there shows (Ok n) (Ok m) (e, by) =
      let also = reached_leads_also first other i by.acts m.reached valid valid_too there shows by.led in
      let one : n.reached ≡ also.reached = ok_told (sym by.led_too ∙ also.performed) in
      let same : diff other n.reached ≡ diff first m.reached = ap (λ x. diff other x) one ∙ also.same in
      record {
        same = λ t. verdict.Change (record { action = number; moved = e t; patch = same t });
        by = λ change is. record { acts = by.acts; guard = by.guard; reached = m.reached; led = by.led; patch = sym (change_told _ _ is) };
      }
  settled_alike number valid valid_too there shows (Err f) (Err g) e = record { same = ap verdict.Failed e; by = λ change is. absurd (cc) }
  settled_alike number valid valid_too there shows (Ok n) (Err g) is = absurd is
  settled_alike number valid valid_too there shows (Err f) (Ok m) is = absurd is

  guard_alike : (b : Result Bool Failure) (v w later later_too : Verdict) → OneVerdict v w → OneVerdict later later_too → OneVerdict (decided_by_guard b v later) (decided_by_guard b w later_too)
  guard_alike (Ok true) v w later later_too own other = own
  guard_alike (Ok false) v w later later_too own other = other
  guard_alike (Err f) v w later later_too own other = record { same = refl; by = λ change is. absurd (cc) }

  actions_alike : (valid : IsValid first) (valid_too : IsValid other) (there : IsSome (bot_at first i)) (shows : shown other i ≡ shown first i) (xs : Names) (number : ℕ) (actions : List Action) → OneVerdict (actions_verdict guarded xs other i number actions) (actions_verdict guarded xs first i number actions)
  actions_alike valid valid_too there shows xs number [] = record { same = refl; by = λ change is. absurd (cc) }
  actions_alike valid valid_too there shows xs number (a ∷ more) =
      let P : Result Bool Failure → Type 0 = λ b. OneVerdict (decided_by_guard b (verdict_of_result other number (action_effect guarded i a (moment other xs))) (actions_verdict guarded xs other i (suc number) more)) (actions_verdict guarded xs first i number (a ∷ more)) in
      subst P (sym (ap (λ (s : Sight). guard_value s xs a.guard) (same_sight V B i first other agree first other (at_first V B i first other agree))))
      (guard_alike (guard_value (sight first i) xs a.guard) _ _ _ _ (settled_alike number valid valid_too there shows _ _ (action_alike a xs)) (actions_alike valid valid_too there shows xs (suc number) more))

  one_verdict : (valid : IsValid first) (valid_too : IsValid other) (there : IsSome (bot_at first i)) (shows : shown other i ≡ shown first i) (xs : Names) (actions : List Action) → OneVerdict (actions_verdict guarded xs other i 0 actions) (actions_verdict guarded xs first i 0 actions)
  one_verdict valid valid_too there shows xs actions = actions_alike valid valid_too there shows xs 0 actions

-- on what a valid configuration shows
pub verdict_is_shown : VerdictIsShown
verdict_is_shown p c i valid there =
    let s = shown c i in
    let is : IsShown s = (c, valid, there, refl) in
    let alone = shown_alone s in
    let shows : shown alone i ≡ shown c i = shown_alone_shows_the_same s is in
    let agree = agrees_at_first c alone i valid (shown_valid s is) there shows in
    (one_verdict (Seen c i) (IsShownBot c i) i c alone agree p.guard valid (shown_valid s is) there shows (names_at_start p) p.actions).same

-- each change is made by acts, with the guard as the program has it
pub change_by_acts : (p : Program) (s : Shown) (change : Change) → IsShown s → verdict_shown p s ≡ verdict.Change change → (by : ActsFor s change.patch) × (by.acts.guard ≡ p.guard)
change_by_acts p s change is e =
    let c = shown_alone s in
    let valid = shown_valid s is in
    let there = gap_there s is in
    let agree = agrees_at_first c c s.bot valid valid there refl in
    let told = (one_verdict (Seen c s.bot) (IsShownBot c s.bot) s.bot c c agree p.guard valid valid there refl (names_at_start p) p.actions).by change e in
    (record { acts = told.acts; reached = told.reached; performed = told.led; is = told.patch }, told.guard)

pub programs_decide_by_acts : ProgramsDecideByActs
programs_decide_by_acts p s change is e = (change_by_acts p s change is e).0

pub guarded_programs_decide_guarded : GuardedProgramsDecideGuarded
guarded_programs_decide_guarded p on s change is e = let by = change_by_acts p s change is e in (by.0, by.1 ∙ on)

pub program_steps_stay_connected : ProgramStepsStayConnected
program_steps_stay_connected p old e new on = guarded_deciders_stay_connected (verdict_shown p) old e new (guarded_programs_decide_guarded p on)

pub program_runs_stay_connected : ProgramRunsStayConnected
program_runs_stay_connected p first [] last on valid run connected = let P : Config → Type 0 = λ c. IsConnected (occupied c) in subst P (sym run) connected
program_runs_stay_connected p first (e ∷ es) last on valid (mid, step, run) connected = program_runs_stay_connected p mid es last on step.patched.valid run (program_steps_stay_connected p first e mid on valid step connected)
