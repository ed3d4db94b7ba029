-- What a program decides has the number of one of its actions, and a movement through one of six directions.
use Rattle.std.proofs.Common.{◌≡◌, ℕ, suc, ◌+◌, ◌<◌, ◌≤◌, Bool, true, false, List, [], ◌∷◌, length, refl, ap, subst, arith}
use Rattle.std.specs.declared.result.Result.{Result}
use Rattle.std.specs.declared.result.Result.TheVariants.{Ok, Err}
use Rattle.std.proofs.lemmas.Bool.{and_parts, ltb-true}
use Rattle.amoebot_state.specs.declared.bot.Bot.{Bot}
use Rattle.amoebot_state.specs.declared.bot.Port.{Port}
use Rattle.amoebot_state.specs.declared.verdict.Change.{Change}
use Rattle.amoebot_state.specs.declared.verdict.Failure.{Failure}
use Rattle.amoebot_state.specs.declared.verdict.Moved.{Moved}
use Rattle.amoebot_state.specs.declared.verdict.Moved.TheVariants as moved
use Rattle.amoebot_state.specs.declared.verdict.Verdict.{Verdict}
use Rattle.amoebot_state.specs.declared.verdict.Verdict.TheVariants as verdict
use Rattle.amoebot_state.specs.Ports.{is_port}
use Rattle.amoebot_state.specs.Configs.{Config, bot_of}
use Rattle.amoebot_state.specs.Zones.{Shown, shown_alone}
use Rattle.journal_text.specs.Rereading.{IsPossible}
use Rattle.model_ops.specs.Operations.{need}
use Rattle.model_ops.specs.Reaches.{move}
use Rattle.model_ops.specs.Sights.{sight}
use Rattle.model_ops.proofs.Told.{need_told, then_told, ok_told}
use Rattle.action_tree.specs.Trees.{Action, Program}
use Rattle.action_meaning.specs.Names.{Names}
use Rattle.action_meaning.specs.Values.{guard_value}
use Rattle.action_meaning.specs.Effects.{Moment, moment, stmts_effect}
use Rattle.action_meaning.specs.Verdicts.{move_value, MadeMove, action_effect, verdict_of_result, decided_by_guard, actions_verdict, names_at_start, verdict_shown}

port_below : (b : Bot) (p : Port) → is_port b p ≡ true → p.dir ≤ 5
port_below b p port = let lt = ltb-true p.dir 6 (and_parts _ _ port).0 in omega arith

-- behind a first condition, that of a port
through_port : (b : Bot) (p : Port) (first : Bool) (f g : Failure) (r : Result Config Failure) (d : Config) → need first f (need (is_port b p) g r) ≡ Ok d → p.dir ≤ 5
through_port b p first f g r d e = port_below b p (need_told (is_port b p) g r d (need_told first f (need (is_port b p) g r) d e).1).0

-- a movement that succeeds is through a port
move_possible : (c : Config) (i : ℕ) (guard : Bool) (by : Moved) (d : Config) → move c i guard by ≡ Ok d → IsPossible by
move_possible c i guard moved.None d e = tt
move_possible c i guard (moved.Expand p) d e = through_port (bot_of c i) p _ _ _ _ d e
move_possible c i guard (moved.Contract end) d e = tt
move_possible c i guard (moved.Push p) d e = through_port (bot_of c i) p _ _ _ _ d e
move_possible c i guard (moved.Pull p) d e = through_port (bot_of c i) p _ _ _ _ d e

effect_possible : (guarded : Bool) (i : ℕ) (a : Action) (m : Moment) (made : MadeMove) → action_effect guarded i a m ≡ Ok made → IsPossible made.moved
effect_possible guarded i a m made e =
    let (n, written, first) = then_told (stmts_effect i a.body m) _ made e in
    let (by, valued, second) = then_told (move_value (sight n.config i) n.names a.moved) _ made first in
    let (d, led, last) = then_told (move n.config i guarded by) _ made second in
    subst (λ (x : MadeMove). IsPossible x.moved) (ok_told last) (move_possible n.config i guarded by d led)

-- ---- verdicts

-- a change of one of so many actions, which are numbered from a number on
pub record IsActed (number actions : ℕ) (change : Change) : Type 0 where
  pub action : change.action < number + actions
  pub possible : IsPossible change.moved

change_told : (a b : Change) → verdict.Change a ≡ verdict.Change b → a ≡ b
change_told a b e = cc

settled_acted : (c : Config) (number more : ℕ) (r : Result MadeMove Failure) (change : Change) → ((made : MadeMove) → r ≡ Ok made → IsPossible made.moved) → verdict_of_result c number r ≡ verdict.Change change → IsActed number (suc more) change
settled_acted c number more (Ok made) change possible e =
    let same = change_told _ change e in
    let at : number ≡ change.action = ap (λ (x : Change). x.action) same in
    record { action = omega arith; possible = subst (λ (x : Change). IsPossible x.moved) same (possible made refl) }
settled_acted c number more (Err f) change possible e = absurd (cc)

guard_acted : (number more : ℕ) (own later : Verdict) (change : Change) → (own ≡ verdict.Change change → IsActed number (suc more) change) → (later ≡ verdict.Change change → IsActed (suc number) more change)
    → (r : Result Bool Failure) → decided_by_guard r own later ≡ verdict.Change change → IsActed number (suc more) change
guard_acted number more own later change first next (Ok true) e = first e
guard_acted number more own later change first next (Ok false) e = let rest = next e in let at = rest.action in record { action = omega arith; possible = rest.possible }
guard_acted number more own later change first next (Err f) e = absurd (cc)

module _ (guarded : Bool) (xs : Names) (c : Config) (i : ℕ) where
  actions_acted : (number : ℕ) (actions : List Action) (change : Change) → actions_verdict guarded xs c i number actions ≡ verdict.Change change → IsActed number (length actions) change
  actions_acted number [] change e = absurd (cc)
  actions_acted number (a ∷ more) change e =
      guard_acted number (length more) (verdict_of_result c number (action_effect guarded i a (moment c xs))) (actions_verdict guarded xs c i (suc number) more) change
      (λ f. settled_acted c number (length more) (action_effect guarded i a (moment c xs)) change (λ made is. effect_possible guarded i a (moment c xs) made is) f)
      (λ f. actions_acted (suc number) more change f) (guard_value (sight c i) xs a.guard) e

pub verdict_acted : (p : Program) (s : Shown) (change : Change) → verdict_shown p s ≡ verdict.Change change → IsActed 0 (length p.actions) change
verdict_acted p s change e = actions_acted p.guard (names_at_start p) (shown_alone s) s.bot 0 p.actions change e
