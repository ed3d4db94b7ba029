-- Steps and runs of entries that are told in a form, and where they stop.
use Rattle.std.proofs.Common.{◌≡◌, ℕ, zero, suc, List, [], ◌∷◌, ◌++◌, map, take, get_or, drop, ◌⊎◌, inl, inr, ap, sym, ◌∙◌, refl, subst, Option, Some, None}
use Rattle.std.specs.Prelude.{IsSome}
use Rattle.std.proofs.lemmas.Bool.{false≢true}
use Rattle.std.proofs.lemmas.Option.{none-some, same_Some}
use Rattle.amoebot_state.specs.declared.bot.Bot.{Bot}
use Rattle.amoebot_state.specs.declared.verdict.Change.{Change}
use Rattle.amoebot_state.specs.declared.verdict.Entry.{Entry}
use Rattle.amoebot_state.specs.declared.verdict.PlainEntry.{PlainEntry}
use Rattle.amoebot_state.specs.declared.verdict.Verdict.{Verdict}
use Rattle.amoebot_state.specs.declared.verdict.Verdict.TheVariants as verdict
use Rattle.amoebot_state.specs.Configs.{Config, IsValid, bot_at}
use Rattle.amoebot_state.specs.Pairs.{plain_patch}
use Rattle.amoebot_state.specs.Patches.{IsPatched}
use Rattle.amoebot_state.specs.Zones.{Shown, shown}
use Rattle.amoebot_state.specs.Steps.{Step, Run, HasPatchedWorld, change_of, plain_entry}
use Rattle.amoebot_state.proofs.Patched.{step_has_one_result}
use Rattle.amoebot_state.proofs.Runs as runs
use Rattle.serial_model.specs.Forms.{IsForm, full_entry}
use Rattle.serial_model.specs.Replays.{StepIn, RunIn, IsNoStep, IsFirstNoStep}
use Rattle.serial_model.specs.Laws.{FullIsItself, RunIsSteps, FirstNoStepIsUnique, RunHasOnlySteps, RunOrFirstNoStep, NoStepIsAnotherVerdict, PlainStepIsUnique, PlainRunIsUnique}

-- ---- entries that determine a step

same_change : (a b : Change) → verdict.Change a ≡ verdict.Change b → a ≡ b
same_change a b e = cc

pub plain_step_is_unique : PlainStepIsUnique
plain_step_is_unique f old e d new other one two same =
    let callers = ap (λ (p : PlainEntry). p.caller) same in
    let turns = ap (λ (p : PlainEntry). p.turn) same in
    let bots : e.bot ≡ d.bot = ap (λ (p : PlainEntry). p.bot) same in
    let change = same_change (change_of e) (change_of d) (sym one.decided ∙ ap (λ (i : ℕ). f (shown old i)) bots ∙ two.decided) in
    let is : e ≡ d = λ i. record { caller = callers i; turn = turns i; bot = bots i; action = (change i).action; moved = (change i).moved; patch = (change i).patch } in
    (is, step_has_one_result f old d new other (subst (λ (x : Entry). Step f old x new) is one) two)

pub plain_run_is_unique : PlainRunIsUnique
plain_run_is_unique f old one two [] [] first second same = (refl, first ∙ sym second)
plain_run_is_unique f old one two [] (d ∷ ds) first second same = absurd (cc)
plain_run_is_unique f old one two (e ∷ es) [] first second same = absurd (cc)
plain_run_is_unique f old one two (e ∷ es) (d ∷ ds) first second same =
    let head : plain_entry e ≡ plain_entry d = ap (λ (ps : List PlainEntry). get_or ps 0 (plain_entry e)) same in
    let tail : map plain_entry es ≡ map plain_entry ds = ap (λ (ps : List PlainEntry). drop 1 ps) same in
    let by = plain_step_is_unique f old e d first.0 second.0 first.1 second.1 head in
    let rest = plain_run_is_unique f second.0 one two es ds (subst (λ (c : Config). Run f c es one) by.1 first.2) second.2 tail in
    ((λ i. by.0 i ∷ rest.0 i), rest.1)

-- ---- runs are steps, one after another

pub run_begins : {E : Type 0} (form : Entry → E) (f : Shown → Verdict) (c : Config) → RunIn form f c [] c
run_begins form f c = record { source = []; tells = refl; holds = refl }

over_by : {E : Type 0} (form : Entry → E) (f : Shown → Verdict) (c d : Config) (es : List Entry) → map form es ≡ [] → Run f c es d → d ≡ c
over_by form f c d [] tells run = run
over_by form f c d (e ∷ es) tells run = absurd (cc)

over : {E : Type 0} (form : Entry → E) (f : Shown → Verdict) (c d : Config) → RunIn form f c [] d → d ≡ c
over form f c d by = over_by form f c d by.source by.tells by.holds

cons : {E : Type 0} (form : Entry → E) (f : Shown → Verdict) (c m d : Config) (told : E) (others : List E) → StepIn form f c told m → RunIn form f m others d → RunIn form f c (told ∷ others) d
cons form f c m d told others step run = record { source = step.source ∷ run.source; tells = λ i. step.tells i ∷ run.tells i; holds = (m, step.holds, run.holds) }

uncons_by : {E : Type 0} (form : Entry → E) (f : Shown → Verdict) (c d : Config) (told : E) (others : List E) (es : List Entry) → map form es ≡ told ∷ others → Run f c es d → (m : Config) × StepIn form f c told m × RunIn form f m others d
uncons_by form f c d told others [] tells run = absurd (cc)
uncons_by {E} form f c d told others (e ∷ es) tells run =
    let head : form e ≡ told = ap (λ (xs : List E). get_or xs 0 told) tells in
    let tail : map form es ≡ others = ap (λ (xs : List E). drop 1 xs) tells in
    (run.0, record { source = e; tells = head; holds = run.1 }, record { source = es; tells = tail; holds = run.2 })

uncons : {E : Type 0} (form : Entry → E) (f : Shown → Verdict) (c d : Config) (told : E) (others : List E) → RunIn form f c (told ∷ others) d → (m : Config) × StepIn form f c told m × RunIn form f m others d
uncons form f c d told others by = uncons_by form f c d told others by.source by.tells by.holds

pub run_is_steps : {E : Type 0} (form : Entry → E) → RunIsSteps form
run_is_steps form = record {
  none = λ f old last. (over form f old last, λ same. subst (λ (c : Config). RunIn form f old [] c) (sym same) (run_begins form f old));
  more = λ f old last told others. (uncons form f old last told others, λ by. cons form f old by.0 last told others by.1 by.2);
}

-- one more step
pushed : {E : Type 0} (form : Entry → E) (es : List Entry) (e : Entry) → map form (es ++ e ∷ []) ≡ map form es ++ form e ∷ []
pushed form [] e = refl
pushed form (d ∷ es) e = ap (λ xs. form d ∷ xs) (pushed form es e)

pub run_push : {E : Type 0} (form : Entry → E) (f : Shown → Verdict) (old mid new : Config) (told : List E) (next : E) → RunIn form f old told mid → StepIn form f mid next new → RunIn form f old (told ++ next ∷ []) new
run_push form f old mid new told next run step = record {
  source = run.source ++ step.source ∷ [];
  tells = pushed form run.source step.source ∙ (λ i. run.tells i ++ step.tells i ∷ []);
  holds = runs.run_push f old mid new run.source step.source run.holds step.holds;
}

-- ---- entries in full

pub full_entries : (es : List Entry) → map full_entry es ≡ es
full_entries [] = refl
full_entries (e ∷ es) = ap (λ (ds : List Entry). e ∷ ds) (full_entries es)

pub full_is_itself : FullIsItself
full_is_itself = record {
  step = λ f old new e. (λ by. subst (λ (d : Entry). Step f old d new) by.tells by.holds, λ step. record { source = e; tells = refl; holds = step });
  run = λ f old last es. (λ by. subst (λ (ds : List Entry). Run f old ds last) (sym (full_entries by.source) ∙ by.tells) by.holds, λ run. record { source = es; tells = full_entries es; holds = run });
}

-- ---- where a run stops

pub there_or_not : (o : Option Bot) → IsSome o ⊎ (IsSome o → ⊥)
there_or_not None = inr false≢true
there_or_not (Some b) = inl refl

module _ {E : Type 0} {form : Entry → E} {bot : E → ℕ} {entry : E → Change → Entry} (is : IsForm form bot entry) where
  -- what is told leads to one configuration
  one : (f : Shown → Verdict) (c m n : Config) (told : E) → StepIn form f c told m → StepIn form f c told n → m ≡ n
  one f c m n told step other = (plain_step_is_unique f c step.source other.source m n step.holds other.holds (is.keeps step.source other.source (step.tells ∙ sym other.tells))).1

  -- behind a step, a first place that is no step is one place on
  later : (f : Shown → Verdict) (start next : Config) (e : E) (es : List E) (place : ℕ) → StepIn form f start e next → IsFirstNoStep form f next es place → IsFirstNoStep form f start (e ∷ es) (suc place)
  later f start next e es place step first = record { entry = first.entry; there = first.there; world = first.world; before = cons form f start next first.world e (take place es) step first.before; none = first.none }

  -- and one place back, in the world that the step leads to
  rest : (f : Shown → Verdict) (start next : Config) (e : E) (es : List E) (place : ℕ) → StepIn form f start e next → IsFirstNoStep form f start (e ∷ es) (suc place) → IsFirstNoStep form f next es place
  rest f start next e es place step first =
      let by = uncons form f start first.world e (take place es) first.before in
      record {
        entry = first.entry;
        there = first.there;
        world = first.world;
        before = subst (λ c. RunIn form f c (take place es) first.world) (one f start by.0 next e by.1 step) by.2;
        none = first.none;
      }

  -- where the first entry is a step, it is not the first place
  not_here : (f : Shown → Verdict) (start next : Config) (e : E) (es : List E) → StepIn form f start e next → IsFirstNoStep form f start (e ∷ es) 0 → ⊥
  not_here f start next e es step first =
      let here : e ≡ first.entry = same_Some e first.entry first.there in
      first.none next (subst (λ x. StepIn form f first.world x next) here (subst (λ c. StepIn form f c e next) (sym (over form f start first.world first.before)) step))

  pub run_has_only_steps : RunHasOnlySteps form
  run_has_only_steps f start last [] place run first = none-some first.entry first.there
  run_has_only_steps f start last (e ∷ es) zero run first = (let by = uncons form f start last e es run in not_here f start by.0 e es by.1 first)
  run_has_only_steps f start last (e ∷ es) (suc place) run first = (let by = uncons form f start last e es run in run_has_only_steps f by.0 last es place by.2 (rest f start by.0 e es place by.1 first))

  -- the step that a place behind the first one begins with
  begun : (f : Shown → Verdict) (start : Config) (e : E) (es : List E) (place : ℕ) → IsFirstNoStep form f start (e ∷ es) (suc place) → (next : Config) × StepIn form f start e next
  begun f start e es place first = let by = uncons form f start first.world e (take place es) first.before in (by.0, by.1)

  pub first_no_step_is_unique : FirstNoStepIsUnique form
  first_no_step_is_unique f start [] one two first second = absurd (none-some first.entry first.there)
  first_no_step_is_unique f start (e ∷ es) zero zero first second = refl
  first_no_step_is_unique f start (e ∷ es) zero (suc two) first second = (let by = begun f start e es two second in absurd (not_here f start by.0 e es by.1 first))
  first_no_step_is_unique f start (e ∷ es) (suc one) zero first second = (let by = begun f start e es one first in absurd (not_here f start by.0 e es by.1 second))
  first_no_step_is_unique f start (e ∷ es) (suc one) (suc two) first second =
      let by = begun f start e es one first in
      ap suc (first_no_step_is_unique f by.0 es one two (rest f start by.0 e es one by.1 first) (rest f start by.0 e es two by.1 second))

  -- ---- the change that is decided

  -- the amoebot that is told is the entry's
  bots : (e : Entry) (told : E) → form e ≡ told → e.bot ≡ bot told
  bots e told tells = sym (ap (λ (d : Entry). d.bot) (is.again e)) ∙ is.its_bot (form e) (change_of e) ∙ ap bot tells

  -- the change of an entry is told where the entry is
  own_change : (e : Entry) (told : E) → form e ≡ told → form (entry told (change_of e)) ≡ told
  own_change e told tells = ap (λ (x : E). form (entry x (change_of e))) (sym tells) ∙ ap form (is.again e) ∙ tells

  -- where no change that is told is decided, there is no step
  pub no_step : (f : Shown → Verdict) (old : Config) (told : E) → ((change : Change) → form (entry told change) ≡ told → f (shown old (bot told)) ≡ verdict.Change change → ⊥) → IsNoStep form f old told
  no_step f old told none new by = none (change_of by.source) (own_change by.source told by.tells) (ap (λ (i : ℕ). f (shown old i)) (sym (bots by.source told by.tells)) ∙ by.holds.decided)

  -- where one is, that leads somewhere
  leads : (f : Shown → Verdict) (old : Config) (told : E) (e : Entry) → HasPatchedWorld f → IsValid old → IsSome (bot_at old (bot told)) → form e ≡ told → f (shown old (bot told)) ≡ verdict.Change (change_of e) → (new : Config) × StepIn form f old told new
  leads f old told e next valid there tells decided =
      let led = next old (bot told) (change_of e) (record { valid = valid; there = there; decided = decided }) in
      let same : bot told ≡ e.bot = sym (bots e told tells) in (
        led.0,
        record {
          source = e;
          tells = tells;
          holds = record {
            there = subst (λ (i : ℕ). IsSome (bot_at old i)) same there;
            decided = ap (λ (i : ℕ). f (shown old i)) (sym same) ∙ decided;
            patched = led.1;
          };
        },
      )

  -- the step of the entry that it makes
  pub makes : (f : Shown → Verdict) (old new : Config) (told : E) (change : Change) → IsSome (bot_at old (bot told)) → f (shown old (bot told)) ≡ verdict.Change change → IsPatched old (plain_patch change.patch) new → Step f old (entry told change) new
  makes f old new told change there decided patched =
      let its_bot = is.its_bot told change in
      let its_change = sym (is.its_change told change) in
      record {
        there = subst (λ (i : ℕ). IsSome (bot_at old i)) (sym its_bot) there;
        decided = ap (λ (i : ℕ). f (shown old i)) its_bot ∙ decided ∙ ap verdict.Change its_change;
        patched = subst (λ (c : Change). IsPatched old (plain_patch c.patch) new) its_change patched;
      }

  pub no_step_is_another_verdict : NoStepIsAnotherVerdict form bot
  no_step_is_another_verdict f old told next valid there = (
    (λ none e tells decided. let led = leads f old told e next valid there tells decided in none led.0 led.1),
    (λ other. no_step f old told (λ change tells decided. other (entry told change) tells (decided ∙ ap verdict.Change (sym (is.its_change told change))))),
  )

  -- so there is a step or none
  step_by : (f : Shown → Verdict) (old : Config) (told : E) → HasPatchedWorld f → IsValid old → IsSome (bot_at old (bot told)) → (v : Verdict) → f (shown old (bot told)) ≡ v → ((new : Config) × StepIn form f old told new) ⊎ IsNoStep form f old told
  step_by f old told next valid there verdict.Idle decides = inr (no_step f old told (λ change tells decided. let e = sym decides ∙ decided in cc))
  step_by f old told next valid there (verdict.Failed why) decides = inr (no_step f old told (λ change tells decided. let e = sym decides ∙ decided in cc))
  step_by f old told next valid there (verdict.Change change) decides = elim (is.decided told change) [
    | inl tells ↦ inl (leads f old told (entry told change) next valid there tells (decides ∙ ap verdict.Change (sym (is.its_change told change))))
    | inr other ↦ inr (no_step f old told (λ d tells decided. other (subst (λ (x : Change). form (entry told x) ≡ told) (same_change d change (sym decided ∙ decides)) tells)))
  ]

  step_or_not : (f : Shown → Verdict) (old : Config) (told : E) → HasPatchedWorld f → IsValid old → ((new : Config) × StepIn form f old told new) ⊎ IsNoStep form f old told
  step_or_not f old told next valid = elim (there_or_not (bot_at old (bot told))) [
    | inl there ↦ step_by f old told next valid there (f (shown old (bot told))) refl
    | inr nobody ↦ inr (λ new by. nobody (subst (λ (i : ℕ). IsSome (bot_at old i)) (bots by.source told by.tells) by.holds.there))
  ]

  pub run_or_first_no_step : RunOrFirstNoStep form
  run_or_first_no_step f start [] next valid = inl (start, run_begins form f start)
  run_or_first_no_step f start (e ∷ es) next valid = elim (step_or_not f start e next valid) [
    | inl step ↦ elim (run_or_first_no_step f step.0 es next step.1.holds.patched.valid) [
      | inl run ↦ inl (run.0, cons form f start step.0 run.0 e es step.1 run.1)
      | inr first ↦ inr (suc first.0, later f start step.0 e es first.0 step.1 first.1)
    ]
    | inr none ↦ inr (0, record { entry = e; there = refl; world = start; before = run_begins form f start; none = none })
  ]

-- ---- an example

-- a step, and then an entry of an amoebot that is idle
idle_is_no_step : (f : Shown → Verdict) (start next : Config) (e idle : Entry) → Step f start e next → f (shown next idle.bot) ≡ verdict.Idle → IsFirstNoStep full_entry f start (e ∷ idle ∷ []) 1
idle_is_no_step f start next e idle step decided = record {
  entry = idle;
  there = refl;
  world = next;
  before = (full_is_itself.run f start next (e ∷ [])).1 (next, step, refl);
  none = λ new by. let same = sym decided ∙ ap (λ (d : Entry). f (shown next d.bot)) (sym by.tells) ∙ by.holds.decided in cc;
}
