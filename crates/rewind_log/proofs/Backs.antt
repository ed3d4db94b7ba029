-- Many steps back.
use Rattle.std.proofs.Common.{◌≡◌, ◌⊎◌, ◌<◌, ◌≤◌, ◌+◌, ◌-◌, ℕ, zero, suc, List, [], ◌∷◌, length, drop, take, get_or, ap, sym, ◌∙◌, refl, subst, inl, inr, arith, Some}
use Rattle.std.specs.Prelude.{slice_get}
use Rattle.std.proofs.lemmas.Bool.{cases_lt}
use Rattle.std.proofs.lemmas.List.{drop_all, drop_more}
use Rattle.std.proofs.lemmas.Option.{none-some, same_Some, get_or_from_slice_get}
use Rattle.amoebot_state.specs.declared.verdict.Entry.{Entry}
use Rattle.amoebot_state.specs.declared.verdict.Verdict.{Verdict}
use Rattle.amoebot_state.specs.Configs.{Config, IsValid}
use Rattle.amoebot_state.specs.Zones.{Shown}
use Rattle.amoebot_state.specs.Steps.{Step, Run, OldValuesAreFound}
use Rattle.amoebot_state.proofs.Patched.{step_has_one_result}
use Rattle.rewind_log.specs.Rewinds.{IsStepBack, IsBack, IsLastNoStep}
use Rattle.rewind_log.specs.Laws.{BackIsUnique, LastNoStepIsUnique, BackHasNoLastNoStep, BackOrLastNoStep, RunsLeadBack, BacksAreRuns}
use Rattle.rewind_log.proofs.StepBacks.{step_back_is_unique, step_back_or_none}

-- an entry more in front
pub more_in_front : (f : Shown → Verdict) (last world : Config) (e : Entry) (es : List Entry) (place : ℕ) → IsBack f last es place world → IsBack f last (e ∷ es) (suc place) world
more_in_front f last world e es place back = record { within = (let w = back.within in omega arith); valid = back.valid; run = back.run }

-- from the last world nothing is between
pub back_at_last : (f : Shown → Verdict) (last : Config) (es : List Entry) (place : ℕ) → IsValid last → place ≡ length es → IsBack f last es place last
back_at_last f last es place valid is = record {
  within = omega (arith, is);
  valid = valid;
  run = subst (λ xs. Run f last xs last) (sym (drop_all place es (omega (arith, is)))) refl;
}

-- one step more from there
pub back_before : (f : Shown → Verdict) (last old new : Config) (es : List Entry) (place : ℕ) (e : Entry) → place < length es → get_or es place e ≡ e → IsBack f last es (place + 1) new → IsStepBack f new e old → IsBack f last es place old
back_before f last old new es place e lt there back step = record {
  within = omega arith;
  valid = step.valid;
  run = subst (λ xs. Run f old xs last) (sym (drop_more es place e lt ∙ ap (λ x. x ∷ drop (place + 1) es) there)) (new, step.step, back.run);
}

-- the same with its premises one by one
pub leads_back : (f : Shown → Verdict) (first last world : Config) (es : List Entry) (place : ℕ) → IsValid first → Run f first es last → place ≤ length es → Run f first (take place es) world → IsBack f last es place world
leads_back f first last world entries zero valid run le reached = record {
  within = le;
  valid = subst IsValid (sym reached) valid;
  run = subst (λ (c : Config). Run f c entries last) (sym reached) run;
}
leads_back f first last world [] (suc place) valid run le reached = absurd (omega (arith, le))
leads_back f first last world (e ∷ es) (suc place) valid run le reached =
    let same : reached.0 ≡ run.0 = step_has_one_result f first e reached.0 run.0 reached.1 run.1 in
    more_in_front f last world e es place
    (leads_back f run.0 last world es place run.1.patched.valid run.2 (omega (arith, le)) (subst (λ (c : Config). Run f c (take place es) world) same reached.2))

pub runs_lead_back : RunsLeadBack
runs_lead_back f first last world entries place lead = leads_back f first last world entries place lead.valid lead.run lead.within lead.there

pub backs_are_runs : BacksAreRuns
backs_are_runs f first last entries back = (back.valid, back.run)

-- two runs of the same entries to one world, from valid worlds, begin at one
one_first : (f : Shown → Verdict) → OldValuesAreFound f → (last : Config) (es : List Entry) (one two : Config) → IsValid one → IsValid two → Run f one es last → Run f two es last → one ≡ two
one_first f found last [] one two v w first second = sym first ∙ second
one_first f found last (e ∷ es) one two v w first second =
    let same : first.0 ≡ second.0 = one_first f found last es first.0 second.0 first.1.patched.valid second.1.patched.valid first.2 second.2 in
    let other : Step f two e first.0 = subst (λ (c : Config). Step f two e c) (sym same) second.1 in
    step_back_is_unique f first.0 e one two found (record { valid = v; step = first.1 }) (record { valid = w; step = other })

pub back_is_unique : BackIsUnique
back_is_unique f last entries place one two found first second = one_first f found last (drop place entries) one two first.valid second.valid first.run second.run

-- seen from the last world, a step of an entry leads to the world behind it
record Passed (f : Shown → Verdict) (last : Config) (entries : List Entry) (k : ℕ) (e : Entry) : Type 0 where
  pub old : Config
  pub new : Config
  pub step : IsStepBack f new e old
  pub behind : IsBack f last entries (k + 1) new

passed_later : (f : Shown → Verdict) (last : Config) (x : Entry) (es : List Entry) (k : ℕ) (e : Entry) → Passed f last es k e → Passed f last (x ∷ es) (suc k) e
passed_later f last x es k e p =
    let is : suc (k + 1) ≡ suc k + 1 = omega arith in
    record { old = p.old; new = p.new; step = p.step; behind = subst (λ n. IsBack f last (x ∷ es) n p.new) is (more_in_front f last p.new x es (k + 1) p.behind) }

passes : (f : Shown → Verdict) (last : Config) (es : List Entry) (place k : ℕ) (e : Entry) (world : Config) → place ≤ k → slice_get es k ≡ Some e → IsValid world → Run f world (drop place es) last → Passed f last es k e
passes f last [] place k e world le there valid run = absurd (none-some e there)
passes f last (x ∷ es) zero zero e world le there valid run =
    let same : x ≡ e = same_Some x e there in
    record {
      old = world;
      new = run.0;
      step = record { valid = valid; step = subst (λ (y : Entry). Step f world y run.0) same run.1 };
      behind = record { within = omega arith; valid = run.1.patched.valid; run = run.2 };
    }
passes f last (x ∷ es) zero (suc k) e world le there valid run = passed_later f last x es k e (passes f last es zero k e run.0 (omega arith) there run.1.patched.valid run.2)
passes f last (x ∷ es) (suc place) zero e world le there valid run = absurd (omega (arith, le))
passes f last (x ∷ es) (suc place) (suc k) e world le there valid run = passed_later f last x es k e (passes f last es place k e world (omega (arith, le)) there valid run)

pub back_has_no_last_no_step : BackHasNoLastNoStep
back_has_no_last_no_step f last entries place k world found back stop =
    let p = passes f last entries place k stop.entry world stop.above stop.there back.valid back.run in
    let same : p.new ≡ stop.world = back_is_unique f last entries (k + 1) p.new stop.world found p.behind stop.behind in
    stop.none p.old p.step.valid (subst (λ (c : Config). Step f p.old stop.entry c) same p.step.step)

-- a place below another cannot be the greatest, since from behind it the other is passed
lower_stop : (f : Shown → Verdict) (last : Config) (entries : List Entry) (place one two : ℕ) → OldValuesAreFound f → IsLastNoStep f last entries place one → IsLastNoStep f last entries place two → one < two → ⊥
lower_stop f last entries place one two found first second lt =
    back_has_no_last_no_step f last entries (one + 1) two first.world found first.behind
    (record { above = omega arith; entry = second.entry; there = second.there; world = second.world; behind = second.behind; none = second.none })

pub last_no_step_is_unique : LastNoStepIsUnique
last_no_step_is_unique f last entries place one two found first second = elim (cases_lt one two) [
  | inl lt ↦ absurd (lower_stop f last entries place one two found first second lt)
  | inr ge ↦ elim (cases_lt two one) [
    | inl lt ↦ absurd (lower_stop f last entries place two one found second first lt)
    | inr le ↦ omega arith
  ]
]

-- the greatest place above a place, seen from a lower one
pub stop_above : (f : Shown → Verdict) (last : Config) (entries : List Entry) (place k : ℕ) → IsLastNoStep f last entries (place + 1) k → IsLastNoStep f last entries place k
stop_above f last entries place k stop = record { above = (let a = stop.above in omega arith); entry = stop.entry; there = stop.there; world = stop.world; behind = stop.behind; none = stop.none }

abbrev Told : (Shown → Verdict) → Config → List Entry → ℕ → Type 0
Told f last entries place = ((world : Config) × IsBack f last entries place world) ⊎ ((k : ℕ) × IsLastNoStep f last entries place k)

-- so many entries before the last world, or a greatest place
told_before : (f : Shown → Verdict) (last : Config) (entries : List Entry) → OldValuesAreFound f → IsValid last → (n place : ℕ) → place + n ≡ length entries → Told f last entries place
told_before f last entries found valid zero place is = inl (last, back_at_last f last entries place valid (omega arith))
told_before f last entries found valid (suc n) place is = elim (told_before f last entries found valid n (place + 1) (omega (arith, is))) [
  | inr stop ↦ inr (stop.0, stop_above f last entries place stop.0 stop.1)
  | inl back ↦
      let lt : place < length entries = omega (arith, is) in
      let at = entry_at entries place lt in
      elim (step_back_or_none f back.0 at.0 found back.1.valid) [
        | inl step ↦ inl (step.0, back_before f last step.0 back.0 entries place at.0 lt (get_or_from_slice_get entries place at.0 at.0 at.1) back.1 step.1)
        | inr none ↦ inr (place, record { above = omega arith; entry = at.0; there = at.1; world = back.0; behind = back.1; none = none })
      ]
]
  where
    entry_at : (es : List Entry) (k : ℕ) → k < length es → (e : Entry) × (slice_get es k ≡ Some e)
    entry_at [] k lt = absurd (omega (arith, lt))
    entry_at (e ∷ es) zero lt = (e, refl)
    entry_at (e ∷ es) (suc k) lt = entry_at es k (omega (arith, lt))

pub back_or_last_no_step : BackOrLastNoStep
back_or_last_no_step f last entries place found valid within = told_before f last entries found valid (length entries - place) place (omega (arith, within))
