-- A meter that stands for a run stands for it with one more entry, and tells its rounds.
use Rattle.std.proofs.Common.{◌≡◌, ◌∙◌, ◌<◌, ◌≤◌, ◌+◌, ◌⊎◌, ◌&&◌, ◌++◌, ℕ, zero, suc, List, [], ◌∷◌, length, map, Bool, true, false, not, cond, nat_eq, inl, inr, ap, sym, subst, refl, arith, append_assoc, append-nil}
use Rattle.std.specs.Prelude.{Decides, IfErr, IsSome, Result}
use Rattle.std.specs.List.{count_by, range_with_len}
use Rattle.std.proofs.lemmas.Bool.{false≢true, cases_Bool, cases_eq, not-true, eqb-true, eqb-false, eq-eqb, cond-true, cond-false}
use Rattle.std.proofs.lemmas.List.{length-append, length-map, get_or-map}
use Rattle.std.proofs.lemmas.List.Elements.{All-get_or, All-map, All-weaker}
use Rattle.std.proofs.lemmas.List.FromFn.{get_or-map-range_with_len, length-range_with_len}
use Rattle.std.proofs.lemmas.List.Sums.{sum_by-cons}
use Rattle.std.proofs.lemmas.Result.{IfErr-weaker}
use Rattle.amoebot_state.specs.declared.verdict.Change.{Change}
use Rattle.amoebot_state.specs.declared.verdict.Entry.{Entry}
use Rattle.amoebot_state.specs.declared.verdict.Verdict.{Verdict}
use Rattle.amoebot_state.specs.Configs.{Config, IsValid, bot_at}
use Rattle.amoebot_state.specs.declared.verdict.Verdict.TheVariants as verdict
use Rattle.amoebot_state.specs.Pairs.{Triples, plain_patch}
use Rattle.amoebot_state.specs.Zones.{Shown, shown}
use Rattle.amoebot_state.specs.Steps.{Step, Run, change_of}
use Rattle.amoebot_state.proofs.Members.{Has, here, later}
use Rattle.amoebot_state.proofs.Runs.{run_push}
use Rattle.serial_model.specs.Forms.{IsForm}
use Rattle.round_meter.specs.declared.standing.Standing.{Standing}
use Rattle.round_meter.specs.Rounds.{IsSettled, AllSettled, RoundsTo, no_round, one_more, enabled_in, is_change}
use Rattle.round_meter.specs.Meters.{Metered, MeterOf, IsMetered, GoesOnWith, GoesOnIn, StandsForRun, AreStamped, unsettled, standing_of, this_round, waiting_of, waits_in}
use Rattle.round_meter.specs.Asking.{IsEntered, asked_each, cells_among, ids_asked, next_standings, next_metered, standings_after_entry, first_standing, first_standings, first_metered}
use Rattle.round_meter.specs.Tallies.{Tallied, IsInStep, metered, waiting_in, with_round_ended, with_standings}
use Rattle.round_meter.specs.Laws.{EachRunIsRounded, MeterTellsRounds}
use Rattle.round_meter.proofs.AskingLemmas.{number_kept, unasked_is_shown}
use Rattle.round_meter.proofs.SettledLemmas.{settled_next, next_settled, settled_here, here_settled}
use Rattle.round_meter.proofs.RoundsLemmas.{rounds_grow, ends_now, unended}
use Rattle.round_meter.proofs.StandingsLemmas.{count_none, count_some, waits_later, length-next, next_stamped, next_standing}

-- it waits no more exactly where it waited no more before, or it acted, or it is not enabled now
three : (x q now : Bool) → not ((x && not q) && now) ≡ true → (not x ≡ true) ⊎ ((q ≡ true) ⊎ (now ≡ false))
three false q now t = inl refl
three true true now t = inr (inl refl)
three true false false t = inr (inr refl)
three true false true t = absurd (false≢true t)

of_three : (x q now : Bool) → (not x ≡ true) ⊎ ((q ≡ true) ⊎ (now ≡ false)) → not ((x && not q) && now) ≡ true
of_three false q now one = refl
of_three true true now one = refl
of_three true false false one = refl
of_three true false true one = elim one [ inl e ↦ absurd (false≢true e) | inr r ↦ elim r [ inl e ↦ absurd (false≢true e) | inr e ↦ absurd (false≢true (sym e)) ] ]

count_not : {X : Type 0} (p : X → Bool) (xs : List X) → count_by p xs ≡ count_by not (map (λ x. not (p x)) xs)
count_not p [] = refl
count_not p (x ∷ xs) =
    sum_by-cons (λ y. cond {A = ℕ} (p y) 1 0) x xs
    ∙ ap (λ n. cond {A = ℕ} (p x) 1 0 + n) (count_not p xs)
    ∙ ap (λ b. cond {A = ℕ} b 1 0 + count_by not (map (λ y. not (p y)) xs)) (twice (p x))
    ∙ sym (sum_by-cons (λ b. cond {A = ℕ} (not b) 1 0) (not (p x)) (map (λ y. not (p y)) xs))
  where
    twice : (b : Bool) → b ≡ not (not b)
    twice true = refl
    twice false = refl

pub meter_tells_rounds : MeterTellsRounds
meter_tells_rounds f first es m is =
    let flag = λ (s : Standing). not (waits_in (this_round m) s) in
    record {
      start = is.start;
      ended = is.ended;
      unended = unended f first es is.start is.going;
      waits = record {
        settled = map flag m.standings;
        each = length-map m.standings flag ∙ is.size;
        told = λ b lt.
            let below : b < length m.standings = omega (arith, lt, is.size) in
            subst (λ t. Decides t (IsSettled f first es b is.start (length es))) (sym (get_or-map flag m.standings b unsettled false below)) (is.settled b lt);
        count = count_not (waits_in (this_round m)) m.standings;
      };
    }

-- ---- at the start of a run

pub length-first : (f : Shown → Verdict) (c : Config) (n : ℕ) → length (first_standings f c n) ≡ n
length-first f c n = length-map (range_with_len 0 n) (first_standing f c) ∙ length-range_with_len 0 n

pub first_is_metered : (f : Shown → Verdict) (first : Config) → IsValid first → ((b : ℕ) → b < length first.bots → IsSome (bot_at first b)) → IsMetered f first [] (first_metered f first)
first_is_metered f first valid no_gaps =
    let n = length first.bots in
    let at : (b : ℕ) → b < n → standing_of (first_standings f first n) b ≡ first_standing f first b = λ b lt. get_or-map-range_with_len (first_standing f first) 0 n b b unsettled lt (omega arith) in
    record {
      valid = valid;
      no_gaps = no_gaps;
      run = refl;
      fed = refl;
      size = length-first f first n;
      stamped = All-from_first n;
      start = 0;
      began = omega arith;
      ended = no_round;
      going = λ lt all. omega (arith, lt);
      right = λ b lt. ap (λ (s : Standing). s.enabled) (at b lt);
      settled = λ b lt.
          let is = ap (λ (s : Standing). not (waits_in 1 s)) (at b lt) ∙ ap not (waits_later 0 (first_standing f first b) (omega arith)) in (
            (λ t. here_settled f first [] first b refl (not-true (enabled_in f first b) (sym is ∙ t))),
            (λ settled. is ∙ ap not (settled_here f first [] first b refl settled)),
          );
    }
  where
    All-from_first : (n : ℕ) → AreStamped 1 (first_standings f first n)
    All-from_first n = All-map (λ (s : Standing). s.settled_in ≤ 1) (first_standing f first) (range_with_len 0 n) (λ k d lt. omega arith)

-- ---- one more entry

-- what is kept by one entry, if those that were not asked again are enabled or not as before
module _ (f : Shown → Verdict) (first : Config) (es : List Entry) (m : Metered) (is : IsMetered f first es m) (e : Entry) (next : Config) (step : Step f m.world e next) (ids : List ℕ)
    (same : (b : ℕ) → b < length first.bots → (Has b ids → ⊥) → enabled_in f next b ≡ enabled_in f m.world b) where
  round : ℕ
  round = this_round m

  mid : Metered
  mid = record { world = next; standings = next_standings f next (this_round m) e.bot ids m.standings; fed = m.fed + 1; rounds = m.rounds }

  run : Run f first (es ++ e ∷ []) next
  run = run_push f first m.world next es e is.run step

  longer : length (es ++ e ∷ []) ≡ length es + 1
  longer = length-append es (e ∷ [])

  stands : (b : ℕ) → b < length first.bots
      → let t = standing_of (next_standings f next (this_round m) e.bot ids m.standings) b in
      (t.enabled ≡ enabled_in f next b) × (waits_in (this_round m) t ≡ ((waits_in (this_round m) (standing_of m.standings b) && not (nat_eq e.bot b)) && enabled_in f next b))
  stands b lt = next_standing f next (this_round m) e.bot ids m.standings b (omega (arith, lt, is.size)) (λ lacks. is.right b lt ∙ sym (same b lt lacks))

  -- an amoebot waits no more exactly where it is settled
  settles : (b : ℕ) → b < length first.bots → Decides (not (waits_in (this_round m) (standing_of (next_standings f next (this_round m) e.bot ids m.standings) b))) (IsSettled f first (es ++ e ∷ []) b is.start (length es + 1))
  settles b lt =
      let x = waits_in (this_round m) (standing_of m.standings b) in
      let waits = ap not (stands b lt).1 in
      let was = is.settled b lt in (
        (λ t. next_settled f first es e next b is.start run is.began (elim (three x (nat_eq e.bot b) (enabled_in f next b) (sym waits ∙ t)) [
          | inl before ↦ inl (was.0 before)
          | inr r ↦ elim r [ inl its ↦ inr (inl (eqb-true e.bot b its)) | inr rests ↦ inr (inr rests) ]
        ])),
        (λ settled. waits ∙ of_three x (nat_eq e.bot b) (enabled_in f next b) (elim (settled_next f first es e next b is.start run settled) [
          | inl before ↦ inl (was.1 before)
          | inr r ↦ elim r [ inl its ↦ inr (inl (eq-eqb e.bot b its)) | inr rests ↦ inr (inr rests) ]
        ])),
      )

  size : length (next_standings f next (this_round m) e.bot ids m.standings) ≡ length first.bots
  size = length-next f next (this_round m) e.bot ids m.standings ∙ is.size

  stamped : AreStamped (this_round m) (next_standings f next (this_round m) e.bot ids m.standings)
  stamped = next_stamped f next (this_round m) e.bot ids m.standings is.stamped

  -- where nobody waits, each amoebot is settled
  all_settled : waiting_of mid ≡ 0 → AllSettled f first (es ++ e ∷ []) is.start (length es + 1)
  unfolding mid
  all_settled none b lt = (settles b lt).0 (ap not (count_none (waits_in (this_round m)) (next_standings f next (this_round m) e.bot ids m.standings) none b unsettled (omega (arith, lt, size))))

  goes_on : (waiting_of mid ≡ 0 → ⊥) → IsMetered f first (es ++ e ∷ []) mid
  unfolding mid
  goes_on some = record {
    valid = is.valid;
    no_gaps = is.no_gaps;
    run = run;
    fed = omega (arith, is.fed, longer);
    size = size;
    stamped = stamped;
    start = is.start;
    began = omega (arith, is.began, longer);
    ended = rounds_grow f first es (e ∷ []) m.rounds is.start is.ended;
    going = λ lt all.
        let one = count_some (waits_in (this_round m)) (next_standings f next (this_round m) e.bot ids m.standings) unsettled some in
        let below : one.0 < length first.bots = (let lt = one.1 in omega (arith, lt, size)) in
        let settled = subst (λ k. IsSettled f first (es ++ e ∷ []) one.0 is.start k) longer (all one.0 below) in
        false≢true (ap not (sym one.2) ∙ (settles one.0 below).1 settled);
    right = λ b lt. (stands b lt).0;
    settled = λ b lt. subst (λ k. Decides (not (waits_in (this_round m) (standing_of (next_standings f next (this_round m) e.bot ids m.standings) b))) (IsSettled f first (es ++ e ∷ []) b is.start k)) (sym longer) (settles b lt);
  }

  ends : waiting_of mid ≡ 0 → IsMetered f first (es ++ e ∷ []) (record mid { rounds = m.rounds + 1 })
  unfolding mid
  ends none =
      let ended = one_more m.rounds is.start (length es + 1) (rounds_grow f first es (e ∷ []) m.rounds is.start is.ended) (ends_now f first es e is.start is.began is.going (all_settled none)) in
      let counted : suc m.rounds ≡ m.rounds + 1 = omega arith in
      record {
        valid = is.valid;
        no_gaps = is.no_gaps;
        run = run;
        fed = omega (arith, is.fed, longer);
        size = size;
        stamped = All-weaker (λ (s : Standing). s.settled_in ≤ m.rounds + 1) (λ (s : Standing). s.settled_in ≤ m.rounds + 1 + 1) (λ s le. omega (arith, le)) (next_standings f next (this_round m) e.bot ids m.standings) stamped;
        start = length (es ++ e ∷ []);
        began = omega arith;
        ended = subst (λ n. RoundsTo f first (es ++ e ∷ []) n (length (es ++ e ∷ []))) counted (subst (λ k. RoundsTo f first (es ++ e ∷ []) (suc m.rounds) k) (sym longer) ended);
        going = λ lt all. omega (arith, lt);
        right = λ b lt. (stands b lt).0;
        settled = λ b lt.
            let t = standing_of (next_standings f next (this_round m) e.bot ids m.standings) b in
            let le = All-get_or (λ (s : Standing). s.settled_in ≤ m.rounds + 1) (next_standings f next (this_round m) e.bot ids m.standings) b unsettled (omega (arith, lt, size)) stamped in
            let flag = ap not (waits_later (m.rounds + 1) t le ∙ (stands b lt).0) in (
              (λ waits. here_settled f first (es ++ e ∷ []) next b run (not-true (enabled_in f next b) (sym flag ∙ waits))),
              (λ settled. flag ∙ ap not (settled_here f first (es ++ e ∷ []) next b run settled)),
            );
      }

  pub metered_next : IsMetered f first (es ++ e ∷ []) (next_metered f m e.bot next ids)
  unfolding mid
  metered_next =
      let tally : Tallied = record { standings = next_standings f next (this_round m) e.bot ids m.standings; rounds = m.rounds } in
      let P : Tallied → Type 0 = λ t. IsMetered f first (es ++ e ∷ []) (metered next t (m.fed + 1)) in
      elim (cases_Bool (nat_eq (waiting_in tally) 0)) [
        | inl t ↦ subst P (sym (cond-true (nat_eq (waiting_in tally) 0) (record tally { rounds = m.rounds + 1 }) tally t)) (ends (eqb-true (waiting_in tally) 0 t))
        | inr some ↦ subst P (sym (cond-false (nat_eq (waiting_in tally) 0) (record tally { rounds = m.rounds + 1 }) tally some)) (goes_on (eqb-false (waiting_in tally) 0 some))
      ]

-- ---- the patch of an entry, once those on and round the nodes of its changed cells were asked again

-- a tally, as its parts are taken one after another
pub entered : (f : Shown → Verdict) (next : Config) (tally own asked ended : Tallied) (bot : ℕ) (ids all : List ℕ)
    → own ≡ with_standings tally (standings_after_entry (tally.rounds + 1) tally.standings bot)
    → asked ≡ with_standings own (asked_each f next (own.rounds + 1) own.standings ids)
    → ids ≡ all → ended ≡ with_round_ended asked → ended ≡ with_round_ended (record { standings = next_standings f next (tally.rounds + 1) bot all tally.standings; rounds = tally.rounds })
entered f next tally own asked ended bot ids all first then these last =
    let ask : Tallied → List ℕ → Tallied = λ t is. with_standings t (asked_each f next (t.rounds + 1) t.standings is) in
    let entry : Tallied = with_standings tally (standings_after_entry (tally.rounds + 1) tally.standings bot) in
    last ∙ ap with_round_ended (then ∙ ap (λ t. ask t ids) first ∙ ap (ask entry) these)

-- it goes on with each entry that has this patch
pub goes_on_with : (f : Shown → Verdict) (e : Entry) (old new : Metered) → IsEntered f old e.bot e.patch new → e.bot < length old.world.bots → f (shown old.world e.bot) ≡ verdict.Change (change_of e) → StandsForRun f old → GoesOnWith f e old new
goes_on_with f e old new by below decided stands =
    let step : Step f old.world e new.world = record { there = by.no_gaps e.bot below; decided = decided; patched = by.patched } in
    record {
      stands = stands;
      step = step;
      metered = λ first es is.
          let ids = ids_asked old.world (cells_among e.patch) in
          let next : IsMetered f first (es ++ e ∷ []) (next_metered f old e.bot new.world ids) = metered_next f first es old is e new.world step ids (λ b lt lacks.
          let there = by.no_gaps b (omega (arith, lt, by.size, is.size)) in
          ap (λ s. is_change (f s)) (unasked_is_shown old.world new.world e.patch b by.valid by.patched there lacks)) in
          subst (IsMetered f first (es ++ e ∷ [])) (sym by.next) next;
    }

-- and with what is told in a form, where this is the change of the entry that it tells
pub goes_on_told : {E : Type 0} {form : Entry → E} {bot : E → ℕ} {entry : E → Change → Entry} → IsForm form bot entry → (f : Shown → Verdict) (told : E) (change : Change) (at : ℕ) (old new : Metered)
    → at ≡ bot told → IsEntered f old at change.patch new → bot told < length old.world.bots → form (entry told change) ≡ told → f (shown old.world (bot told)) ≡ verdict.Change change → StandsForRun f old → GoesOnIn form f told old new
goes_on_told {E} {form} {bot} {entry} is f told change at old new same by below tells decided stands =
    let e = entry told change in
    let its_bot : e.bot ≡ bot told = is.its_bot told change in
    let its_change : change_of e ≡ change = is.its_change told change in
    record {
      source = e;
      tells = tells;
      holds = goes_on_with f e old new
          (subst (λ (i : ℕ). IsEntered f old i e.patch new) (same ∙ sym its_bot) (subst (λ (c : Change). IsEntered f old at c.patch new) (sym its_change) by))
          (subst (λ (i : ℕ). i < length old.world.bots) (sym its_bot) below)
          (ap (λ (i : ℕ). f (shown old.world i)) its_bot ∙ decided ∙ ap verdict.Change (sym its_change))
          stands;
    }

-- and stands for a run then
pub still_stands : (f : Shown → Verdict) (e : Entry) (old new : Metered) → GoesOnWith f e old new → StandsForRun f new
still_stands f e old new on = let run = on.stands in (run.0, run.1 ++ e ∷ [], on.metered run.0 run.1 run.2)

-- where an entry differs, the meter is unchanged, if all that it keeps beside its decider is
pub meter_differs : {A D E : Type 0} (r : Result A E) (place : E → ℕ) (N : D → Metered → Type 0) (d : D) (old new : Metered) (m : MeterOf D) → record { decider = d; state = old } ≡ m
    → IfErr r (λ e. (place e ≡ old.fed) × N d old × (new ≡ old)) → IfErr r (λ e. (place e ≡ m.state.fed) × N m.decider m.state × (record { decider = d; state = new } ≡ m))
meter_differs {A} {D} {E} r place N d old new m is differs =
    let of : Metered → MeterOf D = λ s. record { decider = d; state = s } in
    let Told : MeterOf D → E → Type 0 = λ n e. (place e ≡ n.state.fed) × N n.decider n.state × (of new ≡ n) in
    subst (λ n. IfErr r (Told n)) is (IfErr-weaker r (λ e. (place e ≡ old.fed) × N d old × (new ≡ old)) (Told (of old)) (λ e by. (by.0, by.1, ap of by.2)) differs)

-- what an entry leaves of the sizes
pub entered_fed : (f : Shown → Verdict) (old new : Metered) (bot : ℕ) (patch : Triples) → IsEntered f old bot patch new → new.fed ≡ old.fed + 1
entered_fed f old new bot patch by = ap (λ (m : Metered). m.fed) by.next

pub entered_size : (f : Shown → Verdict) (old new : Metered) (bot : ℕ) (patch : Triples) → IsEntered f old bot patch new → length new.world.bots ≡ length old.world.bots
entered_size f old new bot patch by = number_kept old.world new.world (plain_patch patch) by.patched

-- the parts are in step
pub entered_in_step : (f : Shown → Verdict) (next : Config) (tally ended : Tallied) (fed bots bot : ℕ) (ids : List ℕ) → length tally.standings ≡ bots → length next.bots ≡ bots → tally.rounds ≤ fed
    → ended ≡ with_round_ended (record { standings = next_standings f next (tally.rounds + 1) bot ids tally.standings; rounds = tally.rounds }) → IsInStep next ended (fed + 1)
entered_in_step f next tally ended fed bots bot ids size kept le is =
    let mid : Tallied = record { standings = next_standings f next (tally.rounds + 1) bot ids tally.standings; rounds = tally.rounds } in
    let same = size_ended (nat_eq (waiting_in mid) 0) mid in
    let at = length-next f next (tally.rounds + 1) bot ids tally.standings in
    record {
      size = ap (λ (t : Tallied). length t.standings) is ∙ same.0 ∙ at ∙ size ∙ sym kept;
      ended = (let rounds = ap (λ (t : Tallied). t.rounds) is in let most = same.1 in omega (arith, rounds, most, le));
    }
  where
    size_ended : (b : Bool) (t : Tallied) → let u : Tallied = cond b (record t { rounds = t.rounds + 1 }) t in (length u.standings ≡ length t.standings) × (u.rounds ≤ t.rounds + 1)
    size_ended true t = (refl, omega arith)
    size_ended false t = (refl, omega arith)

-- ---- a whole run

-- all numbers below one
below : ℕ → List ℕ
below zero = []
below (suc n) = n ∷ below n

has_below : (n b : ℕ) → b < n → Has b (below n)
unfolding below
has_below zero b lt = absurd (omega (arith, lt))
has_below (suc n) b lt = elim (cases_eq b n) [
  | inl e ↦ subst (λ k. Has b (k ∷ below n)) e here
  | inr ne ↦ later (has_below n b (omega (arith, lt, ne)))
]

metered_run : (f : Shown → Verdict) (first last : Config) (es more : List Entry) (m : Metered) → IsMetered f first es m → Run f m.world more last → (n : Metered) × IsMetered f first (es ++ more) n
metered_run f first last es [] m is steps = (m, subst (λ xs. IsMetered f first xs m) (sym (append-nil es)) is)
metered_run f first last es (e ∷ more) m is steps =
    let ids = below (length first.bots) in
    let one : IsMetered f first (es ++ e ∷ []) (next_metered f m e.bot steps.0 ids) = metered_next f first es m is e steps.0 steps.1 ids (λ b lt lacks. absurd (lacks (has_below (length first.bots) b lt))) in
    let rest = metered_run f first last (es ++ e ∷ []) more (next_metered f m e.bot steps.0 ids) one steps.2 in
    (rest.0, subst (λ xs. IsMetered f first xs rest.0) (append_assoc es (e ∷ []) more) rest.1)

pub each_run_is_rounded : EachRunIsRounded
each_run_is_rounded f first last es valid no_gaps run =
    let all = metered_run f first last [] es (first_metered f first) (first_is_metered f first valid no_gaps) run in
    (all.0.rounds, waiting_of all.0, meter_tells_rounds f first es all.0 all.1)
