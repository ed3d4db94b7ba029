-- Entries that are told in a form, so many of them so far.
use Rattle.std.proofs.Common.{◌≡◌, ◌<◌, ◌+◌, ℕ, List, [], ◌∷◌, ◌++◌, length, map, take, get_or, drop, ap, sym, subst, ◌∙◌, arith}
use Rattle.std.proofs.lemmas.List.{length-map, length-take-le, take_more, map-append}
use Rattle.std.proofs.lemmas.Option.{slice_get-get_or}
use Rattle.std.proofs.Math.Seq.{take-length}
use Rattle.std.specs.declared.option.Option.TheVariants.{Some}
use Rattle.amoebot_state.specs.declared.verdict.Change.{Change}
use Rattle.amoebot_state.specs.declared.verdict.Entry.{Entry}
use Rattle.amoebot_state.specs.declared.verdict.Verdict.{Verdict}
use Rattle.amoebot_state.specs.Configs.{Config}
use Rattle.amoebot_state.specs.Zones.{Shown}
use Rattle.amoebot_state.specs.Steps.{Run, Step, plain_entry}
use Rattle.amoebot_state.proofs.Runs.{run_push}
use Rattle.serial_model.specs.Forms.{InForm, IsForm}
use Rattle.serial_model.specs.Replays.{IsNoStep, RunIn}
use Rattle.round_meter.specs.Rounds.{IsRounded}
use Rattle.round_meter.specs.Meters.{Metered, IsMetered, GoesOnIn, waiting_of}
use Rattle.round_meter.specs.Laws.{MeterTellsRounds}
use Rattle.document_answers.specs.Journals.{DiffersAt, at_entry}
use Rattle.document_answers.specs.Rounds.{CountedIn}

-- what is told in one form alike is alike without old values
pub plain_alike : {E : Type 0} {form : Entry → E} {bot : E → ℕ} {entry : E → Change → Entry} → IsForm form bot entry → (es ds : List Entry) → map form es ≡ map form ds → map plain_entry es ≡ map plain_entry ds
plain_alike is [] [] same = λ i. []
plain_alike is [] (d ∷ ds) same = absurd (cc)
plain_alike is (e ∷ es) [] same = absurd (cc)
plain_alike {E} {form} is (e ∷ es) (d ∷ ds) same =
    let head : form e ≡ form d = ap (λ (xs : List E). get_or xs 0 (form e)) same in
    let tail : map form es ≡ map form ds = ap (λ (xs : List E). drop 1 xs) same in
    let rest = plain_alike is es ds tail in
    (λ i. is.keeps e d head i ∷ rest i)

-- a run of a list that is one more entry
pub run_pushed : (f : Shown → Verdict) (old mid new : Config) (es ds : List Entry) (e : Entry) → ds ≡ es ++ e ∷ [] → Run f old es mid → Step f mid e new → Run f old ds new
run_pushed f old mid new es ds e more run step = subst (λ (xs : List Entry). Run f old xs new) (sym more) (run_push f old mid new es e run step)

module _ {E : Type 0} (form : Entry → E) (told : List E) where
  -- one more entry
  pub told_more : (es : List Entry) (e : Entry) (next : E) (place : ℕ) → place < length told → next ≡ get_or told place next → map form es ≡ take place told → form e ≡ next → map form (es ++ e ∷ []) ≡ take (place + 1) told
  told_more es e next place below is so_far same =
      map-append form es (e ∷ []) ∙ (λ i. so_far i ++ (same ∙ is) i ∷ []) ∙ sym (take_more told place next below)

  -- the same of a list that is one more entry
  pub told_pushed : (es ds : List Entry) (e : Entry) (next : E) (place : ℕ) → ds ≡ es ++ e ∷ [] → place < length told → next ≡ get_or told place next → map form es ≡ take place told → form e ≡ next → map form ds ≡ take (place + 1) told
  told_pushed es ds e next place more below is so_far same = ap (map form) more ∙ told_more es e next place below is so_far same

  -- all of them
  pub told_all : (Holds : List Entry → Type 0) (place : ℕ) → place ≡ length told → InForm (map form) Holds (take place told) → InForm (map form) Holds told
  told_all Holds place end by = subst (InForm (map form) Holds) (ap (λ n. take n told) end ∙ take-length told) by

  -- those so far are a run, and the next one is no step
  pub stops : (f : Shown → Verdict) (start world final : Config) (next : E) (place : ℕ) → place < length told → next ≡ get_or told place next → RunIn form f start (take place told) world → IsNoStep form f world next → DiffersAt form f start told final place
  stops f start world final next place below is run none = at_entry place (record {
    entry = next;
    there = slice_get-get_or told place next below ∙ ap Some (sym is);
    world = world;
    before = run;
    none = none;
  })

  -- ---- a meter that was fed them

  abbrev pub MeteredIn : (Shown → Verdict) → Config → ℕ → Metered → Type 0
  MeteredIn f start place m = InForm (map form) (λ (es : List Entry). IsMetered f start es m) (take place told)

  abbrev pub run_of : (f : Shown → Verdict) (start : Config) (place : ℕ) (m : Metered) → MeteredIn f start place m → RunIn form f start (take place told) m.world
  run_of f start place m by = record { source = by.source; tells = by.tells; holds = by.holds.run }

  -- it was fed so many
  pub fed_place : (f : Shown → Verdict) (start : Config) (m : Metered) (place : ℕ) → place < length told → MeteredIn f start place m → m.fed ≡ place
  fed_place f start m place below by =
      let many = length-take-le place told (omega (arith, below)) in
      omega (arith, by.holds.fed, length-map by.source form, ap length by.tells, many)

  -- it stops at the next one
  pub stops_there : (f : Shown → Verdict) (start final : Config) (m : Metered) (next : E) (place at : ℕ) → place < length told → next ≡ get_or told place next → MeteredIn f start place m → IsNoStep form f m.world next → at ≡ m.fed → DiffersAt form f start told final at
  stops_there f start final m next place at below is by none fed =
      subst (λ (k : ℕ). DiffersAt form f start told final k) (sym (fed ∙ fed_place f start m place below by)) (stops f start m.world final next place below is (run_of f start place m by) none)

  -- it goes on with the next one
  pub fed_more : (f : Shown → Verdict) (start : Config) (old new : Metered) (next : E) (place : ℕ) → place < length told → next ≡ get_or told place next → MeteredIn f start place old → GoesOnIn form f next old new → MeteredIn f start (place + 1) new
  fed_more f start old new next place below is by on = record {
    source = by.source ++ on.source ∷ [];
    tells = told_more by.source on.source next place below is by.tells on.tells;
    holds = on.holds.metered start by.source by.holds;
  }

  -- it has come to the last world
  pub fed_all : MeterTellsRounds → (f : Shown → Verdict) (start final : Config) (m : Metered) (rounds waiting : ℕ) → InForm (map form) (λ (es : List Entry). IsMetered f start es m) told → m.world ≡ final → rounds ≡ m.rounds → waiting ≡ waiting_of m → CountedIn form f start told final rounds waiting
  fed_all law f start final m rounds waiting by same counted waits = record {
    source = by.source;
    tells = by.tells;
    holds = record {
      agrees = subst (λ (c : Config). Run f start by.source c) same by.holds.run;
      counted = subst (λ (z : ℕ × ℕ). IsRounded f start by.source z.0 z.1) (λ i. (sym counted i, sym waits i)) (law f start by.source m by.holds);
    };
  }
