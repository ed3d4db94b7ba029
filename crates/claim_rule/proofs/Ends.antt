-- What a field leaves is determined by what its seats know.
use Rattle.std.proofs.Common.{◌≡◌, ℕ, suc, List, [], ◌∷◌, length, Option, Some, ap, sym, refl, subst, ◌∙◌, arith}
use Rattle.std.specs.Prelude.{slice_get, IsSome}
use Rattle.std.specs.List.{All}
use Rattle.std.proofs.lemmas.Option.{none-some, same_Some, slice_get_within, get_or_from_slice_get}
use Rattle.amoebot_state.specs.declared.verdict.Change.{Change}
use Rattle.amoebot_state.specs.declared.verdict.Entry.{Entry}
use Rattle.amoebot_state.specs.declared.verdict.Verdict.{Verdict}
use Rattle.amoebot_state.specs.declared.verdict.Verdict.TheVariants as verdict
use Rattle.amoebot_state.specs.Configs.{Config}
use Rattle.amoebot_state.specs.Pairs.{plain_patch}
use Rattle.amoebot_state.specs.Patches.{IsPatched}
use Rattle.amoebot_state.specs.Steps.{Run, Step, change_of}
use Rattle.amoebot_state.specs.Zones.{Shown, shown}
use Rattle.amoebot_state.proofs.Patched.{patched_is_unique, run_has_one_last}
use Rattle.claim_core.specs.declared.marks.Mark.TheVariants as mark
use Rattle.claim_core.specs.Turns.{Kept, bot_of_turn}
use Rattle.claim_core.specs.Good.{IsListed}
use Rattle.claim_core.specs.Machine.{Setup, State}
use Rattle.claim_core.specs.Reached.{HasValues}
use Rattle.claim_core.specs.Soundness.{IsSetup, Sound}
use Rattle.claim_core.proofs.Ends.{same_world}
use Rattle.claim_core.proofs.HolderLemmas.{framed}
use Rattle.claim_core.proofs.Moved.{told_by}
use Rattle.claim_core.proofs.Places.{same_by_get}
use Rattle.claim_rule.specs.declared.views.Terms.{Terms}
use Rattle.claim_rule.specs.Views.{setup_of_terms}
use Rattle.claim_rule.specs.Stands.{IsRecord}
use Rattle.claim_rule.specs.Tokens.{Token, record_in, number_in, doing}
use Rattle.claim_rule.specs.Manners.{CommitWay, after_by}
use Rattle.claim_rule.specs.Closing.{ClosesAs}
use Rattle.claim_rule.specs.Laws.{FieldEndsOneWay}
use Rattle.claim_rule.proofs.Closes.{some_there}
use Rattle.claim_rule.proofs.WayLemmas.{sound_by}

-- the entries are of the same turn
pub record AreOfOneTurn (e f : Entry) : Type 0 where
  pub caller : e.caller ≡ f.caller
  pub turn : e.turn ≡ f.turn
  pub bot : e.bot ≡ f.bot

-- the change in a decision, where it is one
abbrev change_in : Change → Verdict → Change
change_in d verdict.Idle = d
change_in d (verdict.Failed why) = d
change_in d (verdict.Change change) = change

-- two steps from one configuration of the same turn are the same
same_step : (v : Shown → Verdict) (w : Config) (e f : Entry) (one two : Config) → AreOfOneTurn e f → Step v w e one → Step v w f two → e ≡ f
same_step v w e f one two of first second =
    let change : change_of e ≡ change_of f = ap (change_in (change_of e)) (sym first.decided ∙ ap (λ b. v (shown w b)) of.bot ∙ second.decided) in
    λ i. record { caller = of.caller i; turn = of.turn i; bot = of.bot i; action = (change i).action; moved = (change i).moved; patch = (change i).patch }

-- and so are two runs whose entries are of the same turns
pub same_runs : (v : Shown → Verdict) (w : Config) (es fs : List Entry) (one two : Config) → Run v w es one → Run v w fs two
    → ((k : ℕ) (e : Entry) → slice_get es k ≡ Some e → (f : Entry) × (slice_get fs k ≡ Some f) × AreOfOneTurn e f)
    → ((k : ℕ) (f : Entry) → slice_get fs k ≡ Some f → (e : Entry) × (slice_get es k ≡ Some e)) → es ≡ fs
same_runs v w [] [] one two first second there back = refl
same_runs v w [] (f ∷ fs) one two first second there back = let e = back 0 f refl in absurd (none-some e.0 e.1)
same_runs v w (e ∷ es) [] one two first second there back = let f = there 0 e refl in absurd (none-some f.0 f.1)
same_runs v w (e ∷ es) (f ∷ fs) one two first second there back =
    let g = there 0 e refl in
    let of = subst (AreOfOneTurn e) (sym (same_Some f g.0 g.1)) g.2 in
    let heads : e ≡ f = same_step v w e f first.0 second.0 of first.1 second.1 in
    let mid : second.0 ≡ first.0 = patched_is_unique w second.0 first.0 (plain_patch f.patch) second.1.patched (subst (λ (x : Entry). IsPatched w (plain_patch x.patch) first.0) heads first.1.patched) in
    let tails : es ≡ fs = same_runs v first.0 es fs one two first.2 (subst (λ c. Run v c fs two) mid second.2) (λ k x at. there (suc k) x at) (λ k x at. back (suc k) x at) in
    λ i. heads i ∷ tails i

module _ {D : Type 0} (verdict : D → Shown → Verdict) (z : Terms D) (way : CommitWay) (seats : List (Option (Token D))) (ok : IsSetup (setup_of_terms verdict z)) (count : length seats ≡ length z.lists.ids) (full : All (λ o. IsSome o) seats) where
  abbrev g : Setup
  g = setup_of_terms verdict z

  abbrev Knows : State → Type 0
  Knows s = (c : ℕ) (t : Token D) → slice_get seats c ≡ Some (Some t) → slice_get s.callers c ≡ Some (doing t)

  -- what the seats know is so of their callers
  known : (s : State) → ((c : ℕ) (t : Token D) → slice_get seats c ≡ Some (Some t) → (number_in t ≡ c) × IsRecord g s (record_in t)) → Knows s
  known s is c t e = let r = is c t e in ap (slice_get s.callers) (sym r.0) ∙ r.1.caller

  same_callers : (one two : State) → Sound g one → Sound g two → Knows one → Knows two → one.callers ≡ two.callers
  same_callers one two sound sound' knows knows' = same_by_get one.callers two.callers (sound.callers ∙ sym sound'.callers) (λ c k e.
      let n = slice_get_within two.callers c k e in
      let t = some_there seats c (omega (arith, n, sound'.callers, count)) full in knows c t.0 t.1 ∙ sym (knows' c t.0 t.1) ∙ e)

  listed : (one : State) → Sound g one → (k : ℕ) (e : Entry) → slice_get one.journal k ≡ Some e → IsListed z.lists e
  listed one sound k e at = subst (IsListed z.lists) (get_or_from_slice_get one.journal k e e at) (sound.order.listed k e (slice_get_within one.journal k e at))

  entry_too : (one two : State) → Sound g one → Sound g two → one.callers ≡ two.callers → (k : ℕ) (e : Entry) → slice_get one.journal k ≡ Some e → (f : Entry) × (slice_get two.journal k ≡ Some f) × AreOfOneTurn e f
  entry_too one two sound sound' same k e at =
      let by = told_by g one e.caller e.turn (mark.Done k) (sound.committed k e at) in
      let has = (sound'.each e.caller by.0 (ap (λ ks. slice_get ks e.caller) (sym same) ∙ by.1)).right e.turn (mark.Done k) by.2 in (
        has.0,
        has.1,
        record {
          caller = sym has.2;
          turn = sym has.3;
          bot = (listed one sound k e at).bot ∙ (λ i. bot_of_turn z.lists (sym has.2 i) (sym has.3 i)) ∙ sym (listed two sound' k has.0 has.1).bot;
        },
      )

  same_journals : (one two : State) → Sound g one → Sound g two → one.callers ≡ two.callers → one.journal ≡ two.journal
  same_journals one two sound sound' same = same_runs g.verdict g.world one.journal two.journal sound.last sound'.last sound.run sound'.run (entry_too one two sound sound' same)
      (λ k f at. let e = entry_too two one sound' sound (sym same) k f at in (e.0, e.1))

  last_is : (s : State) (world : Config) (sound : Sound g s) → HasValues g s world → world ≡ sound.last
  last_is s world sound has = same_world g s world sound.last has (framed g ok s sound) sound.values

  pub ends_one_way : (w v : Config) (i j : Kept) → ClosesAs way verdict z seats w i → ClosesAs way verdict z seats v j → (w ≡ v) × (i.first ≡ j.first) × (i.entries ≡ j.entries)
  ends_one_way w v i j one two =
      let sound = sound_by g way ok one.steps in
      let sound' = sound_by g way ok two.steps in
      let same = same_journals (after_by way g one.steps) (after_by way g two.steps) sound sound' (same_callers (after_by way g one.steps) (after_by way g two.steps) sound sound' (known (after_by way g one.steps) one.callers) (known (after_by way g two.steps) two.callers)) in
      let last = run_has_one_last g.verdict g.world (after_by way g one.steps).journal sound.last sound'.last sound.run (subst (λ es. Run g.verdict g.world es sound'.last) (sym same) sound'.run) in
      (last_is (after_by way g one.steps) w sound one.values ∙ last ∙ sym (last_is (after_by way g two.steps) v sound' two.values), one.first ∙ sym two.first, one.entries ∙ same ∙ sym two.entries)

pub field_ends_one_way : {D : Type 0} (way : CommitWay) (verdict : D → Shown → Verdict) → FieldEndsOneWay way verdict
field_ends_one_way way verdict z seats w v i j ok count full one two = ends_one_way verdict z way seats ok count full w v i j one two
