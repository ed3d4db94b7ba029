-- One entry after another goes from the own lists to the journal and to the world.
use Rattle.std.proofs.Common.{◌≡◌, ℕ, ◌+◌, ◌<◌, ◌≤◌, List, [], ◌∷◌, ◌++◌, length, drop, set, Some, None, inl, inr, ap, sym, refl, subst, ◌∙◌, arith, append-nil, append_assoc}
use Rattle.std.specs.Prelude.{slice_get}
use Rattle.std.proofs.lemmas.Bool.{cases_lt}
use Rattle.std.proofs.lemmas.List.{get_or_past}
use Rattle.std.proofs.lemmas.Option.{none-some, same_Some}
use Rattle.amoebot_state.specs.declared.verdict.Entry.{Entry}
use Rattle.amoebot_state.specs.declared.verdict.Verdict.{Verdict}
use Rattle.amoebot_state.specs.Configs.{Config}
use Rattle.amoebot_state.specs.Pairs.{plain_patch}
use Rattle.amoebot_state.specs.Patches.{IsPatched, HasPatched}
use Rattle.amoebot_state.specs.Steps.{Run}
use Rattle.amoebot_state.specs.Zones.{Shown}
use Rattle.amoebot_state.proofs.Patched.{patched_is_unique}
use Rattle.claim_core.specs.Limits.{most_turns}
use Rattle.claim_core.specs.Merges.{own_of, AreLeft, IsMerge}
use Rattle.claim_core.proofs.Merging.{merge_is_one, next_is_first, no_place_no_entry}
use Rattle.ticket_commit.specs.OwnLists.{HasMerge, IsListAt}

-- What is left in the lists from a place on, for which there is room. The journal gains the merge of the lists at the start, and the world
-- becomes the last one of its run: with what is left they have the whole.
pub record IsMerging (f : Shown → Verdict) (whole : List (List (ℕ × Entry))) (first : Config) (before : List Entry) (lists : List (List (ℕ × Entry))) (place spare : ℕ) (world : Config) (entries : List Entry) : Type 0 where
  pub rest : List Entry
  pub last : Config
  pub joined : (merged : List Entry) → IsMerge whole merged → (entries ++ rest ≡ before ++ merged) × Run f first merged last
  pub left : AreLeft lists place rest
  pub run : Run f world rest last
  pub room : length rest ≤ spare
  pub few : place + length rest ≤ most_turns

pub merging_starts : (f : Shown → Verdict) (lists : List (List (ℕ × Entry))) (spare : ℕ) (world : Config) (entries : List Entry) → HasMerge f world lists spare → IsMerging f lists world entries lists 0 spare world entries
merging_starts f lists spare world entries has = record {
  rest = has.journal;
  last = has.last;
  joined = λ merged is. let same = merge_is_one lists 0 has.journal merged has.merge is in (ap (λ es. entries ++ es) same, subst (λ es. Run f world es has.last) same has.run);
  left = has.merge;
  run = has.run;
  room = has.room;
  few = (let few = has.few in omega (arith, few));
}

-- an empty rest has no first entry
nothing_left : (lists : List (List (ℕ × Entry))) (place c : ℕ) (p : ℕ × Entry) → AreLeft lists place [] → slice_get (own_of lists c) 0 ≡ Some p → ⊥
nothing_left lists place c p left at = elim (cases_lt c (length lists)) [
  | inl lt ↦ none-some p (ap (λ ys. slice_get ys 0) (sym (left.own c lt)) ∙ at)
  | inr le ↦ none-some p (ap (λ ys. slice_get ys 0) (sym (get_or_past lists c [] le)) ∙ at)
]

module _ (f : Shown → Verdict) (whole : List (List (ℕ × Entry))) (first : Config) (before : List Entry) (lists : List (List (ℕ × Entry))) (place spare : ℕ) (world : Config) (entries : List Entry)
    (now : IsMerging f whole first before lists place spare world entries) where
  -- the entry at the front with the place is the next one, and its patch can be applied
  pub record IsTaken (c : ℕ) (e : Entry) : Type 0 where
    pub some : 0 < spare
    pub below : place < most_turns
    pub applies : HasPatched world (plain_patch e.patch)
    pub goes_on : (next : Config) (spare' : ℕ) → IsPatched world (plain_patch e.patch) next → spare' + 1 ≡ spare
        → IsMerging f whole first before (set lists c (drop 1 (own_of lists c))) (place + 1) spare' next (entries ++ e ∷ [])

  pub taken : (c : ℕ) (e : Entry) → slice_get (own_of lists c) 0 ≡ Some (place, e) → IsTaken c e
  taken c e at = by now.rest now.joined now.left now.run now.room now.few
    where
      by : (es : List Entry) → ((merged : List Entry) → IsMerge whole merged → (entries ++ es ≡ before ++ merged) × Run f first merged now.last)
          → AreLeft lists place es → Run f world es now.last → length es ≤ spare → place + length es ≤ most_turns → IsTaken c e
      by [] joined left run room few = absurd (nothing_left lists place c (place, e) left at)
      by (x ∷ es) joined left run room few =
          let next = next_is_first lists place x es left in
          let same : c ≡ x.caller = next.only c (place, e) at refl in
          let mine : x ≡ e = sym (ap (λ (p : ℕ × Entry). p.1) (same_Some (place, e) (place, x) (sym at ∙ ap (λ d. slice_get (own_of lists d) 0) same ∙ next.first))) in
          let patched : IsPatched world (plain_patch e.patch) run.0 = subst (λ (y : Entry). IsPatched world (plain_patch y.patch) run.0) mine run.1.patched in
          record {
            some = omega (arith, room);
            below = omega (arith, few);
            applies = (run.0, patched);
            goes_on = λ after spare' applied less. record {
              rest = es;
              last = now.last;
              joined = λ merged is. let all = joined merged is in (append_assoc entries (e ∷ []) es ∙ ap (λ y. entries ++ y ∷ es) (sym mine) ∙ all.0, all.1);
              left = subst (λ d. AreLeft (set lists d (drop 1 (own_of lists d))) (place + 1) es) (sym same) next.rest;
              run = subst (λ d. Run f d es now.last) (patched_is_unique world run.0 after (plain_patch e.patch) patched applied) run.2;
              room = omega (arith, room, less);
              few = omega (arith, few);
            };
          }

  -- where no list begins with the place, all entries are there
  pub merging_ends : IsListAt lists place None → (merged : List Entry) → IsMerge whole merged → (entries ≡ before ++ merged) × Run f first merged world
  merging_ends none merged is =
      let nothing : now.rest ≡ [] = no_place_no_entry lists place now.rest now.left none in
      let all = now.joined merged is in
      let last : now.last ≡ world = subst (λ es. Run f world es now.last) nothing now.run in
      (sym (append-nil entries) ∙ ap (λ es. entries ++ es) (sym nothing) ∙ all.0, subst (Run f first merged) last all.1)
