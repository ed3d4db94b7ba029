-- One step back.
use Rattle.std.proofs.Common.{◌≡◌, ◌⊎◌, ap, ◌∙◌, subst, inl, inr, Some}
use Rattle.std.specs.Prelude.{IsSome}
use Rattle.std.proofs.lemmas.List.{map-id}
use Rattle.std.proofs.lemmas.Simd.{map-map}
use Rattle.std.specs.List.{All}
use Rattle.amoebot_state.specs.declared.cell.CellName.{CellName}
use Rattle.amoebot_state.specs.declared.cell.Cell.{Cell}
use Rattle.amoebot_state.specs.declared.verdict.Change.{Change}
use Rattle.amoebot_state.specs.declared.verdict.Entry.{Entry}
use Rattle.amoebot_state.specs.declared.verdict.Verdict.{Verdict}
use Rattle.amoebot_state.specs.declared.verdict.Verdict.TheVariants as verdict
use Rattle.amoebot_state.specs.Pairs.{Triples, cell_of, cell_value, plain_patch}
use Rattle.amoebot_state.specs.Configs.{Config, IsValid, bot_at, value}
use Rattle.amoebot_state.specs.Zones.{Shown, shown}
use Rattle.amoebot_state.specs.Patches.{IsPatched, HasPatched}
use Rattle.amoebot_state.specs.Reversals.{reversed_triple, reversed_patch}
use Rattle.amoebot_state.specs.Steps.{OldValuesAreFound, change_of}
use Rattle.amoebot_state.proofs.Fits.{patched_or_not, cells_or_not}
use Rattle.amoebot_state.proofs.Patched.{patched_is_unique}
use Rattle.amoebot_state.proofs.Reversed.{reversed_leads_back, found_now}
use Rattle.serial_model.proofs.Runs.{there_or_not}
use Rattle.serial_model.specs.SameChanges.{same_or_not}
use Rattle.rewind_log.specs.Rewinds.{IsStepBack, IsNoStepBack}
use Rattle.rewind_log.specs.Laws.{StepBackIsUnique, StepBackOrNone}

-- what a patch gives is what it finds, the other way round
abbrev pub Holds : Config → Triples → Type 0
Holds c ts = All (λ (p : CellName × Cell). value c (cell_of p) ≡ Some (cell_value p)) (plain_patch ts)

-- exchanged twice, the values are as they were
pub reversed_twice : (ts : Triples) → reversed_patch (reversed_patch ts) ≡ ts
reversed_twice ts = map-map reversed_triple reversed_triple ts ∙ map-id ts

-- where the new values are there, and the old ones lead to a configuration, the patch leads from that one back
pub leads_again : (old new : Config) (ts : Triples) → IsValid new → Holds new ts → IsPatched new (plain_patch (reversed_patch ts)) old → IsPatched old (plain_patch ts) new
leads_again old new ts valid holds back =
    subst (λ (us : Triples). IsPatched old (plain_patch us) new) (reversed_twice ts) (reversed_leads_back new old (reversed_patch ts) valid (found_now new ts holds) back)

module _ (f : Shown → Verdict) (found : OldValuesAreFound f) (new : Config) (e : Entry) where
  -- a step back is a patched configuration of the patch the other way round
  pub back_leads : (old : Config) → IsStepBack f new e old → IsPatched new (plain_patch (reversed_patch e.patch)) old
  back_leads old is =
      reversed_leads_back old new e.patch is.valid (found old e.bot (change_of e) (record { valid = is.valid; there = is.step.there; decided = is.step.decided })) is.step.patched

  pub one_back : (one two : Config) → IsStepBack f new e one → IsStepBack f new e two → one ≡ two
  one_back one two first second = patched_is_unique new one two (plain_patch (reversed_patch e.patch)) (back_leads one first) (back_leads two second)

  -- there is none where the cells do not have the new values,
  pub none_without_values : (Holds new e.patch → ⊥) → IsNoStepBack f new e
  none_without_values not old valid step = not step.patched.given

  -- none where the old values lead nowhere,
  pub none_without_world : (HasPatched new (plain_patch (reversed_patch e.patch)) → ⊥) → IsNoStepBack f new e
  none_without_world nowhere old valid step = nowhere (old, back_leads old (record { valid = valid; step = step }))

  -- and none where they lead to a configuration on which something else is decided
  pub none_without_verdict : (old : Config) → IsPatched new (plain_patch (reversed_patch e.patch)) old → (IsSome (bot_at old e.bot) → f (shown old e.bot) ≡ verdict.Change (change_of e) → ⊥) → IsNoStepBack f new e
  none_without_verdict old led other before valid step =
      let same : before ≡ old = patched_is_unique new before old (plain_patch (reversed_patch e.patch)) (back_leads before (record { valid = valid; step = step })) led in
      other (subst (λ (c : Config). IsSome (bot_at c e.bot)) same step.there) (subst (λ (c : Config). f (shown c e.bot) ≡ verdict.Change (change_of e)) same step.decided)

  -- else that configuration is the one
  pub is_back : (old : Config) → IsValid new → Holds new e.patch → IsPatched new (plain_patch (reversed_patch e.patch)) old → IsSome (bot_at old e.bot) → f (shown old e.bot) ≡ verdict.Change (change_of e) → IsStepBack f new e old
  is_back old valid holds led there decided = record {
    valid = led.valid;
    step = record { there = there; decided = decided; patched = leads_again old new e.patch valid holds led };
  }

pub step_back_is_unique : StepBackIsUnique
step_back_is_unique f new e one two found first second = one_back f found new e one two first second

-- a verdict is the change of an entry, or is not
decided_or_not : (v : Verdict) (change : Change) → (v ≡ verdict.Change change) ⊎ (v ≡ verdict.Change change → ⊥)
decided_or_not verdict.Idle change = inr (λ e. cc)
decided_or_not (verdict.Failed why) change = inr (λ e. cc)
decided_or_not (verdict.Change other) change = elim (same_or_not other change) [
  | inl same ↦ inl (ap verdict.Change same)
  | inr ne ↦ inr (λ e. let same : other ≡ change = cc in ne same)
]

pub step_back_or_none : StepBackOrNone
step_back_or_none f new e found valid = elim (cells_or_not new (plain_patch e.patch)) [
  | inr not ↦ inr (none_without_values f found new e not)
  | inl holds ↦ elim (patched_or_not new (plain_patch (reversed_patch e.patch)) valid) [
    | inr nowhere ↦ inr (none_without_world f found new e nowhere)
    | inl led ↦ elim (there_or_not (bot_at led.0 e.bot)) [
      | inr nobody ↦ inr (none_without_verdict f found new e led.0 led.1 (λ there _. nobody there))
      | inl there ↦ elim (decided_or_not (f (shown led.0 e.bot)) (change_of e)) [
        | inr other ↦ inr (none_without_verdict f found new e led.0 led.1 (λ _ is. other is))
        | inl decided ↦ inl (led.0, is_back f found new e led.0 valid holds led.1 there decided)
      ]
    ]
  ]
]
