-- Proofs that the two forms of entries are forms.
-- The law of a trait has its proof among the definitions.
use Rattle.std.proofs.Common.{◌≡◌, ◌⊎◌, inl, inr, ap, refl}
use Rattle.amoebot_state.specs.declared.verdict.Change.{Change}
use Rattle.amoebot_state.specs.declared.verdict.Entry.{Entry}
use Rattle.amoebot_state.specs.declared.verdict.PlainEntry.{PlainEntry}
use Rattle.amoebot_state.specs.Steps.{change_of, entry_of, plain_entry}
use Rattle.serial_model.specs.Forms.{IsForm, full_entry}
use Rattle.serial_model.specs.SameChanges.{same_or_not, told_or_not}

full_or_not : (e : Entry) (change : Change)
    → (entry_of e.caller e.turn e.bot change ≡ e) ⊎ (entry_of e.caller e.turn e.bot change ≡ e → ⊥)
full_or_not e change = elim (same_or_not change (change_of e)) [
  | inl same ↦ inl (ap (entry_of e.caller e.turn e.bot) same)
  | inr ne ↦ inr (λ is. ne (ap change_of is))
]

pub full_is_form : IsForm full_entry (λ (e : Entry). e.bot)
    (λ (e : Entry) (change : Change). entry_of e.caller e.turn e.bot change)
full_is_form = record {
  keeps = λ e d same. ap plain_entry same;
  its_bot = λ told change. refl;
  its_change = λ told change. refl;
  again = λ e. refl;
  decided = full_or_not;
}

pub plain_is_form : IsForm plain_entry (λ (p : PlainEntry). p.bot)
    (λ (p : PlainEntry) (change : Change). entry_of p.caller p.turn p.bot change)
plain_is_form = record {
  keeps = λ e d same. same;
  its_bot = λ told change. refl;
  its_change = λ told change. refl;
  again = λ e. refl;
  decided = told_or_not;
}
