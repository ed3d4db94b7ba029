-- A step of a seat that has one record, at a table that stands for a state.
use Rattle.std.proofs.Common.{◌≡◌, ◌⊎◌, ℕ, zero, suc, ◌+◌, ◌*◌, ◌≤◌, List, [], ◌∷◌, map, length, set, Some, inl, inr, ap, sym, subst, refl, ◌∙◌, arith}
use Rattle.std.specs.Prelude.{slice_get, slice_index}
use Rattle.std.proofs.lemmas.Option.{same_Some}
use mathlib.Core.Option as home
use lib.ListN.{get_elem?}
use Rattle.atomic_table.specs.Table.{Allows, stepped}
use Rattle.amoebot_state.specs.declared.verdict.Verdict.{Verdict}
use Rattle.amoebot_state.specs.declared.cell.Cell.{Cell}
use Rattle.amoebot_state.specs.Configs.{Config}
use Rattle.amoebot_state.specs.Zones.{Shown}
use Rattle.claim_core.specs.declared.marks.Mark.{Mark}
use Rattle.claim_core.specs.declared.state.Caller.{Caller}
use Rattle.claim_core.specs.Cells.{cells}
use Rattle.claim_core.specs.Machine.{Setup, State}
use Rattle.claim_core.specs.Soundness.{IsSetup, Sound}
use Rattle.claim_core.specs.Cores.{unmarked}
use Rattle.claim_core.proofs.Ranks.{length-values}
use Rattle.claim_core.proofs.HolderLemmas.{framed}
use Rattle.claim_rule.specs.declared.views.Record.{Record}
use Rattle.claim_rule.specs.declared.views.Terms.{Terms}
use Rattle.claim_rule.specs.Views.{Content, Seated, view_of, own, setup_of_terms}
use Rattle.claim_rule.specs.Manners.{CommitWay, next_by, after_by}
use Rattle.claim_rule.specs.Stands.{Stands, KeepsRule, turns_left}
use Rattle.claim_rule.specs.Nexts.{GoesTo, IsAt}
use Rattle.claim_rule.proofs.WayLemmas.{after_more, sound_by}

-- each cell has a tag and a value
pub tags_count : (g : Setup) → IsSetup g → (s : State) → Sound g s → (length s.tags ≡ cells g.world) × (length s.values ≡ cells g.world)
tags_count g ok s sound =
    let fr = framed g ok s sound in
    let all : length s.values ≡ cells sound.last = ap (λ (xs : List Cell). length xs) sound.values ∙ length-values sound.last in
    let same : cells sound.last ≡ cells g.world = (λ i. let c : Config = record { area = (ap (λ (d : Config). d.area) fr.same.rest) i; walls = []; maxes = []; bots = sound.last.bots } in cells c) ∙ ap (λ n. g.world.area.w * g.world.area.h + n) fr.same.size in
    (sound.tagged ∙ all ∙ same, all ∙ same)

-- the turns that have no mark are as many, where the caller's marks are the same
pub marks_same : (ks : List Caller) (c : ℕ) (k k' : Caller) → slice_get ks c ≡ Some k → k'.marks ≡ k.marks → map (λ (j : Caller). j.marks) (set ks c k') ≡ map (λ (j : Caller). j.marks) ks
marks_same [] c k k' e same = refl
marks_same (x ∷ ks) zero k k' e same = ap (λ (m : List Mark). m ∷ map (λ (j : Caller). j.marks) ks) (same ∙ ap (λ (j : Caller). j.marks) (sym (same_Some x k e)))
marks_same (x ∷ ks) (suc c) k k' e same = ap (λ (ms : List (List Mark)). x.marks ∷ ms) (marks_same ks c k k' e same)

pub turns_same : (g : Setup) (old new : State) (c : ℕ) (k k' : Caller) → slice_get old.callers c ≡ Some k → new.callers ≡ set old.callers c k' → k'.marks ≡ k.marks → turns_left g new ≤ turns_left g old
turns_same g old new c k k' there now same = omega (arith, ap (λ (ks : List Caller). unmarked g.lists.turns (map (λ (j : Caller). j.marks) ks)) now, ap (unmarked g.lists.turns) (marks_same old.callers c k k' there same))

module _ {D : Type 0} (verdict : D → Shown → Verdict) (z : Terms D) (way : CommitWay) (ok : IsSetup (setup_of_terms verdict z)) where
  -- a step of a caller goes to the state after its next step of the machine, or leaves the state
  abbrev pub Goes : Content D → State → ℕ → ℕ → ℕ → Seated D → (ℕ → Seated D → Type 0) → ℕ → Type 0
  Goes s core c i seat me told x = GoesTo verdict z way s (next_by way (setup_of_terms verdict z) c core) i seat me told x ⊎ GoesTo verdict z way s core i seat me told x

  -- a step is allowed where it goes on at each table that stands for one and gives the seat one record
  pub allowed : (slots seat : ℕ) (me : Seated D) (i : ℕ) (f : ℕ → ℕ) (Fact : Seated D → Type 0) (then : Seated D → ℕ → Seated D → Type 0) → me.0 ≡ view_of z (own me.0 ∷ []) → Fact me
      → ((s : Content D) (core : State) (r : Record) → IsAt verdict z way s core seat r → Fact (view_of z (r ∷ []), me.1)
      → Goes s core r.number i seat (view_of z (r ∷ []), me.1) (then (view_of z (r ∷ []), me.1)) (f (slice_index s.words i)))
      → Allows (KeepsRule verdict z way) slots seat me i f (then me)
  allowed slots seat me i f Fact then one fact goes s h wide at _ =
      elim (subst (λ (m : Seated D). Fact m → get_elem? s.views seat ≡ home.some m.0 → Goes s core (own me.0).number i seat m (then m) (f (slice_index s.words i))) (λ q. (sym one q, me.1))
      (λ t there. goes s core (own me.0) (record { run = ok; sound = sound_by (setup_of_terms verdict z) way ok h.0; stands = h.1; there = there }) t) fact at) [
        | inl on ↦ (on.0, on.1, on.2, ((own me.0).number ∷ h.0, subst (Stands verdict z way (stepped s i (f (slice_index s.words i)) seat me.1 on.0 on.1)) (sym (after_more (setup_of_terms verdict z) way (own me.0).number h.0)) on.3), on.4)
        | inr stays ↦ (stays.0, stays.1, stays.2, (h.0, stays.3), stays.4)
      ]
    where
      core : State
      core = after_by way (setup_of_terms verdict z) h.0
