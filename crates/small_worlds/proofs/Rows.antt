-- An interleaving on the small row, computed: the report that it leaves is good.
use Rattle.std.proofs.Common.{◌≡◌, ℕ, zero, suc, [], ◌∷◌, sym, refl, subst, arith}
use Rattle.std.specs.Prelude.{is_some, IsSome, reverse}
use Rattle.std.specs.List.{All}
use Rattle.std.proofs.lemmas.Int.{ints}
use Rattle.std.proofs.lemmas.List.Elements.{All-nil, All-cons}
use Rattle.tri_lattice.specs.Extent.{IsArea}
use Rattle.amoebot_state.specs.declared.cell.CellName.TheVariants as name
use Rattle.amoebot_state.specs.Configs.{Config, IsValid, bot_at}
use Rattle.amoebot_state.proofs.Faults.{frame_valid, valid_two}
use Rattle.amoebot_state.proofs.Occupants.{in_range_of}
use Rattle.model_ops.proofs.ExpansionLaws.{expansion_is_lawful}
use Rattle.claim_core.specs.declared.marks.Mark.TheVariants as mark
use Rattle.claim_core.specs.Turns.{IsList}
use Rattle.claim_core.specs.declared.state.Phase.TheVariants.{Ended}
use Rattle.claim_core.specs.declared.state.Caller.{Caller}
use Rattle.claim_core.specs.Machine.{State, caller, after}
use Rattle.claim_core.specs.Soundness.{IsSetup}
use Rattle.claim_core.specs.Good.{Good}
use Rattle.claim_core.specs.Reached.{HaveEnded, IsReportOf, Reached}
use Rattle.claim_core.proofs.Ends.{reached_is_good}
use Rattle.small_worlds.specs.Rows.{row_area, row_frame, node, bot_in_row, to_the_right, two_beside, interleaving, one_refused, SmallInterleaving}

pub is_area : IsArea row_area
is_area = record {
  x_low = omega (arith, ints);
  x_high = omega (arith, ints);
  y_low = omega (arith, ints);
  y_high = omega (arith, ints);
  w_low = omega arith;
  w_high = omega arith;
  h_low = omega arith;
  h_high = omega arith;
}

pub valid : IsValid two_beside.world
valid = valid_two row_frame (frame_valid row_frame is_area refl) (bot_in_row 0 0) (bot_in_row 1 1) (in_range_of row_area is_area (bot_in_row 0 0) refl refl (omega arith) refl) (in_range_of row_area is_area (bot_in_row 1 1) refl refl (omega arith) refl) refl refl

pub one_id : (i : ℕ) → IsList (i ∷ [])
one_id i = record { some = omega arith; few = omega arith }

abbrev pub IsThereIn : Config → ℕ → Type 0
IsThereIn c i = IsSome (bot_at c i)

abbrev IsThere : ℕ → Type 0
IsThere = IsThereIn two_beside.world

pub both : {X : Type 0} (P : X → Type 0) (x y : X) → P x → P y → All P (x ∷ y ∷ [])
both P x y first second = All-cons P x (y ∷ []) first (All-cons P y [] second (All-nil P))

pub may_run : IsSetup two_beside
may_run = record {
  valid = valid;
  few = omega arith;
  lists = record { few = record { at_most_16 = omega arith; in_all = omega arith }; each = both IsList (0 ∷ []) (1 ∷ []) (one_id 0) (one_id 1) };
  bots = both (All IsThere) (0 ∷ []) (1 ∷ []) (All-cons IsThere 0 [] refl (All-nil IsThere)) (All-cons IsThere 1 [] refl (All-nil IsThere));
  touches = λ c i change by. (expansion_is_lawful to_the_right c i change by).touches;
  leads = λ c i change by. (expansion_is_lawful to_the_right c i change by).leads;
}

pub same_ids : (i : ℕ) → is_some (bot_at one_refused.world i) ≡ is_some (bot_at two_beside.world i)
same_ids zero = refl
same_ids (suc zero) = refl
same_ids (suc (suc i)) = refl

-- the caller that was refused, and the one that committed
abbrev one : Caller
one = caller 1 Ended [] (mark.Busy (name.Spot (node 1)) 1 0 1 0 ∷ [])

abbrev other : Caller
other = caller 1 Ended [] (mark.Done 0 ∷ [])

abbrev HasEnded : Caller → Type 0
HasEnded k = k.phase ≡ Ended

-- that one caller, or both, have ended
pub one_has_ended : (s : State) (k : Caller) → s.callers ≡ k ∷ [] → k.phase ≡ Ended → HaveEnded s
one_has_ended s k is one = subst (All HasEnded) (sym is) (All-cons HasEnded k [] one (All-nil HasEnded))

pub two_have_ended : (s : State) (k j : Caller) → s.callers ≡ k ∷ j ∷ [] → k.phase ≡ Ended → j.phase ≡ Ended → HaveEnded s
two_have_ended s k j are first second = subst (All HasEnded) (sym are) (both HasEnded k j first second)

ended : HaveEnded (after two_beside (reverse interleaving))
ended = two_have_ended (after two_beside (reverse interleaving)) one other refl refl refl

left : IsReportOf two_beside (after two_beside (reverse interleaving)) one_refused
left = record { first = refl; entries = refl; world = record { same = record { rest = refl; size = refl; ids = same_ids }; values = refl }; marks = refl }

pub reached : Reached two_beside one_refused
reached = record { steps = reverse interleaving; ended = ended; left = left }

pub good : Good two_beside.verdict two_beside.world two_beside.lists one_refused
good = reached_is_good two_beside may_run one_refused reached

pub small_interleaving : SmallInterleaving
small_interleaving = record { left = left; reached = reached; good = good }
