-- Two commits with tickets on the long row, computed: the report that they leave is good.
use Rattle.std.proofs.Common.{◌≡◌, ℕ, zero, suc, List, [], ◌∷◌, refl, subst, arith}
use Rattle.std.specs.Prelude.{is_some, reverse}
use Rattle.std.specs.List.{All}
use Rattle.std.proofs.lemmas.Int.{ints}
use Rattle.std.proofs.lemmas.List.Elements.{All-nil, All-cons}
use Rattle.tri_lattice.specs.Extent.{IsArea}
use Rattle.amoebot_state.specs.declared.verdict.Entry.{Entry}
use Rattle.amoebot_state.specs.Configs.{IsValid, bot_at}
use Rattle.amoebot_state.proofs.Faults.{frame_valid, valid_two}
use Rattle.amoebot_state.proofs.Occupants.{in_range_of}
use Rattle.model_ops.proofs.ExpansionLaws.{expansion_is_lawful}
use Rattle.claim_core.specs.declared.marks.Mark.TheVariants as mark
use Rattle.claim_core.specs.declared.state.Phase.TheVariants.{Ended}
use Rattle.claim_core.specs.Turns.{IsList}
use Rattle.claim_core.specs.Machine.{caller}
use Rattle.claim_core.specs.Merges.{IsMerge}
use Rattle.claim_core.specs.Reached.{HaveEnded, IsReportOf}
use Rattle.claim_core.specs.Soundness.{IsSetup}
use Rattle.claim_core.specs.Tickets.{ticket_after, TicketReached, own_lists}
use Rattle.claim_core.proofs.TicketLists.{journal_is_merge}
use Rattle.claim_core.proofs.Unfolding.{ticket_reached_is_good}
use Rattle.small_worlds.specs.Rows.{bot_in_row, to_the_right}
use Rattle.small_worlds.specs.Tickets.{long_area, long_frame, far_apart, ticket_steps, both_expanded, far_lists, SmallTickets}
use Rattle.small_worlds.proofs.Rows.{both, one_id, IsThereIn, two_have_ended}

is_long_area : IsArea long_area
is_long_area = record {
  x_low = omega (arith, ints);
  x_high = omega (arith, ints);
  y_low = omega (arith, ints);
  y_high = omega (arith, ints);
  w_low = omega arith;
  w_high = omega arith;
  h_low = omega arith;
  h_high = omega arith;
}

long_valid : IsValid far_apart.world
long_valid = valid_two long_frame (frame_valid long_frame is_long_area refl) (bot_in_row 0 0) (bot_in_row 3 3) (in_range_of long_area is_long_area (bot_in_row 0 0) refl refl (omega arith) refl) (in_range_of long_area is_long_area (bot_in_row 3 3) refl refl (omega arith) refl) refl refl

abbrev IsFar : ℕ → Type 0
IsFar = IsThereIn far_apart.world

may_run_far : IsSetup far_apart
may_run_far = record {
  valid = long_valid;
  few = omega arith;
  lists = record { few = record { at_most_16 = omega arith; in_all = omega arith }; each = both IsList (0 ∷ []) (1 ∷ []) (one_id 0) (one_id 1) };
  bots = both (All IsFar) (0 ∷ []) (1 ∷ []) (All-cons IsFar 0 [] refl (All-nil IsFar)) (All-cons IsFar 1 [] refl (All-nil IsFar));
  touches = λ c i change by. (expansion_is_lawful to_the_right c i change by).touches;
  leads = λ c i change by. (expansion_is_lawful to_the_right c i change by).leads;
}

same_ids_far : (i : ℕ) → is_some (bot_at both_expanded.world i) ≡ is_some (bot_at far_apart.world i)
same_ids_far zero = refl
same_ids_far (suc zero) = refl
same_ids_far (suc (suc i)) = refl

ended_far : HaveEnded (ticket_after far_apart (reverse ticket_steps))
ended_far = two_have_ended (ticket_after far_apart (reverse ticket_steps)) (caller 1 Ended [] (mark.Done 1 ∷ [])) (caller 1 Ended [] (mark.Done 0 ∷ [])) refl refl refl

left_far : IsReportOf far_apart (ticket_after far_apart (reverse ticket_steps)) both_expanded
left_far = record { first = refl; entries = refl; world = record { same = record { rest = refl; size = refl; ids = same_ids_far }; values = refl }; marks = refl }

reached_far : TicketReached far_apart both_expanded
reached_far = record { steps = reverse ticket_steps; ended = ended_far; left = left_far }

lists_far : own_lists far_apart (reverse ticket_steps) ≡ far_lists
lists_far = refl

pub small_tickets : SmallTickets
small_tickets = record {
  left = left_far;
  reached = reached_far;
  good = ticket_reached_is_good far_apart may_run_far both_expanded reached_far;
  lists = lists_far;
  merge = subst (λ (ls : List (List (ℕ × Entry))). IsMerge ls both_expanded.journal.entries) lists_far (journal_is_merge far_apart may_run_far (reverse ticket_steps));
}
