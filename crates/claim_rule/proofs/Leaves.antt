-- What a field leaves is sound, and reached once all callers have ended.
use Rattle.std.proofs.Common.{◌≡◌, ℕ, List, [], map, length, Option, Some, ap, sym, subst, ◌∙◌, arith}
use Rattle.std.specs.Prelude.{slice_get, IsSome, IfSome}
use Rattle.std.specs.List.{All}
use Rattle.std.proofs.lemmas.List.{length-map}
use Rattle.std.proofs.lemmas.Option.{same_Some, slice_get_within, get_or_from_slice_get}
use Rattle.amoebot_state.specs.declared.verdict.Entry.{Entry}
use Rattle.amoebot_state.specs.declared.verdict.Verdict.{Verdict}
use Rattle.amoebot_state.specs.Configs.{Config}
use Rattle.amoebot_state.specs.Steps.{Run}
use Rattle.amoebot_state.specs.Zones.{Shown}
use Rattle.claim_core.specs.declared.marks.Mark.{Mark}
use Rattle.claim_core.specs.declared.state.Caller.{Caller}
use Rattle.claim_core.specs.declared.state.Phase.TheVariants.{Ended}
use Rattle.claim_core.specs.Turns.{Kept}
use Rattle.claim_core.specs.Good.{Order, AreMarks, SoFar}
use Rattle.claim_core.specs.Machine.{Setup, State}
use Rattle.claim_core.specs.Reached.{Reached, HaveEnded, IsReportOf}
use Rattle.claim_core.specs.Soundness.{IsSetup, Sound}
use Rattle.claim_core.specs.Tickets.{TicketReached}
use Rattle.claim_core.proofs.Unfolding.{ticket_reached_is_reached, ticket_reached_is_good}
use Rattle.claim_core.proofs.Ends.{are_marks_so_far, reached_is_good, same_world}
use Rattle.claim_core.proofs.HolderLemmas.{framed}
use Rattle.claim_core.proofs.Places.{get-map, same_by_get}
use Rattle.claim_rule.specs.declared.views.Terms.{Terms}
use Rattle.claim_rule.specs.Views.{setup_of_terms}
use Rattle.claim_rule.specs.Tokens.{Token, doing}
use Rattle.claim_rule.specs.Manners.{CommitWay, by_journal, by_ticket, after_by}
use Rattle.claim_rule.specs.Closing.{ClosesAs, HoldNothing, EndsRight, marks_at_seat, report_of}
use Rattle.claim_rule.specs.Laws.{FieldEndsSound, FieldEndsRight, EndedFieldIsReached, EndedTicketsAreReached}
use Rattle.claim_rule.proofs.Closes.{some_there}
use Rattle.claim_rule.proofs.WayLemmas.{sound_by}

module _ {D : Type 0} (verdict : D → Shown → Verdict) (z : Terms D) (way : CommitWay) (seats : List (Option (Token D))) (world : Config) (journal : Kept) (ok : IsSetup (setup_of_terms verdict z)) (ends : ClosesAs way verdict z seats world journal) where
  abbrev g : Setup
  g = setup_of_terms verdict z

  abbrev s : State
  s = after_by way g ends.steps

  sound : Sound g s
  sound = sound_by g way ok ends.steps

  -- what a seat knows is so of its caller
  knows : (c : ℕ) (t : Token D) → slice_get seats c ≡ Some (Some t) → slice_get s.callers c ≡ Some (doing t)
  knows c t e = let is = ends.callers c t e in ap (slice_get s.callers) (sym is.0) ∙ is.1.caller

  last_is : world ≡ sound.last
  last_is = same_world g s world sound.last ends.values (framed g ok s sound) sound.values

  pub is_run : Run g.verdict g.world journal.entries world
  is_run = subst (λ (q : List _ × Config). Run g.verdict g.world q.0 q.1) (λ i. (sym ends.entries i, sym last_is i)) sound.run

  pub is_order : Order z.lists journal.entries
  is_order = subst (Order z.lists) (sym ends.entries) sound.order

  pub is_right : (c t : ℕ) (token : Token D) (m : Mark) → slice_get seats c ≡ Some (Some token) → slice_get (doing token).marks t ≡ Some m → Rattle.claim_core.specs.Soundness.TurnOkSoFar g s c t m
  is_right c t token m there marked = (sound.each c (doing token) (knows c token there)).right t m marked

  module _ (count : length seats ≡ length z.lists.ids) (full : All (λ o. IsSome o) seats) where
    as_many : length s.callers ≡ length seats
    as_many = sound.callers ∙ sym count

    marks_are : map marks_at_seat seats ≡ map (λ (k : Caller). k.marks) s.callers
    marks_are = same_by_get (map marks_at_seat seats) (map (λ (k : Caller). k.marks) s.callers) (length-map seats marks_at_seat ∙ sym as_many ∙ sym (length-map s.callers (λ (k : Caller). k.marks)))
        (λ c ms e.
        let n = slice_get_within (map (λ (k : Caller). k.marks) s.callers) c ms e in
        let t = some_there seats c (omega (arith, n, as_many, length-map s.callers (λ (k : Caller). k.marks))) full in
        get-map marks_at_seat seats c (Some t.0) t.1 ∙ sym (get-map (λ (k : Caller). k.marks) s.callers c (doing t.0) (knows c t.0 t.1)) ∙ e)

    -- once each caller has ended, so it has in the state that they came to,
    pub have_ended : All (λ o. IfSome o (λ token. (doing token).phase ≡ Ended)) seats → HaveEnded s
    have_ended over = λ c d lt.
        let t = some_there seats c (omega (arith, lt, as_many)) full in
        let phase : (doing t.0).phase ≡ Ended = subst (λ o. IfSome o (λ token. (doing token).phase ≡ Ended)) (get_or_from_slice_get seats c (Some t.0) (Some t.0) t.1) (over c (Some t.0) (omega (arith, lt, as_many))) in
        subst (λ (k : Caller). k.phase ≡ Ended) (sym (get_or_from_slice_get s.callers c (doing t.0) d (knows c t.0 t.1))) phase

    -- and what is left is the report of that state
    pub is_report : IsReportOf g s (report_of z seats world journal)
    is_report = record {
      first = ends.first;
      entries = ends.entries;
      world = ends.values;
      marks = λ i. record { turns = z.lists.turns; marks = marks_are i };
    }

module _ {D : Type 0} (verdict : D → Shown → Verdict) (z : Terms D) (way : CommitWay) (seats : List (Option (Token D))) (world : Config) (journal : Kept) (ok : IsSetup (setup_of_terms verdict z)) (ends : ClosesAs way verdict z seats world journal)
    (count : length seats ≡ length z.lists.ids) (full : All (λ o. IsSome o) seats) (rest : HoldNothing seats) where
  abbrev its_setup : Setup
  its_setup = setup_of_terms verdict z

  abbrev its : State
  its = after_by way its_setup ends.steps

  its_sound : Sound its_setup its
  its_sound = sound_by its_setup way ok ends.steps

  free : (c : ℕ) (k : Caller) → slice_get its.callers c ≡ Some k → k.held ≡ []
  free c k there =
      let inside = slice_get_within its.callers c k there in
      let t = some_there seats c (omega (arith, inside, its_sound.callers, count)) full in
      let held : (doing t.0).held ≡ [] = subst (λ o. IfSome o (λ token. (doing token).held ≡ [])) (get_or_from_slice_get seats c (Some t.0) (Some t.0) t.1) (rest c (Some t.0) (omega (arith, inside, its_sound.callers, count))) in
      ap (λ (j : Caller). j.held) (same_Some k (doing t.0) (sym there ∙ knows verdict z way seats world journal ok ends c t.0 t.1)) ∙ held

  pub ends_right : EndsRight verdict z seats world journal
  ends_right = record {
    run = is_run verdict z way seats world journal ok ends;
    order = is_order verdict z way seats world journal ok ends;
    marks = subst (λ (q : List Entry × List (List Mark)). AreMarks SoFar its_setup.verdict z.world z.lists q.0 (record { turns = z.lists.turns; marks = q.1 }))
        (λ i. (sym ends.entries i, sym (marks_are verdict z way seats world journal ok ends count full) i)) (are_marks_so_far its_setup its its_sound free);
  }

pub field_ends_right : {D : Type 0} (way : CommitWay) (verdict : D → Shown → Verdict) → FieldEndsRight way verdict
field_ends_right way verdict z seats world journal ok count full rest ends = ends_right verdict z way seats world journal ok ends count full rest

pub field_ends_sound : {D : Type 0} (way : CommitWay) (verdict : D → Shown → Verdict) → FieldEndsSound way verdict
field_ends_sound way verdict z seats world journal ok ends = (is_run verdict z way seats world journal ok ends, is_order verdict z way seats world journal ok ends, is_right verdict z way seats world journal ok ends)

pub ended_field_is_reached : {D : Type 0} (verdict : D → Shown → Verdict) → EndedFieldIsReached verdict
ended_field_is_reached verdict z seats world journal ok count full over ends =
    let reached : Reached (setup_of_terms verdict z) (report_of z seats world journal) =
    record {
      steps = ends.steps;
      ended = have_ended verdict z by_journal seats world journal ok ends count full over;
      left = is_report verdict z by_journal seats world journal ok ends count full;
    } in
    (reached, reached_is_good (setup_of_terms verdict z) ok (report_of z seats world journal) reached)

pub ended_tickets_are_reached : {D : Type 0} (verdict : D → Shown → Verdict) → EndedTicketsAreReached verdict
ended_tickets_are_reached verdict z seats world journal ok count full over ends =
    let g = setup_of_terms verdict z in
    let reached : TicketReached g (report_of z seats world journal) =
    record {
      steps = ends.steps;
      ended = have_ended verdict z by_ticket seats world journal ok ends count full over;
      left = is_report verdict z by_ticket seats world journal ok ends count full;
    } in
    (reached, ticket_reached_is_reached g (report_of z seats world journal) reached, ticket_reached_is_good g ok (report_of z seats world journal) reached)
