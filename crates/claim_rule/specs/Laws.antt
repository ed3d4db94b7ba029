-- Laws of the rule.
use Rattle.std.specs.Prelude.{◌≡◌, ℕ, List, [], ◌∷◌, ◌++◌, length, slice_get, IsSome, IfSome}
use Rattle.std.specs.List.{All}
use Rattle.std.specs.declared.option.Option.{Option}
use Rattle.std.specs.declared.option.Option.TheVariants.{Some}
use Rattle.atomic_table.specs.Table.{Splits, Joins}
use Rattle.atomic_table.specs.Table as table
use Rattle.amoebot_state.specs.Configs.{Config}
use Rattle.amoebot_state.specs.declared.verdict.Verdict.{Verdict}
use Rattle.amoebot_state.specs.Steps.{Run}
use Rattle.amoebot_state.specs.Zones.{Shown, shown}
use Rattle.claim_core.specs.Turns.{Kept}
use Rattle.claim_core.specs.declared.marks.Mark.{Mark}
use Rattle.claim_core.specs.declared.state.Phase.TheVariants.{Ended}
use Rattle.claim_core.specs.Good.{Order, Good}
use Rattle.claim_core.specs.Reached.{Reached}
use Rattle.claim_core.specs.Tickets.{TicketReached}
use Rattle.claim_core.specs.Machine.{State, bot, found, opening}
use Rattle.claim_core.specs.Soundness.{IsSetup, TurnOkSoFar}
use Rattle.claim_rule.specs.declared.views.Slot.{Slot}
use Rattle.claim_rule.specs.declared.views.Record.{Record}
use Rattle.claim_rule.specs.declared.views.Terms.{Terms}
use Rattle.claim_rule.specs.Views.{Content, view_of, setup_of_terms}
use Rattle.claim_rule.specs.Manners.{CommitWay, by_journal, by_ticket, after_by}
use Rattle.claim_rule.specs.Stands.{HasRecord, Stands, first_view}
use Rattle.claim_rule.specs.Plays.{HoldsZone}
use Rattle.claim_rule.specs.Tokens.{Token, doing}
use Rattle.claim_rule.specs.Opened.{AreSlotsAtFirst, first_words}
use Rattle.claim_rule.specs.Seating.{spent}
use Rattle.claim_rule.specs.Closing.{ClosesAs, HoldNothing, EndsRight, report_of}

-- a table whose words and slots hold what a field begins with,
-- and whose one seat knows all callers before their first turn stands for the opening
abbrev pub OpeningStands : {D : Type 0} → CommitWay → (D → Shown → Verdict) → Type 0
OpeningStands {D} way verdict =
    (z : Terms D) (slots : List Slot)
    → IsSetup (setup_of_terms verdict z)
    → AreSlotsAtFirst way z.world z.lists slots
    → Stands verdict z way
    (table.opening (first_words way z.world) slots (first_view verdict z))
    (opening (setup_of_terms verdict z))

-- where a seat gives its first record to a new one, the table stands for the same state as before
abbrev pub SplitChangesNothing : {D : Type 0} → CommitWay → (D → Shown → Verdict) → Type 0
SplitChangesNothing {D} way verdict =
    (z : Terms D) (core : State) (seat : ℕ) (r : Record) (rs : List Record)
    → Splits (λ (s : Content D). Stands verdict z way s core) seat
    (view_of z (r ∷ rs)) (view_of z rs) (view_of z (r ∷ []))

-- and where a seat takes in the records of another
abbrev pub JoinChangesNothing : {D : Type 0} → CommitWay → (D → Shown → Verdict) → Type 0
JoinChangesNothing {D} way verdict =
    (z : Terms D) (core : State) (seat other : ℕ) (rs qs : List Record)
    → Joins (λ (s : Content D). Stands verdict z way s core)
    seat (view_of z rs) other (view_of z qs) (view_of z (rs ++ qs)) spent

-- where the table stands for the state after some steps, the journal leads to one last world,
-- and what a caller has found that holds its whole zone is what this world shows its amoebot.
-- It is so after any steps, and hence until the turn has its mark
abbrev pub FoundIsShown : {D : Type 0} → CommitWay → (D → Shown → Verdict) → Type 0
FoundIsShown {D} way verdict =
    (z : Terms D) (s : Content D) (steps : List ℕ) (seat place : ℕ) (r : Record)
    → IsSetup (setup_of_terms verdict z)
    → Stands verdict z way s (after_by way (setup_of_terms verdict z) steps)
    → HasRecord s.views seat place r
    → HoldsZone r.caller.phase
    → (let b : ℕ = bot (setup_of_terms verdict z) r.number r.caller.turn in
    (last : Config)
    × Run (verdict z.decider) z.world (after_by way (setup_of_terms verdict z) steps).journal last
    × (found (setup_of_terms verdict z) b r.caller.held ≡ shown last b))

-- words, values at home and views stand for at most one state that steps of the callers lead to
abbrev pub StateIsDetermined : {D : Type 0} → CommitWay → (D → Shown → Verdict) → Type 0
StateIsDetermined {D} way verdict =
    (z : Terms D) (s : Content D) (one two : List ℕ)
    → IsSetup (setup_of_terms verdict z)
    → Stands verdict z way s (after_by way (setup_of_terms verdict z) one)
    → Stands verdict z way s (after_by way (setup_of_terms verdict z) two)
    → after_by way (setup_of_terms verdict z) one ≡ after_by way (setup_of_terms verdict z) two

-- what a field leaves is determined by what its seats know, once each caller's seat is there
abbrev pub FieldEndsOneWay : {D : Type 0} → CommitWay → (D → Shown → Verdict) → Type 0
FieldEndsOneWay {D} way verdict =
    (z : Terms D) (seats : List (Option (Token D))) (world other : Config) (journal second : Kept)
    → IsSetup (setup_of_terms verdict z)
    → length seats ≡ length z.lists.ids
    → All (λ o. IsSome o) seats
    → ClosesAs way verdict z seats world journal
    → ClosesAs way verdict z seats other second
    → (world ≡ other) × (journal.first ≡ second.first) × (journal.entries ≡ second.entries)

-- what each mark of a seat says is so of the turn of its caller, as far as the callers have come;
-- and what is left is a run of the model from the first world to the last,
-- whose entries are turns of the lists in their order
abbrev pub FieldEndsSound : {D : Type 0} → CommitWay → (D → Shown → Verdict) → Type 0
FieldEndsSound {D} way verdict =
    (z : Terms D) (seats : List (Option (Token D))) (world : Config) (journal : Kept)
    → IsSetup (setup_of_terms verdict z)
    → (ends : ClosesAs way verdict z seats world journal)
    → Run (verdict z.decider) z.world journal.entries world
    × Order z.lists journal.entries
    × ((c t : ℕ) (token : Token D) (m : Mark)
    → slice_get seats c ≡ Some (Some token)
    → slice_get (doing token).marks t ≡ Some m
    → TurnOkSoFar (setup_of_terms verdict z) (after_by way (setup_of_terms verdict z) ends.steps) c t m)

-- and where each caller's seat is there and holds nothing, all that is left is right,
-- whether or not the callers have ended
abbrev pub FieldEndsRight : {D : Type 0} → CommitWay → (D → Shown → Verdict) → Type 0
FieldEndsRight {D} way verdict =
    (z : Terms D) (seats : List (Option (Token D))) (world : Config) (journal : Kept)
    → IsSetup (setup_of_terms verdict z)
    → length seats ≡ length z.lists.ids
    → All (λ o. IsSome o) seats
    → HoldNothing seats
    → ClosesAs way verdict z seats world journal
    → EndsRight verdict z seats world journal

-- once each caller has ended and its seat is there, that is a report which some interleaving gives,
-- and so a good one
abbrev pub EndedFieldIsReached : {D : Type 0} → (D → Shown → Verdict) → Type 0
EndedFieldIsReached {D} verdict =
    (z : Terms D) (seats : List (Option (Token D))) (world : Config) (journal : Kept)
    → IsSetup (setup_of_terms verdict z)
    → length seats ≡ length z.lists.ids
    → All (λ o. IsSome o) seats
    → All (λ o. IfSome o (λ token. (doing token).phase ≡ Ended)) seats
    → ClosesAs by_journal verdict z seats world journal
    → Reached (setup_of_terms verdict z) (report_of z seats world journal)
    × Good (verdict z.decider) z.world z.lists (report_of z seats world journal)

-- by tickets too, and it is a report that steps which draw their places give
abbrev pub EndedTicketsAreReached : {D : Type 0} → (D → Shown → Verdict) → Type 0
EndedTicketsAreReached {D} verdict =
    (z : Terms D) (seats : List (Option (Token D))) (world : Config) (journal : Kept)
    → IsSetup (setup_of_terms verdict z)
    → length seats ≡ length z.lists.ids
    → All (λ o. IsSome o) seats
    → All (λ o. IfSome o (λ token. (doing token).phase ≡ Ended)) seats
    → ClosesAs by_ticket verdict z seats world journal
    → TicketReached (setup_of_terms verdict z) (report_of z seats world journal)
    × Reached (setup_of_terms verdict z) (report_of z seats world journal)
    × Good (verdict z.decider) z.world z.lists (report_of z seats world journal)
