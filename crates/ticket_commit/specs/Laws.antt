-- What follows from the definitions alone.
use Rattle.std.specs.Prelude.{◌≡◌, ℕ, List, [], ◌∷◌}
use Rattle.std.specs.declared.option.Option.TheVariants.{None}
use Rattle.amoebot_state.specs.declared.verdict.Entry.{Entry}
use Rattle.amoebot_state.specs.declared.verdict.Moved.TheVariants as moved
use Rattle.amoebot_state.specs.declared.verdict.Verdict.{Verdict}
use Rattle.amoebot_state.specs.Pairs.{CellChange}
use Rattle.amoebot_state.specs.Zones.{Shown}
use Rattle.claim_core.specs.declared.marks.Mark.TheVariants as mark
use Rattle.claim_core.specs.declared.state.Phase.TheVariants.{Claim}
use Rattle.claim_core.specs.Machine.{caller}
use Rattle.claim_core.specs.Merges.{small_entry}
use Rattle.claim_rule.specs.declared.views.Record.{Record}
use Rattle.claim_rule.specs.Tokens.{FieldOf, Token}
use Rattle.claim_rule.specs.Opened.{seat_with}
use Rattle.ticket_commit.specs.declared.own.Head.{Head}
use Rattle.ticket_commit.specs.Own.{KeepsOwn}
use Rattle.ticket_commit.specs.Packed.{unpacked}

-- a seat has at most one own list
abbrev pub OwnListIsOne : {D : Type 0} → (D → Shown → Verdict) → Type 0
OwnListIsOne {D} verdict =
    (t : Token D) (one two : List (ℕ × Entry)) (room other : ℕ)
    → KeepsOwn verdict t one room → KeepsOwn verdict t two other → one ≡ two

-- Of three turns the first caller has made two.
-- Both committed: the first one drew place 0, and the second one place 2.
abbrev pub small_record : Shown → Shown → Record
small_record first second = record {
  number = 0;
  caller = caller 2 Claim [] (mark.Done 0 ∷ mark.Done 2 ∷ []);
  committed =
      record { place = 0; entry = small_entry 0 0; found = first }
      ∷ record { place = 2; entry = small_entry 0 1; found = second } ∷ [];
  taken = None;
  won = [];
  note = None;
}

abbrev pub small_own : List (ℕ × Entry)
small_own = (0, small_entry 0 0) ∷ (2, small_entry 0 1) ∷ []

abbrev pub SmallOwn : {D : Type 0} → (D → Shown → Verdict) → Type 0
SmallOwn {D} verdict =
    (f : FieldOf D) (first second : Shown)
    → f.terms.lists.turns ≡ 3
    → KeepsOwn verdict (seat_with f (small_record first second)) small_own 1

-- a head of these cells
abbrev pub small_head : ℕ → ℕ → ℕ → ℕ → Head
small_head place turn start end =
    record {
      place = place;
      turn = turn;
      bot = 0;
      caller = 0;
      action = 0;
      moved = moved.None;
      start = start;
      end = end;
    }

-- three entries of one caller in memory, which have changed two cells, none, and one
abbrev pub SmallUnpacked : Type 0
SmallUnpacked =
    (a b c : CellChange)
    → unpacked (small_head 0 0 0 2 ∷ small_head 2 1 2 2 ∷ small_head 3 2 2 3 ∷ []) (a ∷ b ∷ c ∷ [])
    ≡ (0, record (small_entry 0 0) { patch = a ∷ b ∷ [] })
    ∷ (2, small_entry 0 1)
    ∷ (3, record (small_entry 0 2) { patch = c ∷ [] })
    ∷ []
