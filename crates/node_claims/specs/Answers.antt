-- What an activation answers, and what it leaves of the seat.
use Rattle.std.specs.Prelude.{◌≡◌, ℕ, [], ◌∷◌, ◌++◌}
use Rattle.std.specs.declared.option.Option.TheVariants.{None}
use Rattle.amoebot_state.specs.declared.verdict.Change.{Change}
use Rattle.amoebot_state.specs.declared.verdict.Verdict.{Verdict}
use Rattle.amoebot_state.specs.declared.verdict.Verdict.TheVariants as decision
use Rattle.amoebot_state.specs.Pairs.{Pairs}
use Rattle.amoebot_state.specs.Zones.{Shown}
use Rattle.claim_core.specs.declared.marks.Mark.{Mark}
use Rattle.claim_core.specs.declared.marks.Mark.TheVariants as mark
use Rattle.claim_core.specs.declared.state.Committed.{Committed}
use Rattle.claim_core.specs.Machine.{found, next_of, entry}
use Rattle.claim_rule.specs.Plays.{about, bot_in}
use Rattle.claim_rule.specs.Tokens.{Token, record_in, number_in, doing, goes}
use Rattle.claim_rule.specs.Settling.{with_record}
use Rattle.node_claims.specs.Claims.{AreInOrder, WasRefused, at_next}
use Rattle.node_claims.specs.declared.turn.Turn.{Turn}
use Rattle.node_claims.specs.declared.turn.Turn.TheVariants as turn

-- whose turn it was, which one, and its mark
abbrev pub caller_of : {W : Type 0} → Turn W → ℕ
caller_of (turn.Done receipt) = receipt.caller
caller_of (turn.Idle seen) = seen.caller
caller_of (turn.Failed why seen) = seen.caller
caller_of (turn.Busy by) = by.caller

abbrev pub turn_of : {W : Type 0} → Turn W → ℕ
turn_of (turn.Done receipt) = receipt.turn
turn_of (turn.Idle seen) = seen.turn
turn_of (turn.Failed why seen) = seen.turn
turn_of (turn.Busy by) = by.turn

abbrev pub mark_of : {W : Type 0} → Turn W → Mark
mark_of (turn.Done receipt) = mark.Done receipt.place
mark_of (turn.Idle seen) = mark.Idle seen.place
mark_of (turn.Failed why seen) = mark.Failed why seen.place
mark_of (turn.Busy by) = mark.Busy by.cell by.by_caller by.by_turn by.by_bot by.place

module _ {D : Type 0} (verdict : D → Shown → Verdict) where
  -- the zone was claimed in its order, the whole of it and nothing more,
  -- and this is the verdict on what was found
  pub record WasClaimed (old : Token D) (held : Pairs) (v : Verdict) : Type 0 where
    pub in_order : AreInOrder (about verdict old.view) (bot_in verdict old.view) held
    pub whole : next_of (about verdict old.view) (bot_in verdict old.view) held ≡ None
    pub decided : (about verdict old.view).verdict
        (found (about verdict old.view) (bot_in verdict old.view) held) ≡ v

  -- the caller at its next turn, with nothing held and one mark more
  abbrev pub marked_by : Token D → Mark → Token D
  marked_by old m = goes old (at_next (about verdict old.view) (doing old).turn ((doing old).marks ++ m ∷ []))

  -- the entry of a change at a place, with what was found for it
  abbrev pub commit_in : Token D → Pairs → Change → ℕ → Committed
  commit_in old held change place = record {
    place = place;
    entry = entry (about verdict old.view) (number_in old) (doing old).turn change;
    found = found (about verdict old.view) (bot_in verdict old.view) held;
  }

  -- the same with one entry more, and without the journal
  abbrev pub committed_by : Token D → Mark → Committed → Token D
  committed_by old m p = with_record old (record (record_in old) {
    caller = at_next (about verdict old.view) (doing old).turn ((doing old).marks ++ m ∷ []);
    committed = (record_in old).committed ++ p ∷ [];
    taken = None;
  })

  -- what the answer says is so: Busy that the claim was refused; the others that the claim was got,
  -- with this verdict on what it found; and Done that the entry of the change stands at its place
  abbrev pub IsSo : {W : Type 0} → Token D → Token D → Turn W → Type 0
  IsSo old new (turn.Done receipt) =
      (held : Pairs) × (change : Change) × WasClaimed old held (decision.Change change)
      × (new ≡ committed_by old (mark.Done receipt.place) (commit_in old held change receipt.place))
  IsSo old new (turn.Idle seen) =
      (held : Pairs) × WasClaimed old held decision.Idle × (new ≡ marked_by old (mark.Idle seen.place))
  IsSo old new (turn.Failed why seen) =
      (held : Pairs) × WasClaimed old held (decision.Failed why)
      × (new ≡ marked_by old (mark.Failed why seen.place))
  IsSo old new (turn.Busy by) = WasRefused verdict old new by

  -- the answer is this turn's and is so, and the caller is at its next turn with the answer's mark,
  -- and nothing else
  pub record HasAnswered {W : Type 0} (old new : Token D) (answer : Turn W) : Type 0 where
    pub caller : caller_of answer ≡ number_in old
    pub turn : turn_of answer ≡ (doing old).turn
    pub so : IsSo old new answer
    pub number : number_in new ≡ number_in old
    pub gains : doing new
        ≡ at_next (about verdict old.view) (doing old).turn ((doing old).marks ++ mark_of answer ∷ [])
