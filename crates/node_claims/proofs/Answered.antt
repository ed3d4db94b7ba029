-- A turn has one answer.
use Rattle.std.proofs.Common.{◌≡◌, ℕ, ap, sym, ◌∙◌}
use Rattle.std.proofs.lemmas.List.{same_from_push}
use Rattle.amoebot_state.specs.declared.cell.CellName.{CellName}
use Rattle.amoebot_state.specs.declared.verdict.Failure.{Failure}
use Rattle.amoebot_state.specs.declared.verdict.Verdict.{Verdict}
use Rattle.amoebot_state.specs.Zones.{Shown}
use Rattle.claim_core.specs.declared.marks.Mark.{Mark}
use Rattle.claim_core.specs.declared.marks.Mark.TheVariants as mark
use Rattle.claim_core.specs.declared.state.Caller.{Caller}
use Rattle.claim_core.specs.Good.{place_of}
use Rattle.claim_rule.specs.Tokens.{doing}
use Rattle.node_claims.specs.declared.turn.Turn.{Turn}
use Rattle.node_claims.specs.declared.turn.Turn.TheVariants as turn
use Rattle.node_claims.specs.Answers.{caller_of, turn_of, mark_of}
use Rattle.node_claims.specs.Laws.{AnswerIsUnique}

-- what a mark has beside its place
abbrev why_in : Failure → Mark → Failure
why_in d (mark.Done place) = d
why_in d (mark.Idle place) = d
why_in d (mark.Failed why place) = why
why_in d (mark.Busy cell by_caller by_turn by_bot place) = d

abbrev cell_in : CellName → Mark → CellName
cell_in d (mark.Done place) = d
cell_in d (mark.Idle place) = d
cell_in d (mark.Failed why place) = d
cell_in d (mark.Busy cell by_caller by_turn by_bot place) = cell

abbrev by_in : Mark → ℕ × ℕ × ℕ
by_in (mark.Done place) = (0, 0, 0)
by_in (mark.Idle place) = (0, 0, 0)
by_in (mark.Failed why place) = (0, 0, 0)
by_in (mark.Busy cell by_caller by_turn by_bot place) = (by_caller, by_turn, by_bot)

-- a turn is known by its caller, its number and its mark
pub one_turn : {W : Type 0} (a b : Turn W) → caller_of a ≡ caller_of b → turn_of a ≡ turn_of b → mark_of a ≡ mark_of b → a ≡ b
one_turn (turn.Done r) (turn.Done q) c t m = λ i. turn.Done (record { caller = c i; turn = t i; place = ap place_of m i })
one_turn (turn.Idle s) (turn.Idle r) c t m = λ i. turn.Idle (record { caller = c i; turn = t i; place = ap place_of m i })
one_turn (turn.Failed w s) (turn.Failed v r) c t m = λ i. turn.Failed (ap (why_in w) m i) (record { caller = c i; turn = t i; place = ap place_of m i })
one_turn (turn.Busy r) (turn.Busy q) c t m = λ i. turn.Busy (record {
  caller = c i;
  turn = t i;
  cell = ap (cell_in r.cell) m i;
  by_caller = (ap by_in m i).0;
  by_turn = (ap by_in m i).1;
  by_bot = (ap by_in m i).2;
  place = ap place_of m i;
})
one_turn (turn.Done r) (turn.Idle s) c t m = absurd (cc)
one_turn (turn.Done r) (turn.Failed w s) c t m = absurd (cc)
one_turn (turn.Done r) (turn.Busy q) c t m = absurd (cc)
one_turn (turn.Idle s) (turn.Done q) c t m = absurd (cc)
one_turn (turn.Idle s) (turn.Failed w r) c t m = absurd (cc)
one_turn (turn.Idle s) (turn.Busy q) c t m = absurd (cc)
one_turn (turn.Failed w s) (turn.Done q) c t m = absurd (cc)
one_turn (turn.Failed w s) (turn.Idle r) c t m = absurd (cc)
one_turn (turn.Failed w s) (turn.Busy q) c t m = absurd (cc)
one_turn (turn.Busy r) (turn.Done q) c t m = absurd (cc)
one_turn (turn.Busy r) (turn.Idle s) c t m = absurd (cc)
one_turn (turn.Busy r) (turn.Failed w s) c t m = absurd (cc)

-- the answer's mark is the last one of the caller
pub answer_is_unique : {D : Type 0} (W : Type 0) (verdict : D → Shown → Verdict) → AnswerIsUnique W verdict
answer_is_unique W verdict old new one two x y =
    let marks = ap (λ (k : Caller). k.marks) (sym x.gains ∙ y.gains) in
    one_turn one two (x.caller ∙ sym y.caller) (x.turn ∙ sym y.turn) (same_from_push (doing old).marks (doing old).marks (mark_of one) (mark_of two) marks).1
