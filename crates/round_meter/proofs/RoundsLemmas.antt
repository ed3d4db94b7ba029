-- Rounds with more entries, when one ends, and that each number of rounds has one end.
use Rattle.std.proofs.Common.{◌≡◌, ◌∙◌, ◌<◌, ◌≤◌, ◌+◌, ℕ, List, [], ◌∷◌, ◌++◌, length, false, not, get_or, inl, inr, ap, sym, subst, refl, arith}
use Rattle.std.specs.Prelude.{Decides}
use Rattle.std.specs.List.{count_by}
use Rattle.std.proofs.lemmas.Bool.{cases_lt}
use Rattle.std.proofs.lemmas.Bool.Decides.{same_from_decides}
use Rattle.std.proofs.lemmas.List.{length-append, ext_get_or}
use Rattle.amoebot_state.specs.declared.verdict.Entry.{Entry}
use Rattle.amoebot_state.specs.declared.verdict.Verdict.{Verdict}
use Rattle.amoebot_state.specs.Configs.{Config}
use Rattle.amoebot_state.specs.Zones.{Shown}
use Rattle.round_meter.specs.Rounds.{IsSettled, AllSettled, EndsRound, RoundsTo, no_round, one_more, WaitFor, IsRounded}
use Rattle.round_meter.specs.Laws.{RoundIsUnique, RoundsAreUnique}
use Rattle.round_meter.proofs.SettledLemmas.{settled_later, settled_grows, settled_before}

pub round_is_unique : RoundIsUnique
round_is_unique f first es start one two first_end second_end = elim (cases_lt one two) [
  | inl lt ↦ absurd (second_end.least one first_end.above lt first_end.settled)
  | inr le ↦ elim (cases_lt two one) [
    | inl gt ↦ absurd (first_end.least two second_end.above gt second_end.settled)
    | inr ge ↦ omega (arith, le, ge)
  ]
]

module _ (f : Shown → Verdict) (first : Config) where
  -- more entries at the end leave the ends of rounds as they are
  pub ends_grow : (es more : List Entry) (start k : ℕ) → EndsRound f first es start k → EndsRound f first (es ++ more) start k
  ends_grow es more start k ends = record {
    above = ends.above;
    within = omega (arith, ends.within, length-append es more);
    settled = λ b lt. settled_grows f first es more b start k (ends.settled b lt);
    least = λ j above below all.
        let le : j ≤ length es = omega (arith, ends.within, below) in
        ends.least j above below (λ b lt. settled_before f first es more b start j le (all b lt));
  }

  pub rounds_grow : (es more : List Entry) (n k : ℕ) → RoundsTo f first es n k → RoundsTo f first (es ++ more) n k
  rounds_grow es more n k no_round = no_round
  rounds_grow es more n k (one_more m start end before ends) = one_more m start end (rounds_grow es more m start before) (ends_grow es more start end ends)

  -- no round ends where not each amoebot is settled at the end of the entries, nor where the round starts there
  pub unended : (es : List Entry) (start : ℕ) → (start < length es → AllSettled f first es start (length es) → ⊥) → (k : ℕ) → EndsRound f first es start k → ⊥
  unended es start going k ends = going (omega (arith, ends.above, ends.within)) (λ b lt. settled_later f first es b start k (length es) ends.within (ends.settled b lt))

  -- a round that went on ends with the next entry, if each amoebot is settled behind it
  pub ends_now : (es : List Entry) (e : Entry) (start : ℕ) → start ≤ length es → (start < length es → AllSettled f first es start (length es) → ⊥)
      → AllSettled f first (es ++ e ∷ []) start (length es + 1) → EndsRound f first (es ++ e ∷ []) start (length es + 1)
  ends_now es e start began going all = record {
    above = omega (arith, began);
    within = omega (arith, length-append es (e ∷ []));
    settled = all;
    least = λ j above below others.
        let le : j ≤ length es = omega (arith, below) in
        going (omega (arith, above, le)) (λ b lt. settled_later f first es b start j (length es) le (settled_before f first es (e ∷ []) b start j le (others b lt)));
  }

  -- as many rounds end at one place
  pub same_end : (es : List Entry) (n m s t : ℕ) → RoundsTo f first es n s → RoundsTo f first es m t → n ≡ m → s ≡ t
  same_end es n m s t no_round no_round e = refl
  same_end es n m s t no_round (one_more k start end before ends) e = absurd (omega (arith, e))
  same_end es n m s t (one_more k start end before ends) no_round e = absurd (omega (arith, e))
  same_end es n m s t (one_more k start end before ends) (one_more j from to earlier ended) e =
      let same : start ≡ from = same_end es k j start from before earlier (omega (arith, e)) in
      round_is_unique f first es from end to (subst (λ i. EndsRound f first es i end) same ends) ended

  -- behind fewer rounds one more ends
  goes_on : (es : List Entry) (n m s t : ℕ) → RoundsTo f first es n s → RoundsTo f first es m t → n < m → (k : ℕ) × EndsRound f first es s k
  goes_on es n m s t few no_round lt = absurd (omega (arith, lt))
  goes_on es n m s t few (one_more j from to earlier ended) lt = elim (cases_lt n j) [
    | inl less ↦ goes_on es n j s from few earlier less
    | inr ge ↦
        let same : s ≡ from = same_end es n j s from few earlier (omega (arith, lt, ge)) in
        (to, subst (λ i. EndsRound f first es i to) (sym same) ended)
  ]

  same_waiting : (es : List Entry) (start from k one two : ℕ) → start ≡ from → WaitFor f first es start k one → WaitFor f first es from k two → one ≡ two
  same_waiting es start from k one two same first_answer second_answer =
      let flags : first_answer.settled ≡ second_answer.settled = ext_get_or false first_answer.settled second_answer.settled (first_answer.each ∙ sym second_answer.each) (λ b below.
      let lt : b < length first.bots = omega (arith, below, first_answer.each) in
      same_from_decides (get_or first_answer.settled b false) (get_or second_answer.settled b false) (subst (λ i. Decides (get_or first_answer.settled b false) (IsSettled f first es b i k)) same (first_answer.told b lt)) (second_answer.told b lt)) in
      first_answer.count ∙ ap (count_by not) flags ∙ sym second_answer.count

  pub rounds_unique : (es : List Entry) (rounds waiting others still : ℕ) → IsRounded f first es rounds waiting → IsRounded f first es others still → (rounds ≡ others) × (waiting ≡ still)
  rounds_unique es rounds waiting others still one two =
      let same : rounds ≡ others = elim (cases_lt rounds others) [
        | inl lt ↦ let more = goes_on es rounds others one.start two.start one.ended two.ended lt in absurd (one.unended more.0 more.1)
        | inr le ↦ elim (cases_lt others rounds) [
          | inl gt ↦ let more = goes_on es others rounds two.start one.start two.ended one.ended gt in absurd (two.unended more.0 more.1)
          | inr ge ↦ omega (arith, le, ge)
        ]
      ] in
      (same, same_waiting es one.start two.start (length es) waiting still (same_end es rounds others one.start two.start one.ended two.ended same) one.waits two.waits)

pub rounds_are_unique : RoundsAreUnique
rounds_are_unique f first es = rounds_unique f first es
