-- What a tally is once its round has ended.
use Rattle.std.proofs.Common.{◌≡◌, ◌∙◌, ◌≤◌, ◌+◌, ℕ, List, [], ◌∷◌, Bool, cond, ap, sym, refl, arith}
use Rattle.std.specs.List.{count_by}
use Rattle.std.proofs.lemmas.List.Elements.{All-head, All-tail, All-weaker}
use Rattle.std.proofs.lemmas.List.Sums.{sum_by-cons}
use Rattle.round_meter.specs.declared.standing.Standing.{Standing}
use Rattle.round_meter.specs.Meters.{AreStamped, is_able, waits_in}
use Rattle.round_meter.specs.Tallies.{IsTally}
use Rattle.round_meter.proofs.StandingsLemmas.{waits_later}

-- 1 for true, 0 for false
abbrev one_if : Bool → ℕ
one_if b = cond {A = ℕ} b 1 0

-- a tally whose round ended
pub ended_tally : (ss : List Standing) (rounds able waiting : ℕ) → IsTally ss rounds able waiting → IsTally ss (rounds + 1) able able
ended_tally ss rounds able waiting is = record {
  few = is.few;
  stamped = All-weaker (λ (t : Standing). t.settled_in ≤ rounds + 1) (λ (t : Standing). t.settled_in ≤ rounds + 1 + 1) (λ t le. omega (arith, le)) ss is.stamped;
  able = is.able;
  waiting = is.able ∙ counts_alike ss is.stamped;
}
  where
    counts_alike : (xs : List Standing) → AreStamped (rounds + 1) xs → count_by is_able xs ≡ count_by (waits_in (rounds + 1 + 1)) xs
    counts_alike [] stamped = refl
    counts_alike (x ∷ xs) stamped =
        sum_by-cons (λ (t : Standing). one_if (is_able t)) x xs
        ∙ ap (λ n. one_if (is_able x) + n) (counts_alike xs (All-tail (λ (t : Standing). t.settled_in ≤ rounds + 1) x xs stamped))
        ∙ ap (λ b. one_if b + count_by (waits_in (rounds + 1 + 1)) xs) (sym (waits_later (rounds + 1) x (All-head (λ (t : Standing). t.settled_in ≤ rounds + 1) x xs stamped)))
        ∙ sym (sum_by-cons (λ (t : Standing). one_if (waits_in (rounds + 1 + 1) t)) x xs)
