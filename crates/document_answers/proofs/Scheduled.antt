-- A schedule gives one report.
use Rattle.std.proofs.Common.{◌≡◌, ◌<◌, ℕ, ap, sym, subst, arith}
use Rattle.claim_core.specs.Turns.{MarkLists}
use Rattle.claim_core.specs.Reached.{IsReportOf}
use Rattle.claim_core.specs.Laws.{StateHasOneReport}
use Rattle.document_answers.specs.Interleave.{at_round}
use Rattle.document_answers.specs.AnswerLaws.{ScheduleHasOneReport}

same_number : (m n : ℕ) → (m < n → ⊥) → (n < m → ⊥) → m ≡ n
same_number m n one two = omega arith

pub schedule_has_one_report : StateHasOneReport → ScheduleHasOneReport
schedule_has_one_report law g schedule one two x y =
    let same : x.count ≡ y.count = same_number x.count y.count (λ lt. y.first x.count lt x.ended) (λ lt. x.first y.count lt y.ended) in
    let by = law g (at_round g schedule x.count) one two x.left (subst (λ n. IsReportOf g (at_round g schedule n) two) (sym same) y.left) in
    record { world = by.0; entries = by.2; marks = ap (λ (m : MarkLists). m.marks) by.3 }
