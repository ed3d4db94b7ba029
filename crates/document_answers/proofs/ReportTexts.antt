-- How many variables the text of a report is for.
use Rattle.std.proofs.Common.{◌≡◌, ◌≤◌, ℕ, Bool, true, false, length, Result, refl, subst}
use Rattle.std.specs.Prelude.{◌&&◌, IfOk}
use Rattle.std.proofs.lemmas.Bool.{leb-true}
use Rattle.amoebot_state.specs.Limits.{most_vars}
use Rattle.claim_core.specs.declared.report.Report.{Report}
use Rattle.action_tree.specs.Trees.{Program}
use Rattle.action_tree.specs.Writable.{is_writable}
use Rattle.document_answers.specs.declared.answer.Answer.{Answer}
use Rattle.document_answers.specs.Answers.{with_report}

-- a program that can be written has few variables
left_of : (a b : Bool) → (a && b) ≡ true → a ≡ true
left_of true b e = refl
left_of false b e = e

pub few_vars : (p : Program) → is_writable p ≡ true → length p.vars ≤ most_vars
few_vars p f = leb-true (length p.vars) most_vars (left_of _ _ (left_of _ _ (left_of _ _ f)))

-- with another name for their number
pub with_report_of : {E : Type 0} (version vars number : ℕ) (report : Report) (r : Result Answer E) → vars ≡ number → IfOk r (λ (a : Answer). a ≡ with_report version vars report) → IfOk r (λ (a : Answer). a ≡ with_report version number report)
with_report_of version vars number report r e ok = subst (λ (v : ℕ). IfOk r (λ (a : Answer). a ≡ with_report version v report)) e ok
