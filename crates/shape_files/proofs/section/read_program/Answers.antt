use Rattle.std.proofs.Common.{◌≡◌, Result, Ok, Err, sym, subst}
use Rattle.std.proofs.lemmas.Result.{err_from_is_err_and}
use Rattle.std.specs.Prelude.{IfOk, IfErr}
use Rattle.text_tokens.specs.declared.refusal.ReadRefusal.{ReadRefusal}
use Rattle.text_tokens.specs.declared.refusal.ReadRefusal.TheVariants.{Refused, NoMemory}
use Rattle.text_tokens.specs.Cursor.{Cursor}
use Rattle.text_tokens.specs.Reading.{judge}
use Rattle.text_tokens.specs.Steps.{Gives}
use Rattle.text_tokens.proofs.StepsLemmas.{Reached, fails, judged_wrong, judged_fine}
use Rattle.action_tree.specs.Trees as tree
use Rattle.action_tree.specs.Programs.{IsProgram}
use Rattle.action_tree.specs.ProgramReaders.{a_program}
use Rattle.action_tree.proofs.ProgramLaws.{exact_program}
use Rattle.action_check.specs.Faults.{faults, AreRulesKept}
use Rattle.action_check.specs.Told.{TellsFirst}
use Rattle.shape_files.specs.DocumentReaders.{a_checked_program}
use Rattle.shape_files.proofs.SectionLemmas.{wrong}
use Rattle.shape_files.proofs.ReaderLemmas.{gives_of}
use Rattle.shape_files.proofs.CheckedLemmas.{none_first, some_first}
use Rattle.shape_files.proofs.section.read_program.Goals as goal

abbrev itself : tree.Program → tree.Program
itself p = p

pub returns-in_err-program : goal.returns-in_err-program
unfolding a_checked_program
returns-in_err-program c =
    let p = err_from_is_err_and c.from_residual.result c.from_residual.ensures.1 in
    let e = c.in_err-program.field-0.0 in
    rw (p.1, p.2) (fails a_program (λ p. judge (wrong p) p) e c.args.tokens.now c.parse_program.new.tokens
    (gives_of IsProgram itself a_program exact_program c.args.tokens.now (Err e) c.parse_program.new.tokens c.in_err-program.ensures.tells))

module _ (old new : Cursor) (p : tree.Program) (read : Reached a_program old p new) where
  checked : (r : Result tree.Program ReadRefusal) → IfOk r (λ q. q ≡ p) → IfOk r (λ _. AreRulesKept p) → IfErr r (TellsFirst (faults p)) → Gives itself a_checked_program old r new
  unfolding a_checked_program
  checked (Ok q) same kept told = subst (λ (q : tree.Program). Reached a_checked_program old q new) (sym same) (judged_fine a_program wrong old new p read (none_first (faults p) kept))
  checked (Err NoMemory) same kept told = (tt, read.1)
  checked (Err (Refused r)) same kept told = judged_wrong a_program wrong old new p read r (some_first (faults p) r told)

pub returns : goal.returns
returns c =
    checked c.args.tokens.now c.parse_program.new.tokens c.in_ok-program.program (gives_of IsProgram itself a_program exact_program c.args.tokens.now (Ok c.in_ok-program.program) c.parse_program.new.tokens c.in_ok-program.ensures.tells)
    c.check.result c.check.ensures.same c.check.ensures.kept c.check.ensures.refused
