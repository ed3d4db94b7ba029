use Rattle.std.proofs.Common.{ℕ, Bool, List, Result, Ok, Err, sym, ap, ◌∙◌}
use Rattle.std.proofs.lemmas.Result.{err_from_is_err_and}
use Rattle.text_tokens.specs.declared.refusal.ReadRefusal.{ReadRefusal}
use Rattle.text_tokens.specs.declared.refusal.ReadRefusal.TheVariants.{NoMemory, Refused}
use Rattle.text_tokens.specs.Cursor.{Cursor}
use Rattle.text_tokens.specs.Reading.{pure, judge, judged}
use Rattle.text_tokens.specs.Steps.{Gives}
use Rattle.text_tokens.proofs.StepsLemmas.{Reached, fails, on_made, judged_wrong, judged_fine}
use Rattle.amoebot_state.specs.Configs.{Config}
use Rattle.shape_text.specs.Parts.{may_have_walls}
use Rattle.shape_text.specs.Shapes.{WrittenShape, shape_fault, stands_for}
use Rattle.shape_text.specs.Readers.{a_written_shape, shape_under}
use Rattle.shape_text.specs.Views as view
use Rattle.shape_text.proofs.shape.read_under.Goals as goal

module _ (may : Bool) (text : List ℕ) (vars : ℕ) (maxes : List ℕ) (old new : Cursor) (s : WrittenShape) (read : Reached (a_written_shape may text vars) old s new) where
  -- what was read is judged
  judged_as : (result : Result Config ReadRefusal) → view.IsJudged maxes s result → Gives (λ (c : Config). c) (shape_under may text vars maxes) old result new
  unfolding shape_under
  judged_as (Ok w) j =
      let m = on_made (judged (a_written_shape may text vars) (shape_fault maxes)) (stands_for maxes) old new s (judged_fine (a_written_shape may text vars) (shape_fault maxes) old new s read j.0) in
      (m.0 ∙ ap (λ (c : Config). Ok (c, new.ahead)) (sym j.1), m.1)
  judged_as (Err NoMemory) j = (tt, read.1)
  judged_as (Err (Refused r)) j = fails (judged (a_written_shape may text vars) (shape_fault maxes)) (λ s. pure (stands_for maxes s)) (Refused r) old new (judged_wrong (a_written_shape may text vars) (shape_fault maxes) old new s read r j)

pub returns-in_err-written-clause-reads : goal.returns-in_err-written-clause-reads
unfolding shape_under
returns-in_err-written-clause-reads c =
    let p = err_from_is_err_and c.from_residual.result c.from_residual.ensures.1 in
    let text = c.args.text.now in
    let e = c.in_err-written.field-0.0 in
    rw (p.1, p.2) (fails (judged (a_written_shape (may_have_walls c.args.version) text c.args.vars) (shape_fault c.args.maxes)) (λ s. pure (stands_for c.args.maxes s)) e c.args.tokens.now c.read_written.new.tokens
    (fails (a_written_shape (may_have_walls c.args.version) text c.args.vars) (λ s. judge (shape_fault c.args.maxes s) s) e c.args.tokens.now c.read_written.new.tokens c.in_err-written.ensures.reads))

pub returns-clause-reads : goal.returns-clause-reads
returns-clause-reads c = judged_as (may_have_walls c.args.version) c.args.text.now c.args.vars c.args.maxes c.args.tokens.now c.read_written.new.tokens (view.shape c.in_ok-written.written) c.in_ok-written.ensures.reads c.world_of.result c.world_of.ensures.judged
