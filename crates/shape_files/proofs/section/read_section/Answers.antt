use Rattle.std.proofs.Common.{ℕ, List, Some}
use Rattle.std.proofs.lemmas.Result.{err_from_is_err_and}
use Rattle.text_tokens.specs.Reading.{◌>>=◌, pure}
use Rattle.text_tokens.proofs.StepsLemmas.{Reached, Failed, fails, on_made}
use Rattle.amoebot_state.specs.Configs.{Config}
use Rattle.claim_core.specs.Turns.{CallerLists}
use Rattle.journal_text.specs.Turns.{IsTurns}
use Rattle.journal_text.specs.Readers.{the_turns}
use Rattle.journal_text.proofs.TurnLaws.{exact_turns}
use Rattle.shape_text.specs.Shapes.{IsShape, IsFinal}
use Rattle.shape_text.specs.Readers.{a_shape, a_final}
use Rattle.shape_text.proofs.ShapeLaws.{exact_shape, exact_final}
use Rattle.schedule_text.specs.Lists.{IsLists}
use Rattle.schedule_text.specs.Schedules.{IsSchedule}
use Rattle.schedule_text.specs.Readers.{the_lists, a_schedule}
use Rattle.schedule_text.proofs.ListLaws.{exact_lists}
use Rattle.schedule_text.proofs.ScheduleLaws.{exact_schedule}
use Rattle.shape_files.specs.DocumentReaders.{a_checked_program, body}
use Rattle.shape_files.specs.Views.{contents}
use Rattle.shape_files.proofs.ReaderLemmas.{kept, not_kept}
use Rattle.shape_files.proofs.section.read_section.Goals as goal

pub returns-in_err-read_program-in-Program : goal.returns-in_err-read_program-in-Program
unfolding body
returns-in_err-read_program-in-Program c =
    let p = err_from_is_err_and c.from_residual.result c.from_residual.ensures.1 in
    let s = contents c.args.parts.now in
    let e = c.in_err-read_program-in-Program.field-0.0 in
    rw (c.in-Program.is, p.1, p.2) (fails a_checked_program (λ v. pure (record s { checked = Some v })) e c.args.tokens.now c.read_program.new.tokens c.in_err-read_program-in-Program.ensures)

pub returns-in_ok-read_program-in-Program : goal.returns-in_ok-read_program-in-Program
unfolding body
returns-in_ok-read_program-in-Program c =
    let s = contents c.args.parts.now in
    rw c.in-Program.is (on_made a_checked_program (λ v. record s { checked = Some v }) c.args.tokens.now c.read_program.new.tokens c.in_ok-read_program-in-Program.field-0 c.in_ok-read_program-in-Program.ensures)

pub returns-in_err-world-in-Shape : goal.returns-in_err-world-in-Shape
unfolding body
returns-in_err-world-in-Shape c =
    let p = err_from_is_err_and c.from_residual-in_err-world-in-Shape.result c.from_residual-in_err-world-in-Shape.ensures.1 in
    let s = contents c.args.parts.now in
    let e = c.in_err-world-in-Shape.field-0.0 in
    let f : Failed (a_shape s.version c.vars.result c.maxes.result >>= λ v. pure (record s { world = Some v })) e c.args.tokens.now c.read_shape.new.tokens = not_kept (IsShape s.version c.vars.result c.maxes.result) (a_shape s.version c.vars.result c.maxes.result) (exact_shape s.version c.vars.result c.maxes.result) (λ (v : Config). record s { world = Some v }) c.args.tokens.now c.read_shape.new.tokens e c.in_err-world-in-Shape.ensures.tells in
    let g = rw (c.vars.ensures.value, c.maxes.ensures) at f in
    rw (c.in-Shape.is, p.1, p.2) g

pub returns-in_ok-world-in-Shape : goal.returns-in_ok-world-in-Shape
unfolding body
returns-in_ok-world-in-Shape c =
    let s = contents c.args.parts.now in
    let f : Reached (a_shape s.version c.vars.result c.maxes.result >>= λ v. pure (record s { world = Some v })) c.args.tokens.now (record s { world = Some c.in_ok-world-in-Shape.world }) c.read_shape.new.tokens = kept (IsShape s.version c.vars.result c.maxes.result) (a_shape s.version c.vars.result c.maxes.result) (exact_shape s.version c.vars.result c.maxes.result) (λ (v : Config). record s { world = Some v }) c.args.tokens.now c.read_shape.new.tokens c.in_ok-world-in-Shape.world c.in_ok-world-in-Shape.ensures.tells in
    let g = rw (c.vars.ensures.value, c.maxes.ensures) at f in
    rw c.in-Shape.is g

pub returns-in_err-read_lists-in-Lists : goal.returns-in_err-read_lists-in-Lists
unfolding body
returns-in_err-read_lists-in-Lists c =
    let p = err_from_is_err_and c.from_residual-in_err-read_lists-in-Lists.result c.from_residual-in_err-read_lists-in-Lists.ensures.1 in
    let s = contents c.args.parts.now in
    let e = c.in_err-read_lists-in-Lists.field-0.0 in
    let f : Failed (the_lists c.bots.result >>= λ v. pure (record s { lists = Some v })) e c.args.tokens.now c.read_lists.new.tokens = not_kept (IsLists c.bots.result) (the_lists c.bots.result) (exact_lists c.bots.result) (λ (v : CallerLists). record s { lists = Some v }) c.args.tokens.now c.read_lists.new.tokens e c.in_err-read_lists-in-Lists.ensures.tells in
    let g = rw (c.bots.ensures) at f in
    rw (c.in-Lists.is, p.1, p.2) g

pub returns-in_ok-read_lists-in-Lists : goal.returns-in_ok-read_lists-in-Lists
unfolding body
returns-in_ok-read_lists-in-Lists c =
    let s = contents c.args.parts.now in
    let f : Reached (the_lists c.bots.result >>= λ v. pure (record s { lists = Some v })) c.args.tokens.now (record s { lists = Some c.in_ok-read_lists-in-Lists.field-0 }) c.read_lists.new.tokens = kept (IsLists c.bots.result) (the_lists c.bots.result) (exact_lists c.bots.result) (λ (v : CallerLists). record s { lists = Some v }) c.args.tokens.now c.read_lists.new.tokens c.in_ok-read_lists-in-Lists.field-0 c.in_ok-read_lists-in-Lists.ensures.tells in
    let g = rw (c.bots.ensures) at f in
    rw c.in-Lists.is g

pub returns-in_err-read_schedule-in-Schedule : goal.returns-in_err-read_schedule-in-Schedule
unfolding body
returns-in_err-read_schedule-in-Schedule c =
    let p = err_from_is_err_and c.from_residual-in_err-read_schedule-in-Schedule.result c.from_residual-in_err-read_schedule-in-Schedule.ensures.1 in
    let s = contents c.args.parts.now in
    let e = c.in_err-read_schedule-in-Schedule.field-0.0 in
    let f : Failed (a_schedule c.callers.result >>= λ v. pure (record s { schedule = Some v })) e c.args.tokens.now c.read_schedule.new.tokens = not_kept (IsSchedule c.callers.result) (a_schedule c.callers.result) (exact_schedule c.callers.result) (λ (v : List ℕ). record s { schedule = Some v }) c.args.tokens.now c.read_schedule.new.tokens e c.in_err-read_schedule-in-Schedule.ensures.tells in
    let g = rw (c.callers.ensures) at f in
    rw (c.in-Schedule.is, p.1, p.2) g

pub returns-in_ok-read_schedule-in-Schedule : goal.returns-in_ok-read_schedule-in-Schedule
unfolding body
returns-in_ok-read_schedule-in-Schedule c =
    let s = contents c.args.parts.now in
    let f : Reached (a_schedule c.callers.result >>= λ v. pure (record s { schedule = Some v })) c.args.tokens.now (record s { schedule = Some c.in_ok-read_schedule-in-Schedule.field-0 }) c.read_schedule.new.tokens = kept (IsSchedule c.callers.result) (a_schedule c.callers.result) (exact_schedule c.callers.result) (λ (v : List ℕ). record s { schedule = Some v }) c.args.tokens.now c.read_schedule.new.tokens c.in_ok-read_schedule-in-Schedule.field-0 c.in_ok-read_schedule-in-Schedule.ensures.tells in
    let g = rw (c.callers.ensures) at f in
    rw c.in-Schedule.is g

pub returns-in_err-read_entries-in-Journal : goal.returns-in_err-read_entries-in-Journal
unfolding body
returns-in_err-read_entries-in-Journal c =
    let p = err_from_is_err_and c.from_residual-in_err-read_entries-in-Journal.result c.from_residual-in_err-read_entries-in-Journal.ensures.1 in
    rw (c.in-Journal.is, p.1, p.2) c.in_err-read_entries-in-Journal.ensures

pub returns-in_ok-read_entries-in-Journal : goal.returns-in_ok-read_entries-in-Journal
unfolding body
returns-in_ok-read_entries-in-Journal c = rw c.in-Journal.is c.in_ok-read_entries-in-Journal.ensures

pub returns-in_err-world-in-Final : goal.returns-in_err-world-in-Final
unfolding body
returns-in_err-world-in-Final c =
    let p = err_from_is_err_and c.from_residual-in_err-world-in-Final.result c.from_residual-in_err-world-in-Final.ensures.1 in
    let s = contents c.args.parts.now in
    let e = c.in_err-world-in-Final.field-0.0 in
    let f : Failed (a_final s.version c.vars-in-Final.result c.maxes-in-Final.result >>= λ v. pure (record s { final_world = Some v })) e c.args.tokens.now c.read_final.new.tokens = not_kept (IsFinal s.version c.vars-in-Final.result c.maxes-in-Final.result) (a_final s.version c.vars-in-Final.result c.maxes-in-Final.result) (exact_final s.version c.vars-in-Final.result c.maxes-in-Final.result) (λ (v : Config). record s { final_world = Some v }) c.args.tokens.now c.read_final.new.tokens e c.in_err-world-in-Final.ensures.tells in
    let g = rw (c.vars-in-Final.ensures.value, c.maxes-in-Final.ensures) at f in
    rw (c.in-Final.is, p.1, p.2) g

pub returns-in_ok-world-in-Final : goal.returns-in_ok-world-in-Final
unfolding body
returns-in_ok-world-in-Final c =
    let s = contents c.args.parts.now in
    let f : Reached (a_final s.version c.vars-in-Final.result c.maxes-in-Final.result >>= λ v. pure (record s { final_world = Some v })) c.args.tokens.now (record s { final_world = Some c.in_ok-world-in-Final.world }) c.read_final.new.tokens = kept (IsFinal s.version c.vars-in-Final.result c.maxes-in-Final.result) (a_final s.version c.vars-in-Final.result c.maxes-in-Final.result) (exact_final s.version c.vars-in-Final.result c.maxes-in-Final.result) (λ (v : Config). record s { final_world = Some v }) c.args.tokens.now c.read_final.new.tokens c.in_ok-world-in-Final.world c.in_ok-world-in-Final.ensures.tells in
    let g = rw (c.vars-in-Final.ensures.value, c.maxes-in-Final.ensures) at f in
    rw c.in-Final.is g

pub returns-in_err-read_turns-in-Turns : goal.returns-in_err-read_turns-in-Turns
unfolding body
returns-in_err-read_turns-in-Turns c =
    let p = err_from_is_err_and c.from_residual-in_err-read_turns-in-Turns.result c.from_residual-in_err-read_turns-in-Turns.ensures.1 in
    let s = contents c.args.parts.now in
    let e = c.in_err-read_turns-in-Turns.field-0.0 in
    let f : Failed (the_turns s.version >>= λ v. pure (s)) e c.args.tokens.now c.read_turns.new.tokens = not_kept (IsTurns s.version) (the_turns s.version) (exact_turns s.version) (λ (v : Unit {0}). s) c.args.tokens.now c.read_turns.new.tokens e c.in_err-read_turns-in-Turns.ensures.tells in
    rw (c.in-Turns.is, p.1, p.2) f

pub returns-in_ok-read_turns-in-Turns : goal.returns-in_ok-read_turns-in-Turns
unfolding body
returns-in_ok-read_turns-in-Turns c =
    let s = contents c.args.parts.now in
    let f : Reached (the_turns s.version >>= λ v. pure (s)) c.args.tokens.now (s) c.read_turns.new.tokens = kept (IsTurns s.version) (the_turns s.version) (exact_turns s.version) (λ (v : Unit {0}). s) c.args.tokens.now c.read_turns.new.tokens c.in_ok-read_turns-in-Turns.field-0 c.in_ok-read_turns-in-Turns.ensures.tells in
    rw c.in-Turns.is f
