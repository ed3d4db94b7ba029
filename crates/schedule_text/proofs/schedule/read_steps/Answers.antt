use Rattle.std.proofs.Common.{◌≡◌, ◌<◌, ◌+◌, ◌-◌, ◌++◌, ◌∷◌, [], ◌∙◌, ℕ, List, length, take, replicate, vec_len, refl, sym, ap, subst, arith}
use Rattle.std.specs.List.{All}
use Rattle.std.proofs.lemmas.Grind.{flat_map-append}
use Rattle.std.proofs.lemmas.List.{append-nil, take_all}
use Rattle.std.proofs.lemmas.List.Elements.{All-append, All-replicate}
use Rattle.std.proofs.lemmas.Result.{err_from_is_err_and}
use Rattle.text_tokens.specs.Reading.{pure, is_number}
use Rattle.text_tokens.proofs.StepsLemmas.{fails, on_made}
use Rattle.text_tokens.proofs.LoopLemmas.{loop_begins, loop_goes_on, loop_is_over, loop_fails}
use Rattle.shape_text.specs.Parts.{is_end}
use Rattle.schedule_text.specs.Schedules.{Stretch, AreTimes, more_steps, steps_in, steps_of, IsStretch}
use Rattle.schedule_text.specs.Readers.{a_stretch, stretches_from, all_steps}
use Rattle.schedule_text.specs.Views as view
use Rattle.schedule_text.proofs.ScheduleLaws.{no_times, stretch_elements}
use Rattle.schedule_text.proofs.schedule.read_steps.Goals as goal

one_stretch_more : (found : List Stretch) (s : Stretch) → steps_of (found ++ s ∷ []) ≡ steps_of found ++ steps_in s
one_stretch_more found s = flat_map-append steps_in found (s ∷ []) ∙ ap (λ (last : List ℕ). steps_of found ++ last) (append-nil (steps_in s))

-- steps that are filled up with those of one more stretch
filled : (steps new : List ℕ) (len before times caller : ℕ) → length steps ≡ before → len ≡ before → new ≡ take (before + times) steps ++ replicate (before + times - len) caller → new ≡ steps ++ replicate times caller
filled steps new len before times caller size same is =
    let all : take (before + times) steps ≡ steps = take_all (before + times) steps (omega arith) in
    let rest : before + times - len ≡ times = omega arith in
    is ∙ ap (λ (front : List ℕ). front ++ replicate (before + times - len) caller) all ∙ ap (λ (n : ℕ). steps ++ replicate n caller) rest

pub loop-steps-init : goal.loop-steps-init
unfolding stretches_from
loop-steps-init c =
    let none = c.new-steps.ensures.items in
    let size = ap length none in (
      [],
      record {
        reads = loop_begins (stretches_from c.args.callers 0) c.args.tokens.now [] refl;
        are = none;
        same = size;
        few = omega arith;
        there = λ k d lt. absurd (omega (arith, size));
      },
    )

pub returns-in_err-stretch-clause-reads : goal.returns-in_err-stretch-clause-reads
unfolding all_steps
returns-in_err-stretch-clause-reads c =
    let p = err_from_is_err_and c.from_residual.result c.from_residual.ensures.1 in
    let callers = c.args.callers in
    rw (p.1, p.2) (fails (stretches_from callers 0) (λ ss. pure (steps_of ss)) c.in_err-stretch.field-0.0 c.args.tokens.now c.more_stretch.new.tokens
    (loop_fails (IsStretch callers) (a_stretch callers) more_steps is_number no_times is_end (stretch_elements callers) (stretches_from callers 0) c.args.tokens.now c.loop-steps.invariant.0 c.loop-steps.before c.loop-steps.tokens c.loop-steps.invariant.1.reads
    c.in_err-stretch.field-0.0 c.more_stretch.new.tokens c.in_err-stretch.ensures.reads))

pub loop-steps-preserved : goal.loop-steps-preserved
loop-steps-preserved c =
    let callers = c.args.callers in
    let found = c.loop-steps.invariant.0 in
    let was = c.loop-steps.invariant.1 in
    let s = view.stretch c.in-Some.stretch in
    let next = rw c.in-Some.is at c.in_ok-stretch.ensures.reads in
    let times : AreTimes c.loop-steps.before s.times = rw c.in-Some.is at c.in_ok-stretch.ensures.times in
    let there : s.caller < callers = rw c.in-Some.is at c.in_ok-stretch.ensures.there in
    let len : vec_len c.loop-steps.steps ≡ c.loop-steps.before = omega (arith, was.same) in
    let are : c.resize.new.self.items ≡ c.loop-steps.steps.items ++ steps_in s = filled c.loop-steps.steps.items c.resize.new.self.items (vec_len c.loop-steps.steps) c.loop-steps.before s.times s.caller was.same len c.in_ok-resize.ensures.items in
    let size = c.in_ok-resize.ensures.len in (
      found ++ s ∷ [],
      record {
        reads = loop_goes_on (IsStretch callers) (a_stretch callers) more_steps is_number no_times is_end (stretch_elements callers) (stretches_from callers 0) c.args.tokens.now found c.loop-steps.before c.loop-steps.tokens was.reads s c.more_stretch.new.tokens next (found ++ s ∷ []) refl;
        are = are ∙ ap (λ (front : List ℕ). front ++ steps_in s) was.are ∙ sym (one_stretch_more found s);
        same = omega (arith, size);
        few = times.1;
        there = subst (λ (steps : List ℕ). All (λ caller. caller < callers) steps) (sym are) (All-append (λ (caller : ℕ). caller < callers) c.loop-steps.steps.items (steps_in s) was.there (All-replicate (λ (caller : ℕ). caller < callers) s.times s.caller there));
      },
    )

pub returns-clause-reads : goal.returns-clause-reads
unfolding all_steps
returns-clause-reads c =
    let callers = c.args.callers in
    let was = c.loop-steps.invariant.1 in
    let m = on_made (stretches_from callers 0) steps_of c.args.tokens.now c.more_stretch.new.tokens c.loop-steps.invariant.0
    (loop_is_over (IsStretch callers) (a_stretch callers) more_steps is_number no_times is_end (stretch_elements callers) (stretches_from callers 0) c.args.tokens.now c.loop-steps.invariant.0 c.loop-steps.before c.loop-steps.tokens was.reads
    c.more_stretch.new.tokens (rw c.in_default.is at c.in_ok-stretch.ensures.reads)) in
    rw was.are m
