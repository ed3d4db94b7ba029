-- The commands on a small shape, step by step.
use Rattle.std.proofs.Common.{◌≡◌, ◌<◌, ℕ, zero, suc, List, [], ◌∷◌, true, Some, None, length, replicate, get_or, refl, ap, sym, ◌∙◌, subst, arith}
use Rattle.std.specs.Prelude.{codes}
use Rattle.std.specs.Fmt.{digits}
use Rattle.std.specs.List.{All}
use Rattle.std.proofs.lemmas.List.Elements.{All-nil, All-cons}
use Rattle.amoebot_state.specs.Configs.{Config, occupant}
use Rattle.amoebot_state.specs.declared.cell.CellName.TheVariants as name
use Rattle.amoebot_state.specs.declared.cell.Cell.TheVariants as cell
use Rattle.amoebot_state.specs.declared.verdict.Entry.{Entry}
use Rattle.amoebot_state.specs.declared.verdict.PlainEntry.{PlainEntry}
use Rattle.amoebot_state.specs.declared.verdict.Verdict.{Verdict}
use Rattle.amoebot_state.specs.declared.verdict.Verdict.TheVariants as verdict
use Rattle.amoebot_state.specs.Pairs.{Triples}
use Rattle.amoebot_state.specs.Zones.{shown}
use Rattle.amoebot_state.specs.Steps.{Step, Run, change_of, plain_entry}
use Rattle.serial_model.specs.Forms.{full_entry}
use Rattle.serial_model.specs.Replays.{RunIn}
use Rattle.claim_core.specs.declared.marks.Mark.TheVariants as mark
use Rattle.claim_core.specs.declared.state.Caller.{Caller}
use Rattle.claim_core.specs.declared.state.Phase.TheVariants.{Releasing, Ended}
use Rattle.claim_core.specs.declared.report.Report.{Report}
use Rattle.claim_core.specs.Machine.{Setup, State, caller, after, setup}
use Rattle.claim_core.specs.Turns.{IsList}
use Rattle.claim_core.specs.Soundness.{IsSetup}
use Rattle.claim_core.specs.Reached.{HaveEnded, IsReportOf, Reached}
use Rattle.claim_core.specs.Laws.{ReachedIsGood, OneListIsSerial}
use Rattle.shape_checks.specs.Laws.{HexagonsAreConnected, OneAloneIsHexagon}
use Rattle.small_worlds.specs.Rows.{node, two_beside, expanded, one_refused}
use Rattle.small_worlds.proofs.Rows.{IsThereIn, one_id, may_run, valid, same_ids, one_has_ended, two_have_ended, reached, good}
use Rattle.commands.specs.Run.{IsRunReport}
use Rattle.document_answers.specs.Interleave.{at_round, IsScheduled}
use Rattle.document_answers.specs.Journals.{DiffersAt, at_entry, at_end}
use Rattle.commands.specs.Sample.{IsSampleText}
use Rattle.commands.proofs.CountedRounds.{goes_on, one_round, plain_round}
use Rattle.commands.proofs.Measures.{nobody_is_measured, one_is_measured, two_are_measured, spread_is_connected}
use Rattle.commands.specs.WorkExamples.{start, second_spread, decides, second_list, second_expansion, other_old_value, one_expanded, two_caller_schedule, SmallCommands}

-- the second amoebot expands
step : Step decides start second_expansion second_spread
step =
    let run = good.run in
    let s : Step decides start expanded second_spread = subst (λ (w : Config). Step decides start expanded w) (sym run.2) run.1 in
    record { there = s.there; decided = s.decided; patched = s.patched }

run : Run decides start (second_expansion ∷ []) second_spread
run = (second_spread, step, refl)

one_may_run : IsSetup (setup decides start second_list)
one_may_run = record {
  valid = valid;
  few = omega arith;
  lists = record { few = record { at_most_16 = omega arith; in_all = omega arith }; each = All-cons IsList (1 ∷ []) [] (one_id 1) (All-nil IsList) };
  bots = All-cons (All (IsThereIn start)) (1 ∷ []) [] (All-cons (IsThereIn start) 1 [] refl (All-nil (IsThereIn start))) (All-nil (All (IsThereIn start)));
  touches = may_run.touches;
  leads = may_run.leads;
}

-- the only caller's steps, and more than it needs to end
abbrev steps : List ℕ
steps = replicate 30 0

abbrev last_caller : Caller
last_caller = caller 2 Ended [] (mark.Done 0 ∷ mark.Idle 1 ∷ [])

one_reached : Reached (setup decides start second_list) one_expanded
one_reached = record {
  steps = steps;
  ended = one_has_ended (after (setup decides start second_list) steps) last_caller refl refl;
  left = record { first = refl; entries = refl; world = record { same = record { rest = refl; size = refl; ids = same_ids }; values = refl }; marks = refl };
}

-- where the second caller frees its cells, not all have ended
frees : (s : State) (k j : Caller) → s.callers ≡ k ∷ j ∷ [] → j.phase ≡ Releasing → HaveEnded s → ⊥
frees s k j are phase ended =
    let all : (i : ℕ) (d : Caller) → i < length (k ∷ j ∷ []) → (get_or (k ∷ j ∷ []) i d).phase ≡ Ended = subst (λ (ks : List Caller). (i : ℕ) (d : Caller) → i < length ks → (get_or ks i d).phase ≡ Ended) are ended in
    let e : j.phase ≡ Ended = all 1 j (omega arith) in
    cc

first_round : (n : ℕ) → n < 4 → HaveEnded (at_round two_beside two_caller_schedule n) → ⊥
first_round zero lt = frees (at_round two_beside two_caller_schedule 0) _ _ refl refl
first_round (suc zero) lt = frees (at_round two_beside two_caller_schedule 1) _ _ refl refl
first_round (suc (suc zero)) lt = frees (at_round two_beside two_caller_schedule 2) _ _ refl refl
first_round (suc (suc (suc zero))) lt = frees (at_round two_beside two_caller_schedule 3) _ _ refl refl
first_round (suc (suc (suc (suc n)))) lt = absurd (omega arith)

ended : HaveEnded (at_round two_beside two_caller_schedule 4)
ended = two_have_ended (at_round two_beside two_caller_schedule 4) _ _ refl refl refl

left : IsReportOf two_beside (at_round two_beside two_caller_schedule 4) one_refused
left = record { first = refl; entries = refl; world = record { same = record { rest = refl; size = refl; ids = same_ids }; values = refl }; marks = refl }

scheduled : IsScheduled two_beside two_caller_schedule one_refused
scheduled = record { count = 4; ended = ended; first = first_round; left = left }

-- the entry in a form, and its run
run_in : {E : Type 0} (form : Entry → E) → RunIn form decides start (form second_expansion ∷ []) second_spread
run_in form = record { source = second_expansion ∷ []; tells = refl; holds = run }

-- once it is expanded, no step of its entry is one, in each form that tells its amoebot
no_step_in : {E : Type 0} (form : Entry → E) → ((e : Entry) → form e ≡ form second_expansion → e.bot ≡ second_expansion.bot) → DiffersAt form decides start (form second_expansion ∷ form second_expansion ∷ []) second_spread 1
no_step_in form bots = at_entry 1 (record {
  entry = form second_expansion;
  there = refl;
  world = second_spread;
  before = run_in form;
  none = λ new by. let d = subst (λ (i : ℕ). decides (shown second_spread i) ≡ verdict.Change (change_of by.source)) (bots by.source by.tells) by.holds.decided in cc;
})

-- the change that is decided has the old values that were found
abbrev changes_of : Verdict → Triples
changes_of verdict.Idle = []
changes_of (verdict.Failed f) = []
changes_of (verdict.Change change) = change.patch

other_old : DiffersAt full_entry decides start (other_old_value ∷ []) second_spread 0
other_old = at_entry 0 (record {
  entry = other_old_value;
  there = refl;
  world = start;
  before = record { source = []; tells = refl; holds = refl };
  none = λ new by.
      let other : Step decides start other_old_value new = subst (λ (e : Entry). Step decides start e new) by.tells by.holds in
      let same : second_expansion.patch ≡ other_old_value.patch = ap changes_of (sym step.decided ∙ other.decided) in
      let first : cell.Spot None ≡ cell.Spot (Some 0) = ap (λ (ts : Triples). (get_or ts 0 (name.Body 0, cell.Spot None, cell.Spot None)).1) same in
      cc;
})

other_shape : DiffersAt full_entry decides start (second_expansion ∷ []) start 1
other_shape = at_end second_spread (run_in full_entry) (λ same. let e = ap (λ (c : Config). occupant c (node 2)) same in cc)

-- a report of `run` that is reached
reported : ReachedIsGood → OneListIsSerial → (g : Setup) (report : Report) → IsSetup g → Reached g report → IsRunReport Reached g.verdict g.world g.lists report
reported goods serials g report ok reached =
    let its_good = goods g ok report reached in
    record { good = its_good; reached = reached; serial = λ few. serials g.verdict g.world g.lists report few its_good }

sampled : IsSampleText decides start second_list 7 one_expanded (codes "sample 7\nbots 2\ncallers 1\nturns 2\nconnected yes\nreplay yes\n")
unfolding digits
sampled = record {
  connected = true;
  agrees = true;
  is_connected = ((λ e. spread_is_connected), λ c. refl);
  is_run = ((λ e. run), λ r. refl);
  whole = refl;
}

pub small_commands : ReachedIsGood → OneListIsSerial → HexagonsAreConnected → OneAloneIsHexagon → SmallCommands
unfolding digits
small_commands goods serials connected one = record {
  run = reported goods serials (setup decides start second_list) one_expanded one_may_run one_reached;
  two_lists = reported goods serials two_beside one_refused may_run reached;
  text = refl;
  text_in_full = refl;
  interleave = record { good = good; reached = reached; scheduled = scheduled };
  agrees = run;
  differs = no_step_in full_entry (λ e same. ap (λ (d : Entry). d.bot) same);
  other_shape = other_shape;
  one_round = one_round run;
  goes_on = goes_on step;
  nobody_waits = refl;
  plain_agrees = run_in plain_entry;
  plain_round = plain_round run;
  plain_differs = no_step_in plain_entry (λ e same. ap (λ (p : PlainEntry). p.bot) same);
  other_old = other_old;
  no_old = run_in plain_entry;
  agrees_line = refl;
  check_text = refl;
  renewed = refl;
  differs_line = refl;
  rounds_lines = refl;
  led = refl;
  no_leader = refl;
  measure = nobody_is_measured;
  hexagon = one_is_measured connected one;
  apart = two_are_measured connected;
  sample = sampled;
}
