-- Small documents as they are printed whole.
use Rattle.std.proofs.Common.{◌≡◌, ℕ, zero, suc, ◌<◌, ◌≤◌, [], ◌∷◌, pos, Some, None, refl, arith}
use Rattle.std.specs.Fmt.{digits}
use Rattle.std.specs.List.{All}
use Rattle.std.specs.Option.{IsSome}
use Rattle.std.proofs.lemmas.Int.{ints}
use Rattle.std.proofs.lemmas.List.Elements.{All-nil, All-cons, All-replicate, All-from_recursion}
use Rattle.amoebot_state.specs.declared.bot.Bot.{Bot}
use Rattle.amoebot_state.specs.Configs.{IsValid, frame_of, bot_at}
use Rattle.amoebot_state.specs.Refusals.{IsBotInRange, bot_fault}
use Rattle.amoebot_state.specs.Limits.{most_value}
use Rattle.amoebot_state.specs.Examples.{eight_by_eight, zeros}
use Rattle.amoebot_state.proofs.Faults.{frame_valid, valid_one}
use Rattle.amoebot_state.proofs.StepExamples.{in_range}
use Rattle.claim_core.specs.declared.marks.Mark.{Mark}
use Rattle.claim_core.specs.declared.marks.Mark.TheVariants as mark
use Rattle.shape_text.specs.Parts.{a_node_of}
use Rattle.shape_text.specs.PartLimits.{HasCoordinates, HasLimits}
use Rattle.journal_text.specs.Texts.{written_full, written_plain}
use Rattle.journal_text.specs.Rereading.{KeepsLimits, IsWritableMark, AreWritable, IsWritableChange}
use Rattle.shape_text.specs.Rereading.{IsWritableConfig}
use Rattle.shape_files.specs.DocumentRows.{out, bot_before, bot_after, entry_made, plain_made, shape_of_one}
use Rattle.shape_files.specs.Fitting.{IsWritableProgram}
use Rattle.shape_files.specs.WholeTextRows.{two_marks, WholeTextRows}

-- ---- one amoebot

one_valid : (b : Bot) → IsBotInRange b → bot_fault (frame_of eight_by_eight zeros) b ≡ None → IsValid (shape_of_one b)
one_valid b in_range fine =
    valid_one (frame_of eight_by_eight zeros) (frame_valid (frame_of eight_by_eight zeros) (record {
      x_low = omega (arith, ints);
      x_high = omega (arith, ints);
      y_low = omega (arith, ints);
      y_high = omega (arith, ints);
      w_low = omega arith;
      w_high = omega arith;
      h_low = omega arith;
      h_high = omega arith;
    }) refl) b in_range fine

one_written : (version : ℕ) (b : Bot) → b.mem ≡ zeros → IsValid (shape_of_one b) → IsWritableConfig version 0 (shape_of_one b)
one_written version b e valid = record { valid = valid; walls = λ none. refl; few = omega arith; no_gaps = none; maxes = All-replicate (λ m. m ≤ most_value) 8 0 (omega arith); zeros = all }
  where
    none : (id : ℕ) → id < 1 → IsSome (bot_at (shape_of_one b) id)
    none zero lt = refl
    none (suc id) lt = absurd (omega (arith, lt))

    all : (id : ℕ) (d : Bot) → bot_at (shape_of_one b) id ≡ Some d → d.mem ≡ zeros
    all zero d at = let same : b ≡ d = cc in cc
    all (suc id) d at = absurd cc

at_start : (version : ℕ) → IsWritableConfig version 0 (shape_of_one bot_before)
at_start version = one_written version bot_before refl (one_valid bot_before (in_range bot_before refl refl (omega arith) refl) refl)

at_end : (version : ℕ) → IsWritableConfig version 0 (shape_of_one bot_after)
at_end version = one_written version bot_after refl (one_valid bot_after (in_range bot_after refl refl (omega arith) refl) refl)

the_program : IsWritableProgram out
the_program = record { writable = refl; checked = refl }

-- ---- what the run left

node_fits : HasCoordinates (a_node_of (pos 3) (pos 3))
node_fits = record { x = omega arith; y = omega arith }

before_fits : HasLimits 0 bot_before
before_fits = record {
  head = record { x = omega arith; y = omega arith };
  tail = record { x = omega arith; y = omega arith };
  rot = omega arith;
  eight = refl;
  values = All-replicate (λ v. v ≤ most_value) 8 0 (omega arith);
  zeros = refl;
}

after_fits : HasLimits 0 bot_after
after_fits = record {
  head = node_fits;
  tail = record { x = omega arith; y = omega arith };
  rot = omega arith;
  eight = refl;
  values = All-replicate (λ v. v ≤ most_value) 8 0 (omega arith);
  zeros = refl;
}

entry_fits : KeepsLimits 1 1 0 (written_full entry_made)
entry_fits = record {
  known = refl;
  movement = omega arith;
  few = omega arith;
  pairs = All-from_recursion (IsWritableChange 0) (written_full entry_made).changes ((node_fits, node_fits), ((before_fits, after_fits), tt));
}

plain_fits : KeepsLimits 1 1 0 (written_plain plain_made)
plain_fits = record {
  known = refl;
  movement = omega arith;
  few = omega arith;
  pairs = All-from_recursion (IsWritableChange 0) (written_plain plain_made).changes ((tt, node_fits), ((tt, after_fits), tt));
}

marks_fit : (version : ℕ) → All (AreWritable version) two_marks.marks
marks_fit version =
    let is : Mark → Type 0 = IsWritableMark version in
    All-cons (AreWritable version) (mark.Done 0 ∷ mark.Idle 1 ∷ []) [] (record {
      few = omega arith;
      each = All-cons is (mark.Done 0) (mark.Idle 1 ∷ []) (omega arith) (All-cons is (mark.Idle 1) [] (omega arith) (All-nil is));
    }) (All-nil (AreWritable version))

pub whole_text_rows : WholeTextRows
unfolding digits
whole_text_rows = record {
  program_text = refl;
  run_text = refl;
  full_text = refl;
  program = record {
    version = (omega arith, omega arith);
    sections = (refl, (refl, refl, refl));
    recorded = record { last = tt; last_plain = tt; first = tt };
    no_lists = refl;
    no_schedule = refl;
    program = the_program;
    world = tt;
    entries = tt;
    plain = tt;
    by_version = (λ old. refl, λ none. refl);
    final_world = tt;
    turns = tt;
  };
  run = record {
    version = (omega arith, omega arith);
    sections = (refl, refl, refl, refl);
    recorded = record { last = tt; last_plain = refl; first = refl };
    no_lists = refl;
    no_schedule = refl;
    program = the_program;
    world = record { world = at_start 1; maxes = refl };
    entries = tt;
    plain = record { few = omega arith; each = All-cons (λ e. KeepsLimits 1 1 0 (written_plain e)) plain_made [] plain_fits (All-nil (λ e. KeepsLimits 1 1 0 (written_plain e))) };
    by_version = (λ old. absurd cc, λ none. refl);
    final_world = record { world = at_end 1; maxes = refl };
    turns = record { behind = refl; callers = omega arith; each = marks_fit 1 };
  };
  full = record {
    version = (omega arith, omega arith);
    sections = (refl, refl, refl, refl);
    recorded = record { last = refl; last_plain = tt; first = refl };
    no_lists = refl;
    no_schedule = refl;
    program = the_program;
    world = record { world = at_start 3; maxes = refl };
    entries = record { few = omega arith; each = All-cons (λ e. KeepsLimits 1 1 0 (written_full e)) entry_made [] entry_fits (All-nil (λ e. KeepsLimits 1 1 0 (written_full e))) };
    plain = tt;
    by_version = (λ old. refl, λ none. absurd cc);
    final_world = record { world = at_end 3; maxes = refl };
    turns = record { behind = refl; callers = omega arith; each = marks_fit 3 };
  };
}
