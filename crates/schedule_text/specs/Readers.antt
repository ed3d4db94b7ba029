-- The grammars of the sections as readers, put together as the grammars are.
use Rattle.std.specs.Prelude.{ℕ, List, ◌∷◌, codes}
use Rattle.text_tokens.specs.declared.refusal.RefusalKind.TheVariants.{TooMany}
use Rattle.text_tokens.specs.Reading.{Reader, ◌>>=◌, pure, is_number, one_within, numeral, too_large, closed, optional, repeated}
use Rattle.claim_core.specs.Limits.{most_turns}
use Rattle.claim_core.specs.Turns.{CallerLists}
use Rattle.shape_text.specs.Parts.{is_end, one_more}
use Rattle.shape_text.specs.PartReaders.{a_word}
use Rattle.schedule_text.specs.Known.{past_known}
use Rattle.schedule_text.specs.Lists.{past_ids, is_list, past_lists, lists_of}
use Rattle.schedule_text.specs.Schedules.{past_callers, past_times, is_times, Stretch, stretch_of, more_steps, steps_of}

abbrev pub a_known : ℕ → ℕ → ℕ → Reader ℕ
a_known most known before = numeral (past_known most known before)

-- ---- the lists

unfoldable pub an_id : ℕ → ℕ → Reader ℕ
an_id bots before = numeral (past_ids bots before)

unfoldable pub ids_from : ℕ → ℕ → Reader (List ℕ)
ids_from bots before = repeated is_number (an_id bots) one_more before

unfoldable pub all_ids : ℕ → Reader (List ℕ)
all_ids bots = an_id bots 0 >>= λ id. ids_from bots 1 >>= λ more. pure (id ∷ more)

unfoldable pub list_word : ℕ → ℕ → Reader ℕ
list_word turns before = one_within is_list (past_lists turns before) >>= λ t. pure t.line

unfoldable pub a_list : ℕ → ℕ → ℕ → Reader (List ℕ)
a_list bots turns before = list_word turns before >>= λ line. all_ids bots

unfoldable pub lists_from : ℕ → ℕ → ℕ → Reader (List (List ℕ))
lists_from bots turns before = repeated is_list (a_list bots turns) one_more before

unfoldable pub all_lists : ℕ → ℕ → Reader CallerLists
all_lists bots turns = lists_from bots turns 0 >>= λ ids. pure (lists_of turns ids)

unfoldable pub some_turns : Reader ℕ
some_turns = a_word (codes "turns") >>= λ line. numeral (too_large most_turns TooMany)

unfoldable pub the_lists : ℕ → Reader CallerLists
the_lists bots =
    a_word (codes "lists") >>= λ line. some_turns >>= λ turns. closed (all_lists bots turns) is_end

-- ---- the schedule

unfoldable pub a_caller : ℕ → ℕ → Reader ℕ
a_caller callers before = numeral (past_callers callers before)

unfoldable pub number_of_times : ℕ → Reader ℕ
number_of_times before = numeral (past_times before)

unfoldable pub its_times : ℕ → Reader ℕ
its_times before = a_word (codes "times") >>= λ line. number_of_times before

unfoldable pub any_times : ℕ → Reader ℕ
any_times before = optional is_times 1 (its_times before)

unfoldable pub a_stretch : ℕ → ℕ → Reader Stretch
a_stretch callers before =
    a_caller callers before >>= λ caller. any_times before >>= λ times. pure (stretch_of caller times)

unfoldable pub stretches_from : ℕ → ℕ → Reader (List Stretch)
stretches_from callers before = repeated is_number (a_stretch callers) more_steps before

unfoldable pub all_steps : ℕ → Reader (List ℕ)
all_steps callers = stretches_from callers 0 >>= λ ss. pure (steps_of ss)

unfoldable pub a_schedule : ℕ → Reader (List ℕ)
a_schedule callers = a_word (codes "schedule") >>= λ line. closed (all_steps callers) is_end
