-- For each status a call that owes it.
-- The document has one amoebot on a row of three nodes,
-- and its program expands a contracted amoebot to the right.
use Rattle.std.specs.Prelude.{ℕ, List, [], ◌∷◌, ◌++◌, codes, replicate}
use Rattle.std.specs.declared.option.Option.TheVariants.{Some, None}
use Rattle.text_tokens.specs.declared.refusal.Refusal.{Refusal}
use Rattle.text_tokens.specs.declared.refusal.RefusalKind.TheVariants as kind
use Rattle.amoebot_state.specs.declared.bot.Bot.{Bot}
use Rattle.amoebot_state.specs.declared.cell.CellName.TheVariants as name
use Rattle.amoebot_state.specs.declared.cell.Cell.TheVariants as cell
use Rattle.amoebot_state.specs.declared.verdict.Entry.{Entry}
use Rattle.amoebot_state.specs.declared.verdict.Moved.TheVariants as moved
use Rattle.amoebot_state.specs.Configs.{Config, with_these}
use Rattle.amoebot_state.specs.Steps.{plain_entry}
use Rattle.claim_core.specs.declared.marks.Mark.TheVariants as mark
use Rattle.claim_core.specs.declared.report.Report.{Report}
use Rattle.claim_core.specs.Turns.{CallerLists}
use Rattle.schedule_text.specs.Lists.{lists_of}
use Rattle.shape_files.specs.Documents.{Contents}
use Rattle.shape_files.specs.DocumentRows.{program_text, turns_section, out, only_program}
use Rattle.small_worlds.specs.Rows.{row_frame, node, bot_in_row, to_the_right}
use Rattle.commands.specs.WorkExamples.{nobody, one_alone}
use Rattle.document_answers.specs.declared.status.Status.TheVariants as status
use Rattle.commands.specs.Words.{command_of}
use Rattle.commands.specs.Lines.{usage_line, too_long}
use Rattle.document_answers.specs.Answers.{refusal_line, with_text}
use Rattle.commands.specs.Reads.{nothing, whole, above, up_to_fault}
use Rattle.commands.specs.Owed.{IsOwed}
use Rattle.commands.specs.declared.tasks.Task.TheVariants as task
use Rattle.commands.specs.declared.prepared.Maker.TheVariants as maker
use Rattle.commands.specs.declared.prepared.Telling.TheVariants as telling
use Rattle.commands.specs.Tasks.{IsTaskOf}
use Rattle.commands.specs.declared.words.DocumentCommand.TheVariants.{Run, Interleave, Tickets}

-- ---- texts

abbrev pub with_shape : List ℕ
with_shape = program_text ++ codes "shape\narea 0 0 3 1\nbot 1 0 1 0 0 +\nend\n"

abbrev pub with_nobody : List ℕ
with_nobody = program_text ++ codes "shape\narea 0 0 3 1\nend\n"

abbrev pub with_list : List ℕ
with_list = with_shape ++ codes "lists\nturns 2\nlist 0\nend\n"

abbrev pub with_two_lists : List ℕ
with_two_lists = with_shape ++ codes "lists\nturns 1\nlist 0\nlist 0\nend\n"

abbrev pub with_schedule : List ℕ
with_schedule = with_list ++ codes "schedule 0 times 30 end\n"

abbrev pub expansion_journal : List ℕ
expansion_journal = codes "journal\nentry 0 0 0 0 0 expand head 0 spot 2 0 0 body 0 2 0 1 0 0 +\nend\n"

abbrev pub spread_text : List ℕ
spread_text = codes "final\narea 0 0 3 1\nbot 2 0 1 0 0 +\nend\n"

-- the shape at the start, as the last one
abbrev pub still_text : List ℕ
still_text = codes "final\narea 0 0 3 1\nbot 1 0 1 0 0 +\nend\n"

abbrev pub two_turns_text : List ℕ
two_turns_text = codes "turns\nturn 0 0 done 0\nturn 1 0 idle 1\nend\n"

-- ---- what they say

abbrev pub one_bot_config : Bot → Config
one_bot_config b = with_these row_frame (b ∷ [])

abbrev pub spread_config : Config
spread_config = one_bot_config (bot_in_row 2 1)

abbrev pub one_list : CallerLists
one_list = lists_of 2 ((0 ∷ []) ∷ [])

abbrev pub two_lists : CallerLists
two_lists = lists_of 1 ((0 ∷ []) ∷ (0 ∷ []) ∷ [])

abbrev pub schedule : List ℕ
schedule = replicate 30 0

abbrev pub expansion : Entry
expansion = record {
  caller = 0;
  turn = 0;
  bot = 0;
  action = 0;
  moved = moved.Expand to_the_right;
  patch =
      (name.Spot (node 2), cell.Spot None, cell.Spot (Some 0))
      ∷ (name.Body 0, cell.Body (bot_in_row 1 1), cell.Body (bot_in_row 2 1))
      ∷ [];
}

abbrev pub and_shape : Contents
and_shape = record only_program { world = Some one_alone }

abbrev pub and_nobody : Contents
and_nobody = record only_program { world = Some nobody }

abbrev pub and_list : Contents
and_list = record and_shape { lists = Some one_list }

abbrev pub and_two_lists : Contents
and_two_lists = record and_shape { lists = Some two_lists }

abbrev pub and_schedule : Contents
and_schedule = record and_list { schedule = Some schedule }

abbrev pub and_journal : Config → Contents
and_journal final = record and_shape { plain = Some (plain_entry expansion ∷ []); final_world = Some final }

-- ---- what is owed

-- in its first turn the amoebot expands, and in its second it is idle
abbrev pub expansion_report : Report
expansion_report = record {
  world = spread_config;
  journal = record { first = one_alone; entries = expansion ∷ []; spare = 1 };
  turns = record { turns = 2; marks = (mark.Done 0 ∷ mark.Idle 1 ∷ []) ∷ [] };
}

abbrev pub expansion_report_text : List ℕ
expansion_report_text = expansion_journal ++ spread_text ++ turns_section

-- of two callers the first expands it, and the second finds it idle
abbrev pub two_callers_report : Report
two_callers_report = record expansion_report {
  turns = record { turns = 1; marks = (mark.Done 0 ∷ []) ∷ (mark.Idle 1 ∷ []) ∷ [] };
}

abbrev pub both_text : List ℕ
both_text = expansion_journal ++ spread_text ++ two_turns_text

abbrev pub checked_text : List ℕ
checked_text = codes "amoebot 1\nprogram\nguard off\naction out\nwhen contracted\nmove expand head 0\nend\n"

abbrev pub shown_line : List ℕ
shown_line =
    codes "amoebot 1\nprogram\nguard off\naction out\nwhen contracted and free head 0\nmove expand head 0\n"
    ++ codes "action follow_up\nwhen expanded\nmove contract tail\nend\n"

-- the document of the expansion, with the values before
abbrev pub renewed_expansion : List ℕ
renewed_expansion =
    codes "amoebot 3\nprogram\nguard off\naction out\nwhen contracted\nmove expand head 0\nend\n"
    ++ codes "shape\narea 0 0 3 1\nbot 1 0 1 0 0 +\nend\n"
    ++ codes "journal\nentry 0 0 0 0 0 expand head 0 spot 2 0 empty to 0 "
    ++ codes "body 0 1 0 1 0 0 + to 2 0 1 0 0 +\nend\n"
    ++ spread_text

-- the end of an empty input is where the header is needed
abbrev pub empty_refused : Refusal
empty_refused = record { line = 1; kind = kind.Truncated }

pub record SmallAnswers : Type 0 where
  pub no_words : IsOwed (command_of []) nothing status.Words None usage_line
  pub two_words : IsOwed (command_of (codes "run" ∷ codes "now" ∷ [])) nothing status.Words None usage_line
  pub other_name : IsOwed (command_of (codes "show" ∷ codes "Line" ∷ [])) nothing status.Words None usage_line
  pub other_number : IsOwed
      (command_of (codes "sample" ∷ codes "-1" ∷ [])) nothing status.Words None usage_line
  pub fails : IsOwed (command_of (codes "run" ∷ []))
      (up_to_fault (codes "amoe")) status.ReadFault None (codes "read fault\n")
  pub long : (bytes : List ℕ)
      → IsOwed (command_of (codes "check" ∷ [])) (above bytes)
      (status.Refused too_long) None (codes "refused 0 TooLong\n")
  pub empty : IsOwed (command_of (codes "interleave" ∷ [])) (whole [])
      (status.Refused empty_refused) None (codes "refused 1 Truncated\n")
  pub run : IsOwed (command_of (codes "run" ∷ [])) (whole with_list) status.Done
      (Some expansion_report) expansion_report_text
  -- one of the reports that may be told of two lists
  pub two_lists : IsOwed (command_of (codes "run" ∷ []))
      (whole with_two_lists) status.Done (Some two_callers_report) both_text
  pub tickets : IsOwed (command_of (codes "tickets" ∷ []))
      (whole with_list) status.Done (Some expansion_report) expansion_report_text
  pub two_with_tickets : IsOwed (command_of (codes "tickets" ∷ [])) (whole with_two_lists)
      status.Done (Some two_callers_report) both_text
  pub interleave : IsOwed (command_of (codes "interleave" ∷ [])) (whole with_schedule)
      status.Done (Some expansion_report) expansion_report_text
  pub agrees : IsOwed (command_of (codes "replay" ∷ []))
      (whole (with_shape ++ expansion_journal ++ spread_text))
      status.Done None (codes "agrees 1\n")
  -- the final shape is that of the start
  pub differs : IsOwed (command_of (codes "replay" ∷ []))
      (whole (with_shape ++ expansion_journal ++ still_text))
      (status.Differs 1) None (codes "differs 1\n")
  pub renew : IsOwed (command_of (codes "renew" ∷ []))
      (whole (with_shape ++ expansion_journal ++ spread_text))
      status.Done None renewed_expansion
  pub renew_differs : IsOwed (command_of (codes "renew" ∷ []))
      (whole (with_shape ++ expansion_journal ++ still_text))
      (status.Differs 1) None (codes "differs 1\n")
  pub check : IsOwed (command_of (codes "check" ∷ [])) (whole program_text) status.Done None checked_text
  pub measure : IsOwed (command_of (codes "measure" ∷ [])) (whole with_nobody)
      status.Done None (codes "bots 0\nconnected yes\nhexagon no\n")
  pub show : IsOwed (command_of (codes "show" ∷ codes "line" ∷ [])) nothing status.Done None shown_line
  -- what is to be done for an input that is refused at once,
  -- and for a document of `run` and of `tickets`
  pub refused_task : IsTaskOf Interleave []
      (task.Answered (with_text (status.Refused empty_refused) (refusal_line empty_refused)))
  pub run_task : IsTaskOf Run with_list
      (task.Run (record {
        runner = out;
        world = one_alone;
        lists = one_list;
        telling = telling.Report 1;
        maker = maker.Workers;
      }))
  pub tickets_task : IsTaskOf Tickets with_list
      (task.Run (record {
        runner = out;
        world = one_alone;
        lists = one_list;
        telling = telling.Report 1;
        maker = maker.Tickets;
      }))
