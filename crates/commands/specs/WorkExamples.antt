-- What the commands leave of two amoebots that stand side by side on a row of three nodes,
-- where the program expands a contracted amoebot to the right.
use Rattle.std.specs.Prelude.{◌≡◌, ℕ, List, [], ◌∷◌, ◌++◌, codes, true, false}
use Rattle.std.specs.declared.option.Option.TheVariants.{Some, None}
use Rattle.amoebot_state.specs.declared.cell.CellName.TheVariants as name
use Rattle.amoebot_state.specs.declared.cell.Cell.TheVariants as cell
use Rattle.amoebot_state.specs.declared.verdict.Entry.{Entry}
use Rattle.amoebot_state.specs.declared.verdict.Verdict.{Verdict}
use Rattle.amoebot_state.specs.Configs.{Config, with_these}
use Rattle.amoebot_state.specs.Zones.{Shown}
use Rattle.amoebot_state.specs.Steps.{plain_entry}
use Rattle.serial_model.specs.Forms.{full_entry}
use Rattle.claim_core.specs.declared.marks.Mark.TheVariants as mark
use Rattle.claim_core.specs.declared.report.Report.{Report}
use Rattle.claim_core.specs.Reached.{Reached}
use Rattle.claim_core.specs.Turns.{CallerLists}
use Rattle.round_meter.specs.Meters.{Metered, GoesOnIn, waiting_of}
use Rattle.small_worlds.specs.Rows.{node, row_frame, row_with, bot_in_row, two_beside, expanded, one_refused}
use Rattle.action_print.specs.Pins.{counting}
use Rattle.document_answers.specs.Check.{check_text}
use Rattle.commands.specs.Elect.{election_text}
use Rattle.document_answers.specs.Reports.{report_text}
use Rattle.commands.specs.Run.{IsRunReport}
use Rattle.document_answers.specs.Interleave.{IsInterleaveReport}
use Rattle.document_answers.specs.Renew.{renewed_text}
use Rattle.document_answers.specs.Replay.{agrees_line}
use Rattle.document_answers.specs.Measure.{IsMeasureText}
use Rattle.document_answers.specs.Rounds.{AgreesInRounds, CountedIn, rounds_text}
use Rattle.commands.specs.Sample.{IsSampleText}
use Rattle.document_answers.specs.Journals.{Agrees, AgreesIn, DiffersAt, differs_line}

-- the shape at the start, and the one in which the second amoebot has expanded
abbrev pub start : Config
start = row_with (bot_in_row 1 1)

abbrev pub second_spread : Config
second_spread = row_with (bot_in_row 2 1)

abbrev pub decides : Shown → Verdict
decides = two_beside.verdict

-- one list, of the second amoebot alone, and two turns: it expands, and then it is idle
abbrev pub second_list : CallerLists
second_list = record { turns = 2; ids = (1 ∷ []) ∷ [] }

abbrev pub second_expansion : Entry
second_expansion = record expanded { caller = 0 }

-- the same with an old value that is another: the node was no amoebot's
abbrev pub other_old_value : Entry
other_old_value =
    record second_expansion {
      patch = (name.Spot (node 2), cell.Spot (Some 0), cell.Spot (Some 1))
          ∷ (name.Body 1, cell.Body (bot_in_row 1 1), cell.Body (bot_in_row 2 1))
          ∷ [];
    }

abbrev pub one_expanded : Report
one_expanded = record {
  world = second_spread;
  journal = record { first = start; entries = second_expansion ∷ []; spare = 1 };
  turns = record { turns = 2; marks = (mark.Done 0 ∷ mark.Idle 1 ∷ []) ∷ [] };
}

-- its journal in versions 1 and 2, and in version 3; and what stands behind it
abbrev pub its_plain_journal : List ℕ
its_plain_journal = codes "journal\nentry 0 0 0 1 0 expand head 0 spot 2 0 1 body 1 2 0 1 0 0 +\nend\n"

abbrev pub its_journal : List ℕ
its_journal =
    codes "journal\nentry 0 0 0 1 0 expand head 0 spot 2 0 empty to 1 "
    ++ codes "body 1 1 0 1 0 0 + to 2 0 1 0 0 +\nend\n"

abbrev pub its_end : List ℕ
its_end = codes "final\narea 0 0 3 1\nbot 0 0 0 0 0 +\nbot 2 0 1 0 0 +\n"
    ++ codes "end\nturns\nturn 0 0 done 0\nturn 0 1 idle 1\nend\n"

-- Two lists of one turn. Caller 0 finds a node of caller 1 held and gives up.
-- Caller 1 goes on until it has committed and freed a cell. The rounds free its other four.
abbrev pub two_caller_schedule : List ℕ
two_caller_schedule = 1 ∷ 1 ∷ 0 ∷ 0 ∷ 0 ∷ 1 ∷ 0 ∷ 0 ∷ 0 ∷ 1 ∷ 1 ∷ 1 ∷ 1 ∷ 1 ∷ []

abbrev pub counting_program : List ℕ
counting_program =
    codes "program\nguard off\nvar m 3\naction a\nwhen ( m = 0 or m = 1 ) and not contracted\n"
    ++ codes "do m := m + 1 ; if m > 2 then m := 0 fi\nmove contract tail\nend\n"

-- a document of another program, which has a variable, written anew with that expansion
abbrev pub counting_renewed : List ℕ
counting_renewed =
    codes "amoebot 3\n" ++ counting_program
    ++ codes "shape\narea 0 0 3 1\nbot 0 0 0 0 0 + 0\nbot 1 0 1 0 0 + 0\nend\n"
    ++ codes "journal\nentry 0 0 0 1 0 expand head 0 spot 2 0 empty to 1 "
    ++ codes "body 1 1 0 1 0 0 + 0 to 2 0 1 0 0 + 0\nend\n"
    ++ codes "final\narea 0 0 3 1\nbot 0 0 0 0 0 + 0\nbot 2 0 1 0 0 + 0\nend\n"

-- the row without an amoebot
abbrev pub nobody : Config
nobody = row_frame

-- with one amoebot alone, and with two that have a node between them
abbrev pub one_alone : Config
one_alone = with_these row_frame (bot_in_row 1 1 ∷ [])

abbrev pub two_apart : Config
two_apart = row_with (bot_in_row 2 2)

-- What a meter keeps at the start, and once the second amoebot has expanded.
-- The first amoebot is not enabled before and behind that.
-- The entry settles the second one, and so it ends the first round.
abbrev pub meter_at_start : Metered
meter_at_start = record {
  world = start;
  standings = record { enabled = false; settled_in = 0 } ∷ record { enabled = true; settled_in = 0 } ∷ [];
  fed = 0;
  rounds = 0;
}

abbrev pub meter_behind : Metered
meter_behind = record {
  world = second_spread;
  standings = record { enabled = false; settled_in = 1 } ∷ record { enabled = false; settled_in = 1 } ∷ [];
  fed = 1;
  rounds = 1;
}

pub record SmallCommands : Type 0 where
  pub run : IsRunReport Reached decides start second_list one_expanded
  -- a run of two lists may leave what an interleaving of them leaves
  pub two_lists : IsRunReport Reached decides start two_beside.lists one_refused
  pub text : report_text 2 0 one_expanded ≡ its_plain_journal ++ its_end
  pub text_in_full : report_text 3 0 one_expanded ≡ its_journal ++ its_end
  pub interleave : IsInterleaveReport decides start two_beside.lists two_caller_schedule one_refused
  pub agrees : Agrees decides start (second_expansion ∷ []) second_spread
  -- the amoebot is expanded when it is to expand again
  pub differs : DiffersAt full_entry decides start (second_expansion ∷ second_expansion ∷ []) second_spread 1
  pub other_shape : DiffersAt full_entry decides start (second_expansion ∷ []) start 1
  -- the first amoebot rests, since the second one stands before it, and the second one acts:
  -- a round, after which both rest
  pub one_round : AgreesInRounds decides start (second_expansion ∷ []) second_spread 1 0
  -- a meter counts that round, and nobody waits then
  pub goes_on : GoesOnIn plain_entry decides (plain_entry second_expansion) meter_at_start meter_behind
  pub nobody_waits : waiting_of meter_behind ≡ 0
  -- the same entries without their old values
  pub plain_agrees : AgreesIn plain_entry decides start (plain_entry second_expansion ∷ []) second_spread
  pub plain_round : CountedIn plain_entry decides start (plain_entry second_expansion ∷ []) second_spread 1 0
  pub plain_differs : DiffersAt plain_entry decides start
      (plain_entry second_expansion ∷ plain_entry second_expansion ∷ []) second_spread 1
  -- with another old value the entry is no step; without it, that does not show
  pub other_old : DiffersAt full_entry decides start (other_old_value ∷ []) second_spread 0
  pub no_old : AgreesIn plain_entry decides start (plain_entry other_old_value ∷ []) second_spread
  pub agrees_line : agrees_line 12 ≡ codes "agrees 12\n"
  pub check_text : check_text 1 counting ≡ codes "amoebot 1\n" ++ counting_program
  pub renewed : renewed_text counting start (second_expansion ∷ []) second_spread ≡ counting_renewed
  pub differs_line : differs_line 0 ≡ codes "differs 0\n"
  pub rounds_lines : rounds_text 2 10 ≡ codes "rounds 2\nwaiting 10\n"
  pub led : election_text 1 (Some 0) ≡ codes "candidates 1\nleader 0\n"
  pub no_leader : election_text 6 None ≡ codes "candidates 6\nleader none\n"
  pub measure : IsMeasureText nobody (codes "bots 0\nconnected yes\nhexagon no\n")
  pub hexagon : IsMeasureText one_alone (codes "bots 1\nconnected yes\nhexagon yes\n")
  pub apart : IsMeasureText two_apart (codes "bots 2\nconnected no\nhexagon no\n")
  -- the six lines, as if the run of one list were that of a number's sample
  pub sample : IsSampleText decides start second_list 7 one_expanded
      (codes "sample 7\nbots 2\ncallers 1\nturns 2\nconnected yes\nreplay yes\n")
