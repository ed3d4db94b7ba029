-- For `elect` of the program `erosion` calls and what they owe; a world that is a ready start,
-- and one that is elected.
-- One amoebot stands on a row of three nodes, or none does.
use Rattle.std.specs.Prelude.{ℕ, List, [], ◌∷◌, ◌++◌, codes}
use Rattle.std.specs.declared.option.Option.TheVariants.{None}
use Rattle.amoebot_state.specs.declared.bot.Bot.{Bot}
use Rattle.amoebot_state.specs.declared.cell.CellName.TheVariants as name
use Rattle.amoebot_state.specs.declared.cell.Cell.TheVariants as cell
use Rattle.amoebot_state.specs.declared.verdict.Entry.{Entry}
use Rattle.amoebot_state.specs.declared.verdict.Moved.TheVariants as moved
use Rattle.amoebot_state.specs.Configs.{Config, frame_of, with_these}
use Rattle.small_worlds.specs.Rows.{row_area, bot_in_row}
use Rattle.shipped_programs.specs.Texts.{text_of_erosion}
use Rattle.election_law.specs.Elections.{IsReadyStart, IsElected}
use Rattle.commands.specs.Words.{command_of}
use Rattle.document_answers.specs.declared.status.Status.TheVariants as status
use Rattle.commands.specs.Lines.{bad_start}
use Rattle.commands.specs.Owed.{IsOwed}
use Rattle.commands.specs.Reads.{whole}

-- ---- texts

abbrev pub with_erosion : List ℕ
with_erosion = codes "amoebot 1\n" ++ text_of_erosion

-- its shape has one amoebot, which is a candidate
abbrev pub with_candidate : List ℕ
with_candidate = with_erosion ++ codes "shape\narea 0 0 3 1\nbot 1 0 1 0 0 + 1 0\nend\n"

abbrev pub erosion_with_nobody : List ℕ
erosion_with_nobody =
    with_erosion ++ codes "shape\narea 0 0 3 1\nend\njournal\nend\nfinal\narea 0 0 3 1\nend\n"

-- the journal has no entry
abbrev pub before_it_leads : List ℕ
before_it_leads = with_candidate ++ codes "journal\nend\nfinal\narea 0 0 3 1\nbot 1 0 1 0 0 + 1 0\nend\n"

-- by action 0 the amoebot becomes the leader, since no neighbour is a candidate
abbrev pub once_it_leads : List ℕ
once_it_leads =
    with_candidate ++ codes "journal\nentry 0 0 0 0 0 none body 0 1 0 1 0 0 + 1 1\nend\n"
    ++ codes "final\narea 0 0 3 1\nbot 1 0 1 0 0 + 1 1\nend\n"

-- the row at the end has four nodes
abbrev pub in_other_area : List ℕ
in_other_area = with_candidate ++ codes "journal\nend\nfinal\narea 0 0 4 1\nbot 1 0 1 0 0 + 1 0\nend\n"

-- ---- what they say

-- `cand` and `leader` are at most 1, and the program has no other variable
abbrev pub erosion_row : Config
erosion_row = frame_of row_area (1 ∷ 1 ∷ 0 ∷ 0 ∷ 0 ∷ 0 ∷ 0 ∷ 0 ∷ [])

-- a candidate on the node in the middle, with a value of `leader`
abbrev pub candidate_bot : ℕ → Bot
candidate_bot leader = record (bot_in_row 1 1) { mem = 1 ∷ leader ∷ 0 ∷ 0 ∷ 0 ∷ 0 ∷ 0 ∷ 0 ∷ [] }

abbrev pub one_candidate : Config
one_candidate = with_these erosion_row (candidate_bot 0 ∷ [])

abbrev pub one_leader : Config
one_leader = with_these erosion_row (candidate_bot 1 ∷ [])

abbrev pub candidate_elsewhere : Config
candidate_elsewhere = record one_candidate { area = record row_area { w = 4 } }

-- it becomes the leader
abbrev pub leading : Entry
leading = record {
  caller = 0;
  turn = 0;
  bot = 0;
  action = 0;
  moved = moved.None;
  patch = (name.Body 0, cell.Body (candidate_bot 0), cell.Body (candidate_bot 1)) ∷ [];
}

-- ---- what is owed

pub record SmallElections : Type 0 where
  pub ready : IsReadyStart one_candidate
  pub elected : IsElected one_leader
  -- without an entry it does not lead yet
  pub candidate : IsOwed (command_of (codes "elect" ∷ []))
      (whole before_it_leads) status.Done None (codes "candidates 1\nleader none\n")
  pub leader : IsOwed (command_of (codes "elect" ∷ []))
      (whole once_it_leads) status.Done None (codes "candidates 1\nleader 0\n")
  pub other_area : IsOwed (command_of (codes "elect" ∷ []))
      (whole in_other_area) (status.Differs 0) None (codes "differs 0\n")
  pub nobody : IsOwed (command_of (codes "elect" ∷ [])) (whole erosion_with_nobody)
      (status.Refused bad_start) None (codes "refused 0 BadStart\n")
