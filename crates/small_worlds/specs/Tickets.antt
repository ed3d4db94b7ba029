-- A row of five nodes with two amoebots far apart, each of which expands to the right in a turn
-- of its own caller; commits draw tickets.
use Rattle.std.specs.Prelude.{◌≡◌, ℕ, List, [], ◌∷◌, pos, reverse}
use Rattle.std.specs.declared.option.Option.TheVariants.{None, Some}
use Rattle.tri_lattice.specs.Extent.{Extent}
use Rattle.amoebot_state.specs.declared.bot.Bot.{Bot}
use Rattle.amoebot_state.specs.declared.cell.CellName.TheVariants as name
use Rattle.amoebot_state.specs.declared.cell.Cell.TheVariants as cell
use Rattle.amoebot_state.specs.declared.verdict.Entry.{Entry}
use Rattle.amoebot_state.specs.declared.verdict.Moved.TheVariants as moved
use Rattle.amoebot_state.specs.Configs.{Config, frame_of, with_these}
use Rattle.amoebot_state.specs.Examples.{zeros}
use Rattle.model_ops.specs.Expansion.{expansion_verdict_shown}
use Rattle.claim_core.specs.declared.marks.Mark.TheVariants as mark
use Rattle.claim_core.specs.declared.report.Report.{Report}
use Rattle.claim_core.specs.Good.{Good}
use Rattle.claim_core.specs.Machine.{Setup, setup}
use Rattle.claim_core.specs.Merges.{IsMerge}
use Rattle.claim_core.specs.Reached.{IsReportOf}
use Rattle.claim_core.specs.Tickets.{ticket_after, TicketReached, own_lists}
use Rattle.small_worlds.specs.Rows.{node, bot_in_row, to_the_right}

abbrev pub long_area : Extent
long_area = record { x0 = pos 0; y0 = pos 0; w = 5; h = 1 }

abbrev pub long_frame : Config
long_frame = frame_of long_area zeros

-- the amoebots of the row
abbrev pub long_row : Bot → Bot → Config
long_row first second = with_these long_frame (first ∷ second ∷ [])

-- each of the two has one turn, in which it is to expand to the right
abbrev pub far_apart : Setup
far_apart =
    setup (expansion_verdict_shown to_the_right) (long_row (bot_in_row 0 0) (bot_in_row 3 3))
    (record { turns = 1; ids = (0 ∷ []) ∷ (1 ∷ []) ∷ [] })

-- Caller 0 wins body 0, (0, 0) and (1, 0); caller 1 wins body 1, (3, 0), (4, 0) and (2, 0).
-- Caller 1 commits first, in one step, and then caller 0.
-- Caller 1 frees its four cells, and caller 0 its three
abbrev pub ticket_steps : List ℕ
ticket_steps = 0 ∷ 0 ∷ 0 ∷ 1 ∷ 1 ∷ 1 ∷ 1 ∷ 1 ∷ 0 ∷ 1 ∷ 1 ∷ 1 ∷ 1 ∷ 0 ∷ 0 ∷ 0 ∷ []

-- the entry of a caller's only turn, on the amoebot with the caller's number,
-- which stood on a node and has its head on the next one
abbrev pub far_entry : ℕ → ℕ → ℕ → Entry
far_entry c tail head =
    record {
      caller = c;
      turn = 0;
      bot = c;
      action = 0;
      moved = moved.Expand to_the_right;
      patch = (name.Spot (node head), cell.Spot None, cell.Spot (Some c))
          ∷ (name.Body c, cell.Body (bot_in_row tail tail), cell.Body (bot_in_row head tail))
          ∷ [];
    }

-- what they leave: both have expanded their amoebots, caller 1 before caller 0
abbrev pub both_expanded : Report
both_expanded = record {
  world = long_row (bot_in_row 1 0) (bot_in_row 4 3);
  journal = record { first = far_apart.world; entries = far_entry 1 3 4 ∷ far_entry 0 0 1 ∷ []; spare = 0 };
  turns = record { turns = 1; marks = (mark.Done 1 ∷ []) ∷ (mark.Done 0 ∷ []) ∷ [] };
}

-- the own lists of the callers
abbrev pub far_lists : List (List (ℕ × Entry))
far_lists = ((1, far_entry 0 0 1) ∷ []) ∷ ((0, far_entry 1 3 4) ∷ []) ∷ []

pub record SmallTickets : Type 0 where
  pub left : IsReportOf far_apart (ticket_after far_apart (reverse ticket_steps)) both_expanded
  pub reached : TicketReached far_apart both_expanded
  pub good : Good far_apart.verdict far_apart.world far_apart.lists both_expanded
  pub lists : own_lists far_apart (reverse ticket_steps) ≡ far_lists
  pub merge : IsMerge far_lists both_expanded.journal.entries
