-- A row of three nodes with two amoebots side by side, each of which is to expand
-- to the right in a turn of its own caller.
use Rattle.std.specs.Prelude.{ℕ, List, [], ◌∷◌, pos, reverse}
use Rattle.std.specs.declared.option.Option.TheVariants.{None, Some}
use Rattle.tri_lattice.specs.declared.node.Node.{Node}
use Rattle.tri_lattice.specs.Extent.{Extent}
use Rattle.amoebot_state.specs.declared.bot.Bot.{Bot}
use Rattle.amoebot_state.specs.declared.bot.Port.{Port}
use Rattle.amoebot_state.specs.declared.bot.End.TheVariants.{Head}
use Rattle.amoebot_state.specs.declared.bot.Chir.TheVariants.{Plus}
use Rattle.amoebot_state.specs.declared.cell.CellName.TheVariants as name
use Rattle.amoebot_state.specs.declared.cell.Cell.TheVariants as cell
use Rattle.amoebot_state.specs.declared.verdict.Entry.{Entry}
use Rattle.amoebot_state.specs.declared.verdict.Moved.TheVariants as moved
use Rattle.amoebot_state.specs.Configs.{Config, frame_of, with_these}
use Rattle.amoebot_state.specs.Examples.{zeros}
use Rattle.model_ops.specs.Expansion.{expansion_verdict_shown}
use Rattle.claim_core.specs.declared.marks.Mark.TheVariants as mark
use Rattle.claim_core.specs.declared.report.Report.{Report}
use Rattle.claim_core.specs.Good.{Good}
use Rattle.claim_core.specs.Machine.{Setup, after}
use Rattle.claim_core.specs.Reached.{IsReportOf, Reached}

abbrev pub row_area : Extent
row_area = record { x0 = pos 0; y0 = pos 0; w = 3; h = 1 }

abbrev pub node : ℕ → Node
node x = record { x = pos x; y = pos 0 }

abbrev pub bot_in_row : ℕ → ℕ → Bot
bot_in_row head tail = record { head = node head; tail = node tail; rot = 0; chir = Plus; mem = zeros }

-- the row without an amoebot
abbrev pub row_frame : Config
row_frame = frame_of row_area zeros

-- two amoebots, of which the first is contracted on the first node
abbrev pub row_with : Bot → Config
row_with second = with_these row_frame (bot_in_row 0 0 ∷ second ∷ [])

abbrev pub to_the_right : Port
to_the_right = record { end = Head; dir = 0 }

-- each of the two, which stand side by side, has one turn, in which it is to expand to the right
abbrev pub two_beside : Setup
two_beside =
    record {
      verdict = expansion_verdict_shown to_the_right;
      world = row_with (bot_in_row 1 1);
      lists = record { turns = 1; ids = (0 ∷ []) ∷ (1 ∷ []) ∷ [] };
    }

-- Caller 1 wins body 1 and (1, 0); caller 0 wins body 0 and (0, 0), and finds (1, 0) held.
-- Caller 1 wins (2, 0).
-- Caller 0 reads the journal's length and frees its two cells.
-- Caller 1 wins (0, 0) and body 0, takes the journal, commits, and frees its five cells
abbrev pub interleaving : List ℕ
interleaving = 1 ∷ 1 ∷ 0 ∷ 0 ∷ 0 ∷ 1 ∷ 0 ∷ 0 ∷ 0 ∷ 1 ∷ 1 ∷ 1 ∷ 1 ∷ 1 ∷ 1 ∷ 1 ∷ 1 ∷ 1 ∷ []

-- what they leave: caller 1 has expanded its amoebot, and caller 0 was refused
abbrev pub expanded : Entry
expanded =
    record {
      caller = 1;
      turn = 0;
      bot = 1;
      action = 0;
      moved = moved.Expand to_the_right;
      patch = (name.Spot (node 2), cell.Spot None, cell.Spot (Some 1))
          ∷ (name.Body 1, cell.Body (bot_in_row 1 1), cell.Body (bot_in_row 2 1))
          ∷ [];
    }

abbrev pub one_refused : Report
one_refused = record {
  world = row_with (bot_in_row 2 1);
  journal = record { first = row_with (bot_in_row 1 1); entries = expanded ∷ []; spare = 0 };
  turns =
      record { turns = 1; marks = (mark.Busy (name.Spot (node 1)) 1 0 1 0 ∷ []) ∷ (mark.Done 0 ∷ []) ∷ [] };
}

pub record SmallInterleaving : Type 0 where
  pub left : IsReportOf two_beside (after two_beside (reverse interleaving)) one_refused
  pub reached : Reached two_beside one_refused
  pub good : Good two_beside.verdict two_beside.world two_beside.lists one_refused
