-- The grammars of the sections as readers, put together as the grammars are.
use Rattle.std.specs.Prelude.{ℕ, Bool, true, false, List, [], codes}
use Rattle.tri_lattice.specs.Extent.{Extent, most_start, most_side}
use Rattle.text_tokens.specs.Reading.{Reader, ◌>>=◌, pure, one_within, numeral, closed, judged, repeated}
use Rattle.amoebot_state.specs.Configs.{Config}
use Rattle.shape_text.specs.Parts.{is_end, outside, one_more, may_have_walls}
use Rattle.shape_text.specs.PartReaders.{a_word, an_int, a_node, a_bot}
use Rattle.shape_text.specs.Shapes.{an_area_of, is_wall_word, WrittenWall, written_wall, past_walls, is_bot, WrittenBot, written_bot, past_bots, WrittenShape, written_shape, shape_fault, stands_for}

unfoldable pub a_side : Reader ℕ
a_side = numeral (outside 1 most_side)

unfoldable pub an_area : Reader Extent
an_area = do
  line ← a_word (codes "area")
  x0 ← an_int most_start
  y0 ← an_int most_start
  w ← a_side
  h ← a_side
  pure (an_area_of x0 y0 w h)

unfoldable pub wall_word : ℕ → Reader ℕ
wall_word before = one_within is_wall_word (past_walls before) >>= λ t. pure t.line

unfoldable pub a_wall_line : ℕ → Reader WrittenWall
a_wall_line before = wall_word before >>= λ line. a_node >>= λ v. pure (written_wall line v)

-- walls behind so many, where the text may have some
unfoldable pub walls_from : Bool → ℕ → Reader (List WrittenWall)
walls_from true before = repeated is_wall_word a_wall_line one_more before
walls_from false before = pure []

abbrev pub all_walls : Bool → Reader (List WrittenWall)
all_walls may = walls_from may 0

unfoldable pub bot_word : ℕ → Reader ℕ
bot_word before = one_within is_bot (past_bots before) >>= λ t. pure t.line

unfoldable pub a_bot_line : ℕ → ℕ → Reader WrittenBot
a_bot_line vars before = bot_word before >>= λ line. a_bot vars >>= λ b. pure (written_bot line b)

-- amoebots behind so many
unfoldable pub bots_from : ℕ → ℕ → Reader (List WrittenBot)
bots_from vars before = repeated is_bot (a_bot_line vars) one_more before

abbrev pub all_bots : ℕ → Reader (List WrittenBot)
all_bots vars = bots_from vars 0

unfoldable pub a_drawing : Bool → ℕ → Reader WrittenShape
a_drawing may vars = an_area >>= λ area. all_walls may >>= λ walls.
    all_bots vars >>= λ bots. pure (written_shape area walls bots)

unfoldable pub a_written_shape : Bool → List ℕ → ℕ → Reader WrittenShape
a_written_shape may text vars = a_word text >>= λ line. closed (a_drawing may vars) is_end

unfoldable pub shape_under : Bool → List ℕ → ℕ → List ℕ → Reader Config
shape_under may text vars maxes =
    judged (a_written_shape may text vars) (shape_fault maxes) >>= λ s. pure (stands_for maxes s)

abbrev pub a_shape : ℕ → ℕ → List ℕ → Reader Config
a_shape version = shape_under (may_have_walls version) (codes "shape")

abbrev pub a_final : ℕ → ℕ → List ℕ → Reader Config
a_final version = shape_under (may_have_walls version) (codes "final")
