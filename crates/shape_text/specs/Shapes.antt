-- The sections `shape` and `final`: an area, walls on it, and amoebots.
--   shape := "shape" area { wall } { bot } "end"
--   final := "final" area { wall } { bot } "end"
--   area  := "area" int int NUMBER NUMBER      where it begins, and how wide and high it is
--   wall  := "wall" node                       from version 2 on
--   bot   := "bot" amoebot
-- The ids of the amoebots are their places.
-- A beginning farther than 4,096 from 0 and a side that is not 1 to 128 is a BadRange.
-- The 16,385th `wall` is TooMany, and so is the 4,097th `bot`.
-- Behind `end` the walls are judged in their order, and then the amoebots by rising id,
-- as a world judges them.
-- The first that breaks a rule is refused at its word, for the first rule that it breaks.
use Rattle.std.specs.Prelude.{ℕ, ℤ, Bool, true, false, List, [], ◌∷◌, ◌++◌, Option, Some, None, map, codes, if◌then◌else◌}
use Rattle.std.specs.Option.{option_map, option_and_then, option_or}
use Rattle.tri_lattice.specs.declared.node.Node.{Node}
use Rattle.tri_lattice.specs.Extent.{Extent, most_start, most_side}
use Rattle.text_tokens.specs.declared.refusal.Refusal.{Refusal}
use Rattle.text_tokens.specs.declared.refusal.RefusalKind.{RefusalKind}
use Rattle.text_tokens.specs.declared.refusal.RefusalKind.TheVariants as kind
use Rattle.text_tokens.specs.Text.{Lexeme}
use Rattle.text_tokens.specs.Cursor.{on_line}
use Rattle.text_tokens.specs.Grammar.{Lang, IsOne, Then, Made, IsNothing, IsNumeral, Closed, Judged, Repeated}
use Rattle.amoebot_state.specs.declared.bot.Bot.{Bot}
use Rattle.amoebot_state.specs.declared.refusal.WorldRefusal.{WorldRefusal}
use Rattle.amoebot_state.specs.declared.refusal.WorldRefusal.TheVariants as world
use Rattle.amoebot_state.specs.Configs.{Config, walled_frame, with_these, with_bot}
use Rattle.amoebot_state.specs.Limits.{most_bots, most_walls}
use Rattle.amoebot_state.specs.Refusals.{bot_fault, is_bad_wall}
use Rattle.shape_text.specs.Parts.{word, is_end, outside, past_most, one_more, may_have_walls, IsWord, IsInt, IsNode, IsBotText}

-- ---- the area

-- a side of an area
abbrev pub IsSide : Lang ℕ
IsSide = IsNumeral (outside 1 most_side)

abbrev pub an_area_of : ℤ → ℤ → ℕ → ℕ → Extent
an_area_of x0 y0 w h = record { x0 = x0; y0 = y0; w = w; h = h }

abbrev pub IsAreaLine : Lang Extent
IsAreaLine =
    Then (IsWord (codes "area")) (λ line. Then (IsInt most_start) (λ x0. Then (IsInt most_start) (λ y0.
    Then IsSide (λ w. Made IsSide (λ h. an_area_of x0 y0 w h)))))

-- ---- the walls

abbrev pub is_wall_word : Lexeme → Bool
is_wall_word = word (codes "wall")

-- a wall as it is written, with the line of its word
pub record WrittenWall : Type 0 where
  pub line : ℕ
  pub node : Node

abbrev pub written_wall : ℕ → Node → WrittenWall
written_wall line v = record { line = line; node = v }

abbrev pub written_node : WrittenWall → Node
written_node w = w.node

-- one wall too many, behind so many
abbrev pub past_walls : ℕ → Lexeme → Option RefusalKind
past_walls before t = past_most most_walls before t

-- the word of a wall behind so many, for its line
abbrev pub IsWallWord : ℕ → Lang ℕ
IsWallWord before = Made (IsOne is_wall_word (past_walls before)) (λ t. t.line)

-- a wall behind so many
abbrev pub IsWallLine : ℕ → Lang WrittenWall
IsWallLine before = Then (IsWallWord before) (λ line. Made IsNode (λ v. written_wall line v))

-- walls, where the text may have some
abbrev pub AreWallLines : Bool → ℕ → Lang (List WrittenWall)
AreWallLines true before = Repeated IsWallLine one_more before
AreWallLines false before = IsNothing []

-- ---- the amoebots

abbrev pub is_bot : Lexeme → Bool
is_bot = word (codes "bot")

-- an amoebot as it is written, with the line of its word
pub record WrittenBot : Type 0 where
  pub line : ℕ
  pub bot : Bot

abbrev pub written_bot : ℕ → Bot → WrittenBot
written_bot line b = record { line = line; bot = b }

-- one amoebot too many, behind so many
abbrev pub past_bots : ℕ → Lexeme → Option RefusalKind
past_bots before t = past_most most_bots before t

-- the word of an amoebot behind so many, for its line
abbrev pub IsBotWord : ℕ → Lang ℕ
IsBotWord before = Made (IsOne is_bot (past_bots before)) (λ t. t.line)

-- an amoebot with the values of so many variables, behind so many
abbrev pub IsBotLine : ℕ → ℕ → Lang WrittenBot
IsBotLine vars before = Then (IsBotWord before) (λ line. Made (IsBotText vars) (λ b. written_bot line b))

abbrev pub AreBots : ℕ → ℕ → Lang (List WrittenBot)
AreBots vars before = Repeated (IsBotLine vars) one_more before

-- ---- the rules on walls and amoebots

-- for what is refused what a world refuses
abbrev pub kind_of : WorldRefusal → Option RefusalKind
kind_of (world.OutOfBox id) = Some kind.OutOfBox
kind_of (world.NotAdjacent id) = Some kind.NotAdjacent
kind_of (world.Overlap id) = Some kind.Overlap
kind_of (world.BadValue id) = Some kind.BadValue
kind_of (world.BadWall place) = Some kind.BadWall
kind_of (world.OnWall id) = Some kind.OnWall
kind_of world.NoMemory = None

-- the first wall that is outside the area, or equals one of these or an earlier one
abbrev pub first_bad_wall : Extent → List Node → List WrittenWall → Option Refusal
first_bad_wall a before [] = None
first_bad_wall a before (w ∷ ws) =
    if is_bad_wall a before w.node then Some (on_line w.line kind.BadWall)
    else first_bad_wall a (before ++ w.node ∷ []) ws

-- the rule that the next amoebot breaks beside those that are there
abbrev pub broken : Config → WrittenBot → Option Refusal
broken c b = option_map (on_line b.line) (option_and_then kind_of (bot_fault c b.bot))

-- the first rule that is broken, by rising id
abbrev pub first_broken : Config → List WrittenBot → Option Refusal
first_broken c [] = None
first_broken c (b ∷ bs) = option_or (broken c b) (first_broken (with_bot c b.bot) bs)

-- ---- the sections

-- a shape as it is written
pub record WrittenShape : Type 0 where
  pub area : Extent
  pub walls : List WrittenWall
  pub bots : List WrittenBot

abbrev pub written_shape : Extent → List WrittenWall → List WrittenBot → WrittenShape
written_shape area walls bots = record { area = area; walls = walls; bots = bots }

abbrev pub written_amoebot : WrittenBot → Bot
written_amoebot b = b.bot

-- a shape in a section with this word, with walls where the text may have some
abbrev pub IsWrittenShape : Bool → List ℕ → ℕ → Lang WrittenShape
IsWrittenShape may text vars =
    Then (IsWord text)
    (λ line. Closed (Then IsAreaLine (λ area. Then (AreWallLines may 0)
    (λ walls. Made (AreBots vars 0) (λ bots. written_shape area walls bots)))) is_end)

-- with these maxima of the variables: its frame, what is wrong with it,
-- and the configuration that it stands for
module _ (maxes : List ℕ) where
  abbrev pub shape_frame : WrittenShape → Config
  shape_frame s = walled_frame s.area (map written_node s.walls) maxes

  abbrev pub shape_fault : WrittenShape → Option Refusal
  shape_fault s = option_or (first_bad_wall s.area [] s.walls) (first_broken (shape_frame s) s.bots)

  abbrev pub stands_for : WrittenShape → Config
  stands_for s = with_these (shape_frame s) (map written_amoebot s.bots)

-- A shape under this word, with the values of so many variables, and these maxima of all eight.
-- The version is the document's.
abbrev pub IsShapeUnder : ℕ → List ℕ → ℕ → List ℕ → Lang Config
IsShapeUnder version text vars maxes =
    Made (Judged (IsWrittenShape (may_have_walls version) text vars) (shape_fault maxes)) (stands_for maxes)

abbrev pub IsShape : ℕ → ℕ → List ℕ → Lang Config
IsShape version = IsShapeUnder version (codes "shape")

abbrev pub IsFinal : ℕ → ℕ → List ℕ → Lang Config
IsFinal version = IsShapeUnder version (codes "final")
