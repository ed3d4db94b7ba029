-- Some texts of shapes in version 2, with values for one variable of at most 3,
-- with their configuration or their first fault.
use Rattle.std.specs.Prelude.{ℕ, pos, true, List, [], ◌∷◌, ◌++◌, Ok, Err, codes}
use Rattle.tri_lattice.specs.declared.node.Node.{Node}
use Rattle.text_tokens.specs.declared.refusal.RefusalKind.{RefusalKind}
use Rattle.text_tokens.specs.declared.refusal.RefusalKind.TheVariants.{BadByte, Unexpected, TooMany, Truncated, BadRange, OutOfBox, Overlap, NotAdjacent, BadValue, BadWall, OnWall}
use Rattle.text_tokens.specs.Cursor.{on_line}
use Rattle.text_tokens.specs.Inputs.{Says}
use Rattle.amoebot_state.specs.declared.bot.Bot.{Bot}
use Rattle.amoebot_state.specs.declared.bot.Chir.TheVariants.{Plus}
use Rattle.amoebot_state.specs.Configs.{walled_frame, with_these}
use Rattle.amoebot_state.specs.Examples.{eight_by_eight}
use Rattle.shape_text.specs.Parts.{a_node_of}
use Rattle.shape_text.specs.Shapes.{written_wall, AreWallLines, IsShape, IsFinal}
use Rattle.shape_text.specs.ShapeRows.{up_to_3, shape_bot}

-- a contracted amoebot on this node, and one whose head and tail are the nodes (3, 3) and (2, 3)
abbrev pub wall_bot : ℕ → ℕ → Bot
wall_bot x y = shape_bot (pos x) (pos y) (pos x) (pos y) 0 Plus (0 ∷ [])

abbrev pub long_bot : Bot
long_bot = shape_bot (pos 3) (pos 3) (pos 2) (pos 3) 0 Plus (0 ∷ [])

-- an area of 8 by 8 nodes from (0, 0) on, and from line 3 on what follows:
-- the walls and the amoebots that it has
abbrev pub YieldsWalls : List ℕ → List Node → List Bot → Type 0
YieldsWalls text walls bots =
    Says (IsShape 2 1 up_to_3) (codes "shape\narea 0 0 8 8\n" ++ text)
    (Ok (with_these (walled_frame eight_by_eight walls up_to_3) bots))

-- or its first fault
abbrev pub FailsWithWalls : List ℕ → ℕ → RefusalKind → Type 0
FailsWithWalls text line kind =
    Says (IsShape 2 1 up_to_3) (codes "shape\narea 0 0 8 8\n" ++ text) (Err (on_line line kind))

pub record WallsAreRead : Type 0 where
  -- ---- texts
  pub no_wall : YieldsWalls (codes "bot 2 3 2 3 0 + 0 end") [] (wall_bot 2 3 ∷ [])
  pub one_wall : YieldsWalls (codes "wall 3 3\nbot 2 3 2 3 0 + 0\nend\n")
      (a_node_of (pos 3) (pos 3) ∷ []) (wall_bot 2 3 ∷ [])
  pub walls_alone : YieldsWalls (codes "wall 7 7 wall 0 0 end")
      (a_node_of (pos 7) (pos 7) ∷ a_node_of (pos 0) (pos 0) ∷ []) []
  -- the configuration has no order of walls
  pub another_order : YieldsWalls (codes "wall 7 7 wall 0 0 end")
      (a_node_of (pos 0) (pos 0) ∷ a_node_of (pos 7) (pos 7) ∷ []) []
  pub beside_a_long_one : YieldsWalls (codes "wall 4 3 wall 1 3 bot 3 3 2 3 0 + 0 end")
      (a_node_of (pos 4) (pos 3) ∷ a_node_of (pos 1) (pos 3) ∷ []) (long_bot ∷ [])
  pub last_shape : Says (IsFinal 2 1 up_to_3) (codes "final area 0 0 8 8 wall 3 3 end")
      (Ok (with_these (walled_frame eight_by_eight (a_node_of (pos 3) (pos 3) ∷ []) up_to_3) []))
  -- the last wall that a shape may have, and one more
  pub last_wall : Says (AreWallLines true 16383) (codes "wall 0 0")
      (Ok (written_wall 1 (a_node_of (pos 0) (pos 0)) ∷ []))
  pub one_too_many : Says (AreWallLines true 16383) (codes "wall 0 0\nwall 0 0") (Err (on_line 2 TooMany))
  -- before what else is wrong with it
  pub one_too_many_first : Says (AreWallLines true 16384) (codes "wall\n10000 0") (Err (on_line 1 TooMany))
  -- ---- where no wall may stand
  pub right_of_it : FailsWithWalls (codes "wall\n8 0 end") 3 BadWall
  pub above_it : FailsWithWalls (codes "wall\n0 8 end") 3 BadWall
  pub left_of_it : FailsWithWalls (codes "wall -1 0 end") 3 BadWall
  pub below_it : FailsWithWalls (codes "wall 0 -1 end") 3 BadWall
  pub twice : FailsWithWalls (codes "wall 3 3\nwall 3 3 end") 4 BadWall
  pub twice_behind_another : FailsWithWalls (codes "wall 3 3\nwall 4 4\nwall 3 3 end") 5 BadWall
  pub first_outside : FailsWithWalls (codes "wall 3 3\nwall 8 8\nwall 3 3 end") 4 BadWall
  -- ---- amoebots on walls
  pub on_it : FailsWithWalls (codes "wall 2 3\nbot 2 3 2 3 0 + 0 end") 4 OnWall
  pub head_on_it : FailsWithWalls (codes "wall 3 3\nbot\n3 3 2 3 0 + 0 end") 4 OnWall
  pub tail_on_it : FailsWithWalls (codes "wall 2 3\nbot 3 3 2 3 0 + 0 end") 4 OnWall
  pub second_on_it : FailsWithWalls (codes "wall 5 5\nbot 2 3 2 3 0 + 0\nbot 5 5 5 5 0 + 0 end") 5 OnWall
  -- ---- the first rule
  pub wall_before_bot : FailsWithWalls (codes "wall 8 0\nbot 9 3 9 3 0 + 0 end") 3 BadWall
  pub box_before_wall : FailsWithWalls (codes "wall 7 3\nbot 8 3 7 3 0 + 0 end") 4 OutOfBox
  pub adjacent_before_wall : FailsWithWalls (codes "wall 2 3\nbot 2 3 4 3 0 + 0 end") 4 NotAdjacent
  pub wall_before_overlap : FailsWithWalls
      (codes "wall 2 3\nbot 3 3 3 3 0 + 0\nbot 3 3 2 3 0 + 0 end") 5 OnWall
  pub wall_before_value : FailsWithWalls (codes "wall 2 3\nbot 2 3 2 3 0 + 4 end") 4 OnWall
  pub first_of_two : FailsWithWalls
      (codes "wall 5 5\nbot 2 3 2 3 0 + 0\nbot 2 3 2 3 0 + 0\nbot 5 5 5 5 0 + 0 end") 5 Overlap
  pub value_of_the_first : FailsWithWalls
      (codes "wall 5 5\nbot 2 3 2 3 0 + 4\nbot 5 5 5 5 0 + 0 end") 4 BadValue
  -- ---- numbers and tokens
  pub coordinate_10000 : FailsWithWalls (codes "wall\n10000 0 end") 4 BadRange
  pub range_before_rule : FailsWithWalls (codes "wall 8 0\nbot 2 3 2 3\n6 + 0 end") 5 BadRange
  pub number_missing : FailsWithWalls (codes "wall 3\nbot 2 3 2 3 0 + 0 end") 4 Unexpected
  pub number_too_many : FailsWithWalls (codes "wall 3 3\n3 end") 4 Unexpected
  pub behind_a_bot : FailsWithWalls (codes "bot 2 3 2 3 0 + 0\nwall 3 3 end") 4 Unexpected
  pub bad_byte : FailsWithWalls (codes "wall 3\n, end") 4 BadByte
  pub without_end : FailsWithWalls (codes "wall 3 3\n") 4 Truncated
  -- ---- version 1 has no word for it
  pub in_version_1 : Says (IsShape 1 1 up_to_3)
      (codes "shape area 0 0 8 8\nwall 3 3 end") (Err (on_line 2 Unexpected))
  pub last_in_version_1 : Says (IsFinal 1 1 up_to_3)
      (codes "final area 0 0 8 8\nwall 3 3 end") (Err (on_line 2 Unexpected))
