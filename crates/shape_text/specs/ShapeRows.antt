-- Some texts of shapes in version 1, with values for one variable of at most 3,
-- with their configuration or their first fault.
use Rattle.std.specs.Prelude.{ℕ, ℤ, pos, negsuc, List, [], ◌∷◌, ◌++◌, Ok, Err, codes}
use Rattle.tri_lattice.specs.Extent.{Extent}
use Rattle.text_tokens.specs.declared.refusal.RefusalKind.{RefusalKind}
use Rattle.text_tokens.specs.declared.refusal.RefusalKind.TheVariants.{BadByte, WordTooLong, Unexpected, TooMany, Truncated, BadRange, OutOfBox, Overlap, NotAdjacent, BadValue, Trailing}
use Rattle.text_tokens.specs.Cursor.{on_line}
use Rattle.amoebot_state.specs.declared.bot.Bot.{Bot}
use Rattle.amoebot_state.specs.declared.bot.Chir.{Chir}
use Rattle.amoebot_state.specs.declared.bot.Chir.TheVariants.{Plus, Minus}
use Rattle.amoebot_state.specs.Configs.{frame_of, with_these}
use Rattle.amoebot_state.specs.Examples.{eight_by_eight, zeros}
use Rattle.shape_text.specs.Parts.{a_node_of, a_bot_of}
use Rattle.text_tokens.specs.Inputs.{Says}
use Rattle.shape_text.specs.Shapes.{an_area_of, written_bot, AreBots, IsShape, IsFinal}

-- the maxima of the variables: of one, and of eight
abbrev pub up_to_3 : List ℕ
up_to_3 = 3 ∷ 0 ∷ 0 ∷ 0 ∷ 0 ∷ 0 ∷ 0 ∷ 0 ∷ []

abbrev pub rising : List ℕ
rising = 1 ∷ 2 ∷ 3 ∷ 4 ∷ 5 ∷ 6 ∷ 7 ∷ 255 ∷ []

-- an amoebot by its head, its tail, its rotation, its chirality and its values
abbrev pub shape_bot : ℤ → ℤ → ℤ → ℤ → ℕ → Chir → List ℕ → Bot
shape_bot hx hy tx ty rot chir values = a_bot_of (a_node_of hx hy) (a_node_of tx ty) rot chir values

-- a shape with this area and these amoebots
abbrev pub YieldsShape : List ℕ → Extent → List Bot → Type 0
YieldsShape text area bots = Says (IsShape 1 1 up_to_3) text (Ok (with_these (frame_of area up_to_3) bots))

-- a text with this first fault
abbrev pub FailsAsShape : List ℕ → ℕ → RefusalKind → Type 0
FailsAsShape text line kind = Says (IsShape 1 1 up_to_3) text (Err (on_line line kind))

-- the same of a text with an area of 8 by 8 nodes from (0, 0) on, and from line 3 on what follows
abbrev pub FailsInShape : List ℕ → ℕ → RefusalKind → Type 0
FailsInShape text line kind = FailsAsShape (codes "shape\narea 0 0 8 8\n" ++ text) line kind

pub record ShapesAreRead : Type 0 where
  -- ---- texts
  pub no_amoebot : YieldsShape (codes "shape area 0 0 8 8 end") eight_by_eight []
  pub long_and_round : YieldsShape
      (codes "shape\narea 0 0 8 8\nbot 3 3 2 3 5 - 3\nbot 7 0 7 0 0 + 0\nbot 0 7 0 7 1 + 1\nend\n")
      eight_by_eight
      (shape_bot (pos 3) (pos 3) (pos 2) (pos 3) 5 Minus (3 ∷ [])
      ∷ shape_bot (pos 7) (pos 0) (pos 7) (pos 0) 0 Plus (0 ∷ [])
      ∷ shape_bot (pos 0) (pos 7) (pos 0) (pos 7) 1 Plus (1 ∷ []) ∷ [])
  -- the farthest beginnings, the longest and the shortest sides
  pub left_above : YieldsShape
      (codes "shape area - 4096 4096 128 1 bot -4096 4096 -4096 4096 0 + 0 "
      ++ codes "bot -3969 4096 - 3970 4096 0 + 0 end")
      (an_area_of (negsuc 4095) (pos 4096) 128 1)
      (shape_bot (negsuc 4095) (pos 4096) (negsuc 4095) (pos 4096) 0 Plus (0 ∷ [])
      ∷ shape_bot (negsuc 3968) (pos 4096) (negsuc 3969) (pos 4096) 0 Plus (0 ∷ []) ∷ [])
  pub right_below : YieldsShape (codes "shape area 4096 -4096 1 128 bot 4096 -3969 4096 -3969 0 + 0 end")
      (an_area_of (pos 4096) (negsuc 4095) 1 128)
      (shape_bot (pos 4096) (negsuc 3968) (pos 4096) (negsuc 3968) 0 Plus (0 ∷ []) ∷ [])
  -- no variable, and eight
  pub no_value : Says (IsShape 1 0 zeros) (codes "shape area 0 0 8 8 bot 2 3 2 3 0 + end")
      (Ok (with_these (frame_of eight_by_eight zeros)
      (shape_bot (pos 2) (pos 3) (pos 2) (pos 3) 0 Plus [] ∷ [])))
  pub eight_values : Says (IsShape 1 8 rising)
      (codes "shape area 0 0 8 8 bot 2 3 2 3 0 + 1 2 3 4 5 6 7 255 end")
      (Ok (with_these (frame_of eight_by_eight rising)
      (shape_bot (pos 2) (pos 3) (pos 2) (pos 3) 0 Plus rising ∷ [])))
  pub last_shape : Says (IsFinal 1 1 up_to_3) (codes "final area 0 0 8 8 bot 2 3 2 3 0 + 1 end")
      (Ok (with_these (frame_of eight_by_eight up_to_3)
      (shape_bot (pos 2) (pos 3) (pos 2) (pos 3) 0 Plus (1 ∷ []) ∷ [])))
  -- the last amoebot that a shape may have
  pub last_amoebot : Says (AreBots 0 4095) (codes "bot 0 0 0 0 0 +")
      (Ok (written_bot 1 (shape_bot (pos 0) (pos 0) (pos 0) (pos 0) 0 Plus []) ∷ []))
  -- ---- numbers past their bounds
  pub x0_4097 : FailsAsShape (codes "shape area\n4097 0 8 8 end") 2 BadRange
  -- on the line of the number, not of its sign
  pub x0_minus_4097 : FailsAsShape (codes "shape area\n-\n4097 0 8 8 end") 3 BadRange
  pub y0_4097 : FailsAsShape (codes "shape area 0\n4097 8 8 end") 2 BadRange
  pub y0_minus_4097 : FailsAsShape (codes "shape area 0\n-4097 8 8 end") 2 BadRange
  pub w_0 : FailsAsShape (codes "shape area 0 0\n0 8 end") 2 BadRange
  pub w_129 : FailsAsShape (codes "shape area 0 0\n129 8 end") 2 BadRange
  pub h_0 : FailsAsShape (codes "shape area 0 0 8\n0 end") 2 BadRange
  pub h_129 : FailsAsShape (codes "shape area 0 0 8\n129 end") 2 BadRange
  pub coordinate_10000 : FailsInShape (codes "bot\n10000 3 2 3 0 + 0 end") 4 BadRange
  pub rotation_6 : FailsInShape (codes "bot 2 3 2 3\n6 + 0 end") 4 BadRange
  pub value_256 : FailsInShape (codes "bot 2 3 2 3 0 +\n256 end") 4 BadRange
  pub one_too_many : Says (AreBots 0 4095)
      (codes "bot 0 0 0 0 0 +\nbot 0 0 0 0 0 +") (Err (on_line 2 TooMany))
  -- before what else is wrong with it
  pub one_too_many_first : Says (AreBots 0 4096) (codes "bot\n10000 0 0 0 0 +") (Err (on_line 1 TooMany))
  -- ---- amoebots that break a rule
  pub head_right_of_it : FailsInShape (codes "bot\n8 3 7 3 0 + 0 end") 3 OutOfBox
  pub head_above_it : FailsInShape (codes "bot 0 8 0 7 0 + 0 end") 3 OutOfBox
  pub tail_left_of_it : FailsInShape (codes "bot 0 0 -1 0 0 + 0 end") 3 OutOfBox
  pub tail_below_it : FailsInShape (codes "bot 0 0 0 -1 0 + 0 end") 3 OutOfBox
  pub two_steps_long : FailsInShape (codes "bot 2 3 4 3 0 + 0 end") 3 NotAdjacent
  pub across : FailsInShape (codes "bot 2 3 3 4 0 + 0 end") 3 NotAdjacent
  pub same_node : FailsInShape (codes "bot 2 3 2 3 0 + 0\nbot 2 3 2 3 0 + 0 end") 4 Overlap
  pub tail_on_tail : FailsInShape (codes "bot 3 3 2 3 0 + 0\nbot 2 4 2 3 0 + 0 end") 4 Overlap
  pub value_4 : FailsInShape (codes "bot\n2 3 2 3 0 +\n4 end") 3 BadValue
  -- no variable, and a value above 0
  pub no_maximum : Says (IsShape 1 1 zeros)
      (codes "shape area 0 0 8 8\nbot 2 3 2 3 0 + 1 end") (Err (on_line 2 BadValue))
  -- ---- the first rule of an amoebot
  pub box_before_adjacent : FailsInShape (codes "bot 9 3 2 3 0 + 4 end") 3 OutOfBox
  pub adjacent_before_overlap : FailsInShape (codes "bot 2 3 2 3 0 + 0\nbot 2 3 4 3 0 + 4 end") 4 NotAdjacent
  pub overlap_before_value : FailsInShape (codes "bot 2 3 2 3 0 + 0\nbot 2 3 2 3 0 + 4 end") 4 Overlap
  -- ---- the first amoebot
  pub first_id : FailsInShape (codes "bot 2 3 2 3 0 + 4\nbot 9 3 9 3 0 + 0 end") 3 BadValue
  pub first_id_of_a_line : FailsInShape (codes "bot 2 3 2 3 0 + 4 bot 9 3 9 3 0 + 0 end") 3 BadValue
  pub second_of_three : FailsInShape
      (codes "bot 2 3 2 3 0 + 0\nbot 9 3 9 3 0 + 0\nbot 2 3 2 3 0 + 0 end") 4 OutOfBox
  pub third_on_the_second : FailsInShape
      (codes "bot 2 3 2 3 0 + 0\nbot 4 3 4 3 0 + 0\nbot 4 4 4 3 0 + 0 end") 5 Overlap
  -- ---- when they are judged: behind all of the grammar, and before what follows
  pub range_before_rule : FailsInShape (codes "bot 9 3 9 3 0 + 0\nbot 2 3 2 3 0 +\n256 end") 5 BadRange
  pub token_before_rule : FailsInShape (codes "bot 9 3 9 3 0 + 0\nlists") 4 Unexpected
  pub byte_before_rule : FailsInShape (codes "bot 9 3 9 3 0 + 0\n,") 4 BadByte
  pub end_before_rule : FailsInShape (codes "bot 9 3 9 3 0 + 0\n") 4 Truncated
  pub rule_before_token : FailsInShape (codes "bot 9 3 9 3 0 + 0 end\nlists") 3 OutOfBox
  pub rule_before_byte : FailsInShape (codes "bot 9 3 9 3 0 + 0 end\n,") 3 OutOfBox
  -- ---- tokens that do not belong there
  pub other_word : FailsAsShape (codes "final area 0 0 8 8 end") 1 Unexpected
  pub other_word_of_the_last : Says (IsFinal 1 1 up_to_3)
      (codes "shape area 0 0 8 8 end") (Err (on_line 1 Unexpected))
  pub no_area : FailsAsShape (codes "shape\nbot 2 3 2 3 0 + 0 end") 2 Unexpected
  pub three_numbers : FailsAsShape (codes "shape area 0 0 8\nend") 2 Unexpected
  pub five_numbers : FailsAsShape (codes "shape area 0 0 8 8\n8 end") 2 Unexpected
  pub side_with_sign : FailsAsShape (codes "shape area 0 0\n-8 8 end") 2 Unexpected
  pub two_areas : FailsInShape (codes "area 0 0 8 8 end") 3 Unexpected
  pub no_sign : FailsInShape (codes "bot 2 3 2 3 0\n0 end") 4 Unexpected
  pub value_missing : FailsInShape (codes "bot 2 3 2 3 0 +\nend") 4 Unexpected
  pub value_too_many : FailsInShape (codes "bot 2 3 2 3 0 + 0\n0 end") 4 Unexpected
  pub empty_body : FailsInShape (codes "bot\nempty end") 4 Unexpected
  pub sign_for_a_number : FailsInShape (codes "bot 2 3\n; end") 4 Unexpected
  pub bad_byte : FailsInShape (codes "bot 2 3\n, end") 4 BadByte
  pub long_number : FailsInShape (codes "bot\n0000000001 3 2 3 0 + 0 end") 4 WordTooLong
  pub without_end : FailsInShape (codes "bot 2 3 2 3 0 + 0\n") 4 Truncated
  pub empty_text : FailsAsShape [] 1 Truncated
  pub trailing : FailsInShape (codes "end\nshape") 4 Trailing
