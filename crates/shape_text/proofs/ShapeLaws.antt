-- The readers of shapes are parts for their grammars.
use Rattle.std.proofs.Common.{◌≡◌, ℕ, Bool, true, false, List, [], ◌∷◌, Some, refl}
use Rattle.std.specs.Prelude.{◌||◌, codes}
use Rattle.tri_lattice.specs.Extent.{Extent}
use Rattle.text_tokens.specs.declared.token.TokenKind.TheVariants.{Word}
use Rattle.text_tokens.specs.Text.{Lexeme}
use Rattle.text_tokens.specs.Reading.{◌>>=◌, pure, first, no_limit}
use Rattle.text_tokens.specs.Grammar.{Symbol, tokens, Lang, Then, Made, Judged}
use Rattle.text_tokens.specs.Lawful.{Exact, IsPart, always, Starts, StartsIn, Meets, AreElements}
use Rattle.text_tokens.proofs.Exactness.{exact}
use Rattle.text_tokens.proofs.CarriedTexts.{part_made}
use Rattle.text_tokens.proofs.Parts.{part_nothing, part_less, part_before, part_judged}
use Rattle.text_tokens.proofs.StartsLemmas.{starts_in, starts_in_more, starts_in_made, starts_in_repeated, starts_judged}
use Rattle.text_tokens.proofs.RepeatedLemmas.{part_repeated}
use Rattle.text_tokens.proofs.LexemeLemmas.{other_text, a_numeral}
use Rattle.text_tokens.proofs.JoinedParts.{one_behind, into, starts_behind, starts_into}
use Rattle.shape_text.specs.Parts.{word, is_end, outside, one_more, may_have_walls, IsWord, IsNode, IsBotText}
use Rattle.shape_text.specs.PartReaders.{a_word, a_node, a_bot}
use Rattle.shape_text.proofs.PartLaws.{up_to_end, starts_word, part_word, part_word_within, starts_word_within, part_int, part_node, part_bot}
use Rattle.shape_text.specs.Shapes.{IsSide, an_area_of, IsAreaLine, is_wall_word, WrittenWall, written_wall, past_walls, IsWallWord, IsWallLine, AreWallLines, is_bot, WrittenBot, written_bot, past_bots, IsBotWord, IsBotLine, AreBots, WrittenShape, written_shape, IsWrittenShape, shape_fault, stands_for, IsShapeUnder, IsShape, IsFinal}
use Rattle.shape_text.specs.Readers.{a_side, an_area, wall_word, a_wall_line, walls_from, bot_word, a_bot_line, bots_from, a_drawing, a_written_shape, shape_under, a_shape, a_final}

-- ---- the area

part_side : IsPart IsSide a_side always
unfolding a_side
part_side = a_numeral (outside 1 128)

part_area : IsPart IsAreaLine an_area always
unfolding an_area
part_area = one_behind (part_word (codes "area") refl) (λ line. one_behind (part_int 4096) (λ x0. one_behind (part_int 4096) (λ y0. one_behind part_side (λ w. into (λ h. an_area_of x0 y0 w h) part_side))))

-- ---- the walls

part_wall_word : (before : ℕ) → IsPart (IsWallWord before) (wall_word before) always
unfolding wall_word
part_wall_word before = part_word_within (codes "wall") (past_walls before) refl

part_its_node : (line : ℕ) → IsPart (Made IsNode (λ v. written_wall line v)) (a_node >>= λ v. pure (written_wall line v)) always
part_its_node line = into (λ v. written_wall line v) part_node

part_wall_line : (before : ℕ) → IsPart (IsWallLine before) (a_wall_line before) always
unfolding a_wall_line
part_wall_line before = one_behind (part_wall_word before) part_its_node

-- what stands behind walls: an amoebot or the end
abbrev pub is_behind_walls : Lexeme → Bool
is_behind_walls t = is_bot t || is_end t

no_wall : (t : Lexeme) → is_behind_walls t ≡ true → is_wall_word t ≡ false
no_wall t e = by (is_bot t) refl e
  where
    by : (b : Bool) → is_bot t ≡ b → b || is_end t ≡ true → is_wall_word t ≡ false
    by true is f = other_text Word (codes "bot") (codes "wall") t refl is
    by false is f = other_text Word (codes "end") (codes "wall") t refl f

pub wall_elements : AreElements IsWallLine a_wall_line is_wall_word always is_behind_walls
wall_elements = record {
  over = past_walls;
  start = λ before. starts_behind (starts_word_within (codes "wall") (past_walls before)) part_its_node;
  part = part_wall_line;
  again = λ t e. refl;
  ends = λ t e. refl;
  differ = no_wall;
}

pub part_walls : (may : Bool) (before : ℕ) → IsPart (AreWallLines may before) (walls_from may before) is_behind_walls
unfolding walls_from
part_walls true before = part_repeated IsWallLine a_wall_line one_more is_wall_word always is_behind_walls wall_elements before
part_walls false before = part_less (AreWallLines false before) (pure []) always is_behind_walls (λ t e. refl) (part_nothing [])

-- ---- the amoebots

part_bot_word : (before : ℕ) → IsPart (IsBotWord before) (bot_word before) always
unfolding bot_word
part_bot_word before = part_word_within (codes "bot") (past_bots before) refl

module _ (vars : ℕ) where
  part_its_bot : (line : ℕ) → IsPart (Made (IsBotText vars) (λ b. written_bot line b)) (a_bot vars >>= λ b. pure (written_bot line b)) always
  part_its_bot line = into (λ b. written_bot line b) (part_bot vars)

  part_bot_line : (before : ℕ) → IsPart (IsBotLine vars before) (a_bot_line vars before) always
  unfolding a_bot_line
  part_bot_line before = one_behind (part_bot_word before) part_its_bot

  starts_bot_line : (before : ℕ) → Starts (IsBotLine vars before) is_bot (past_bots before)
  starts_bot_line before = starts_behind (starts_word_within (codes "bot") (past_bots before)) part_its_bot

  pub bot_elements : AreElements (IsBotLine vars) (a_bot_line vars) is_bot always is_end
  bot_elements = record {
    over = past_bots;
    start = starts_bot_line;
    part = part_bot_line;
    again = λ t e. refl;
    ends = λ t e. refl;
    differ = λ t e. other_text Word (codes "end") (codes "bot") t refl e;
  }

  pub part_bots : (before : ℕ) → IsPart (AreBots vars before) (bots_from vars before) is_end
  unfolding bots_from
  part_bots before = part_repeated (IsBotLine vars) (a_bot_line vars) one_more is_bot always is_end bot_elements before

  abbrev pub Behind : List WrittenWall → Extent → Lang WrittenShape
  Behind walls area = Made (AreBots vars 0) (λ bots. written_shape area walls bots)

  abbrev pub Filling : Bool → Extent → Lang WrittenShape
  Filling may area = Then (AreWallLines may 0) (λ walls. Behind walls area)

  abbrev pub Drawing : Bool → Lang WrittenShape
  Drawing may = Then IsAreaLine (Filling may)

  bots_begin : StartsIn (AreBots vars 0) is_behind_walls
  bots_begin = starts_in_more (AreBots vars 0) is_bot is_behind_walls (λ t e. rw e refl)
      (starts_in_repeated (IsBotLine vars) one_more is_bot (λ before. starts_in (IsBotLine vars before) is_bot (past_bots before) (starts_bot_line before)) 0)

  part_filling : (may : Bool) (area : Extent) → IsPart (Filling may area) (walls_from may 0 >>= λ walls. bots_from vars 0 >>= λ bots. pure (written_shape area walls bots)) is_end
  part_filling may area = part_before (AreWallLines may 0) (walls_from may 0) (λ walls. Behind walls area) (λ walls. bots_from vars 0 >>= λ bots. pure (written_shape area walls bots)) is_behind_walls is_end (part_walls may 0)
      (λ walls. into (λ bots. written_shape area walls bots) (part_bots 0))
      (λ walls. record { begins = starts_in_made (AreBots vars 0) (λ bots. written_shape area walls bots) is_behind_walls bots_begin; empty = λ xs s t is e f. ended t f })
    where
      ended : (t : Lexeme) → is_end t ≡ true → is_behind_walls t ≡ true
      ended t e = by (is_bot t)
        where
          by : (b : Bool) → b || is_end t ≡ true
          by true = refl
          by false = e

  part_drawing : (may : Bool) → IsPart (Drawing may) (a_drawing may vars) is_end
  unfolding a_drawing
  part_drawing may = one_behind part_area (part_filling may)

  -- ---- the sections

  module _ (may : Bool) (text : List ℕ) (is : IsPart (IsWord text) (a_word text) always) where
    part_written : IsPart (IsWrittenShape may text vars) (a_written_shape may text vars) always
    unfolding a_written_shape
    part_written = one_behind is (λ line. up_to_end (part_drawing may))

    part_shape_of : (maxes : List ℕ) → IsPart (Made (Judged (IsWrittenShape may text vars) (shape_fault maxes)) (stands_for maxes)) (shape_under may text vars maxes) always
    unfolding shape_under
    part_shape_of maxes = part_made (Judged (IsWrittenShape may text vars) (shape_fault maxes)) (stands_for maxes) _ always (part_judged (IsWrittenShape may text vars) (a_written_shape may text vars) (shape_fault maxes) always part_written)

  part_shape_under : (version : ℕ) (text : List ℕ) → IsPart (IsWord text) (a_word text) always → (maxes : List ℕ) → IsPart (IsShapeUnder version text vars maxes) (shape_under (may_have_walls version) text vars maxes) always
  part_shape_under version text is maxes = part_shape_of (may_have_walls version) text is maxes

  starts_shape_under : (version : ℕ) (text maxes : List ℕ) → Starts (IsShapeUnder version text vars maxes) (word text) no_limit
  starts_shape_under version text maxes = starts_into (stands_for maxes) (starts_judged (IsWrittenShape (may_have_walls version) text vars) (shape_fault maxes) (word text) no_limit (starts_word text (λ line. up_to_end (part_drawing (may_have_walls version)))))

abbrev shape_word : IsPart (IsWord (codes "shape")) (a_word (codes "shape")) always
shape_word = part_word (codes "shape") refl

abbrev final_word : IsPart (IsWord (codes "final")) (a_word (codes "final")) always
final_word = part_word (codes "final") refl

pub part_shape : (version vars : ℕ) (maxes : List ℕ) → IsPart (IsShape version vars maxes) (a_shape version vars maxes) always
part_shape version vars maxes = part_shape_under vars version (codes "shape") shape_word maxes

pub part_final : (version vars : ℕ) (maxes : List ℕ) → IsPart (IsFinal version vars maxes) (a_final version vars maxes) always
part_final version vars maxes = part_shape_under vars version (codes "final") final_word maxes

pub starts_shape : (version vars : ℕ) (maxes : List ℕ) → Starts (IsShape version vars maxes) (word (codes "shape")) no_limit
starts_shape version vars maxes = starts_shape_under vars version (codes "shape") maxes

pub starts_final : (version vars : ℕ) (maxes : List ℕ) → Starts (IsFinal version vars maxes) (word (codes "final")) no_limit
starts_final version vars maxes = starts_shape_under vars version (codes "final") maxes

pub exact_shape : (version vars : ℕ) (maxes : List ℕ) → Exact (IsShape version vars maxes) (a_shape version vars maxes)
exact_shape version vars maxes = exact (IsShape version vars maxes) (a_shape version vars maxes) (part_shape version vars maxes).law

pub exact_final : (version vars : ℕ) (maxes : List ℕ) → Exact (IsFinal version vars maxes) (a_final version vars maxes)
exact_final version vars maxes = exact (IsFinal version vars maxes) (a_final version vars maxes) (part_final version vars maxes).law

pub exact_bots : (vars before : ℕ) → Exact (AreBots vars before) (bots_from vars before)
exact_bots vars before = exact (AreBots vars before) (bots_from vars before) (part_bots vars before).law

pub exact_walls : (before : ℕ) → Exact (AreWallLines true before) (walls_from true before)
exact_walls before = exact (AreWallLines true before) (walls_from true before) (part_walls true before).law
