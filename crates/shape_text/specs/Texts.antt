-- The texts of the sections `shape` and `final`: the area has a line, and so has each wall,
-- by rising number of its node, and each amoebot, by rising id.
use Rattle.std.specs.Prelude.{ℕ, List, [], ◌∷◌, ◌++◌, codes, decimal, map}
use Rattle.std.specs.Fmt.{signed_decimal}
use Rattle.std.specs.List.{filter_map}
use Rattle.std.specs.declared.option.Option.{Option}
use Rattle.tri_lattice.specs.declared.node.Node.{Node}
use Rattle.tri_lattice.specs.Extent.{Extent, node_at}
use Rattle.text_tokens.specs.Lines.{Words, section_text}
use Rattle.amoebot_state.specs.declared.bot.Bot.{Bot}
use Rattle.amoebot_state.specs.Configs.{Config}
use Rattle.shape_text.specs.PartTexts.{node_words, bot_words}

abbrev pub area_words : Extent → Words
area_words a = codes "area" ∷ signed_decimal a.x0 ∷ signed_decimal a.y0 ∷ decimal a.w ∷ decimal a.h ∷ []

abbrev pub wall_words : Node → Words
wall_words v = codes "wall" ∷ node_words v

-- the walls with these numbers
abbrev pub wall_lines : Extent → List ℕ → List Words
wall_lines a walls = map (λ k. wall_words (node_at a k)) walls

-- an amoebot with the values of so many variables
abbrev pub bot_line : ℕ → Bot → Words
bot_line vars b = codes "bot" ∷ bot_words vars b

-- the amoebots that are there, in rising id
abbrev pub present : List (Option Bot) → List Bot
present bots = filter_map (λ o. o) bots

-- the area, the walls and the amoebots, in a section with this word
abbrev pub shape_text : List ℕ → ℕ → Config → List ℕ
shape_text text vars c =
    section_text text (area_words c.area ∷ wall_lines c.area c.walls ++ map (bot_line vars) (present c.bots))
