-- The texts of nodes, ports and amoebots: words with one space between them.
use Rattle.std.specs.Prelude.{ℕ, List, [], ◌∷◌, ◌++◌, codes, decimal, map, take}
use Rattle.std.specs.Fmt.{signed_decimal}
use Rattle.tri_lattice.specs.declared.node.Node.{Node}
use Rattle.text_tokens.specs.Lines.{Words}
use Rattle.amoebot_state.specs.declared.bot.Bot.{Bot}
use Rattle.amoebot_state.specs.declared.bot.Chir.{Chir}
use Rattle.amoebot_state.specs.declared.bot.Chir.TheVariants as chir
use Rattle.amoebot_state.specs.declared.bot.Port.{Port}
use Rattle.amoebot_state.specs.Ports.{end_word}

-- the coordinates of a node, where a negative one has a `-` directly before its digits
abbrev pub node_words : Node → Words
node_words v = signed_decimal v.x ∷ signed_decimal v.y ∷ []

abbrev pub port_words : Port → Words
port_words p = end_word p.end ∷ decimal p.dir ∷ []

abbrev pub chir_word : Chir → List ℕ
chir_word chir.Plus = codes "+"
chir_word chir.Minus = codes "-"

-- head, tail, rotation, chirality, and as many values as there are variables
abbrev pub bot_words : ℕ → Bot → Words
bot_words vars b =
    node_words b.head ++ node_words b.tail ++ decimal b.rot ∷ chir_word b.chir ∷ map decimal (take vars b.mem)
