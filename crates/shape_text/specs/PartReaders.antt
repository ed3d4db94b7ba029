-- The grammars of numbers, nodes, ports and amoebots as readers, put together as the grammars are.
use Rattle.std.specs.Prelude.{ℕ, ℤ, pos, Bool, List, codes}
use Rattle.tri_lattice.specs.declared.node.Node.{Node}
use Rattle.text_tokens.specs.declared.refusal.RefusalKind.TheVariants.{BadRange}
use Rattle.text_tokens.specs.Text.{Lexeme}
use Rattle.text_tokens.specs.Reading.{Reader, ◌>>=◌, pure, one_within, the_line, numeral, too_large, no_limit, either, times}
use Rattle.amoebot_state.specs.declared.bot.Bot.{Bot}
use Rattle.amoebot_state.specs.declared.bot.Chir.{Chir}
use Rattle.amoebot_state.specs.declared.bot.Chir.TheVariants.{Plus, Minus}
use Rattle.amoebot_state.specs.declared.bot.End.{End}
use Rattle.amoebot_state.specs.declared.bot.End.TheVariants.{Head, Tail}
use Rattle.amoebot_state.specs.declared.bot.Port.{Port}
use Rattle.amoebot_state.specs.Limits.{most_value}
use Rattle.amoebot_state.specs.Ports.{port}
use Rattle.shape_text.specs.Limits.{most_coordinate}
use Rattle.shape_text.specs.Parts.{word, sign, is_minus, past_most, negative, a_node_of, a_bot_of}

abbrev pub a_word : List ℕ → Reader ℕ
a_word text = the_line (word text)

-- this word, for its line, where so many may come
abbrev pub word_within : List ℕ → ℕ → ℕ → Reader ℕ
word_within text most before = one_within (word text) (past_most most before) >>= λ t. pure t.line

abbrev pub means : {A : Type 0} → (Lexeme → Bool) → A → Reader A
means test a = the_line test >>= λ line. pure a

abbrev pub a_number : Reader ℕ
a_number = numeral no_limit

abbrev pub up_to : ℕ → Reader ℕ
up_to most = numeral (too_large most BadRange)

unfoldable pub an_int : ℕ → Reader ℤ
an_int most =
    either is_minus
    (the_line is_minus >>= λ line. up_to most >>= λ n. pure (negative n))
    (up_to most >>= λ n. pure (pos n))

unfoldable pub a_node : Reader Node
a_node = an_int most_coordinate >>= λ x. an_int most_coordinate >>= λ y. pure (a_node_of x y)

unfoldable pub an_end : Reader End
an_end = either (word (codes "head")) (means (word (codes "head")) Head) (means (word (codes "tail")) Tail)

unfoldable pub a_chirality : Reader Chir
a_chirality = either (sign (codes "+")) (means (sign (codes "+")) Plus) (means (sign (codes "-")) Minus)

unfoldable pub a_port_text : Reader Port
a_port_text = an_end >>= λ end. up_to 5 >>= λ dir. pure (port end dir)

abbrev pub values : ℕ → Reader (List ℕ)
values vars = times (up_to most_value) vars

unfoldable pub a_bot : ℕ → Reader Bot
a_bot vars = do
  head ← a_node
  tail ← a_node
  rot ← up_to 5
  chir ← a_chirality
  vs ← values vars
  pure (a_bot_of head tail rot chir vs)
