-- What several sections have: numbers, nodes, ends, ports and amoebots;
-- and what the versions of documents have.
--   int    := [ "-" ] NUMBER
--   node   := int int
--   port   := ( "head" | "tail" ) NUMBER
--   amoebot := node node NUMBER ( "+" | "-" ) values
--   values := as many NUMBERs as there are variables
-- A coordinate farther than 9,999 from 0, a rotation or a direction above 5,
-- and a value above 255 is a BadRange.
use Rattle.std.specs.Prelude.{ℕ, suc, ℤ, pos, ◌-ℤ◌, ◌-◌, Bool, ◌&&◌, nat_le, nat_lt, if◌then◌else◌, List, ◌++◌, length, replicate, Option, Some, None, codes}
use Rattle.tri_lattice.specs.declared.node.Node.{Node}
use Rattle.text_tokens.specs.declared.token.TokenKind.TheVariants.{Word, Sign}
use Rattle.text_tokens.specs.declared.refusal.RefusalKind.{RefusalKind}
use Rattle.text_tokens.specs.declared.refusal.RefusalKind.TheVariants.{TooMany, BadRange}
use Rattle.text_tokens.specs.Text.{Lexeme}
use Rattle.text_tokens.specs.Cursor.{is_the}
use Rattle.text_tokens.specs.Reading.{no_limit, too_large, lexeme_value}
use Rattle.text_tokens.specs.Grammar.{Lang, Then, Made, IsThe, IsNumeral, Either, Times}
use Rattle.amoebot_state.specs.declared.bot.Bot.{Bot}
use Rattle.amoebot_state.specs.declared.bot.Chir.{Chir}
use Rattle.amoebot_state.specs.declared.bot.Chir.TheVariants.{Plus, Minus}
use Rattle.amoebot_state.specs.declared.bot.End.{End}
use Rattle.amoebot_state.specs.declared.bot.End.TheVariants.{Head, Tail}
use Rattle.amoebot_state.specs.declared.bot.Port.{Port}
use Rattle.amoebot_state.specs.Limits.{most_vars, most_value}
use Rattle.amoebot_state.specs.Ports.{port}
use Rattle.shape_text.specs.Limits.{most_coordinate}

-- ---- tokens

abbrev pub word : List ℕ → Lexeme → Bool
word text = is_the Word text

abbrev pub sign : List ℕ → Lexeme → Bool
sign text = is_the Sign text

abbrev pub is_minus : Lexeme → Bool
is_minus = sign (codes "-")

abbrev pub is_end : Lexeme → Bool
is_end = word (codes "end")

-- this word
abbrev pub IsWord : List ℕ → Lang ℕ
IsWord text = IsThe (word text)

-- a token, for what it stands for
abbrev pub Means : {A : Type 0} → (Lexeme → Bool) → A → Lang A
Means test a = Made (IsThe test) (λ line. a)

-- a number, whatever it is
abbrev pub IsNumber : Lang ℕ
IsNumber = IsNumeral no_limit

-- a number up to this one
abbrev pub IsUpTo : ℕ → Lang ℕ
IsUpTo most = IsNumeral (too_large most BadRange)

-- a number that is below the least or above the greatest
abbrev pub outside : ℕ → ℕ → Lexeme → Option RefusalKind
outside least most t =
    if nat_le least (lexeme_value t) && nat_le (lexeme_value t) most then None else Some BadRange

-- ---- versions

-- texts of the version may have walls
abbrev pub may_have_walls : ℕ → Bool
may_have_walls version = nat_le 2 version

-- the journal of texts of the version has old values
abbrev pub has_old_values : ℕ → Bool
has_old_values version = nat_le 3 version

-- ---- counts

-- one too many, where so many may come, behind so many
abbrev pub past_most : ℕ → ℕ → Lexeme → Option RefusalKind
past_most most before t = if nat_lt before most then None else Some TooMany

-- how many there are behind so many and one more
abbrev pub one_more : {A : Type 0} → ℕ → A → ℕ
one_more before a = suc before

-- ---- parts

abbrev pub negative : ℕ → ℤ
negative n = pos 0 -ℤ pos n

-- a whole number, no farther from 0 than this; a minus may stand before its digits
abbrev pub IsInt : ℕ → Lang ℤ
IsInt most =
    Either (Then (IsThe is_minus) (λ line. Made (IsUpTo most) negative)) (Made (IsUpTo most) (λ n. pos n))

abbrev pub a_node_of : ℤ → ℤ → Node
a_node_of x y = record { x = x; y = y }

abbrev pub IsNode : Lang Node
IsNode = Then (IsInt most_coordinate) (λ x. Made (IsInt most_coordinate) (λ y. a_node_of x y))

abbrev pub IsEnd : Lang End
IsEnd = Either (Means (word (codes "head")) Head) (Means (word (codes "tail")) Tail)

abbrev pub IsChirality : Lang Chir
IsChirality = Either (Means (sign (codes "+")) Plus) (Means (sign (codes "-")) Minus)

abbrev pub IsPortText : Lang Port
IsPortText = Then IsEnd (λ end. Made (IsUpTo 5) (λ dir. port end dir))

-- a value for each variable
abbrev pub IsValues : ℕ → Lang (List ℕ)
IsValues vars = Times (IsUpTo most_value) vars

-- a memory begins with these values, and has 0 past them
abbrev pub memory : List ℕ → List ℕ
memory values = values ++ replicate (most_vars - length values) 0

abbrev pub a_bot_of : Node → Node → ℕ → Chir → List ℕ → Bot
a_bot_of head tail rot chir values =
    record { head = head; tail = tail; rot = rot; chir = chir; mem = memory values }

abbrev pub IsBotText : ℕ → Lang Bot
IsBotText vars =
    Then IsNode (λ head. Then IsNode (λ tail. Then (IsUpTo 5) (λ rot. Then IsChirality (λ chir.
    Made (IsValues vars) (λ values. a_bot_of head tail rot chir values)))))
