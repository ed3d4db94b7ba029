-- What holds of the test: it passes exactly the trees that the productions give.
use Rattle.std.specs.Prelude.{◌≡◌, ◌≤◌, ℕ, true, List, [], length}
use Rattle.std.specs.List.{list_all}
use Rattle.text_tokens.specs.declared.token.TokenKind.TheVariants.{Word}
use Rattle.text_tokens.specs.Text.{Cuts, most_bytes}
use Rattle.action_tree.specs.Trees.{Program}
use Rattle.action_tree.specs.Words.{is_word}
use Rattle.action_tree.specs.Writable.{is_writable}
use Rattle.action_tree.specs.Productions.{OfProgram}
use Rattle.action_tree.specs.Shipped.{line, erosion, hexagon, every_form}
use Rattle.action_tree.specs.Edges.{is_sharp, levels, name_edges, counts, leasts, spellings}

abbrev pub WritableIsGiven : Type 0
WritableIsGiven = (p : Program) → is_writable p ≡ true → OfProgram p

abbrev pub GivenIsWritable : Type 0
GivenIsWritable = (p : Program) → OfProgram p → is_writable p ≡ true

-- a word is a token that a text has, of at most so many bytes
abbrev pub WordsAreTokens : Type 0
WordsAreTokens = (text : List ℕ) → is_word text ≡ true → Cuts Word text [] × (length text ≤ most_bytes Word)

abbrev pub TokensAreWords : Type 0
TokensAreWords =
    (text rest : List ℕ) → Cuts Word text rest → length text ≤ most_bytes Word → is_word text ≡ true

-- the shipped programs, and one of every form
abbrev pub SamplesAreWritable : Type 0
SamplesAreWritable =
    (is_writable line ≡ true)
    × (is_writable erosion ≡ true)
    × (is_writable hexagon ≡ true)
    × (is_writable every_form ≡ true)

-- of each limit the test lets what just keeps it pass, and not what just passes it
abbrev pub LimitsAreSharp : Type 0
LimitsAreSharp =
    (list_all is_sharp levels ≡ true)
    × (list_all is_sharp name_edges ≡ true)
    × (list_all is_sharp counts ≡ true)
    × (list_all is_sharp leasts ≡ true)
    × (list_all is_sharp spellings ≡ true)
