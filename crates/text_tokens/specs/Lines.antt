-- Lines and sections of text. A token, a line and a text are bytes.
use Rattle.std.specs.Prelude.{◌≡◌, ℕ, List, [], ◌∷◌, ◌++◌, codes, decimal}
use Rattle.std.specs.List.{join_with_byte, flat_map}

-- the tokens of a line
abbrev pub Words : Type 0
Words = List (List ℕ)

-- the tokens of a line have one space (32) between them, and the line ends with one LF
abbrev pub line_text : Words → List ℕ
line_text words = join_with_byte 32 words ++ codes "\n"

-- lines, one after another
abbrev pub lines_text : List Words → List ℕ
lines_text lines = flat_map line_text lines

-- a section: its word on a line, its items one to a line, and `end` on a line
abbrev pub section_text : List ℕ → List Words → List ℕ
section_text word items = lines_text ((word ∷ []) ∷ items ++ (codes "end" ∷ []) ∷ [])

-- each token after a space, as the tokens behind the first of a line
abbrev pub spaced : Words → List ℕ
spaced words = flat_map (λ word. 32 ∷ word) words

-- a line is its first token, each other one after a space, and its end
abbrev pub LineIsItsTokens : Type 0
LineIsItsTokens =
    (word : List ℕ) (words : Words) → line_text (word ∷ words) ≡ word ++ spaced words ++ codes "\n"

-- a section is its first line, those of its items, and its last line
abbrev pub SectionIsItsLines : Type 0
SectionIsItsLines =
    (word : List ℕ) (items : List Words)
    → section_text word items ≡ line_text (word ∷ []) ++ lines_text items ++ line_text (codes "end" ∷ [])

-- tokens and further ones, and lines and further ones, have the one text and then the other
pub record TextsAddUp : Type 0 where
  pub tokens : (words more : Words) → spaced (words ++ more) ≡ spaced words ++ spaced more
  pub lines : (lines more : List Words) → lines_text (lines ++ more) ≡ lines_text lines ++ lines_text more

-- a section without an item, and one with two
pub record SmallSections : Type 0 where
  pub empty : section_text (codes "journal") [] ≡ codes "journal\nend\n"
  pub two_items : section_text (codes "lists")
      ((codes "turns" ∷ decimal 12 ∷ []) ∷ (codes "list" ∷ decimal 0 ∷ decimal 7 ∷ []) ∷ [])
      ≡ codes "lists\nturns 12\nlist 0 7\nend\n"
