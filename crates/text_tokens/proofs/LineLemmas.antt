-- How the texts of tokens, lines and sections add up.
use Rattle.std.proofs.Common.{◌≡◌, ℕ, List, [], ◌∷◌, ◌++◌, codes, ap, sym, refl, ◌∙◌, append_assoc}
use Rattle.std.specs.Fmt.{digits}
use Rattle.std.specs.List.{join_with_byte}
use Rattle.std.proofs.lemmas.Grind.{flat_map-append}
use Rattle.std.proofs.lemmas.List.{append-nil, flat_map_more}
use Rattle.text_tokens.specs.Lines.{Words, line_text, lines_text, spaced, LineIsItsTokens, SectionIsItsLines, TextsAddUp, SmallSections}

-- the tokens of a line, joined: the first, and each other one after a space
joined : (word : List ℕ) (words : Words) → join_with_byte 32 (word ∷ words) ≡ word ++ spaced words
joined word [] = sym (append-nil word)
joined word (next ∷ words) = ap (λ bs. word ++ 32 ∷ bs) (joined next words)

pub line_is_its_tokens : LineIsItsTokens
line_is_its_tokens word words = ap (λ bs. bs ++ codes "\n") (joined word words)

pub texts_add_up : TextsAddUp
texts_add_up = record {
  tokens = λ words more. flat_map-append (λ word. 32 ∷ word) words more;
  lines = λ lines more. flat_map-append line_text lines more;
}

pub section_is_its_lines : SectionIsItsLines
section_is_its_lines word items =
    ap (λ bs. line_text (word ∷ []) ++ bs) (texts_add_up.lines items ((codes "end" ∷ []) ∷ []) ∙ ap (λ bs. lines_text items ++ bs) (append-nil (line_text (codes "end" ∷ []))))
    ∙ sym (append_assoc (line_text (word ∷ [])) (lines_text items) (line_text (codes "end" ∷ [])))

pub small_sections : SmallSections
unfolding digits
small_sections = record { empty = refl; two_items = refl }

-- what was written grows by a line
pub line_more : (old now new : List ℕ) (lines : List Words) (line : Words) (all : List Words) → now ≡ old ++ lines_text lines → new ≡ now ++ line_text line → all ≡ lines ++ line ∷ [] → new ≡ old ++ lines_text all
line_more old now new lines line all before step whole =
    step ∙ ap (λ bs. bs ++ line_text line) before ∙ flat_map_more line_text old lines line ∙ ap (λ ls. old ++ lines_text ls) (sym whole)

-- what was written grows by further lines
pub lines_more : (old now new : List ℕ) (lines more all : List Words) → now ≡ old ++ lines_text lines → new ≡ now ++ lines_text more → all ≡ lines ++ more → new ≡ old ++ lines_text all
lines_more old now new lines more all before step whole =
    step ∙ ap (λ bs. bs ++ lines_text more) before ∙ append_assoc old (lines_text lines) (lines_text more) ∙ ap (λ bs. old ++ bs) (sym (texts_add_up.lines lines more) ∙ ap lines_text (sym whole))

-- what was written grows by a line, whose first token, other ones and end were written
pub line_made : (old begun spoken new word : List ℕ) (words : Words) → begun ≡ old ++ word → spoken ≡ begun ++ spaced words → new ≡ spoken ++ codes "\n" → new ≡ old ++ line_text (word ∷ words)
line_made old begun spoken new word words first others end =
    end ∙ ap (λ bs. bs ++ codes "\n") (others ∙ ap (λ bs. bs ++ spaced words) first ∙ append_assoc old word (spaced words)) ∙ append_assoc old (word ++ spaced words) (codes "\n") ∙ ap (λ bs. old ++ bs) (sym (line_is_its_tokens word words))

-- what was written grows by tokens, and by further ones
pub tokens_more : (a b c : List ℕ) (words more : Words) → b ≡ a ++ spaced words → c ≡ b ++ spaced more → c ≡ a ++ spaced (words ++ more)
tokens_more a b c words more first others =
    others ∙ ap (λ bs. bs ++ spaced more) first ∙ append_assoc a (spaced words) (spaced more) ∙ ap (λ bs. a ++ bs) (sym (texts_add_up.tokens words more))
