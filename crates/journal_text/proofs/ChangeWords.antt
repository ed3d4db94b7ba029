-- How entries are written, with their old values or without them.
use Rattle.std.proofs.Common.{◌≡◌, ℕ, Bool, true, false, List, ◌∷◌, ◌++◌, map, flat_map, codes, refl, sym, ap}
use Rattle.std.proofs.lemmas.Simd.{map-map}
use Rattle.text_tokens.specs.Lines.{Words}
use Rattle.amoebot_state.specs.declared.verdict.Entry.{Entry}
use Rattle.amoebot_state.specs.Pairs.{plain_triple}
use Rattle.amoebot_state.specs.Steps.{plain_entry}
use Rattle.journal_text.specs.Journals.{WrittenChange}
use Rattle.journal_text.specs.Texts.{change_words, moved_words, entry_numbers, entry_words, written_full, change_of_pair, written_plain, change_by, written_by, written_text, plain_text}

-- the words of an entry by its parts, which are the same in both forms except the cells
abbrev pub words_of_parts : ℕ → ℕ → Entry → List WrittenChange → Words
words_of_parts vars place e ts = codes "entry" ∷ entry_numbers place (written_full e) ++ (moved_words e.moved ++ flat_map (change_words vars) ts)

pub words_by : (vars place : ℕ) (old : Bool) (e : Entry) → words_of_parts vars place e (map (change_by old) e.patch) ≡ entry_words vars (place, written_by old e)
words_by vars place true e = refl
words_by vars place false e = ap (words_of_parts vars place e) (sym (map-map change_of_pair plain_triple e.patch))

-- the section without old values
pub plain_section : (vars : ℕ) (es : List Entry) → written_text vars (map (written_by false) es) ≡ plain_text vars (map plain_entry es)
plain_section vars es = ap (written_text vars) (sym (map-map written_plain plain_entry es))
