-- The header, and the words of sections.
use Rattle.std.proofs.Common.{◌≡◌, ◌||◌, List, [], ◌∷◌, refl}
use Rattle.text_tokens.specs.Text.{Lexeme}
use Rattle.text_tokens.specs.Cursor.{next_passes}
use Rattle.text_tokens.specs.Lawful.{Exact}
use Rattle.text_tokens.proofs.CombinatorLemmas.{exact_law}
use Rattle.shape_files.specs.declared.section_kind.Section.TheVariants.{Program, Shape, Lists, Schedule, Journal, Final, Turns}
use Rattle.shape_files.specs.Frame.{is_word_of_section, is_header_word, is_section_word, least_version, IsHeader}
use Rattle.shape_files.specs.FrameReaders.{header}
use Rattle.shape_files.specs.FrameLaws.{HeaderIsDecided}
use Rattle.shape_files.proofs.FrameLemmas.{part_header}

pub section_words : (ts : List Lexeme) → next_passes is_section_word ts ≡ (next_passes is_header_word ts || next_passes (is_word_of_section Program) ts || next_passes (is_word_of_section Shape) ts || next_passes (is_word_of_section Lists) ts || next_passes (is_word_of_section Schedule) ts || next_passes (is_word_of_section Journal) ts || next_passes (is_word_of_section Final) ts || next_passes (is_word_of_section Turns) ts)
section_words [] = refl
section_words (t ∷ ts) = refl

pub header_is_decided : HeaderIsDecided
header_is_decided = let e = exact_law IsHeader header (part_header least_version).law in record { exact = e.0; decided = e.1 }

pub exact_header : Exact IsHeader header
exact_header = header_is_decided.exact
