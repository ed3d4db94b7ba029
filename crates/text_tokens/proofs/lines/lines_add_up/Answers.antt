use Rattle.text_tokens.proofs.LineLemmas.{line_is_its_tokens, section_is_its_lines, texts_add_up, small_sections}
use Rattle.text_tokens.proofs.lines.lines_add_up.Goals as goal

pub returns-clause-line : goal.returns-clause-line
returns-clause-line c = line_is_its_tokens

pub returns-clause-section : goal.returns-clause-section
returns-clause-section c = section_is_its_lines

pub returns-clause-both : goal.returns-clause-both
returns-clause-both c = texts_add_up

pub returns-clause-examples : goal.returns-clause-examples
returns-clause-examples c = small_sections
