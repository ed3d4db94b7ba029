-- The frame as a reader.
use Rattle.std.specs.Prelude.{ℕ, if◌then◌else◌, Option}
use Rattle.text_tokens.specs.declared.refusal.RefusalKind.TheVariants.{WrongSection}
use Rattle.text_tokens.specs.Text.{Lexeme}
use Rattle.text_tokens.specs.Reading.{Reader, starts_at, ◌>>=◌, pure, refuse, stop, choose, the_line, numeral}
use Rattle.shape_text.specs.Parts.{outside}
use Rattle.shape_files.specs.declared.section_kind.Section.{Section}
use Rattle.shape_files.specs.Frame.{Course, ends, needs, may, is_word_of_section, is_header_word, is_section_word, least_version, greatest_version}

-- why the next token does not begin a section that is needed
abbrev pub missing : {A : Type 0} → Option Lexeme → Reader A
missing next = if starts_at is_section_word next then stop WrongSection else refuse

module _ {S : Type 0} (body : Section → S → Reader S) where
  -- by the next token
  unfoldable pub rest_at : Course → S → Option Lexeme → Reader S
  rest_at ends s next = pure s
  rest_at (needs k c) s next =
      if starts_at (is_word_of_section k) next
      then (body k s >>= λ r. choose (λ u. rest_at c r u)) else missing next
  rest_at (may k c d) s next =
      if starts_at (is_word_of_section k) next
      then (body k s >>= λ r. choose (λ u. rest_at c r u)) else rest_at d s next

  abbrev pub rest : Course → S → Reader S
  rest c s = choose (λ next. rest_at c s next)

unfoldable pub header_from : ℕ → Reader ℕ
header_from least = the_line is_header_word >>= λ line. numeral (outside least greatest_version)

abbrev pub header : Reader ℕ
header = header_from least_version

unfoldable pub in_frame_from : {S : Type 0} → ℕ → (Section → S → Reader S) → Course → (ℕ → S) → Reader S
in_frame_from least body c start = header_from least >>= λ version. rest body c (start version)

abbrev pub in_frame : {S : Type 0} → (Section → S → Reader S) → Course → (ℕ → S) → Reader S
in_frame body c start = in_frame_from least_version body c start
