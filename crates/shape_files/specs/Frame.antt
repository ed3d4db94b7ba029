-- The frame of a document: a header, and then sections in the order of its form.
--   document := "amoebot" NUMBER { section }
-- The NUMBER is the version, from the least to the greatest that there is; another is a BadRange.
-- Some documents are to be of a later version: then one below that is a BadRange, too.
-- A section begins with its word.
-- Where a section is still needed, the word of a section that may not come there is a WrongSection.
-- A token behind a complete document is Trailing, which is a fault of a whole input.
use Rattle.std.specs.Prelude.{◌≡◌, ◌≤◌, ℕ, Bool, true, false, ◌||◌, if◌then◌else◌, List, [], ◌∷◌, ◌++◌, Option, Some, None, codes}
use Rattle.text_tokens.specs.declared.token.TokenKind.TheVariants.{Word}
use Rattle.text_tokens.specs.declared.refusal.RefusalKind.TheVariants.{WrongSection}
use Rattle.text_tokens.specs.Text.{Lexeme}
use Rattle.text_tokens.specs.Cursor.{is_the}
use Rattle.text_tokens.specs.Reading.{first}
use Rattle.text_tokens.specs.Grammar.{Symbol, symbol, tokens, Lang, Then, IsThe, IsNumeral}
use Rattle.shape_text.specs.Parts.{outside}
use Rattle.shape_files.specs.declared.section_kind.Section.{Section}
use Rattle.shape_files.specs.declared.section_kind.Section.TheVariants.{Program, Shape, Lists, Schedule, Journal, Final, Turns}
use Rattle.shape_files.specs.declared.section_kind.Form.{Form}
use Rattle.shape_files.specs.declared.section_kind.Form.TheVariants as form

-- ---- words

abbrev pub word_of_section : Section → List ℕ
word_of_section Program = codes "program"
word_of_section Shape = codes "shape"
word_of_section Lists = codes "lists"
word_of_section Schedule = codes "schedule"
word_of_section Journal = codes "journal"
word_of_section Final = codes "final"
word_of_section Turns = codes "turns"

abbrev pub is_word_of_section : Section → Lexeme → Bool
is_word_of_section k = is_the Word (word_of_section k)

-- the word of the header, which no section has
abbrev pub is_header_word : Lexeme → Bool
is_header_word = is_the Word (codes "amoebot")

-- one of the eight section words
abbrev pub is_section_word : Lexeme → Bool
is_section_word t =
    is_header_word t || is_word_of_section Program t
    || is_word_of_section Shape t || is_word_of_section Lists t
    || is_word_of_section Schedule t || is_word_of_section Journal t
    || is_word_of_section Final t || is_word_of_section Turns t

-- ---- which sections come

-- what may come at a place of a document
pub data Course : Type 0 where
  -- no section
  ends : Course
  -- this section, and then the rest
  needs : Section → Course → Course
  -- this section with what comes behind it, or what comes in its place
  may : Section → Course → Course → Course

-- a schedule, or none
abbrev pub may_schedule : Course → Course
may_schedule rest = may Schedule rest rest

-- lists and perhaps a schedule, or neither
abbrev pub may_lists : Course → Course
may_lists rest = may Lists (may_schedule rest) rest

-- a journal and the final shape, with turns or without
abbrev pub behind_journal : Course
behind_journal = needs Final (may Turns ends ends)

abbrev pub course_of : Form → Course
course_of form.Run = needs Program (needs Shape (needs Lists (may_schedule ends)))
course_of form.Interleave = needs Program (needs Shape (needs Lists (needs Schedule ends)))
course_of form.Check = needs Program (may Shape (may_lists ends) ends)
course_of form.Replay = needs Program (needs Shape (may_lists (needs Journal behind_journal)))
course_of form.Measure = needs Program (needs Shape (may_lists (may Journal behind_journal ends)))

-- a section, and what may come behind it
pub record NextSection : Type 0 where
  pub section : Section
  pub behind : Course

abbrev pub next_section : Section → Course → NextSection
next_section k c = record { section = k; behind = c }

-- the section that comes with this token
abbrev pub comes : Course → Lexeme → Option NextSection
comes ends t = None
comes (needs k c) t = if is_word_of_section k t then Some (next_section k c) else None
comes (may k c d) t = if is_word_of_section k t then Some (next_section k c) else comes d t

-- no further section is needed
abbrev pub may_end : Course → Bool
may_end ends = true
may_end (needs k c) = false
may_end (may k c d) = may_end d

-- ---- the document

-- What stands from a place on.
-- Each section is read in the state that those before it gave, and gives a new one.
pub data IsRest {S : Type 0} (Body : Section → S → Lang S) : Course → S → List Symbol → S → Type 0 where
  -- a section that may come, and the rest
  section : {c d : Course} {k : Section} {s r b : S} {xs ys : List Symbol}
      → (t : Lexeme)
      → first (tokens xs) ≡ Some t
      → comes c t ≡ Some (next_section k d)
      → Body k s xs r
      → IsRest Body d r ys b
      → IsRest Body c s (xs ++ ys) b
  -- nothing, where no section is needed
  finished : {c : Course} {s : S} → may_end c ≡ true → IsRest Body c s [] s
  -- where one is needed, the word of a section that may not come
  wrong : {c : Course} {s : S}
      → (t : Lexeme)
      → comes c t ≡ None
      → may_end c ≡ false
      → is_section_word t ≡ true
      → IsRest Body c s (symbol t (Some WrongSection) ∷ []) s

-- the least and the greatest version that there is
abbrev pub least_version : ℕ
least_version = 1

abbrev pub greatest_version : ℕ
greatest_version = 3

abbrev pub IsVersion : ℕ → Type 0
IsVersion version = (least_version ≤ version) × (version ≤ greatest_version)

-- the word of documents and a version that is not below a least one, for the version
abbrev pub IsHeaderFrom : ℕ → Lang ℕ
IsHeaderFrom least = Then (IsThe is_header_word) (λ line. IsNumeral (outside least greatest_version))

-- the same for each version that there is
abbrev pub IsHeader : Lang ℕ
IsHeader = IsHeaderFrom least_version

-- the sections, from the state on that the version gives, which is not below a least one
abbrev pub IsInFrameFrom : {S : Type 0} → ℕ → (Section → S → Lang S) → Course → (ℕ → S) → Lang S
IsInFrameFrom least Body c start = Then (IsHeaderFrom least) (λ version. IsRest Body c (start version))

-- the same for each version that there is
abbrev pub IsInFrame : {S : Type 0} → (Section → S → Lang S) → Course → (ℕ → S) → Lang S
IsInFrame Body c start = IsInFrameFrom least_version Body c start
