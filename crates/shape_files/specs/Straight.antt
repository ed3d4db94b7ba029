-- The frame of documents read straight on, as the code does.
use Rattle.std.specs.Prelude.{Bool, true, false, if◌then◌else◌, List}
use Rattle.text_tokens.specs.declared.refusal.RefusalKind.{RefusalKind}
use Rattle.text_tokens.specs.declared.refusal.RefusalKind.TheVariants.{Unexpected, WrongSection}
use Rattle.text_tokens.specs.Text.{Lexeme}
use Rattle.text_tokens.specs.Cursor.{next_passes}
use Rattle.text_tokens.specs.Reading.{Reader, ◌>>=◌, pure, choose, starts_at, either}
use Rattle.shape_files.specs.declared.section_kind.Section.{Section}
use Rattle.shape_files.specs.declared.section_kind.Section.TheVariants.{Program, Shape, Lists, Schedule, Journal, Final, Turns}
use Rattle.shape_files.specs.declared.section_kind.Form.{Form}
use Rattle.shape_files.specs.declared.section_kind.Form.TheVariants as form
use Rattle.shape_files.specs.Frame.{is_word_of_section, is_section_word}
use Rattle.shape_files.specs.FrameReaders.{missing}
use Rattle.shape_files.specs.Documents.{Contents}
use Rattle.shape_files.specs.DocumentReaders.{body}

-- as what a token is refused that begins no section where one is needed
abbrev pub missing_kind : List Lexeme → RefusalKind
missing_kind ts = if next_passes is_section_word ts then WrongSection else Unexpected

-- a section that is needed
unfoldable pub needed_section : Section → Contents → Reader Contents
needed_section k s = choose (λ next. if starts_at (is_word_of_section k) next then body k s else missing next)

-- a section that may come, and whether it came
unfoldable pub optional_section : Section → Contents → Reader (Bool × Contents)
optional_section k s = either (is_word_of_section k) (body k s >>= λ r. pure (true, r)) (pure (false, s))

-- whichever it was
abbrev pub left : Bool × Contents → Reader Contents
left o = pure o.1

-- lists and perhaps a schedule, or neither
unfoldable pub callers : Contents → Reader Contents
callers s = optional_section Lists s >>= λ o. if o.0 then (optional_section Schedule o.1 >>= left) else left o

-- what stands behind a journal
unfoldable pub record_behind : Contents → Reader Contents
record_behind s = needed_section Final s >>= λ r. optional_section Turns r >>= left

-- what stands behind the program
unfoldable pub behind_program : Form → Contents → Reader Contents
behind_program form.Run s =
    needed_section Shape s >>= λ r. needed_section Lists r >>= λ q. optional_section Schedule q >>= left
behind_program form.Interleave s =
    needed_section Shape s >>= λ r. needed_section Lists r >>= λ q. needed_section Schedule q
behind_program form.Check s = optional_section Shape s >>= λ o. if o.0 then callers o.1 else left o
behind_program form.Replay s =
    needed_section Shape s >>= λ r. callers r >>= λ q. needed_section Journal q >>= record_behind
behind_program form.Measure s =
    needed_section Shape s >>= λ r. callers r >>= λ q.
    optional_section Journal q >>= λ o. if o.0 then record_behind o.1 else left o

unfoldable pub straight : Form → Contents → Reader Contents
straight f s = needed_section Program s >>= λ r. behind_program f r
