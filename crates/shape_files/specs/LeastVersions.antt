-- Documents whose version is not below a least one.
use Rattle.std.specs.Prelude.{◌≡◌, ◌<◌, ◌≤◌, ℕ, true, List, ◌∷◌}
use Rattle.std.specs.Option.{IsSome}
use Rattle.text_tokens.specs.declared.refusal.Refusal.{Refusal}
use Rattle.text_tokens.specs.declared.refusal.RefusalKind.TheVariants.{BadRange}
use Rattle.text_tokens.specs.Text.{Lexeme, AreTokens}
use Rattle.text_tokens.specs.Cursor.{on_line}
use Rattle.text_tokens.specs.Reading.{is_number, lexeme_value}
use Rattle.shape_text.specs.Parts.{has_old_values}
use Rattle.shape_files.specs.declared.section_kind.Form.{Form}
use Rattle.shape_files.specs.declared.section_kind.Form.TheVariants.{Replay}
use Rattle.shape_files.specs.Frame.{least_version, is_header_word}
use Rattle.shape_files.specs.Documents.{Contents, HasContents, HasContentsFrom, IsDocumentFaultFrom, IsDecidedFrom}

-- Of any bytes one thing holds, whatever the least version is.
abbrev pub DecidedFromEach : Type 0
DecidedFromEach = (least : ℕ) (form : Form) → IsDecidedFrom least form

-- A version below the least one is a BadRange at its number, whatever comes behind it.
abbrev pub EarlierIsBadRange : Type 0
EarlierIsBadRange =
    (least : ℕ) (form : Form) (bytes : List ℕ) (word version : Lexeme) (rest : List Lexeme) (last : Refusal)
    → AreTokens bytes 0 (word ∷ version ∷ rest) last
    → is_header_word word ≡ true
    → is_number version ≡ true
    → lexeme_value version < least
    → IsDocumentFaultFrom least form bytes (on_line version.line BadRange)

-- A document from a least version on is a document of the form,
-- and its version is not below the least.
abbrev pub LaterIsDocument : Type 0
LaterIsDocument =
    (least : ℕ) (form : Form) (bytes : List ℕ) (a : Contents)
    → least_version ≤ least
    → HasContentsFrom least form bytes a
    → HasContents form bytes a × (least ≤ a.version)

-- A document of the form whose version is not below the least is one from the least version on.
abbrev pub DocumentIsLater : Type 0
DocumentIsLater =
    (least : ℕ) (form : Form) (bytes : List ℕ) (a : Contents)
    → least ≤ a.version
    → HasContents form bytes a
    → HasContentsFrom least form bytes a

-- From a version with old values on, a document with a journal has the old values of its entries.
abbrev pub LaterHasOldValues : Type 0
LaterHasOldValues =
    (least : ℕ) (bytes : List ℕ) (a : Contents)
    → has_old_values least ≡ true
    → HasContentsFrom least Replay bytes a
    → IsSome a.entries
