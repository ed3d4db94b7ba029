-- What a `Tokens` keeps.
use Rattle.std.specs.Prelude.{◌≡◌, ◌≤◌, ◌+◌, ℕ, List, length, take, drop, Result, Ok, Err}
use Rattle.text_tokens.specs.declared.token.TokenKind.{TokenKind}
use Rattle.text_tokens.specs.declared.token.TokenKind.TheVariants.{Number}
use Rattle.text_tokens.specs.declared.refusal.RefusalKind.{RefusalKind}
use Rattle.text_tokens.specs.declared.tokens.Lead.{Lead}
use Rattle.text_tokens.specs.declared.tokens.Tokens.TheInside.{Inside}
use Rattle.text_tokens.specs.Text.{IsCountable}
use Rattle.text_tokens.specs.Scan.{Input, Piece, ready, front}
use Rattle.text_tokens.specs.Cursor.{Cursor, IsShort, at_input, number_value}

abbrev pub input_of : Inside → Input
input_of t = record { text = drop t.at t.source.now; at = t.at; line = t.line }

abbrev pub cursor_of : Inside → Cursor
cursor_of t = at_input t.source.now (input_of t)

abbrev pub piece_by : Result TokenKind RefusalKind → ℕ → Result Piece RefusalKind
piece_by (Ok kind) len = Ok (record { kind = kind; len = len })
piece_by (Err kind) len = Err kind

-- what stands at the front, as the scan has it
abbrev pub piece_of : Lead → Result Piece RefusalKind
piece_of f = piece_by f.kind f.len

-- where it is a number, this is what it stands for
pub record HasItsNumber (bytes : List ℕ) (f : Lead) : Type 0 where
  pub value : f.kind ≡ Ok Number → f.value ≡ number_value (take f.len bytes)
  pub small : IsShort f.value

-- it stands at a token or a fault, which is cut
pub record IsReady (t : Inside) : Type 0 where
  pub skipped : ready (input_of t) ≡ input_of t
  pub front : piece_of t.front ≡ front (drop t.at t.source.now)
  pub stands : HasItsNumber (drop t.at t.source.now) t.front
  pub within : t.at ≤ length t.source.now
  pub line : t.line ≤ t.at + 1
  pub small : IsCountable t.source.now
