-- The lines of the answers that are no text of a command.
use Rattle.std.specs.Prelude.{ℕ, List, ◌++◌, codes}
use Rattle.text_tokens.specs.declared.refusal.Refusal.{Refusal}
use Rattle.text_tokens.specs.declared.refusal.RefusalKind.TheVariants as kind

abbrev pub usage_line : List ℕ
usage_line =
    codes "usage: run / interleave / replay / check / measure / show NAME / sample NUMBER"
    ++ codes " / renew / rewind NUMBER / rounds / elect / tickets\n"

abbrev pub read_fault_line : List ℕ
read_fault_line = codes "read fault\n"

-- a document with more bytes than the limit, at which nobody looked
abbrev pub too_long : Refusal
too_long = record { line = 0; kind = kind.TooLong }

-- one whose program is not `erosion`
abbrev pub not_erosion : Refusal
not_erosion = record { line = 0; kind = kind.NotErosion }

-- one from whose shape `erosion` may not start
abbrev pub bad_start : Refusal
bad_start = record { line = 0; kind = kind.BadStart }
