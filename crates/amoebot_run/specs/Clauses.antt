-- The words of the clauses of `run`: what was asked, what the input came to, and what was written.
use Rattle.std.specs.Prelude.{ℕ, List, map, String, string_bytes}
use Rattle.std.specs.declared.alloc.Global.{Global}
use Rattle.std.specs.declared.option.Option.{Option}
use Rattle.outer_io.specs.Told.{Rose}
use Rattle.outer_io.specs.Writings.{WritesAll, WritesFront}
use Rattle.outer_io.specs.declared.source.Source.{Ghosts as SourceOf}
use Rattle.outer_io.specs.declared.sink.Sink.{Ghosts as SinkOf}
use Rattle.commands.specs.declared.words.Command.{Command}
use Rattle.commands.specs.Words.{command_of}
use Rattle.commands.specs.Commands.{limit_for}
use Rattle.commands.specs.Reads.{Read, IsReading}

-- the command that the words ask for, if they are one
abbrev pub asked : List (String Global) → Option Command
asked words = command_of (map string_bytes words)

-- what the input came to for a command: a source came from the one state to the other by it,
-- within the command's limit
abbrev pub CameTo : {S : Type 0} → SourceOf S → Option Command → S → S → Read → Type 0
CameTo source command old new =
    IsReading source.left source.gives source.fails source.faults (limit_for command) old new

-- a text was written whole, and nothing else was
abbrev pub WroteAll : {K : Type 0} → SinkOf K → K → K → List ℕ → Type 0
WroteAll sink old new = WritesAll sink.written sink.takes old new

-- a write failed behind a front of a text, and nothing else was written
abbrev pub WroteFront : {K : Type 0} → SinkOf K → K → K → List ℕ → Type 0
WroteFront sink old new text =
    Rose (sink.faults old) (sink.faults new) × WritesFront sink.written sink.takes sink.fails old new text
