-- Programs apart from their lines and from the guard of movements.
use Rattle.std.specs.Prelude.{false}
use Rattle.action_tree.specs.Trees.{Program}
use Rattle.action_tree.specs.Lines.{without_lines}

-- the tree of a program without its lines, and with the guard of movements off
abbrev pub bare_unguarded : Program → Program
bare_unguarded p = record (without_lines p) { guard = false }
