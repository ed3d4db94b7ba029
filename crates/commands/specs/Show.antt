-- The command `show`: a shipped program is printed.
use Rattle.std.specs.Prelude.{ℕ, List}
use Rattle.shipped_programs.specs.declared.shipped.Shipped.{Shipped}
use Rattle.shipped_programs.specs.Shipped.{tree_of}
use Rattle.document_answers.specs.Check.{check_text}

-- it is written as `check` writes a program of version 1
abbrev pub show_text : Shipped → List ℕ
show_text program = check_text 1 (tree_of program)
