-- The words of a call as one command with subcommands, each with at most one argument.
use Rattle.std.specs.Prelude.{◌==◌, Bool, true, false, ℕ, List, [], ◌∷◌, ◌++◌, map, fold, Option, Some, None, codes, if◌then◌else◌, option_and_then}
use Rattle.std.specs.Str.{bytes_eq}
use Rattle.clap.specs.Walk.{Row, Rule, Text, first_of}
use Rattle.clap.specs.Simple.{App, Shape, new_app, new_rule, on_top, with_rule, with_subcommand}
use Rattle.commands.specs.declared.words.Command.{Command}
use Rattle.commands.specs.declared.words.Command.TheVariants.{Sample}
use Rattle.commands.specs.declared.words.DocumentCommand.{DocumentCommand}
use Rattle.commands.specs.Words.{document_in, documents, numbered_by, rewind_to, shipped, show_in, word_of}

-- the word begins with `-` (45)
abbrev pub begins_with_dash : List ℕ → Bool
begins_with_dash [] = false
begins_with_dash (c ∷ cs) = c == 45

-- ---- the command, as `clap` reads it

-- an argument that has to be given
abbrev pub needed : Text → Rule
needed id = record (new_rule id) { required = true }

-- a subcommand with one argument
abbrev pub with_argument : Text → Text → Shape
with_argument name id = (with_rule (new_app name) (needed id)).top

-- a subcommand with none
abbrev pub without_argument : DocumentCommand → Shape
without_argument c = (new_app (word_of c)).top

-- no name of the program, no help, no version; and a subcommand has to be given
abbrev pub bare : App
bare = on_top (λ s. record s {
  no_binary_name = true;
  disable_help_flag = true;
  disable_help_subcommand = true;
  disable_version_flag = true;
  subcommand_required = true;
}) (new_app (codes "amoebot"))

-- and the subcommands
abbrev pub words_syntax : App
words_syntax = fold with_subcommand bare
    (map without_argument documents
    ++ with_argument (codes "show") (codes "NAME") ∷ with_argument (codes "sample") (codes "NUMBER")
    ∷ with_argument (codes "rewind") (codes "NUMBER") ∷ [])

-- ---- what was read by it

-- the command of a subcommand and the arguments that were read with it
abbrev pub of_subcommand : Option (Text × List Row) → Option Command
of_subcommand None = None
of_subcommand (Some (word, arguments)) =
    if bytes_eq (codes "show") word then option_and_then (show_in shipped) (first_of (codes "NAME") arguments)
    else if bytes_eq (codes "sample") word
    then option_and_then (numbered_by Sample) (first_of (codes "NUMBER") arguments)
    else if bytes_eq (codes "rewind") word
    then option_and_then (numbered_by rewind_to) (first_of (codes "NUMBER") arguments)
    else document_in documents word
