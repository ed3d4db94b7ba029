-- Documents of a command are documents of its form, and of no version below the command's least one.
use Rattle.std.proofs.Common.{◌≤◌, ℕ, List}
use Rattle.shape_files.specs.Documents.{Contents, HasContents}
use Rattle.shape_files.specs.LeastVersions.{LaterIsDocument}
use Rattle.commands.specs.declared.words.DocumentCommand.{DocumentCommand}
use Rattle.commands.specs.Commands.{form_of, least_for, IsDocumentOf}
use Rattle.commands.proofs.CommandRows.{row_is}

module _ (later : LaterIsDocument) (c : DocumentCommand) (bytes : List ℕ) (a : Contents) (h : IsDocumentOf c bytes a) where
  pub of_form : HasContents (form_of c) bytes a
  of_form = (later (least_for c) (form_of c) bytes a (row_is c).least h).0

  pub late : least_for c ≤ a.version
  late = (later (least_for c) (form_of c) bytes a (row_is c).least h).1
