-- What the table says of each command, by computing: a line for each.
use Rattle.std.proofs.Common.{◌≡◌, ◌≤◌, true, Some, refl, arith}
use Rattle.std.proofs.lemmas.Bool.{false≢true}
use Rattle.shape_files.specs.Frame.{least_version}
use Rattle.commands.specs.declared.words.Command.TheVariants.{Document}
use Rattle.commands.specs.declared.words.DocumentCommand.{DocumentCommand}
use Rattle.commands.specs.declared.words.DocumentCommand.TheVariants.{Run, Interleave, Replay, Check, Measure, Renew, Rewind, Rounds, Elect, Tickets}
use Rattle.commands.specs.Commands.{least_for}
use Rattle.commands.specs.Words.{document_in, documents, is_one_word, word_of}

-- its documents may have a version that there is, and if its word stands alone, then it is that of no other
pub record IsRow (c : DocumentCommand) : Type 0 where
  pub least : least_version ≤ least_for c
  pub own : is_one_word c ≡ true → document_in documents (word_of c) ≡ Some (Document c)

pub row_is : (c : DocumentCommand) → IsRow c
row_is Run = record { least = omega arith; own = λ one. refl }
row_is Interleave = record { least = omega arith; own = λ one. refl }
row_is Replay = record { least = omega arith; own = λ one. refl }
row_is Check = record { least = omega arith; own = λ one. refl }
row_is Measure = record { least = omega arith; own = λ one. refl }
row_is Renew = record { least = omega arith; own = λ one. refl }
row_is (Rewind place) = record { least = omega arith; own = λ one. absurd (false≢true one) }
row_is Rounds = record { least = omega arith; own = λ one. refl }
row_is Elect = record { least = omega arith; own = λ one. refl }
row_is Tickets = record { least = omega arith; own = λ one. refl }
