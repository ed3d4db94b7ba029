-- How `rounds` ends.
use Rattle.commands.specs.declared.words.DocumentCommand.TheVariants.{Rounds}
use Rattle.commands.specs.Reads.{Read}
use Rattle.commands.specs.RenewLaws.{EndsAsReplay}

-- it is done where `replay` is done, and else ends as `replay` does, whatever the input came to
abbrev pub RoundsEndAsReplay : Type 0
RoundsEndAsReplay = (read : Read) → EndsAsReplay Rounds read
