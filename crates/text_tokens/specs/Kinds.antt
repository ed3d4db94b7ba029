-- The kinds of refusals, by number and by name.
use Rattle.std.specs.Prelude.{ℕ, List, codes}
use Rattle.text_tokens.specs.declared.refusal.RefusalKind.{RefusalKind}
use Rattle.text_tokens.specs.declared.refusal.RefusalKind.TheVariants as kind

unfoldable pub kind_number : RefusalKind → ℕ
kind_number kind.BadByte = 1
kind_number kind.WordTooLong = 2
kind_number kind.Unexpected = 3
kind_number kind.TooDeep = 4
kind_number kind.TooMany = 5
kind_number kind.Truncated = 6
kind_number kind.UnknownName = 7
kind_number kind.TwiceNamed = 8
kind_number kind.WrongType = 9
kind_number kind.BadRange = 10
kind_number kind.BadId = 11
kind_number kind.OutOfBox = 12
kind_number kind.Overlap = 13
kind_number kind.NotAdjacent = 14
kind_number kind.BadValue = 15
kind_number kind.Trailing = 16
kind_number kind.WrongSection = 17
kind_number kind.BadEntry = 18
kind_number kind.BadPlace = 19
kind_number kind.TooLong = 20
kind_number kind.BadWall = 22
kind_number kind.OnWall = 23
kind_number kind.NotErosion = 24
kind_number kind.BadStart = 25

unfoldable pub name : RefusalKind → List ℕ
name kind.BadByte = codes "BadByte"
name kind.WordTooLong = codes "WordTooLong"
name kind.Unexpected = codes "Unexpected"
name kind.TooDeep = codes "TooDeep"
name kind.TooMany = codes "TooMany"
name kind.Truncated = codes "Truncated"
name kind.UnknownName = codes "UnknownName"
name kind.TwiceNamed = codes "TwiceNamed"
name kind.WrongType = codes "WrongType"
name kind.BadRange = codes "BadRange"
name kind.BadId = codes "BadId"
name kind.OutOfBox = codes "OutOfBox"
name kind.Overlap = codes "Overlap"
name kind.NotAdjacent = codes "NotAdjacent"
name kind.BadValue = codes "BadValue"
name kind.Trailing = codes "Trailing"
name kind.WrongSection = codes "WrongSection"
name kind.BadEntry = codes "BadEntry"
name kind.BadPlace = codes "BadPlace"
name kind.TooLong = codes "TooLong"
name kind.BadWall = codes "BadWall"
name kind.OnWall = codes "OnWall"
name kind.NotErosion = codes "NotErosion"
name kind.BadStart = codes "BadStart"
