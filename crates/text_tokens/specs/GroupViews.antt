-- The groups that the code reads, as what their grammar says that a text stands for.
use Rattle.text_tokens.specs.declared.groups.Group.{Group}
use Rattle.text_tokens.specs.Groups.{WrittenGroup}

abbrev pub written_group : Group → WrittenGroup
written_group e = record { line = e.line; count = e.count; pairs = e.pairs.items }
