use Rattle.std.proofs.Common.{◌≡◌, ◌≤◌, take}
use Rattle.std.specs.List.{count_by}
use Rattle.tests_model.specs.Choosing.{is_other_with}
use Rattle.tests_model.proofs.choices.others_with.Given as goal

abbrev pub invariant-loop-name : goal.invariant-loop-name
invariant-loop-name l = record {
  counted : l.others ≡ count_by (is_other_with l.fn.bot l.fn.value) (take l.name-index l.fn.cells);
  few : l.others ≤ l.name-index;
}
