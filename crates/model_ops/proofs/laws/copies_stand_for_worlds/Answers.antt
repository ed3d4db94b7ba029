use Rattle.model_ops.proofs.CopiesStand.{copies_work, copy_stands_for_worlds}
use Rattle.model_ops.proofs.laws.copies_stand_for_worlds.Goals as goal

pub returns : goal.returns
returns c = record { work = copies_work; stand = copy_stands_for_worlds }
