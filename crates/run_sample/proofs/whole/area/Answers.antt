use Rattle.run_sample.proofs.Laid.{is_area}
use Rattle.run_sample.proofs.Worlds.{area_is}
use Rattle.run_sample.proofs.whole.area.Goals as goal

pub unwrap-requires : goal.unwrap-requires
unwrap-requires c = c.new.ensures.some.1 is_area

pub returns : goal.returns
returns c = area_is c.new.result c.unwrap.result c.new.ensures.value c.unwrap.ensures
