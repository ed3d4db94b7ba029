use Rattle.claim_core.proofs.OneList.{one_list_is_serial}
use Rattle.claim_core.proofs.laws.one_list_is_serial.Goals as goal

pub returns : goal.returns
returns c = one_list_is_serial
