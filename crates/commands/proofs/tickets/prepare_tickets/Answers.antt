use Rattle.commands.proofs.PreparedRuns.{prepares_tickets}
use Rattle.commands.proofs.tickets.prepare_tickets.Goals as goal

pub returns : goal.returns
returns c = λ bytes h. prepares_tickets c.one_list_is_serial.ensures bytes c.prepare-prepared.result (c.prepare-prepared.ensures bytes h)
