use Rattle.journal_text.proofs.TurnsReread.{turns_reread}
use Rattle.journal_text.proofs.laws.turns_read_back.Goals as goal

pub returns : goal.returns
returns c = turns_reread
