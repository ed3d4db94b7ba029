use Rattle.journal_text.proofs.JournalsReread.{journals_reread}
use Rattle.journal_text.proofs.laws.journals_read_back.Goals as goal

pub returns : goal.returns
returns c = journals_reread
