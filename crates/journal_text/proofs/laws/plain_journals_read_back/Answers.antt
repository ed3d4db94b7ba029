use Rattle.journal_text.proofs.JournalsReread.{plain_journals_reread}
use Rattle.journal_text.proofs.laws.plain_journals_read_back.Goals as goal

pub returns : goal.returns
returns c = plain_journals_reread
