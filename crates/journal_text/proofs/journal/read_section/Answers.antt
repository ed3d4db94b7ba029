use Rattle.text_tokens.proofs.ExactReaders.{tells_of, reads_of}
use Rattle.journal_text.specs.Journals.{IsJournalOf}
use Rattle.journal_text.specs.Readers.{journal_by}
use Rattle.journal_text.proofs.JournalLaws.{exact_journal_of}
use Rattle.journal_text.proofs.journal.read_section.Goals as goal

pub returns-clause-tells : goal.returns-clause-tells
returns-clause-tells g c =
    let a = c.args in let old = g.E.Form.HAS_OLD in let made = g.E.Form.made in
    tells_of (IsJournalOf old made a.of.bots a.of.actions a.of.vars) (λ v. v.items)
    (journal_by old made a.of.bots a.of.actions a.of.vars) (exact_journal_of old made a.of.bots a.of.actions a.of.vars)
    a.tokens.now c.read_whole.result c.read_whole.new.tokens c.read_whole.ensures

pub returns-clause-reads : goal.returns-clause-reads
returns-clause-reads g c =
    let a = c.args in let old = g.E.Form.HAS_OLD in let made = g.E.Form.made in
    reads_of (IsJournalOf old made a.of.bots a.of.actions a.of.vars) (λ v. v.items)
    (journal_by old made a.of.bots a.of.actions a.of.vars) (exact_journal_of old made a.of.bots a.of.actions a.of.vars)
    a.tokens.now c.read_whole.result c.read_whole.new.tokens c.read_whole.ensures
