use Rattle.std.proofs.Common.{refl}
use Rattle.std.proofs.lemmas.Option.{slice_get_read}
use Rattle.journal_text.specs.Texts.{entry_words, written_by}
use Rattle.text_tokens.proofs.LineLemmas.{line_more}
use Rattle.journal_text.proofs.WrittenLines.{written_next}
use Rattle.journal_text.proofs.printed.put_entries.Goals as goal

pub loop-place-preserved : goal.loop-place-preserved
loop-place-preserved c =
    let entry = c.index-entries-place.result in
    line_more _ _ _ _ (entry_words c.args.vars (c.loop-place.place, written_by c.args.old entry)) _ c.loop-place.invariant c.in_ok-put_entry.ensures (written_next c.args.vars (written_by c.args.old) c.args.entries.now c.loop-place.place entry (slice_get_read _ _ _ _ refl c.loop-place-test.true c.index-entries-place.is))
