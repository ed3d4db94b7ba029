use Rattle.std.proofs.Common.{◌≡◌, true, [], take, map}
use Rattle.journal_text.specs.Journals.{WrittenEntry, with_changes}
use Rattle.journal_text.specs.Views as view
use Rattle.journal_text.proofs.KnownBots.{all_there}
use Rattle.journal_text.proofs.journal.put_known.Given as goal

abbrev pub invariant-loop-pair : goal.invariant-loop-pair
invariant-loop-pair g l = record {
  made :
      (w : WrittenEntry) → l.fn.entry ≡ g.E.Form.made w → w.changes ≡ []
      → l.entry ≡ g.E.Form.made (with_changes w (map view.pair (take l.pair-index l.pairs)));
  known : all_there l.bots (take l.pair-index l.pairs) ≡ true;
}
