use Rattle.std.proofs.Common.{◌≤◌, ◌-◌}
use Rattle.text_tokens.specs.Reading.{repeated}
use Rattle.text_tokens.proofs.LoopLemmas.{StillReads}
use Rattle.claim_core.specs.Limits.{most_turns}
use Rattle.shape_text.specs.Parts.{one_more}
use Rattle.journal_text.specs.Journals.{is_entry}
use Rattle.journal_text.specs.Readers.{an_entry, all_entries}
use Rattle.journal_text.proofs.journal.read_entries.Given as goal

abbrev pub invariant-loop-of : goal.invariant-loop-of
invariant-loop-of g l =
    let old = g.E.Form.HAS_OLD in let made = g.E.Form.made in
    record {
      reads :
          StillReads (all_entries old made l.of.bots l.of.actions l.of.vars) l.fn.tokens l.found.items
          (repeated is_entry (an_entry old made l.of.bots l.of.actions l.of.vars) one_more l.before) l.tokens;
      few : l.before ≤ most_turns;
    }

abbrev pub decreases-loop-of : goal.decreases-loop-of
decreases-loop-of g l = most_turns - l.before
