use Rattle.std.proofs.Common.{◌≡◌, ◌<◌, ◌+◌, ℕ, suc, subst, sym, ◌∙◌, arith}
use Rattle.std.proofs.lemmas.Result.{err_from_is_err_and}
use Rattle.text_tokens.specs.Reading.{repeated}
use Rattle.text_tokens.proofs.StepsLemmas.{another_none, another_some, another_fails}
use Rattle.text_tokens.proofs.LoopLemmas.{StillReads, loop_begins, loop_goes_on, loop_is_over, loop_fails}
use Rattle.claim_core.specs.Limits.{most_turns}
use Rattle.shape_text.specs.Parts.{is_end, one_more}
use Rattle.journal_text.specs.Journals.{is_entry, IsEntryBy}
use Rattle.journal_text.specs.Readers.{an_entry, entries_from, all_entries}
use Rattle.journal_text.proofs.JournalLaws.{no_pair, entry_elements}
use Rattle.journal_text.proofs.journal.read_entries.Goals as goal

pub loop-of-init : goal.loop-of-init
unfolding entries_from
loop-of-init g c = record {
  reads =
      loop_begins (all_entries g.E.Form.HAS_OLD g.E.Form.made c.args.of.bots c.args.of.actions c.args.of.vars)
      c.args.tokens.now c.new-found.result.items c.new-found.ensures.items;
  few = omega arith;
}

pub returns-in_err-entry : goal.returns-in_err-entry
returns-in_err-entry g c =
    let p = err_from_is_err_and c.from_residual.result c.from_residual.ensures.1 in
    let old = g.E.Form.HAS_OLD in let made = g.E.Form.made in
    let bots = c.args.of.bots in let actions = c.args.of.actions in let vars = c.args.of.vars in
    let before = c.loop-of.before in let here = c.loop-of.tokens in
    let refusal = c.in_err-entry.field-0.0 in let there = c.read_entry.new.tokens in
    let fails =
    another_fails is_entry (an_entry old made bots actions vars before) here
    (sym c.is_next.ensures ∙ c.loop-of-test.true) refusal there c.in_err-entry.ensures.reads in
    rw (p.1, p.2) (loop_fails (IsEntryBy old made bots actions vars) (an_entry old made bots actions vars)
    one_more is_entry (no_pair old vars) is_end (entry_elements old vars made bots actions)
    (all_entries old made bots actions vars) c.args.tokens.now c.loop-of.found.items before here
    c.loop-of.invariant.reads refusal there fails)

pub loop-of-preserved : goal.loop-of-preserved
loop-of-preserved g c =
    let old = g.E.Form.HAS_OLD in let made = g.E.Form.made in
    let bots = c.args.of.bots in let actions = c.args.of.actions in let vars = c.args.of.vars in
    let before = c.loop-of.before in let here = c.loop-of.tokens in
    let entry = c.in_ok-entry.entry in let there = c.read_entry.new.tokens in
    let next =
    another_some is_entry (an_entry old made bots actions vars before) here
    (sym c.is_next.ensures ∙ c.loop-of-test.true) entry there c.in_ok-entry.ensures.reads in
    let more =
    loop_goes_on (IsEntryBy old made bots actions vars) (an_entry old made bots actions vars)
    one_more is_entry (no_pair old vars) is_end (entry_elements old vars made bots actions)
    (all_entries old made bots actions vars) c.args.tokens.now c.loop-of.found.items before here
    c.loop-of.invariant.reads entry there next c.push.new.self.items c.in_ok-push.ensures.items in
    let one : suc before ≡ before + 1 = omega arith in
    let few : before < most_turns = c.in_ok-entry.ensures.room in
    record {
      reads =
          subst (λ (n : ℕ).
          StillReads (all_entries old made bots actions vars) c.args.tokens.now c.push.new.self.items
          (repeated is_entry (an_entry old made bots actions vars) one_more n) there) one more;
      few = omega (arith, few);
    }

pub returns : goal.returns
returns g c =
    let old = g.E.Form.HAS_OLD in let made = g.E.Form.made in
    let bots = c.args.of.bots in let actions = c.args.of.actions in let vars = c.args.of.vars in
    let before = c.loop-of.before in let here = c.loop-of.tokens in
    loop_is_over (IsEntryBy old made bots actions vars) (an_entry old made bots actions vars)
    one_more is_entry (no_pair old vars) is_end (entry_elements old vars made bots actions)
    (all_entries old made bots actions vars) c.args.tokens.now c.loop-of.found.items before here
    c.loop-of.invariant.reads here
    (another_none is_entry (an_entry old made bots actions vars before) here
    (sym c.is_next.ensures ∙ c.loop-of-test.false))
