use Rattle.std.proofs.Common.{◌≡◌, ◌∙◌, Bool, true, false, List, Some, sym, subst}
use Rattle.std.proofs.lemmas.Result.{err_from_is_err_and}
use Rattle.text_tokens.specs.Reading.{◌>>=◌, pure}
use Rattle.text_tokens.proofs.StepsLemmas.{Reached, Failed}
use Rattle.amoebot_state.specs.declared.verdict.Entry.{Entry}
use Rattle.amoebot_state.specs.declared.verdict.PlainEntry.{PlainEntry}
use Rattle.shape_text.specs.Parts.{has_old_values}
use Rattle.journal_text.specs.Journals.{IsJournal, IsPlainJournal}
use Rattle.journal_text.specs.Readers.{journal, plain_journal}
use Rattle.journal_text.proofs.JournalLaws.{exact_journal, exact_plain_journal}
use Rattle.shape_files.specs.DocumentReaders.{journal_body}
use Rattle.shape_files.specs.Views.{contents}
use Rattle.shape_files.proofs.ReaderLemmas.{kept, not_kept}
use Rattle.shape_files.proofs.section.read_entries.Goals as goal

pub returns-in_err-read_journal : goal.returns-in_err-read_journal
unfolding journal_body
returns-in_err-read_journal c =
    let p = err_from_is_err_and c.from_residual.result c.from_residual.ensures.1 in
    let s = contents c.args.parts.now in
    let e = c.in_err-read_journal.field-0.0 in
    let f : Failed (journal c.bots-bots.result c.actions-actions.result c.vars-vars.result >>= λ v. pure (record s { entries = Some v })) e c.args.tokens.now c.read_journal.new.tokens = not_kept (IsJournal c.bots-bots.result c.actions-actions.result c.vars-vars.result) (journal c.bots-bots.result c.actions-actions.result c.vars-vars.result) (exact_journal c.bots-bots.result c.actions-actions.result c.vars-vars.result) (λ (v : List Entry). record s { entries = Some v }) c.args.tokens.now c.read_journal.new.tokens e c.in_err-read_journal.ensures.tells in
    let g = rw (c.bots-bots.ensures, c.actions-actions.ensures, c.vars-vars.ensures.value) at f in
    let old : has_old_values s.version ≡ true = sym c.has_old_values.ensures ∙ c.if-has_old_values.true in
    rw (p.1, p.2) (subst (λ (o : Bool). Failed (journal_body o s) e c.args.tokens.now c.read_journal.new.tokens) (sym old) g)

pub returns-in_ok-read_journal : goal.returns-in_ok-read_journal
unfolding journal_body
returns-in_ok-read_journal c =
    let s = contents c.args.parts.now in
    let f : Reached (journal c.bots-bots.result c.actions-actions.result c.vars-vars.result >>= λ v. pure (record s { entries = Some v })) c.args.tokens.now (record s { entries = Some c.in_ok-read_journal.field-0 }) c.read_journal.new.tokens = kept (IsJournal c.bots-bots.result c.actions-actions.result c.vars-vars.result) (journal c.bots-bots.result c.actions-actions.result c.vars-vars.result) (exact_journal c.bots-bots.result c.actions-actions.result c.vars-vars.result) (λ (v : List Entry). record s { entries = Some v }) c.args.tokens.now c.read_journal.new.tokens c.in_ok-read_journal.field-0 c.in_ok-read_journal.ensures.tells in
    let g = rw (c.bots-bots.ensures, c.actions-actions.ensures, c.vars-vars.ensures.value) at f in
    let old : has_old_values s.version ≡ true = sym c.has_old_values.ensures ∙ c.if-has_old_values.true in
    subst (λ (o : Bool). Reached (journal_body o s) c.args.tokens.now (record s { entries = Some c.in_ok-read_journal.field-0 }) c.read_journal.new.tokens) (sym old) g

pub returns-in_err-read_plain : goal.returns-in_err-read_plain
unfolding journal_body
returns-in_err-read_plain c =
    let p = err_from_is_err_and c.from_residual-in_err-read_plain.result c.from_residual-in_err-read_plain.ensures.1 in
    let s = contents c.args.parts.now in
    let e = c.in_err-read_plain.field-0.0 in
    let f : Failed (plain_journal c.bots-bots.result c.actions-actions.result c.vars-vars.result >>= λ v. pure (record s { plain = Some v })) e c.args.tokens.now c.read_plain.new.tokens = not_kept (IsPlainJournal c.bots-bots.result c.actions-actions.result c.vars-vars.result) (plain_journal c.bots-bots.result c.actions-actions.result c.vars-vars.result) (exact_plain_journal c.bots-bots.result c.actions-actions.result c.vars-vars.result) (λ (v : List PlainEntry). record s { plain = Some v }) c.args.tokens.now c.read_plain.new.tokens e c.in_err-read_plain.ensures.tells in
    let g = rw (c.bots-bots.ensures, c.actions-actions.ensures, c.vars-vars.ensures.value) at f in
    let old : has_old_values s.version ≡ false = sym c.has_old_values.ensures ∙ c.if-has_old_values.false in
    rw (p.1, p.2) (subst (λ (o : Bool). Failed (journal_body o s) e c.args.tokens.now c.read_plain.new.tokens) (sym old) g)

pub returns-in_ok-read_plain : goal.returns-in_ok-read_plain
unfolding journal_body
returns-in_ok-read_plain c =
    let s = contents c.args.parts.now in
    let f : Reached (plain_journal c.bots-bots.result c.actions-actions.result c.vars-vars.result >>= λ v. pure (record s { plain = Some v })) c.args.tokens.now (record s { plain = Some c.in_ok-read_plain.field-0 }) c.read_plain.new.tokens = kept (IsPlainJournal c.bots-bots.result c.actions-actions.result c.vars-vars.result) (plain_journal c.bots-bots.result c.actions-actions.result c.vars-vars.result) (exact_plain_journal c.bots-bots.result c.actions-actions.result c.vars-vars.result) (λ (v : List PlainEntry). record s { plain = Some v }) c.args.tokens.now c.read_plain.new.tokens c.in_ok-read_plain.field-0 c.in_ok-read_plain.ensures.tells in
    let g = rw (c.bots-bots.ensures, c.actions-actions.ensures, c.vars-vars.ensures.value) at f in
    let old : has_old_values s.version ≡ false = sym c.has_old_values.ensures ∙ c.if-has_old_values.false in
    subst (λ (o : Bool). Reached (journal_body o s) c.args.tokens.now (record s { plain = Some c.in_ok-read_plain.field-0 }) c.read_plain.new.tokens) (sym old) g
