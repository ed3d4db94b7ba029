-- The journal of a document has few entries, and their amoebots are the shape's.
use Rattle.std.proofs.Common.{◌≡◌, ◌<◌, Bool, true, false, List, length, Option, Some, None, subst, arith}
use Rattle.std.specs.Prelude.{IfSome, IsSome}
use Rattle.std.specs.List.{All}
use Rattle.std.proofs.lemmas.Bool.{false≢true}
use Rattle.amoebot_state.specs.declared.verdict.Entry.{Entry}
use Rattle.amoebot_state.specs.declared.verdict.PlainEntry.{PlainEntry}
use Rattle.amoebot_state.specs.Configs.{Config}
use Rattle.serial_model.specs.Replays.{AreCountable}
use Rattle.shape_text.specs.Parts.{has_old_values}
use Rattle.journal_text.specs.Texts.{written_full, written_plain}
use Rattle.shape_files.specs.Documents.{Contents, actions_of, bots_of}
use Rattle.shape_files.specs.Fitting.{AreEntriesOf, FitTogether, HasJournal, HasJournalBy}
use Rattle.document_answers.specs.declared.recorded.Journal.{Journal}
use Rattle.document_answers.specs.declared.recorded.Journal.TheVariants as journal
use Rattle.document_answers.specs.Recorded.{HasItsJournal, IsJournalIn, IsOfBots, full_of}

-- there are few entries, and their amoebots are the shape's
pub full_there : (a : Contents) (start : Config) (es : List Entry) → FitTogether a → a.world ≡ Some start → a.entries ≡ Some es → All (λ (e : Entry). e.bot < length start.bots) es × AreCountable es
full_there a start es fits its_shape its =
    let are = subst (λ (o : Option (List Entry)). IfSome o (AreEntriesOf written_full (bots_of a.world) (actions_of a.checked))) its fits.entries in
    (subst (λ (o : Option Config). All (λ (e : Entry). e.bot < bots_of o) es) its_shape are.there, (let few = are.few in omega arith))

pub plain_there : (a : Contents) (start : Config) (ps : List PlainEntry) → FitTogether a → a.world ≡ Some start → a.plain ≡ Some ps → All (λ (p : PlainEntry). p.bot < length start.bots) ps × AreCountable ps
plain_there a start ps fits its_shape its =
    let are = subst (λ (o : Option (List PlainEntry)). IfSome o (AreEntriesOf written_plain (bots_of a.world) (actions_of a.checked))) its fits.plain in
    (subst (λ (o : Option Config). All (λ (p : PlainEntry). p.bot < bots_of o) ps) its_shape are.there, (let few = are.few in omega arith))

-- what the journal of a document is that was taken from its two sections
pub record IsTaken (a : Contents) (start : Config) (j : Journal) : Type 0 where
  pub entries : a.entries ≡ full_of j
  pub journal : HasItsJournal a j
  pub bots : IsOfBots (length start.bots) j

pub taken : (a : Contents) (start : Config) (j : Journal) → FitTogether a → a.world ≡ Some start → IsJournalIn a.entries a.plain j → IsTaken a start j
taken a start (journal.Full es) fits its_shape its = record { entries = its; journal = its; bots = full_there a start es fits its_shape its }
taken a start (journal.Plain ps) fits its_shape (none, its) = record { entries = none; journal = its; bots = plain_there a start ps fits its_shape its }

-- a document with a journal that lacks old values has the other section
pub plain_else : (a : Contents) → HasJournal a → a.entries ≡ None → IsSome a.plain
plain_else a has none = by (has_old_values a.version) has
  where
    by : (b : Bool) → HasJournalBy b a → IsSome a.plain
    by true some = absurd (false≢true (subst IsSome none some))
    by false some = some
