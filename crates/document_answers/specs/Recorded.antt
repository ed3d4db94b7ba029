-- What was taken from a document that records a run.
use Rattle.std.specs.Prelude.{◌≡◌, ◌<◌, ℕ, List, length}
use Rattle.std.specs.List.{All}
use Rattle.std.specs.declared.option.Option.{Option}
use Rattle.std.specs.declared.option.Option.TheVariants.{Some, None}
use Rattle.amoebot_state.specs.declared.verdict.Entry.{Entry}
use Rattle.amoebot_state.specs.declared.verdict.PlainEntry.{PlainEntry}
use Rattle.amoebot_state.specs.Configs.{Config}
use Rattle.serial_model.specs.Replays.{AreCountable}
use Rattle.action_tree.specs.Trees.{Program}
use Rattle.shape_files.specs.Documents.{Contents}
use Rattle.document_answers.specs.declared.recorded.Journal.{Journal}
use Rattle.document_answers.specs.declared.recorded.Journal.TheVariants as journal

-- the journal of a document, in the one of the two forms that it has
abbrev pub HasItsJournal : Contents → Journal → Type 0
HasItsJournal a (journal.Full es) = a.entries ≡ Some es
HasItsJournal a (journal.Plain ps) = a.plain ≡ Some ps

-- its entries with their old values, if it has them
abbrev pub full_of : Journal → Option (List Entry)
full_of (journal.Full es) = Some es
full_of (journal.Plain ps) = None

-- the journal of these two sections: that with old values, if there is one, and else the other
abbrev pub IsJournalIn : Option (List Entry) → Option (List PlainEntry) → Journal → Type 0
IsJournalIn entries plain (journal.Full es) = entries ≡ Some es
IsJournalIn entries plain (journal.Plain ps) = (entries ≡ None) × (plain ≡ Some ps)

-- the entries of a journal are few, and each is of one of so many amoebots
abbrev pub IsOfBots : ℕ → Journal → Type 0
IsOfBots bots (journal.Full es) = All (λ (e : Entry). e.bot < bots) es × AreCountable es
IsOfBots bots (journal.Plain ps) = All (λ (p : PlainEntry). p.bot < bots) ps × AreCountable ps

-- They are the document's program, its shape, its final shape and its journal.
-- The journal's entries are few, and their amoebots are the shape's.
pub record IsRecordOf (a : Contents) (p : Program) (c d : Config) (j : Journal) : Type 0 where
  pub program : a.checked ≡ Some p
  pub start : a.world ≡ Some c
  pub last : a.final_world ≡ Some d
  pub entries : a.entries ≡ full_of j
  pub journal : HasItsJournal a j
  pub bots : IsOfBots (length c.bots) j
