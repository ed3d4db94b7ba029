-- The section `journal`, with old values or without them.
--   journal := "journal" { entry } "end"
--   entry   := "entry" place caller turn bot action moved { pair }      five NUMBERs
--   moved   := "none" | "expand" port | "contract" ( "head" | "tail" ) | "push" port | "pull" port
--   pair    := "spot" node occ | "body" NUMBER amoebot                          without old values
--   pair    := "spot" node occ "to" occ | "body" NUMBER amoebot "to" amoebot    with old values
--   occ     := NUMBER | "empty"
-- The 65,537th entry and the 11th pair of an entry are TooMany.
-- Once no further pair comes, an entry is judged, and blamed at its word.
-- Its place has to be the number of entries before it (else BadPlace).
-- Its caller has to be at most 15, its turn at most 65,535, its action one of the program's
-- and each amoebot that it names one of the world's (else BadEntry).
use Rattle.std.specs.Prelude.{ℕ, Bool, true, false, ◌&&◌, ◌||◌, ◌==◌, nat_le, nat_lt, if◌then◌else◌, List, [], ◌∷◌, ◌++◌, map, Option, Some, None, codes}
use Rattle.std.specs.Option.{unwrap_or}
use Rattle.std.specs.List.{list_all, flat_map}
use Rattle.text_tokens.specs.declared.refusal.Refusal.{Refusal}
use Rattle.text_tokens.specs.declared.refusal.RefusalKind.{RefusalKind}
use Rattle.text_tokens.specs.declared.refusal.RefusalKind.TheVariants.{BadEntry, BadPlace}
use Rattle.text_tokens.specs.Text.{Lexeme}
use Rattle.text_tokens.specs.Grammar.{Lang, IsOne, Then, Made, IsNothing, Closed, Judged, Either, Repeated, AtMost}
use Rattle.amoebot_state.specs.declared.bot.End.{End}
use Rattle.amoebot_state.specs.declared.bot.Port.{Port}
use Rattle.amoebot_state.specs.declared.cell.CellName.{CellName}
use Rattle.amoebot_state.specs.declared.cell.CellName.TheVariants as name
use Rattle.amoebot_state.specs.declared.cell.Cell.{Cell}
use Rattle.amoebot_state.specs.declared.cell.Cell.TheVariants as cell
use Rattle.amoebot_state.specs.declared.verdict.Entry.{Entry}
use Rattle.amoebot_state.specs.declared.verdict.PlainEntry.{PlainEntry}
use Rattle.amoebot_state.specs.declared.verdict.Moved.{Moved}
use Rattle.amoebot_state.specs.declared.verdict.Moved.TheVariants as moved
use Rattle.amoebot_state.specs.Limits.{most_pairs}
use Rattle.amoebot_state.specs.Pairs.{CellChange}
use Rattle.amoebot_state.specs.Steps.{entry_of, plain_entry}
use Rattle.claim_core.specs.Limits.{most_turns}
use Rattle.journal_text.specs.Limits.{last_caller, last_turn}
use Rattle.shape_text.specs.Parts.{word, is_end, past_most, one_more, IsWord, Means, IsNumber, IsNode, IsEnd, IsPortText, IsBotText}

-- ---- movements

-- a port behind this word, and an end
abbrev pub IsPortBehind : List ℕ → Lang Port
IsPortBehind text = Then (IsWord text) (λ line. IsPortText)

abbrev pub IsEndBehind : List ℕ → Lang End
IsEndBehind text = Then (IsWord text) (λ line. IsEnd)

abbrev pub IsMovedBy : List ℕ → (Port → Moved) → Lang Moved
IsMovedBy text make = Made (IsPortBehind text) make

abbrev pub IsContracted : Lang Moved
IsContracted = Made (IsEndBehind (codes "contract")) moved.Contract

abbrev pub IsMoved : Lang Moved
IsMoved =
    Either (Means (word (codes "none")) moved.None)
    (Either (IsMovedBy (codes "expand") moved.Expand)
    (Either IsContracted
    (Either (IsMovedBy (codes "push") moved.Push) (IsMovedBy (codes "pull") moved.Pull))))

-- ---- cells with their values

abbrev pub is_spot_word : Lexeme → Bool
is_spot_word = word (codes "spot")

abbrev pub is_body_word : Lexeme → Bool
is_body_word = word (codes "body")

-- a token with which a cell begins
abbrev pub is_cell : Lexeme → Bool
is_cell t = is_spot_word t || is_body_word t

abbrev pub IsCellText : Lang CellName
IsCellText =
    Either (Then (IsWord (codes "spot")) (λ line. Made IsNode (λ v. name.Spot v)))
    (Then (IsWord (codes "body")) (λ line. Made IsNumber (λ id. name.Body id)))

abbrev pub IsOccupant : Lang Cell
IsOccupant =
    Either (Means (word (codes "empty")) (cell.Spot None)) (Made IsNumber (λ id. cell.Spot (Some id)))

-- what a cell holds: an occupant or none, or an amoebot
abbrev pub IsValueOf : ℕ → CellName → Lang Cell
IsValueOf vars (name.Spot v) = IsOccupant
IsValueOf vars (name.Body id) = Made (IsBotText vars) (λ b. cell.Body b)

-- the value before and the word behind it, in texts with old values; nothing in those without
abbrev pub IsOldValue : Bool → Lang Cell → Lang (Option Cell)
IsOldValue false P = IsNothing None
IsOldValue true P = Then P (λ x. Made (IsWord (codes "to")) (λ line. Some x))

-- a cell as it is written: with its value before, if the text has it, and its value after
abbrev pub WrittenChange : Type 0
WrittenChange = CellName × Option Cell × Cell

abbrev pub written_change : CellName → Option Cell → Cell → WrittenChange
written_change c before x = (c, before, x)

-- in texts with old values or in those without
abbrev pub IsPair : Bool → ℕ → Lang WrittenChange
IsPair old vars =
    Then IsCellText (λ c. Then (IsOldValue old (IsValueOf vars c)) (λ before.
    Made (IsValueOf vars c) (λ x. written_change c before x)))

-- ---- entries

abbrev pub is_entry : Lexeme → Bool
is_entry = word (codes "entry")

-- the numbers with which an entry begins
pub record Numbers : Type 0 where
  pub place : ℕ
  pub caller : ℕ
  pub turn : ℕ
  pub bot : ℕ
  pub action : ℕ

abbrev pub numbers_of : ℕ → ℕ → ℕ → ℕ → ℕ → Numbers
numbers_of place caller turn bot action =
    record { place = place; caller = caller; turn = turn; bot = bot; action = action }

abbrev pub AreNumbers : Lang Numbers
AreNumbers =
    Then IsNumber (λ place. Then IsNumber (λ caller. Then IsNumber (λ turn. Then IsNumber (λ bot.
    Made IsNumber (λ action. numbers_of place caller turn bot action)))))

-- an entry as it is written
pub record WrittenEntry : Type 0 where
  pub caller : ℕ
  pub turn : ℕ
  pub bot : ℕ
  pub action : ℕ
  pub moved : Moved
  pub changes : List WrittenChange

-- with the line of its word and its place
pub record Written : Type 0 where
  pub line : ℕ
  pub place : ℕ
  pub entry : WrittenEntry

-- with these numbers, this movement and these cells
abbrev pub entry_with : ℕ → ℕ → ℕ → ℕ → Moved → List WrittenChange → WrittenEntry
entry_with caller turn bot action moved changes =
    record { caller = caller; turn = turn; bot = bot; action = action; moved = moved; changes = changes }

-- the entry with other cells
abbrev pub with_changes : WrittenEntry → List WrittenChange → WrittenEntry
with_changes w changes = record w { changes = changes }

abbrev pub written_entry : ℕ → Numbers → Moved → List WrittenChange → Written
written_entry line n moved changes =
    record {
      line = line;
      place = n.place;
      entry = entry_with n.caller n.turn n.bot n.action moved changes;
    }

-- one entry too many, behind so many
abbrev pub past_entries : ℕ → Lexeme → Option RefusalKind
past_entries before t = past_most most_turns before t

-- the word of an entry behind so many, for its line
abbrev pub IsEntryWord : ℕ → Lang ℕ
IsEntryWord before = Made (IsOne is_entry (past_entries before)) (λ t. t.line)

abbrev pub IsWrittenEntry : Bool → ℕ → ℕ → Lang Written
IsWrittenEntry old vars before =
    Then (IsEntryWord before) (λ line. Then AreNumbers (λ n. Then IsMoved (λ m.
    Made (AtMost most_pairs (IsPair old vars)) (λ changes. written_entry line n m changes))))

-- ---- judgements

-- the amoebots that a cell names: its body, its occupant before and its occupant after
abbrev pub ids_of_name : CellName → List ℕ
ids_of_name (name.Spot v) = []
ids_of_name (name.Body id) = id ∷ []

abbrev pub ids_of_value : Cell → List ℕ
ids_of_value (cell.Spot None) = []
ids_of_value (cell.Spot (Some id)) = id ∷ []
ids_of_value (cell.Body b) = []

abbrev pub ids_of_old : Option Cell → List ℕ
ids_of_old None = []
ids_of_old (Some x) = ids_of_value x

abbrev pub ids_of_change : WrittenChange → List ℕ
ids_of_change t = ids_of_name t.0 ++ (ids_of_old t.1 ++ ids_of_value t.2)

-- all amoebots that an entry names
abbrev pub named_ids : WrittenEntry → List ℕ
named_ids w = w.bot ∷ flat_map ids_of_change w.changes

-- the caller and the turn are ones that there may be,
-- and there are such an action and such amoebots
abbrev pub is_known : ℕ → ℕ → WrittenEntry → Bool
is_known bots actions w =
    nat_le w.caller last_caller && nat_le w.turn last_turn && nat_lt w.action actions
    && list_all (λ id. nat_lt id bots) (named_ids w)

-- what is wrong with an entry behind so many
abbrev pub entry_fault : ℕ → ℕ → ℕ → Written → Option Refusal
entry_fault bots actions before w =
    if w.place == before
    then if is_known bots actions w.entry then None else Some (record { line = w.line; kind = BadEntry })
    else Some (record { line = w.line; kind = BadPlace })

-- ---- the section, of a world of so many amoebots, a program of so many actions,
-- and so many variables

-- An entry as it is written stands for what is made of it.
module _ {E : Type 0} (old : Bool) (make : WrittenEntry → E) (bots actions vars : ℕ) where
  -- an entry, behind so many
  abbrev pub IsEntryBy : ℕ → Lang E
  IsEntryBy before =
      Made (Judged (IsWrittenEntry old vars before) (entry_fault bots actions before)) (λ w. make w.entry)

  abbrev pub AreEntriesBy : ℕ → Lang (List E)
  AreEntriesBy before = Repeated IsEntryBy one_more before

  abbrev pub IsJournalOf : Lang (List E)
  IsJournalOf = Then (IsWord (codes "journal")) (λ line. Closed (AreEntriesBy 0) is_end)

-- ---- with old values

-- the cell with both values; each text with old values has the one before
abbrev pub full_change : WrittenChange → CellChange
full_change t = (t.0, unwrap_or t.1 t.2, t.2)

abbrev pub entry_by : WrittenEntry → Entry
entry_by w =
    entry_of w.caller w.turn w.bot
    (record { action = w.action; moved = w.moved; patch = map full_change w.changes })

-- that of version 3
abbrev pub IsJournal : ℕ → ℕ → ℕ → Lang (List Entry)
IsJournal = IsJournalOf true entry_by

-- ---- without old values

-- an entry as versions 1 and 2 write it: without old values
abbrev pub plain_by : WrittenEntry → PlainEntry
plain_by w = plain_entry (entry_by w)

-- that of versions 1 and 2
abbrev pub IsPlainJournal : ℕ → ℕ → ℕ → Lang (List PlainEntry)
IsPlainJournal = IsJournalOf false plain_by
